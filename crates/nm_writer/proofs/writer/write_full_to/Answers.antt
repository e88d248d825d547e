use Rattle.std.proofs.Common.{List, ℕ, codes, true, ◌++◌, subst, sym, refl}
use Rattle.std.proofs.lemmas.Result.{on_err_weaker, on_ok_weaker}
use Rattle.nm_base.specs.Written.{AppendsFront}
use Rattle.nm_writer.specs.Canonical.{canonical_full, closing, elements}
use Rattle.nm_writer.specs.Passing.{Leaves}
use Rattle.nm_writer.proofs.Documents.{closing_more, full_begins, full_written}
use Rattle.nm_writer.proofs.Passing.{last_given, last_whole, not_all, not_all_with_more, nothing_given, on_err, with_more}
use Rattle.nm_writer.proofs.writer.write_full_to.Goals as goal

pub returns-in_err-append_front-clause-front : goal.returns-in_err-append_front-clause-front
returns-in_err-append_front-clause-front g c =
    let old = g.K.Sink.written c.args.sink.now in
    let all = canonical_full c.args.full.now in
    on_err c.from_residual-in_err-append_front.result (AppendsFront old old all) (not_all old old all all (nothing_given old all) (full_begins c.args.full.now))

pub returns-in_err-append_header_start-clause-front : goal.returns-in_err-append_header_start-clause-front
returns-in_err-append_header_start-clause-front g c =
    let old = g.K.Sink.written c.args.sink.now in
    let all = canonical_full c.args.full.now in
    on_err c.from_residual-in_err-append_header_start.result (AppendsFront old old all) (not_all old old all all (nothing_given old all) (full_begins c.args.full.now))

pub returns-in_err-append_header_lines-clause-front : goal.returns-in_err-append_header_lines-clause-front
returns-in_err-append_header_lines-clause-front g c =
    let old = g.K.Sink.written c.args.sink.now in
    let all = canonical_full c.args.full.now in
    on_err c.from_residual-in_err-append_header_lines.result (AppendsFront old old all) (not_all old old all all (nothing_given old all) (full_begins c.args.full.now))

pub returns-in_err-append_closing-clause-front : goal.returns-in_err-append_closing-clause-front
returns-in_err-append_closing-clause-front g c =
    let old = g.K.Sink.written c.args.sink.now in
    let all = canonical_full c.args.full.now in
    on_err c.from_residual-in_err-append_closing.result (AppendsFront old old all) (not_all old old all all (nothing_given old all) (full_begins c.args.full.now))

pub returns-in_err-write_elements-clause-front : goal.returns-in_err-write_elements-clause-front
returns-in_err-write_elements-clause-front g c =
    let old = g.K.Sink.written c.args.sink.now in
    let new = g.K.Sink.written c.write_elements.new.sink in
    let body = c.append_closing.new.out.items ++ elements true c.in_ok-prefixes.prefixes c.args.full.now.statements in
    let end = closing (codes "rdf:RDF") in
    let whole =
    full_written c.args.full.now c.in_ok-prefixes.prefixes c.new-block.result.items c.append_front.new.out.items c.append_header_start.new.out.items
    c.append_header_lines.new.out.items c.append_closing.new.out.items body (body ++ end) c.in_ok-prefixes.ensures
    c.new-block.ensures.items c.in_ok-append_front.ensures c.in_ok-append_header_start.ensures c.in_ok-append_header_lines.ensures c.in_ok-append_closing.ensures
    refl refl in
    on_err c.from_residual-in_err-write_elements.result (AppendsFront old new (canonical_full c.args.full.now))
    (subst (AppendsFront old new) whole (not_all_with_more old new body end c.in_err-write_elements.ensures.front (closing_more (codes "rdf:RDF"))))

pub returns-in_err-append_closing-2-clause-front : goal.returns-in_err-append_closing-2-clause-front
returns-in_err-append_closing-2-clause-front g c =
    let old = g.K.Sink.written c.args.sink.now in
    let new = g.K.Sink.written c.write_elements.new.sink in
    let body = c.append_closing.new.out.items ++ elements true c.in_ok-prefixes.prefixes c.args.full.now.statements in
    let end = closing (codes "rdf:RDF") in
    let whole =
    full_written c.args.full.now c.in_ok-prefixes.prefixes c.new-block.result.items c.append_front.new.out.items c.append_header_start.new.out.items
    c.append_header_lines.new.out.items c.append_closing.new.out.items body (body ++ end) c.in_ok-prefixes.ensures
    c.new-block.ensures.items c.in_ok-append_front.ensures c.in_ok-append_header_start.ensures c.in_ok-append_header_lines.ensures c.in_ok-append_closing.ensures
    refl refl in
    on_err c.from_residual-in_err-append_closing-2.result (AppendsFront old new (canonical_full c.args.full.now))
    (subst (AppendsFront old new) whole (not_all_with_more old new body end (c.write_elements.new.block.items, c.in_ok-write_elements.ensures.passed) (closing_more (codes "rdf:RDF"))))

pub returns-clause-whole : goal.returns-clause-whole
returns-clause-whole g c =
    let old = g.K.Sink.written c.args.sink.now in
    let new = g.K.Sink.written c.write_elements.new.sink in
    let body = c.append_closing.new.out.items ++ elements true c.in_ok-prefixes.prefixes c.args.full.now.statements in
    let end = closing (codes "rdf:RDF") in
    let whole =
    full_written c.args.full.now c.in_ok-prefixes.prefixes c.new-block.result.items c.append_front.new.out.items c.append_header_start.new.out.items
    c.append_header_lines.new.out.items c.append_closing.new.out.items body (body ++ end) c.in_ok-prefixes.ensures
    c.new-block.ensures.items c.in_ok-append_front.ensures c.in_ok-append_header_start.ensures c.in_ok-append_header_lines.ensures c.in_ok-append_closing.ensures
    refl refl in
    let left = c.write_elements.new.block.items in
    let some = subst (λ (bytes : List ℕ). Leaves old new bytes (left ++ end)) whole (with_more old new body left end c.in_ok-write_elements.ensures.passed) in
    let last = g.K.Sink.written c.write_last.new.sink in
    let block = subst (Leaves old new (canonical_full c.args.full.now)) (sym c.in_ok-append_closing-2.ensures) some in
    let whole_block = subst (Leaves old new (canonical_full c.args.full.now)) (sym c.deref.ensures.value) block in
    on_ok_weaker c.write_last.result (last_whole old new last (canonical_full c.args.full.now) c.deref.result.now whole_block) c.write_last.ensures.whole

pub returns-clause-front : goal.returns-clause-front
returns-clause-front g c =
    let old = g.K.Sink.written c.args.sink.now in
    let new = g.K.Sink.written c.write_elements.new.sink in
    let body = c.append_closing.new.out.items ++ elements true c.in_ok-prefixes.prefixes c.args.full.now.statements in
    let end = closing (codes "rdf:RDF") in
    let whole =
    full_written c.args.full.now c.in_ok-prefixes.prefixes c.new-block.result.items c.append_front.new.out.items c.append_header_start.new.out.items
    c.append_header_lines.new.out.items c.append_closing.new.out.items body (body ++ end) c.in_ok-prefixes.ensures
    c.new-block.ensures.items c.in_ok-append_front.ensures c.in_ok-append_header_start.ensures c.in_ok-append_header_lines.ensures c.in_ok-append_closing.ensures
    refl refl in
    let left = c.write_elements.new.block.items in
    let some = subst (λ (bytes : List ℕ). Leaves old new bytes (left ++ end)) whole (with_more old new body left end c.in_ok-write_elements.ensures.passed) in
    let last = g.K.Sink.written c.write_last.new.sink in
    let block = subst (Leaves old new (canonical_full c.args.full.now)) (sym c.in_ok-append_closing-2.ensures) some in
    let whole_block = subst (Leaves old new (canonical_full c.args.full.now)) (sym c.deref.ensures.value) block in
    on_err_weaker c.write_last.result (last_given old new last (canonical_full c.args.full.now) c.deref.result.now whole_block) c.write_last.ensures.front
