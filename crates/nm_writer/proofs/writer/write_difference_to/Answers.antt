use Rattle.std.proofs.Common.{List, ℕ, codes, ◌++◌, subst, sym, refl}
use Rattle.std.proofs.lemmas.Result.{on_err_weaker, on_ok_weaker}
use Rattle.nm_base.specs.Written.{AppendsFront}
use Rattle.nm_writer.specs.Canonical.{canonical_difference, closing, sections}
use Rattle.nm_writer.specs.Passing.{Leaves}
use Rattle.nm_writer.proofs.Documents.{closing_more, difference_begins, difference_written}
use Rattle.nm_writer.proofs.Passing.{last_given, last_whole, not_all, not_all_with_more, nothing_given, on_err, some_with_more, with_more}
use Rattle.nm_writer.proofs.writer.write_difference_to.Goals as goal

pub returns-in_err-append_front-clause-front : goal.returns-in_err-append_front-clause-front
returns-in_err-append_front-clause-front g c =
    let old = g.K.Sink.written c.args.sink.now in
    let all = canonical_difference c.args.difference.now in
    on_err c.from_residual-in_err-append_front.result (AppendsFront old old all) (not_all old old all all (nothing_given old all) (difference_begins c.args.difference.now))

pub returns-in_err-append_header_start-clause-front : goal.returns-in_err-append_header_start-clause-front
returns-in_err-append_header_start-clause-front g c =
    let old = g.K.Sink.written c.args.sink.now in
    let all = canonical_difference c.args.difference.now in
    on_err c.from_residual-in_err-append_header_start.result (AppendsFront old old all) (not_all old old all all (nothing_given old all) (difference_begins c.args.difference.now))

pub returns-in_err-append_header_lines-clause-front : goal.returns-in_err-append_header_lines-clause-front
returns-in_err-append_header_lines-clause-front g c =
    let old = g.K.Sink.written c.args.sink.now in
    let all = canonical_difference c.args.difference.now in
    on_err c.from_residual-in_err-append_header_lines.result (AppendsFront old old all) (not_all old old all all (nothing_given old all) (difference_begins c.args.difference.now))

pub returns-in_err-write_sections-clause-front : goal.returns-in_err-write_sections-clause-front
returns-in_err-write_sections-clause-front g c =
    let old = g.K.Sink.written c.args.sink.now in
    let new = g.K.Sink.written c.write_sections.new.sink in
    let body = c.append_header_lines.new.out.items ++ sections c.in_ok-prefixes.prefixes c.args.difference.now.change in
    let header_end = closing (codes "dm:DifferenceModel") in
    let end = closing (codes "rdf:RDF") in
    let whole =
    difference_written c.args.difference.now c.in_ok-prefixes.prefixes c.new-block.result.items c.append_front.new.out.items c.append_header_start.new.out.items
    c.append_header_lines.new.out.items body (body ++ header_end) ((body ++ header_end) ++ end) c.in_ok-prefixes.ensures
    c.new-block.ensures.items c.in_ok-append_front.ensures c.in_ok-append_header_start.ensures c.in_ok-append_header_lines.ensures refl refl refl in
    on_err c.from_residual-in_err-write_sections.result (AppendsFront old new (canonical_difference c.args.difference.now))
    (subst (AppendsFront old new) whole (not_all_with_more old new (body ++ header_end) end (some_with_more old new body header_end c.in_err-write_sections.ensures.front) (closing_more (codes "rdf:RDF"))))

pub returns-in_err-append_closing-clause-front : goal.returns-in_err-append_closing-clause-front
returns-in_err-append_closing-clause-front g c =
    let old = g.K.Sink.written c.args.sink.now in
    let new = g.K.Sink.written c.write_sections.new.sink in
    let body = c.append_header_lines.new.out.items ++ sections c.in_ok-prefixes.prefixes c.args.difference.now.change in
    let header_end = closing (codes "dm:DifferenceModel") in
    let end = closing (codes "rdf:RDF") in
    let whole =
    difference_written c.args.difference.now c.in_ok-prefixes.prefixes c.new-block.result.items c.append_front.new.out.items c.append_header_start.new.out.items
    c.append_header_lines.new.out.items body (body ++ header_end) ((body ++ header_end) ++ end) c.in_ok-prefixes.ensures
    c.new-block.ensures.items c.in_ok-append_front.ensures c.in_ok-append_header_start.ensures c.in_ok-append_header_lines.ensures refl refl refl in
    let left = c.write_sections.new.block.items in
    let some = with_more old new body left header_end c.in_ok-write_sections.ensures.passed in
    on_err c.from_residual-in_err-append_closing.result (AppendsFront old new (canonical_difference c.args.difference.now))
    (subst (AppendsFront old new) whole (not_all_with_more old new (body ++ header_end) end (left ++ header_end, some) (closing_more (codes "rdf:RDF"))))

pub returns-in_err-append_closing-2-clause-front : goal.returns-in_err-append_closing-2-clause-front
returns-in_err-append_closing-2-clause-front g c =
    let old = g.K.Sink.written c.args.sink.now in
    let new = g.K.Sink.written c.write_sections.new.sink in
    let body = c.append_header_lines.new.out.items ++ sections c.in_ok-prefixes.prefixes c.args.difference.now.change in
    let header_end = closing (codes "dm:DifferenceModel") in
    let end = closing (codes "rdf:RDF") in
    let whole =
    difference_written c.args.difference.now c.in_ok-prefixes.prefixes c.new-block.result.items c.append_front.new.out.items c.append_header_start.new.out.items
    c.append_header_lines.new.out.items body (body ++ header_end) ((body ++ header_end) ++ end) c.in_ok-prefixes.ensures
    c.new-block.ensures.items c.in_ok-append_front.ensures c.in_ok-append_header_start.ensures c.in_ok-append_header_lines.ensures refl refl refl in
    let left = c.write_sections.new.block.items in
    let some = with_more old new body left header_end c.in_ok-write_sections.ensures.passed in
    on_err c.from_residual-in_err-append_closing-2.result (AppendsFront old new (canonical_difference c.args.difference.now))
    (subst (AppendsFront old new) whole (not_all_with_more old new (body ++ header_end) end (left ++ header_end, some) (closing_more (codes "rdf:RDF"))))

pub returns-clause-whole : goal.returns-clause-whole
returns-clause-whole g c =
    let old = g.K.Sink.written c.args.sink.now in
    let new = g.K.Sink.written c.write_sections.new.sink in
    let body = c.append_header_lines.new.out.items ++ sections c.in_ok-prefixes.prefixes c.args.difference.now.change in
    let header_end = closing (codes "dm:DifferenceModel") in
    let end = closing (codes "rdf:RDF") in
    let whole =
    difference_written c.args.difference.now c.in_ok-prefixes.prefixes c.new-block.result.items c.append_front.new.out.items c.append_header_start.new.out.items
    c.append_header_lines.new.out.items body (body ++ header_end) ((body ++ header_end) ++ end) c.in_ok-prefixes.ensures
    c.new-block.ensures.items c.in_ok-append_front.ensures c.in_ok-append_header_start.ensures c.in_ok-append_header_lines.ensures refl refl refl in
    let left = c.write_sections.new.block.items in
    let some = with_more old new body left header_end c.in_ok-write_sections.ensures.passed in
    let last = g.K.Sink.written c.write_last.new.sink in
    let closed = subst (Leaves old new (body ++ header_end)) (sym c.in_ok-append_closing.ensures) some in
    let all = subst (λ (bytes : List ℕ). Leaves old new bytes (c.append_closing.new.out.items ++ end)) whole (with_more old new (body ++ header_end) c.append_closing.new.out.items end closed) in
    let block = subst (Leaves old new (canonical_difference c.args.difference.now)) (sym c.in_ok-append_closing-2.ensures) all in
    let whole_block = subst (Leaves old new (canonical_difference c.args.difference.now)) (sym c.deref.ensures.value) block in
    on_ok_weaker c.write_last.result (last_whole old new last (canonical_difference c.args.difference.now) c.deref.result.now whole_block) c.write_last.ensures.whole

pub returns-clause-front : goal.returns-clause-front
returns-clause-front g c =
    let old = g.K.Sink.written c.args.sink.now in
    let new = g.K.Sink.written c.write_sections.new.sink in
    let body = c.append_header_lines.new.out.items ++ sections c.in_ok-prefixes.prefixes c.args.difference.now.change in
    let header_end = closing (codes "dm:DifferenceModel") in
    let end = closing (codes "rdf:RDF") in
    let whole =
    difference_written c.args.difference.now c.in_ok-prefixes.prefixes c.new-block.result.items c.append_front.new.out.items c.append_header_start.new.out.items
    c.append_header_lines.new.out.items body (body ++ header_end) ((body ++ header_end) ++ end) c.in_ok-prefixes.ensures
    c.new-block.ensures.items c.in_ok-append_front.ensures c.in_ok-append_header_start.ensures c.in_ok-append_header_lines.ensures refl refl refl in
    let left = c.write_sections.new.block.items in
    let some = with_more old new body left header_end c.in_ok-write_sections.ensures.passed in
    let last = g.K.Sink.written c.write_last.new.sink in
    let closed = subst (Leaves old new (body ++ header_end)) (sym c.in_ok-append_closing.ensures) some in
    let all = subst (λ (bytes : List ℕ). Leaves old new bytes (c.append_closing.new.out.items ++ end)) whole (with_more old new (body ++ header_end) c.append_closing.new.out.items end closed) in
    let block = subst (Leaves old new (canonical_difference c.args.difference.now)) (sym c.in_ok-append_closing-2.ensures) all in
    let whole_block = subst (Leaves old new (canonical_difference c.args.difference.now)) (sym c.deref.ensures.value) block in
    on_err_weaker c.write_last.result (last_given old new last (canonical_difference c.args.difference.now) c.deref.result.now whole_block) c.write_last.ensures.front
