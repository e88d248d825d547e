use Rattle.std.proofs.Common.{List, ℕ, false, ◌++◌, subst, sym, refl}
use Rattle.nm_writer.specs.Canonical.{closing, elements, section}
use Rattle.nm_writer.specs.Passing.{Leaves, LeavesSome}
use Rattle.nm_writer.proofs.Documents.{section_written}
use Rattle.nm_writer.proofs.Passing.{nothing_given, on_err, some_with_more, with_more}
use Rattle.nm_writer.proofs.sections.write_section.Goals as goal

pub returns-clause-passed : goal.returns-clause-passed
returns-clause-passed g c =
    let old = g.K.Sink.written c.args.sink.now in
    let new = g.K.Sink.written c.write_elements.new.sink in
    let body = c.append_all.new.out.items ++ elements false c.args.prefixes.now c.args.statements.now in
    let whole = section_written c.args.tag.now c.args.prefixes.now c.args.statements.now c.args.block.now.items c.append_all.new.out.items body (body ++ closing c.args.tag.now)
    c.in_ok-append_all.ensures refl refl in
    let left = with_more old new body c.write_elements.new.block.items (closing c.args.tag.now) c.in_ok-write_elements.ensures.passed in
    let all = subst (λ (bytes : List ℕ). Leaves old new bytes (c.write_elements.new.block.items ++ closing c.args.tag.now)) whole left in
    subst (Leaves old new (c.args.block.now.items ++ section c.args.tag.now c.args.prefixes.now c.args.statements.now)) (sym c.in_ok-append_closing.ensures) all

pub returns-in_err-append_all-clause-front : goal.returns-in_err-append_all-clause-front
returns-in_err-append_all-clause-front g c =
    let old = g.K.Sink.written c.args.sink.now in
    let all = c.args.block.now.items ++ section c.args.tag.now c.args.prefixes.now c.args.statements.now in
    on_err c.from_residual.result (LeavesSome old old all) (all, nothing_given old all)

pub returns-in_err-write_elements-clause-front : goal.returns-in_err-write_elements-clause-front
returns-in_err-write_elements-clause-front g c =
    let old = g.K.Sink.written c.args.sink.now in
    let new = g.K.Sink.written c.write_elements.new.sink in
    let body = c.append_all.new.out.items ++ elements false c.args.prefixes.now c.args.statements.now in
    let whole = section_written c.args.tag.now c.args.prefixes.now c.args.statements.now c.args.block.now.items c.append_all.new.out.items body (body ++ closing c.args.tag.now)
    c.in_ok-append_all.ensures refl refl in
    let some = some_with_more old new body (closing c.args.tag.now) c.in_err-write_elements.ensures.front in
    on_err c.from_residual-in_err-write_elements.result (LeavesSome old new (c.args.block.now.items ++ section c.args.tag.now c.args.prefixes.now c.args.statements.now))
    (subst (LeavesSome old new) whole some)

pub returns-in_err-append_closing-clause-front : goal.returns-in_err-append_closing-clause-front
returns-in_err-append_closing-clause-front g c =
    let old = g.K.Sink.written c.args.sink.now in
    let new = g.K.Sink.written c.write_elements.new.sink in
    let body = c.append_all.new.out.items ++ elements false c.args.prefixes.now c.args.statements.now in
    let whole = section_written c.args.tag.now c.args.prefixes.now c.args.statements.now c.args.block.now.items c.append_all.new.out.items body (body ++ closing c.args.tag.now)
    c.in_ok-append_all.ensures refl refl in
    let left = with_more old new body c.write_elements.new.block.items (closing c.args.tag.now) c.in_ok-write_elements.ensures.passed in
    on_err c.from_residual-in_err-append_closing.result (LeavesSome old new (c.args.block.now.items ++ section c.args.tag.now c.args.prefixes.now c.args.statements.now))
    (c.write_elements.new.block.items ++ closing c.args.tag.now, subst (λ (bytes : List ℕ). Leaves old new bytes (c.write_elements.new.block.items ++ closing c.args.tag.now)) whole left)
