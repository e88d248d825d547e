use Rattle.std.proofs.Common.{List, ℕ, codes, ◌++◌, subst}
use Rattle.std.proofs.lemmas.Result.{on_err_weaker, on_ok_weaker}
use Rattle.nm_writer.specs.Canonical.{section, sections}
use Rattle.nm_writer.specs.Passing.{Leaves, LeavesSome}
use Rattle.nm_writer.proofs.Documents.{sections_parts}
use Rattle.nm_writer.proofs.Passing.{next_part, next_some, on_err, some_with_more}
use Rattle.nm_writer.proofs.sections.write_sections.Goals as goal

pub returns-clause-passed : goal.returns-clause-passed
returns-clause-passed g c =
    let written = g.K.Sink.written in
    let block = c.args.block.now.items in
    let one = section (codes "dm:preconditions") c.args.prefixes.now c.args.change.now.pre in
    let two = section (codes "dm:forwardDifferences") c.args.prefixes.now c.args.change.now.fwd in
    let three = section (codes "dm:reverseDifferences") c.args.prefixes.now c.args.change.now.rev in
    let whole = sections_parts block one two three in
    let a = written c.args.sink.now in
    let b = written c.write_section.new.sink in
    let d = written c.write_section-2.new.sink in
    let e = written c.write_section-3.new.sink in
    let first = c.in_ok-write_section.ensures.passed in
    let second = next_part a b d (block ++ one) c.write_section.new.block.items two c.write_section-2.new.block.items first c.in_ok-write_section-2.ensures.passed in
    on_ok_weaker c.write_section-3.result
    (λ third. subst (λ (bytes : List ℕ). Leaves a e bytes c.write_section-3.new.block.items) whole
    (next_part a d e ((block ++ one) ++ two) c.write_section-2.new.block.items three c.write_section-3.new.block.items second third))
    c.write_section-3.ensures.passed

pub returns-clause-front : goal.returns-clause-front
returns-clause-front g c =
    let written = g.K.Sink.written in
    let block = c.args.block.now.items in
    let one = section (codes "dm:preconditions") c.args.prefixes.now c.args.change.now.pre in
    let two = section (codes "dm:forwardDifferences") c.args.prefixes.now c.args.change.now.fwd in
    let three = section (codes "dm:reverseDifferences") c.args.prefixes.now c.args.change.now.rev in
    let whole = sections_parts block one two three in
    let a = written c.args.sink.now in
    let b = written c.write_section.new.sink in
    let d = written c.write_section-2.new.sink in
    let e = written c.write_section-3.new.sink in
    let first = c.in_ok-write_section.ensures.passed in
    let second = next_part a b d (block ++ one) c.write_section.new.block.items two c.write_section-2.new.block.items first c.in_ok-write_section-2.ensures.passed in
    on_err_weaker c.write_section-3.result
    (λ third. subst (LeavesSome a e) whole (next_some a d e ((block ++ one) ++ two) c.write_section-2.new.block.items three second third))
    c.write_section-3.ensures.front

pub returns-in_err-write_section-clause-front : goal.returns-in_err-write_section-clause-front
returns-in_err-write_section-clause-front g c =
    let written = g.K.Sink.written in
    let block = c.args.block.now.items in
    let one = section (codes "dm:preconditions") c.args.prefixes.now c.args.change.now.pre in
    let two = section (codes "dm:forwardDifferences") c.args.prefixes.now c.args.change.now.fwd in
    let three = section (codes "dm:reverseDifferences") c.args.prefixes.now c.args.change.now.rev in
    let whole = sections_parts block one two three in
    let a = written c.args.sink.now in
    let b = written c.write_section.new.sink in
    let some = some_with_more a b ((block ++ one) ++ two) three (some_with_more a b (block ++ one) two c.in_err-write_section.ensures.front) in
    on_err c.from_residual.result (LeavesSome a b (block ++ sections c.args.prefixes.now c.args.change.now)) (subst (LeavesSome a b) whole some)

pub returns-in_err-write_section-2-clause-front : goal.returns-in_err-write_section-2-clause-front
returns-in_err-write_section-2-clause-front g c =
    let written = g.K.Sink.written in
    let block = c.args.block.now.items in
    let one = section (codes "dm:preconditions") c.args.prefixes.now c.args.change.now.pre in
    let two = section (codes "dm:forwardDifferences") c.args.prefixes.now c.args.change.now.fwd in
    let three = section (codes "dm:reverseDifferences") c.args.prefixes.now c.args.change.now.rev in
    let whole = sections_parts block one two three in
    let a = written c.args.sink.now in
    let b = written c.write_section.new.sink in
    let d = written c.write_section-2.new.sink in
    let second = next_some a b d (block ++ one) c.write_section.new.block.items two c.in_ok-write_section.ensures.passed c.in_err-write_section-2.ensures.front in
    on_err c.from_residual-in_err-write_section-2.result (LeavesSome a d (block ++ sections c.args.prefixes.now c.args.change.now)) (subst (LeavesSome a d) whole (some_with_more a d ((block ++ one) ++ two) three second))
