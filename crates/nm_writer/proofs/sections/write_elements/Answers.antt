use Rattle.std.proofs.Common.{length, ◌++◌, ◌∙◌, ap, subst, arith, sym, refl}
use Rattle.nm_statement.specs.Set.{IsRising}
use Rattle.nm_writer.specs.Canonical.{elements, group_length}
use Rattle.nm_writer.specs.Passing.{LeavesSome}
use Rattle.nm_writer.proofs.Elements.{elements_step}
use Rattle.nm_writer.proofs.Groups.{drop_rises, drop_group-shorter}
use Rattle.nm_writer.proofs.Passing.{block_passed, block_passed_some, on_err}
use Rattle.nm_writer.proofs.sections.write_elements.Goals as goal

pub loop-rest-smaller : goal.loop-rest-smaller
loop-rest-smaller g c =
    omega (arith, ap length c.split_group.ensures.behind, drop_group-shorter c.loop-rest.rest.now c.in-len1-up.len_at_least)

pub loop-rest-preserved : goal.loop-rest-preserved
loop-rest-preserved g c =
    let rest = c.loop-rest.rest.now in
    let written = g.K.Sink.written in
    let all = c.args.block.now.items ++ elements c.args.is_full c.args.prefixes.now c.args.statements.now in
    let before = c.loop-rest.block.items ++ elements c.args.is_full c.args.prefixes.now rest in
    let behind = elements c.args.is_full c.args.prefixes.now c.split_group.result.1.now in
    let step =
    elements_step c.args.is_full c.args.prefixes.now rest c.first-item.result c.split_group.result.0.now c.split_group.result.1.now
    c.loop-rest.block.items c.append_element.new.out.items before
    c.in-len1-up.len_at_least c.first-item.is c.split_group.ensures.group c.split_group.ensures.behind c.loop-rest.invariant.rising c.in_ok-append_element.ensures refl in
    record {
      rising = subst IsRising (sym c.split_group.ensures.behind) (drop_rises (group_length rest) rest c.loop-rest.invariant.rising);
      passed =
          block_passed (written c.args.sink.now) (written c.loop-rest.sink) (written c.pass_if_full.new.sink) all before c.append_element.new.out.items behind c.pass_if_full.new.block.items
          c.loop-rest.invariant.passed step c.in_ok-pass_if_full.ensures.passed;
      unfailed = c.in_ok-pass_if_full.ensures.counted.stays ∙ c.loop-rest.invariant.unfailed;
      beside_stays = c.in_ok-pass_if_full.ensures.beside_stays ∙ c.loop-rest.invariant.beside_stays;
    }

pub returns-in_err-append_element-clause-front : goal.returns-in_err-append_element-clause-front
returns-in_err-append_element-clause-front g c =
    let all = c.args.block.now.items ++ elements c.args.is_full c.args.prefixes.now c.args.statements.now in
    on_err c.from_residual.result (LeavesSome (g.K.Sink.written c.args.sink.now) (g.K.Sink.written c.loop-rest.sink) all)
    (c.loop-rest.block.items ++ elements c.args.is_full c.args.prefixes.now c.loop-rest.rest.now, c.loop-rest.invariant.passed)

pub returns-in_err-pass_if_full-clause-front : goal.returns-in_err-pass_if_full-clause-front
returns-in_err-pass_if_full-clause-front g c =
    let rest = c.loop-rest.rest.now in
    let written = g.K.Sink.written in
    let all = c.args.block.now.items ++ elements c.args.is_full c.args.prefixes.now c.args.statements.now in
    let before = c.loop-rest.block.items ++ elements c.args.is_full c.args.prefixes.now rest in
    let behind = elements c.args.is_full c.args.prefixes.now c.split_group.result.1.now in
    let step =
    elements_step c.args.is_full c.args.prefixes.now rest c.first-item.result c.split_group.result.0.now c.split_group.result.1.now
    c.loop-rest.block.items c.append_element.new.out.items before
    c.in-len1-up.len_at_least c.first-item.is c.split_group.ensures.group c.split_group.ensures.behind c.loop-rest.invariant.rising c.in_ok-append_element.ensures refl in
    on_err c.from_residual-in_err-pass_if_full.result (LeavesSome (written c.args.sink.now) (written c.pass_if_full.new.sink) all)
    (block_passed_some (written c.args.sink.now) (written c.loop-rest.sink) (written c.pass_if_full.new.sink) all before c.append_element.new.out.items behind
    c.loop-rest.invariant.passed step c.in_err-pass_if_full.ensures.front)
