use Rattle.std.proofs.Common.{[]}
use Rattle.nm_rows_values.proofs.Edited.{those_after, those_of_base}
use Rattle.nm_rows_values.proofs.edits.filed.Goals as goal

pub edit-requires : goal.edit-requires
edit-requires g c = record {
  base = c.args.base.now;
  steps = [];
  those = those_of_base c.args.base.now c.in_ok-timelines.timelines c.as_slice-statements.ensures.rising c.in_ok-timelines.ensures.timelines;
  can = c.requires;
}

pub returns : goal.returns
returns g c =
    let those = those_of_base c.args.base.now c.in_ok-timelines.timelines c.as_slice-statements.ensures.rising c.in_ok-timelines.ensures.timelines in
    those_after c.edit.result c.args.base.now [] c.args.added.now [] c.in_ok-timelines.timelines those c.requires (c.edit.ensures.due c.args.base.now [] those c.requires)
