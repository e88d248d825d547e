use Rattle.std.proofs.Common.{refl, take}
use Rattle.nm_rows_values.proofs.Edited.{file_pair, withdraw_first}
use Rattle.nm_rows_values.proofs.edits.first_withdrawn.Goals as goal

pub filed-requires : goal.filed-requires
filed-requires g c = file_pair c.args.both.now c.requires

pub edit-requires : goal.edit-requires
edit-requires g c = withdraw_first c.args.base.now c.in_ok-timelines.timelines c.args.both.now (take 1 c.args.both.now) refl c.requires c.in_ok-timelines.ensures
