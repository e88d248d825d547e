use Rattle.nm_rows_values.proofs.Edited.{file_one, withdraw_one}
use Rattle.nm_rows_values.proofs.edits.withdrawn.Goals as goal

pub filed-requires : goal.filed-requires
filed-requires g c = file_one c.args.taken.now c.requires

pub edit-requires : goal.edit-requires
edit-requires g c = withdraw_one c.args.base.now c.in_ok-timelines.timelines c.args.taken.now c.requires c.in_ok-timelines.ensures
