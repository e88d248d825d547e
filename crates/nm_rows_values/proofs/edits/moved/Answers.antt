use Rattle.nm_rows_values.proofs.Edited.{file_one, move_one}
use Rattle.nm_rows_values.proofs.edits.moved.Goals as goal

pub filed-requires : goal.filed-requires
filed-requires g c = file_one c.args.taken.now c.requires.taken

pub edit-requires : goal.edit-requires
edit-requires g c = move_one c.args.base.now c.in_ok-timelines.timelines c.args.taken.now c.args.later.now c.requires.taken c.requires.later c.in_ok-timelines.ensures
