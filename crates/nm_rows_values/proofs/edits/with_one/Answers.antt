use Rattle.nm_rows_values.proofs.Edited.{file_one}
use Rattle.nm_rows_values.proofs.edits.with_one.Goals as goal

pub filed-requires : goal.filed-requires
filed-requires g c = file_one c.args.added.now c.requires
