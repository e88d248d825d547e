use Rattle.nm_rows_values.proofs.Edited.{file_pair}
use Rattle.nm_rows_values.proofs.edits.with_two.Goals as goal

pub filed-requires : goal.filed-requires
filed-requires g c = file_pair c.args.added.now c.requires
