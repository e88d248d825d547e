use Rattle.std.proofs.Common.{◌∙◌}
use Rattle.nm_reader.proofs.Made.{texts_made_of}
use Rattle.nm_reader.proofs.assembly.rising_texts.Goals as goal

pub returns : goal.returns
returns c = c.of_list.ensures ∙ texts_made_of _ _ _ c.sort_unstable.ensures.permutation c.sort_unstable.ensures.sorted c.dedup.ensures.filtered
