use Rattle.std.proofs.Common.{◌∙◌}
use Rattle.nm_model.proofs.Ids.{made_of}
use Rattle.nm_reader.proofs.assembly.rising_ids.Goals as goal

pub returns : goal.returns
returns c = c.of_list.ensures ∙ made_of _ _ _ c.sort_unstable.ensures.permutation c.sort_unstable.ensures.sorted c.dedup.ensures.filtered
