use Rattle.std.proofs.Common.{◌∙◌}
use Rattle.nm_reader.proofs.Spellings.{once_if_distinct}
use Rattle.nm_reader.proofs.namespaces.are_many_spelt_once.Goals as goal

pub returns : goal.returns
returns c =
    c.are_distinct.ensures
    ∙ once_if_distinct c.args.attributes.now c.in_ok-spellings_of.field-0.items c.in_ok-spellings_of.ensures
