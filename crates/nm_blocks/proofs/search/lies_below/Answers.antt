use Rattle.std.proofs.Common.{◌∙◌, sym}
use Rattle.nm_blocks.proofs.Places.{ends_by_last}
use Rattle.nm_blocks.proofs.search.lies_below.Goals as goal

pub returns-in-Some : goal.returns-in-Some
returns-in-Some g c =
    c.is_under.ensures ∙ sym (ends_by_last g.T.Keyed.key g.met.T.Key.Ord.total c.args.key.now c.args.block.now c.in-Some.last.now (sym c.in-Some.ensures.value))
