use Rattle.std.proofs.Common.{◌≡◌, take, map}
use Rattle.nm_stage.specs.Listed.{holder}
use Rattle.nm_stage.proofs.additions.holders.Given as goal

abbrev pub invariant-loop-id : goal.invariant-loop-id
invariant-loop-id l = l.made.items ≡ map (holder l.filing) (take l.id-index l.ids)
