-- What a branch keeps, from its fields.
use Rattle.std.proofs.Common.{ℕ, Option, None, Some}
use Rattle.std.specs.List.Sorted.{IsStrictlySortedBy}
use Rattle.std.specs.declared.alloc.Global.{Global}
use Rattle.std.specs.declared.cmp.Ordering.{Ordering}
use Rattle.std.specs.declared.sync.Arc.{Arc}
use Rattle.nm_tree.specs.Node.{IsBranch, sight_of}
use Rattle.nm_tree.specs.Pairs.{IsRising}
use Rattle.nm_tree.specs.declared.node.Node.{Node}

pub rising-IsBranch : {K V : Type 0} (cmp : K → K → Ordering) (height : ℕ) (node : Option (Arc (Node K V) Global)) → IsBranch cmp height node → IsRising cmp (sight_of height node).pairs
unfolding IsStrictlySortedBy
rising-IsBranch cmp height None kept = tt
rising-IsBranch cmp height (Some node) kept = kept.0.rising
