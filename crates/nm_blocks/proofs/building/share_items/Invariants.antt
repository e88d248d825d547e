use Rattle.std.proofs.Common.{◌≡◌, ◌++◌, take}
use Rattle.nm_blocks.proofs.building.share_items.Given as goal

abbrev pub invariant-loop-item : goal.invariant-loop-item
invariant-loop-item g l = l.made.items ≡ l.initial.made.items ++ take l.item-index l.items
