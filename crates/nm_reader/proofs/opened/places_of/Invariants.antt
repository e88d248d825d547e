use Rattle.std.proofs.Common.{◌≡◌, ◌≤◌, List, ℕ, Option, drop, length}
use denote.Ref.{Bor}
use Rattle.nm_reader.specs.Leading.{found_by}
use Rattle.nm_reader.specs.Lent.{prefix_of}
use Rattle.nm_reader.specs.Namespaces.{declared}
use Rattle.nm_reader.proofs.opened.places_of.Given as goal

abbrev pub invariant-loop-place : goal.invariant-loop-place
invariant-loop-place l = record {
  within : l.place ≤ length l.declarations;
  leads : (prefix : Option (Bor (List ℕ))) → found_by l.declarations l.places prefix ≡ declared (drop l.place l.declarations) (prefix_of prefix);
}

abbrev pub decreases-loop-place : goal.decreases-loop-place
decreases-loop-place l = l.place
