-- The order of the parts of a change.
use Rattle.std.specs.Prelude.{ℕ, Bool, ◌==◌}
use Rattle.std.specs.Ordering.{nat_cmp}
use Rattle.std.specs.declared.cmp.Ordering.{Ordering}
use Rattle.nm_timeline.specs.declared.part.Part.{Part}
use Rattle.nm_timeline.specs.declared.part.Part.TheVariants.{Precondition, Reverse, Forward}

abbrev pub place_of : Part → ℕ
place_of Precondition = 0
place_of Reverse = 1
place_of Forward = 2

abbrev pub part_cmp : Part → Part → Ordering
part_cmp x y = nat_cmp (place_of x) (place_of y)

abbrev pub is_same_part : Part → Part → Bool
is_same_part x y = place_of x == place_of y
