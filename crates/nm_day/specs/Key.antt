-- The order of steps.
use Rattle.std.specs.Ordering.{nat_cmp, ordering_then}
use Rattle.std.specs.declared.cmp.Ordering.{Ordering}
use Rattle.nm_day.specs.Day.{day_cmp}
use Rattle.nm_day.specs.declared.key.Key.{Key}

-- by day, then by filing, then by stage
abbrev pub key_cmp : Key → Key → Ordering
key_cmp x y = ordering_then (day_cmp x.day y.day) (ordering_then (nat_cmp x.filing y.filing) (nat_cmp x.stage y.stage))
