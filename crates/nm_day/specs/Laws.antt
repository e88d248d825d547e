-- What days and keys keep to.
use Rattle.std.specs.Prelude.{◌≡◌, List, ℕ, true, Ok}
use Rattle.std.specs.Cmp.{IsTotalOrder}
use Rattle.std.specs.Cmp.Lexicographic.{slice_cmp}
use Rattle.std.specs.Ordering.{nat_cmp}
use Rattle.std.specs.declared.cmp.Ordering.TheVariants.{Equal}
use Rattle.nm_day.specs.Day.{is_day, day_of, day_cmp}
use Rattle.nm_day.specs.Key.{key_cmp}
use Rattle.nm_day.specs.declared.key.Key.{Key}

-- the text of a day is read as that day
abbrev pub TextsReadBack : Type 0
TextsReadBack = (day : List ℕ) → is_day day ≡ true → day_of day ≡ Ok day

-- of two days one comes first, or they are level; what comes before comes before all that follows
abbrev pub DayOrderIsTotal : Type 0
DayOrderIsTotal = IsTotalOrder day_cmp

-- only equal days are level
abbrev pub DayOrderTellsApart : Type 0
DayOrderTellsApart = (x y : List ℕ) → is_day x ≡ true → is_day y ≡ true → day_cmp x y ≡ Equal → x ≡ y

-- days stand in the order of their texts
abbrev pub DaysAreInTextOrder : Type 0
DaysAreInTextOrder = (x y : List ℕ) → is_day x ≡ true → is_day y ≡ true → day_cmp x y ≡ slice_cmp nat_cmp x y

abbrev pub KeyOrderIsTotal : Type 0
KeyOrderIsTotal = IsTotalOrder key_cmp

abbrev pub KeyOrderTellsApart : Type 0
KeyOrderTellsApart = (x y : Key) → is_day x.day ≡ true → is_day y.day ≡ true → key_cmp x y ≡ Equal → x ≡ y
