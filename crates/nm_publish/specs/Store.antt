-- What holds of each version of a store: it belongs to the opening.
use Rattle.std.specs.Prelude.{◌≡◌, Bool, true, false, nat_lt}
use mathlib.Core.List.{IsPrefix}
use Rattle.nm_version.specs.After.{IsReached}
use Rattle.nm_version.specs.Kept.{Kept, number_of}

-- accepted commands have led from the base of the opening, with its bytes, to what is kept: those of the
-- opening's log, and those behind it
pub record BelongsTo (opening kept : Kept) : Type 0 where
  pub reached : IsReached kept
  pub base : kept.base ≡ opening.base
  pub bytes : kept.bytes ≡ opening.bytes
  pub begins : IsPrefix opening.log kept.log

-- the other one where the test holds
abbrev pub choose : {A : Type 0} → Bool → A → A → A
choose true one other = other
choose false one other = one

-- of two versions the one with the longer log
abbrev pub longer_of : Kept → Kept → Kept
longer_of kept other = choose (nat_lt (number_of kept) (number_of other)) kept other
