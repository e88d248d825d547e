-- The keys from 10 to 19, as a stretch of the numbers.
use Rattle.std.specs.Prelude.{◌≡◌, ℕ, ◌<◌, ◌≤◌, Bool, true, false, nat_lt, if◌then◌else◌, refl}
use Rattle.std.proofs.Common.{arith, sym}
use Rattle.std.proofs.lemmas.Bool.{lt-ltb, ltb-true}
use Rattle.std.proofs.lemmas.Cmp.{ranked}
use Rattle.std.specs.Ordering.{nat_cmp, ordering_index}
use Rattle.std.specs.declared.cmp.Ordering.{Ordering}
use Rattle.std.specs.declared.cmp.Ordering.TheVariants.{Less, Equal, Greater}
use Rattle.nm_tree.specs.Span.{IsMonotone}

abbrev pub place_of_tens : ℕ → Ordering
place_of_tens key = if nat_lt key 10 then Less else (if nat_lt key 20 then Equal else Greater)

rise_by : (a b c d : Bool) → (c ≡ true → a ≡ true) → (d ≡ true → b ≡ true) → ordering_index (if a then Less else (if b then Equal else Greater)) ≤ ordering_index (if c then Less else (if d then Equal else Greater))
rise_by true b c d f g = zero_least (if c then Less else (if d then Equal else Greater))
  where
    zero_least : (r : Ordering) → 0 ≤ ordering_index r
    zero_least r = omega arith
rise_by false true true d f g = absurd (let e = f refl in cc)
rise_by false true false true f g = omega arith
rise_by false true false false f g = omega arith
rise_by false false true d f g = absurd (let e = f refl in cc)
rise_by false false false true f g = absurd (let e = g refl in cc)
rise_by false false false false f g = omega arith

below_too : (x y m : ℕ) → x < y → nat_lt y m ≡ true → nat_lt x m ≡ true
below_too x y m less e = lt-ltb x m (let low : y < m = ltb-true y m e in omega arith)

pub tens_rise : IsMonotone nat_cmp place_of_tens
tens_rise x y e =
    let less : x < y = ranked x y Less (sym e) in
    rise_by (nat_lt x 10) (nat_lt x 20) (nat_lt y 10) (nat_lt y 20) (below_too x y 10 less) (below_too x y 20 less)
