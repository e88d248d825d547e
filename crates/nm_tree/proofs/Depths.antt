-- The depth that bounds the steps is the greatest number that the square allows.
use Rattle.std.proofs.Common.{◌≡◌, ℕ, zero, suc, ◌+◌, ◌*◌, ◌^◌, ◌<◌, ◌≤◌, ◌⊎◌, Bool, true, false, cond, refl, inl, inr, arith}
use Rattle.std.proofs.Math.Nat.{two-pow-succ}
use Rattle.std.proofs.Math.Dec.{leb}
use Rattle.std.proofs.lemmas.Bool.{cases_lt, leb-true, leb-false}
use Rattle.nm_tree.specs.Depth.{depth_of, greatest_power, IsDepth}

below_power : (h : ℕ) → h < 2 ^ h
below_power zero = omega arith
below_power (suc h) = omega (arith, below_power h, two-pow-succ h)

greatest_by : (h limit : ℕ) (b : Bool) (others : ℕ) → h ≤ suc limit → (b ≡ false → h ≤ others) → h ≤ cond b (suc limit) others
greatest_by h limit true others low f = low
greatest_by h limit false others low f = f refl

pub greatest_power-greatest : (bound limit h : ℕ) → h ≤ limit → 2 ^ h ≤ bound → h ≤ greatest_power bound limit
greatest_power-greatest bound zero h low fits = low
greatest_power-greatest bound (suc limit) h low fits =
    greatest_by h limit (leb (2 ^ suc limit) bound) (greatest_power bound limit) low (λ e. greatest_power-greatest bound limit h (next e (cases_lt h (suc limit))) fits)
  where
    next : leb (2 ^ suc limit) bound ≡ false → (h < suc limit) ⊎ (suc limit ≤ h) → h ≤ limit
    next e (inl less) = omega arith
    next e (inr more) = let same : h ≡ suc limit = omega arith in absurd (let over : bound < 2 ^ h = rw same (leb-false (2 ^ suc limit) bound e) in omega arith)

fits_by : (bound limit : ℕ) (b : Bool) (others : ℕ) → leb (2 ^ suc limit) bound ≡ b → 2 ^ others ≤ bound → 2 ^ cond b (suc limit) others ≤ bound
fits_by bound limit true others e fits = leb-true (2 ^ suc limit) bound e
fits_by bound limit false others e fits = fits

greatest_power-fits : (bound limit : ℕ) → 1 ≤ bound → 2 ^ greatest_power bound limit ≤ bound
greatest_power-fits bound zero some = some
greatest_power-fits bound (suc limit) some = fits_by bound limit (leb (2 ^ suc limit) bound) (greatest_power bound limit) refl (greatest_power-fits bound limit some)

pub height-le-depth_of : (n h : ℕ) → 2 ^ h ≤ (n + 1) * (n + 1) → h ≤ depth_of n
unfolding depth_of
height-le-depth_of n h fits = greatest_power-greatest ((n + 1) * (n + 1)) ((n + 1) * (n + 1)) h (let below = below_power h in omega arith) fits

pub depth_of-is : (n : ℕ) → IsDepth n (depth_of n)
unfolding depth_of
depth_of-is n = record {
  fits = greatest_power-fits ((n + 1) * (n + 1)) ((n + 1) * (n + 1)) (omega arith);
  greatest = λ h fits. greatest_power-greatest ((n + 1) * (n + 1)) ((n + 1) * (n + 1)) h (let below = below_power h in omega arith) fits;
}
