-- Lemmas on the place of the first byte that passes a test.
use Rattle.std.proofs.Common.{◌≡◌, ℕ, ◌<◌, ◌≤◌, List, Bool, true, false, cond, None, Some, ltb, length, take, get_or, refl, ap, ◌∙◌, arith}
use Rattle.std.specs.List.{position, position_or_len}
use Rattle.std.proofs.lemmas.Bool.{ltb-false, le-ltb, lt-ltb}
use Rattle.std.proofs.lemmas.List.{get_or-take, length-take}
use Rattle.std.proofs.lemmas.List.Sums.{position_or_len_is, fails_before_first}
use Rattle.std.proofs.lemmas.List.Quantifiers.{position-Some}

no_some : {A : Type 0} (b : Bool) (x : A) → cond b (Some x) None ≡ None → b ≡ false
no_some true x e = cc
no_some false x e = refl

-- where none passes, each fails
pub none-each : (p : ℕ → Bool) (xs : List ℕ) → position p xs ≡ None → (k : ℕ) → k < length xs → p (get_or xs k 0) ≡ false
none-each p xs none k h =
    let beyond : length xs ≤ position_or_len p xs = ltb-false _ _ (no_some (ltb (position_or_len p xs) (length xs)) _ none) in
    fails_before_first p xs k 0 (omega arith)

pub each-none : (p : ℕ → Bool) (xs : List ℕ) → ((k : ℕ) → k < length xs → p (get_or xs k 0) ≡ false) → position p xs ≡ None
each-none p xs h =
    let at : position_or_len p xs ≡ length xs = position_or_len_is p xs (length xs) 0 (omega arith) h (λ lt. absurd (omega arith)) in
    ap (λ b. cond b (Some (position_or_len p xs)) None) (le-ltb (position_or_len p xs) (length xs) (omega arith))

-- the first that passes stands at i
pub some-at : (p : ℕ → Bool) (xs : List ℕ) (i : ℕ) → i < length xs → p (get_or xs i 0) ≡ true → ((k : ℕ) → k < i → p (get_or xs k 0) ≡ false) → position p xs ≡ Some i
some-at p xs i within here before =
    let at : position_or_len p xs ≡ i = position_or_len_is p xs i 0 (omega arith) before (λ _. here) in
    ap (λ b. cond b (Some (position_or_len p xs)) None) (lt-ltb (position_or_len p xs) (length xs) (omega arith)) ∙ ap Some at

-- none before the first passes
pub none-before : (p : ℕ → Bool) (xs : List ℕ) (i : ℕ) → position p xs ≡ Some i → position p (take i xs) ≡ None
none-before p xs i e =
    let found = position-Some p xs i 0 e in
    each-none p (take i xs) (λ k h.
    let below : k < i = omega (arith, length-take i xs) in
    ap p (get_or-take i xs k 0 below) ∙ found.2 k below)
