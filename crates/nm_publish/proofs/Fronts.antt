-- Fronts of one list.
use Rattle.std.proofs.Common.{◌≡◌, ◌≤◌, List, [], ◌∷◌, ◌++◌, length, refl, ap, sym, ◌∙◌, arith, append_assoc, length-append}
use mathlib.Core.List.{IsPrefix}

-- a list begins itself
pub front_self : {A : Type 0} (xs : List A) → IsPrefix xs xs
front_self [] = ([], refl)
front_self (x ∷ xs) = (let rest = front_self xs in rest.0, ap (λ ys. x ∷ ys) (front_self xs).1)

pub front_of_front : {A : Type 0} (xs ys zs : List A) → IsPrefix xs ys → IsPrefix ys zs → IsPrefix xs zs
front_of_front xs ys zs p q = (p.0 ++ q.0, sym (append_assoc xs p.0 q.0) ∙ (ap (λ w. w ++ q.0) p.1 ∙ q.1))

-- of two fronts of one list the shorter begins the longer
pub shorter_front : {A : Type 0} (xs ys zs : List A) → IsPrefix xs zs → IsPrefix ys zs → length xs ≤ length ys → IsPrefix xs ys
shorter_front [] ys zs p q le = (ys, refl)
shorter_front (x ∷ xs) [] zs p q le = absurd (omega arith)
shorter_front (x ∷ xs) (y ∷ ys) [] p q le = absurd (cc (p.1))
shorter_front (x ∷ xs) (y ∷ ys) (z ∷ zs) p q le =
    let heads : x ≡ y = cc (p.1, q.1) in
    let rest = shorter_front xs ys zs (p.0, cc (p.1)) (q.0, cc (q.1)) (omega arith) in
    (rest.0, cc (heads, rest.1))

-- a front as long as the whole is the whole
pub whole_front : {A : Type 0} (xs ys : List A) → IsPrefix xs ys → length ys ≤ length xs → xs ≡ ys
whole_front [] [] p le = refl
whole_front [] (y ∷ ys) p le = absurd (omega arith)
whole_front (x ∷ xs) [] p le = absurd (cc (p.1))
whole_front (x ∷ xs) (y ∷ ys) p le =
    let rest = whole_front xs ys (p.0, cc (p.1)) (omega arith) in cc (p.1, rest)

pub front_length : {A : Type 0} (xs ys : List A) → IsPrefix xs ys → length xs ≤ length ys
front_length xs ys p = omega (arith, sym (ap length p.1) ∙ length-append xs p.0)
