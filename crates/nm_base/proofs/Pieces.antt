-- Lemmas on bytes that are taken, or appended, a piece at a time.
use Rattle.std.proofs.Common.{◌≡◌, ℕ, ◌+◌, ◌-◌, ◌≤◌, List, Option, ◌++◌, length, take, drop, sym, ap, subst, ◌∙◌, arith}
use Rattle.std.proofs.lemmas.List.{take-append-drop, take_at, take_rest, drop-drop, length-take-le, length-drop}
use Rattle.std.proofs.Math.Seq.{take-add}
use Rattle.std.proofs.KnownBytes.{Appends-trans}
use Rattle.std.specs.Io.KnownBytes.{Appends}

-- what is left of xs from `at` on is the n bytes that were put at the front of a buffer, and then the rest
pub front_and_rest : (xs read part over : List ℕ) (at n : ℕ) → at ≤ length xs → n ≤ length xs - at → read ≡ xs → part ≡ take (at + n - at) (drop at read)
    → drop at xs ≡ take n (part ++ over) ++ drop (at + n) xs
front_and_rest xs read part over at n within fits is copied =
    let count : at + n - at ≡ n = omega arith in
    let same : part ≡ take n (drop at xs) = copied ∙ ap (λ k. take k (drop at read)) count ∙ ap (λ l. take n (drop at l)) is in
    let room : n ≤ length (drop at xs) = omega (arith, length-drop at xs) in
    let size : length part ≡ n = ap length same ∙ length-take-le n (drop at xs) room in
    sym (ap (λ l. l ++ drop (at + n) xs) (take_at part over n size ∙ same)
    ∙ ap (λ l. take n (drop at xs) ++ l) (sym (drop-drop n at xs))
    ∙ take-append-drop n (drop at xs))

-- the first `at` bytes were appended, and then n more of those from `at` on
pub Appends-more : (old mid new : Option (List ℕ)) (xs : List ℕ) (at n : ℕ) → Appends old mid (take at xs) → Appends mid new (take n (take (length xs - at) (drop at xs)))
    → Appends old new (take (at + n) xs)
Appends-more old mid new xs at n first more =
    let rest = ap (take n) (take_rest xs at) in
    subst (Appends old new) (sym (take-add at n xs)) (Appends-trans old mid new _ _ first (subst (Appends mid new) rest more))
