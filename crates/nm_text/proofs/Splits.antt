-- Bytes that are cut before the first of some byte.
use Rattle.std.proofs.Common.{◌≡◌, ℕ, ◌+◌, Bool, true, false, not, cond, List, [], ◌∷◌, take, drop, refl, one-add}
use Rattle.std.specs.Prelude.{◌==◌}
use Rattle.std.specs.List.{position_or_len}
use Rattle.std.proofs.lemmas.List.{take-append-drop}
use Rattle.nm_text.specs.Split.{IsSplitBefore, begins_or_ends, lacks}

abbrev place_of : ℕ → List ℕ → ℕ
place_of byte = position_or_len (λ other. other == byte)

front_lacks : (byte : ℕ) (bytes : List ℕ) → lacks byte (take (place_of byte bytes) bytes) ≡ true
front_lacks byte [] = refl
front_lacks byte (first ∷ bytes) = by (first == byte) refl (front_lacks byte bytes)
  where
    by : (same : Bool) → (first == byte) ≡ same → lacks byte (take (place_of byte bytes) bytes) ≡ true → lacks byte (take (cond (not same) (1 + place_of byte bytes) 0) (first ∷ bytes)) ≡ true
    by true same others = refl
    by false same others = rw (one-add, same) others

back_begins : (byte : ℕ) (bytes : List ℕ) → begins_or_ends byte (drop (place_of byte bytes) bytes) ≡ true
back_begins byte [] = refl
back_begins byte (first ∷ bytes) = by (first == byte) refl (back_begins byte bytes)
  where
    by : (same : Bool) → (first == byte) ≡ same → begins_or_ends byte (drop (place_of byte bytes) bytes) ≡ true → begins_or_ends byte (drop (cond (not same) (1 + place_of byte bytes) 0) (first ∷ bytes)) ≡ true
    by true same others = same
    by false same others = rw one-add others

pub split_at_place : (byte : ℕ) (bytes before behind : List ℕ) → before ≡ take (place_of byte bytes) bytes → behind ≡ drop (place_of byte bytes) bytes → IsSplitBefore byte bytes before behind
split_at_place byte bytes before behind front back = rw (front, back) (record {
  joined = take-append-drop (place_of byte bytes) bytes;
  lacked = front_lacks byte bytes;
  begins = back_begins byte bytes;
})
