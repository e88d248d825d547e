-- Bytes that are passed one by one, to the end of a head.
use Rattle.std.proofs.Common.{◌≡◌, ◌∙◌, ◌+◌, ◌-◌, ℕ, true, false, List, [], ◌∷◌, drop, take, Option, None, Some, refl, ap, arith, length}
use Rattle.std.specs.Prelude.{nat_eq}
use Rattle.std.specs.List.{starts_with}
use Rattle.std.specs.Option.{option_map}
use Rattle.std.proofs.lemmas.List.{drop-drop, length-drop, take_all}
use Rattle.nm_http.specs.Framing.{head_end, head_length, line_end_in_front, line_ends}

-- the bytes from a place on, as code cuts them
pub rest_at : (bytes : List ℕ) (place : ℕ) → take (length bytes - place) (drop place bytes) ≡ drop place bytes
rest_at bytes place = take_all (length bytes - place) (drop place bytes) (omega (arith, length-drop place bytes))

-- ---- the end of the head

ends_here : (rest : List ℕ) → starts_with nat_eq rest head_end ≡ true → head_length rest ≡ Some 4
ends_here [] is = cc
ends_here (byte ∷ rest) is = rw is refl

ends_later : (rest : List ℕ) → starts_with nat_eq rest head_end ≡ false → head_length rest ≡ option_map (λ count. count + 1) (head_length (drop 1 rest))
ends_later [] is = refl
ends_later (byte ∷ rest) is = rw is refl

further : (place : ℕ) (found : Option ℕ) → option_map (λ count. count + place) (option_map (λ count. count + 1) found) ≡ option_map (λ count. count + (place + 1)) found
further place None = refl
further place (Some count) = ap Some (omega arith)

-- the length of the head, by what is left at a place
abbrev pub IsSought : List ℕ → ℕ → Type 0
IsSought bytes place = head_length bytes ≡ option_map (λ count. count + place) (head_length (drop place bytes))

unmoved : (found : Option ℕ) → found ≡ option_map (λ count. count + 0) found
unmoved None = refl
unmoved (Some count) = ap Some (omega arith)

pub sought_first : (bytes : List ℕ) → IsSought bytes 0
sought_first bytes = unmoved (head_length bytes)

pub sought_here : (bytes : List ℕ) (place : ℕ) → IsSought bytes place → starts_with nat_eq (drop place bytes) head_end ≡ true → head_length bytes ≡ Some (place + 4)
sought_here bytes place so is = so ∙ ap (option_map (λ count. count + place)) (ends_here (drop place bytes) is) ∙ ap Some (omega arith)

pub sought_later : (bytes : List ℕ) (place : ℕ) → IsSought bytes place → starts_with nat_eq (drop place bytes) head_end ≡ false → IsSought bytes (place + 1)
sought_later bytes place so is =
    so ∙ ap (option_map (λ count. count + place)) (ends_later (drop place bytes) is)
    ∙ further place (head_length (drop 1 (drop place bytes)))
    ∙ ap (λ rest. option_map (λ count. count + (place + 1)) (head_length rest)) (drop-drop 1 place bytes)

-- ---- ends of lines

one_byte : (rest : List ℕ) → line_ends rest ≡ line_end_in_front rest + line_ends (drop 1 rest)
one_byte [] = refl
one_byte (byte ∷ rest) = refl

pub counted_on : (bytes : List ℕ) (place count : ℕ) → line_ends bytes ≡ count + line_ends (drop place bytes)
    → line_ends bytes ≡ (count + line_end_in_front (drop place bytes)) + line_ends (drop (place + 1) bytes)
counted_on bytes place count so =
    let here = one_byte (drop place bytes) in
    let there = ap line_ends (drop-drop 1 place bytes) in
    omega (arith, so, here, there)
