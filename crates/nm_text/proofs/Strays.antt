-- The first `&` that begins no reference, where bytes are read from the front.
use Rattle.std.proofs.Common.{◌≡◌, ◌∙◌, ℕ, suc, ◌+◌, Bool, true, false, not, ◌&&◌, List, [], ◌∷◌, ◌++◌, length, Option, None, Some, refl, sym, ap, arith, append_assoc, length-append, if◌then◌else◌}
use Rattle.std.proofs.lemmas.Bool.{and_parts}
use Rattle.std.specs.Prelude.{◌==◌}
use Rattle.std.specs.Option.{option_map}
use Rattle.nm_text.specs.Reference.{first_stray, has_reference, referred}
use Rattle.nm_text.specs.Split.{lacks}
use Rattle.nm_text.proofs.ReferenceNames.{ampersand_is_foreign, referred_lacks}
use Rattle.nm_text.proofs.References.{name_before}
use Rattle.std.proofs.lemmas.List.Folds.{list_all-append}

-- a place that many bytes later
abbrev pub later : ℕ → Option ℕ → Option ℕ
later count = option_map (λ (place : ℕ). count + place)

later_none : (place : Option ℕ) → later 0 place ≡ place
later_none None = refl
later_none (Some place) = let e : 0 + place ≡ place = omega arith in ap Some e

later_one : (count : ℕ) (place : Option ℕ) → option_map suc (later count place) ≡ later (suc count) place
later_one count None = refl
later_one count (Some place) = let e : suc (count + place) ≡ suc count + place = omega arith in ap Some e

pub later_twice : (first second : ℕ) (place : Option ℕ) → later first (later second place) ≡ later (first + second) place
later_twice first second None = refl
later_twice first second (Some place) = let e : first + (second + place) ≡ first + second + place = omega arith in ap Some e

-- no stray stands in bytes without `&`
pub strays_behind_plain : (plain rest : List ℕ) → lacks 38 plain ≡ true → first_stray (plain ++ rest) ≡ later (length plain) (first_stray rest)
strays_behind_plain [] rest none = sym (later_none (first_stray rest))
strays_behind_plain (byte ∷ plain) rest none =
    let parts = and_parts (not (byte == 38)) (lacks 38 plain) none in
    by (byte == 38) parts.0 (strays_behind_plain plain rest parts.1)
  where
    by : (ampersand : Bool) → not ampersand ≡ true → first_stray (plain ++ rest) ≡ later (length plain) (first_stray rest)
        → (if ampersand && not (has_reference (plain ++ rest)) then Some 0 else option_map suc (first_stray (plain ++ rest))) ≡ later (suc (length plain)) (first_stray rest)
    by true other same = cc
    by false other same = ap (option_map suc) same ∙ later_one (length plain) (first_stray rest)

abbrev pub reference_of : List ℕ → List ℕ
reference_of name = 38 ∷ (name ++ 59 ∷ [])

-- and none in a reference
pub strays_behind_reference : (name rest : List ℕ) (character : ℕ) → lacks 59 name ≡ true → referred name ≡ Some character
    → first_stray (reference_of name ++ rest) ≡ later (length (reference_of name)) (first_stray rest)
strays_behind_reference name rest character ends is =
    let none : lacks 38 (name ++ 59 ∷ []) ≡ true = list_all-append (λ (other : ℕ). not (other == 38)) name (59 ∷ []) ∙ rw (referred_lacks 38 name character ampersand_is_foreign is) refl in
    let found : has_reference ((name ++ 59 ∷ []) ++ rest) ≡ true = rw (append_assoc, name_before name rest ends, is) refl in
    rw (found, strays_behind_plain (name ++ 59 ∷ []) rest none) (later_one (length (name ++ 59 ∷ [])) (first_stray rest))

-- bytes that are read up to a place without a stray
pub record IsReadTo (bytes rest : List ℕ) : Type 0 where
  pub read : List ℕ
  pub joined : read ++ rest ≡ bytes
  pub strays : first_stray bytes ≡ later (length read) (first_stray rest)

pub begins : (bytes : List ℕ) → IsReadTo bytes bytes
begins bytes = record { read = []; joined = refl; strays = sym (later_none (first_stray bytes)) }

pub goes_on : (bytes front rest : List ℕ) → IsReadTo bytes (front ++ rest) → first_stray (front ++ rest) ≡ later (length front) (first_stray rest) → IsReadTo bytes rest
goes_on bytes front rest so_far one = record {
  read = so_far.read ++ front;
  joined = append_assoc so_far.read front rest ∙ so_far.joined;
  strays = so_far.strays ∙ ap (later (length so_far.read)) one ∙ later_twice (length so_far.read) (length front) (first_stray rest) ∙ ap (λ (count : ℕ). later count (first_stray rest)) (sym (length-append so_far.read front));
}
