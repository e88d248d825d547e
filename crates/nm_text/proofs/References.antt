-- References: where their names end, and which bytes these hold.
use Rattle.std.proofs.Common.{◌≡◌, ◌∙◌, ℕ, Bool, true, false, not, List, [], ◌∷◌, ◌++◌, length, Option, None, Some, refl, sym, ap, append-nil, if◌then◌else◌}
use Rattle.std.specs.Prelude.{◌==◌, option_and_then}
use Rattle.std.specs.Option.{option_map}
use Rattle.std.proofs.lemmas.Bool.{and_parts, eqb-true}
use Rattle.nm_text.specs.Reference.{name_at, named, reference_at, referred, with_first}
use Rattle.nm_text.specs.Split.{IsSplitBefore, begins_or_ends, lacks}

-- ---- where a name ends

pub name_before : (name behind : List ℕ) → lacks 59 name ≡ true → name_at (name ++ 59 ∷ behind) ≡ Some (name, behind)
name_before [] behind none = refl
name_before (byte ∷ name) behind none =
    let parts = and_parts (not (byte == 59)) (lacks 59 name) none in
    by (byte == 59) parts.0 (name_before name behind parts.1)
  where
    by : (ends : Bool) → not ends ≡ true → name_at (name ++ 59 ∷ behind) ≡ Some (name, behind)
        → (if ends then Some ([], name ++ 59 ∷ behind) else option_map (with_first byte) (name_at (name ++ 59 ∷ behind))) ≡ Some (byte ∷ name, behind)
    by true other same = cc
    by false other same = ap (option_map (with_first byte)) same

no_name_ends : (name : List ℕ) → lacks 59 name ≡ true → name_at name ≡ None
no_name_ends [] none = refl
no_name_ends (byte ∷ name) none =
    let parts = and_parts (not (byte == 59)) (lacks 59 name) none in
    by (byte == 59) parts.0 (no_name_ends name parts.1)
  where
    by : (ends : Bool) → not ends ≡ true → name_at name ≡ None → (if ends then Some ([], name) else option_map (with_first byte) (name_at name)) ≡ None
    by true other same = cc
    by false other same = ap (option_map (with_first byte)) same

-- no `;` stands in the bytes
pub no_reference : (bytes name end : List ℕ) → IsSplitBefore 59 bytes name end → length end ≡ 0 → reference_at bytes ≡ None
no_reference bytes name [] split none = rw (← split.joined, append-nil, no_name_ends name split.lacked) refl
no_reference bytes name (first ∷ end) split none = cc

-- a `;` ends the name
pub name_is : (bytes name end behind : List ℕ) (first : ℕ) → IsSplitBefore 59 bytes name end → end ≡ first ∷ behind
    → reference_at bytes ≡ option_map (λ (character : ℕ). (character, behind)) (referred name)
name_is bytes name end behind first split is =
    let begins : (first == 59) ≡ true = ap (begins_or_ends 59) (sym is) ∙ split.begins in
    let whole : bytes ≡ name ++ 59 ∷ behind =
    sym split.joined ∙ ap (λ (bytes : List ℕ). name ++ bytes) (is ∙ ap (λ (byte : ℕ). byte ∷ behind) (eqb-true first 59 begins)) in
    rw (whole, name_before name behind split.lacked) refl

-- ---- what a reference that is found says of the bytes

-- the name, a `;`, and what stands behind it
record IsNameAt (bytes : List ℕ) (parts : List ℕ × List ℕ) : Type 0 where
  pub whole : bytes ≡ parts.0 ++ 59 ∷ parts.1
  pub ends : lacks 59 parts.0 ≡ true

name_at_says : (bytes : List ℕ) (parts : List ℕ × List ℕ) → name_at bytes ≡ Some parts → IsNameAt bytes parts
name_at_says [] parts is = cc
name_at_says (byte ∷ bytes) parts is = by (byte == 59) refl (name_at bytes) (λ (others : List ℕ × List ℕ). name_at_says bytes others) is
  where
    by : (ends : Bool) → (byte == 59) ≡ ends → (others : Option (List ℕ × List ℕ)) → ((found : List ℕ × List ℕ) → others ≡ Some found → IsNameAt bytes found)
        → (if ends then Some ([], bytes) else option_map (with_first byte) others) ≡ Some parts → IsNameAt (byte ∷ bytes) parts
    by true ends others says is =
        let both : ◌≡◌ {A = List ℕ × List ℕ} parts ([], bytes) = cc in
        let name : parts.0 ≡ [] = ap (λ (parts : List ℕ × List ℕ). parts.0) both in
        let behind : parts.1 ≡ bytes = ap (λ (parts : List ℕ × List ℕ). parts.1) both in
        rw (name, behind) (record { whole = ap (λ (byte : ℕ). byte ∷ bytes) (eqb-true byte 59 ends); ends = refl })
    by false ends None says is = cc
    by false ends (Some found) says is =
        let both : ◌≡◌ {A = List ℕ × List ℕ} parts (byte ∷ found.0, found.1) = cc in
        let name : parts.0 ≡ byte ∷ found.0 = ap (λ (parts : List ℕ × List ℕ). parts.0) both in
        let behind : parts.1 ≡ found.1 = ap (λ (parts : List ℕ × List ℕ). parts.1) both in
        let one = says found refl in
        rw (name, behind) (record { whole = ap (λ (bytes : List ℕ). byte ∷ bytes) one.whole; ends = rw (ends, one.ends) refl })

-- a reference, its `&` apart
pub record IsReferenceAt (bytes behind : List ℕ) (character : ℕ) : Type 0 where
  pub name : List ℕ
  pub whole : bytes ≡ name ++ 59 ∷ behind
  pub ends : lacks 59 name ≡ true
  pub is : referred name ≡ Some character

pub reference_at_says : (bytes behind : List ℕ) (character : ℕ) → reference_at bytes ≡ Some (character, behind) → IsReferenceAt bytes behind character
reference_at_says bytes behind character is = by (name_at bytes) refl is
  where
    by : (parts : Option (List ℕ × List ℕ)) → name_at bytes ≡ parts → option_and_then named parts ≡ Some (character, behind) → IsReferenceAt bytes behind character
    by None at is = cc
    by (Some parts) at is = of_name (referred parts.0) refl is
      where
        of_name : (found : Option ℕ) → referred parts.0 ≡ found → option_map {U = ℕ × List ℕ} (λ (character : ℕ). (character, parts.1)) found ≡ Some (character, behind) → IsReferenceAt bytes behind character
        of_name None refers is = cc
        of_name (Some found) refers is =
            let one = name_at_says bytes parts at in
            let both : ◌≡◌ {A = ℕ × List ℕ} (found, parts.1) (character, behind) = cc in
            let same : found ≡ character = ap (λ (both : ℕ × List ℕ). both.0) both in
            let rest : parts.1 ≡ behind = ap (λ (both : ℕ × List ℕ). both.1) both in
            record {
              name = parts.0;
              whole = one.whole ∙ ap (λ (rest : List ℕ). parts.0 ++ 59 ∷ rest) rest;
              ends = one.ends;
              is = refers ∙ ap Some same;
            }
