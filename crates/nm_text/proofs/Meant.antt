-- Bytes in which each `&` begins a reference stand for a text.
use Rattle.std.proofs.Common.{◌≡◌, ℕ, zero, suc, ◌<◌, Bool, true, false, not, ◌&&◌, List, [], ◌∷◌, ◌++◌, length, Option, Some, None, refl, sym, ap, ◌∙◌, append_assoc, append-nil, arith, length-append}
use Rattle.std.specs.Prelude.{is_none, is_some, ◌==◌, if◌then◌else◌}
use Rattle.std.specs.Fmt.{option_append}
use Rattle.std.specs.Option.{option_map}
use Rattle.std.proofs.lemmas.Bool.{eqb-true}
use Rattle.nm_text.specs.Meaning.{attribute_value, meaning_of, prepared, run_text}
use Rattle.nm_text.specs.Reference.{first_stray, has_reference, reference_at}
use Rattle.nm_text.specs.Split.{lacks}
use Rattle.nm_text.specs.declared.meaning.Form.{Form}
use Rattle.nm_text.specs.declared.meaning.Form.TheVariants.{Plain, Run, Value}
use Rattle.nm_text.proofs.Meanings.{meaning_behind_plain, meaning_behind_reference}
use Rattle.nm_text.proofs.References.{reference_at_says}

abbrev pub no_strays : List ℕ → Bool
no_strays bytes = is_none (first_stray bytes)

-- where none is stray, none behind the first byte is, and a `&` there begins a reference
none_behind : (byte : ℕ) (bytes : List ℕ) → no_strays (byte ∷ bytes) ≡ true → no_strays bytes ≡ true
none_behind byte bytes none = by (byte == 38) (has_reference bytes) (first_stray bytes) none
  where
    by : (ampersand found : Bool) (place : Option ℕ) → is_none (if ampersand && not found then Some 0 else option_map suc place) ≡ true → is_none place ≡ true
    by true true None none = refl
    by true true (Some place) none = cc
    by true false place none = cc
    by false found None none = refl
    by false found (Some place) none = cc

reference_here : (bytes : List ℕ) → no_strays (38 ∷ bytes) ≡ true → has_reference bytes ≡ true
reference_here bytes none = by (has_reference bytes) (first_stray bytes) none
  where
    by : (found : Bool) (place : Option ℕ) → is_none (if not found then Some 0 else option_map suc place) ≡ true → found ≡ true
    by true place none = refl
    by false place none = cc

none_after : (front rest : List ℕ) → no_strays (front ++ rest) ≡ true → no_strays rest ≡ true
none_after [] rest none = none
none_after (byte ∷ front) rest none = none_after front rest (none_behind byte (front ++ rest) none)

-- bytes up to a `&`, if one is there
data Cut (bytes : List ℕ) : Type 0 where
  NoAmpersand : lacks 38 bytes ≡ true → Cut bytes
  Ampersand : (plain name : List ℕ) → bytes ≡ plain ++ 38 ∷ name → lacks 38 plain ≡ true → Cut bytes

cut : (bytes : List ℕ) → Cut bytes
cut [] = NoAmpersand refl
cut (byte ∷ bytes) = by (byte == 38) refl (cut bytes)
  where
    by : (ampersand : Bool) → (byte == 38) ≡ ampersand → Cut bytes → Cut (byte ∷ bytes)
    by true is rest = Ampersand [] bytes (ap (λ (first : ℕ). first ∷ bytes) (eqb-true byte 38 is)) refl
    by false is (NoAmpersand none) = NoAmpersand (rw (is, none) refl)
    by false is (Ampersand plain name whole none) = Ampersand (byte ∷ plain) name (ap (λ (rest : List ℕ). byte ∷ rest) whole) (rw (is, none) refl)

appended : (front : List ℕ) (rest : Option (List ℕ)) → is_some rest ≡ true → is_some (option_append (Some front) rest) ≡ true
appended front None some = cc
appended front (Some rest) some = refl

no_bytes_mean : (form : Form) → is_some (meaning_of form []) ≡ true
no_bytes_mean Plain = refl
no_bytes_mean Run = refl
no_bytes_mean Value = refl

some_found : (bytes : List ℕ) → has_reference bytes ≡ true → (found : ℕ × List ℕ) × (reference_at bytes ≡ Some found)
some_found bytes has = by (reference_at bytes) has
  where
    by : (found : Option (ℕ × List ℕ)) → is_some found ≡ true → (one : ℕ × List ℕ) × (found ≡ Some one)
    by None has = cc
    by (Some one) has = (one, refl)

means_within : (count : ℕ) (form : Form) (bytes : List ℕ) → length bytes < count → no_strays bytes ≡ true → is_some (meaning_of form bytes) ≡ true
means_within zero form bytes short none = absurd (omega arith)
means_within (suc count) form bytes short none = by (cut bytes) (λ rest less fine. means_within count form rest less fine)
  where
    by : Cut bytes → ((rest : List ℕ) → length rest < count → no_strays rest ≡ true → is_some (meaning_of form rest) ≡ true) → is_some (meaning_of form bytes) ≡ true
    by (NoAmpersand plain) go =
        ap (λ (text : List ℕ). is_some (meaning_of form text)) (sym (append-nil bytes)) ∙ ap is_some (meaning_behind_plain form bytes [] plain refl) ∙ appended (prepared form bytes) (meaning_of form []) (no_bytes_mean form)
    by (Ampersand plain name whole lacked) go =
        let fine = none_after plain (38 ∷ name) (ap no_strays (sym whole) ∙ none) in
        let found = some_found name (reference_here name fine) in
        let one = reference_at_says name found.0.1 found.0.0 found.1 in
        let behind : no_strays found.0.1 ≡ true = none_after (one.name ++ 59 ∷ []) found.0.1 (ap no_strays (append_assoc one.name (59 ∷ []) found.0.1 ∙ sym one.whole) ∙ none_behind 38 name fine) in
        let less : length found.0.1 < count = omega (arith, ap length whole, length-append plain (38 ∷ name), ap length one.whole, length-append one.name (59 ∷ found.0.1)) in
        let read : meaning_of form (38 ∷ name) ≡ option_append (Some _) (meaning_of form found.0.1) =
        ap (λ (text : List ℕ). meaning_of form (38 ∷ text)) (one.whole ∙ sym (append_assoc one.name (59 ∷ []) found.0.1)) ∙ meaning_behind_reference form one.name found.0.1 found.0.0 one.ends one.is in
        ap (λ (text : List ℕ). is_some (meaning_of form text)) whole ∙ ap is_some (meaning_behind_plain form plain (38 ∷ name) lacked refl)
        ∙ appended (prepared form plain) (meaning_of form (38 ∷ name)) (ap is_some read ∙ appended _ (meaning_of form found.0.1) (go found.0.1 less behind))

pub run_is_meant : (bytes : List ℕ) → no_strays bytes ≡ true → is_some (run_text bytes) ≡ true
run_is_meant bytes none = means_within (suc (length bytes)) Run bytes (omega arith) none

pub value_is_meant : (bytes : List ℕ) → no_strays bytes ≡ true → is_some (attribute_value bytes) ≡ true
value_is_meant bytes none = means_within (suc (length bytes)) Value bytes (omega arith) none
