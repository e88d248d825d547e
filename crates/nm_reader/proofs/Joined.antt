-- Texts that are joined stay texts, and what the end of an element leaves.
use Rattle.std.proofs.Common.{◌≡◌, ℕ, List, ◌++◌, length, Bool, true, false, ◌&&◌, not, nat_le, refl, ap, ◌∙◌, arith}
use Rattle.std.proofs.lemmas.List.Folds.{list_all-append}
use Rattle.std.proofs.lemmas.Str.{IsUtf8-append, IsUtf8-from_is_utf8, chars-append, is_utf8-from_IsUtf8}
use Rattle.std.specs.List.{list_all}
use Rattle.std.specs.Str.{chars, is_utf8}
use Rattle.nm_statement.specs.Literal.{is_literal}
use Rattle.nm_statement.specs.Limits.{longest_literal}
use Rattle.nm_text.specs.Characters.{is_character, is_text}
use Rattle.nm_reader.specs.Rules.{passes_literal}
use Rattle.nm_reader.specs.Taken.{is_sound_place}
use Rattle.nm_reader.specs.Texts.{with_text}
use Rattle.nm_reader.specs.declared.place.Place.{Place}
use Rattle.nm_reader.specs.declared.place.Place.TheVariants.{BeforeRoot, InRoot, InHeader, InBody, InRest, InSection, InObject, InLiteral, InLink, InSkipped, AfterRoot}
use Rattle.nm_reader.proofs.Spellings.{and_left, and_right}

both : (a b : Bool) → a ≡ true → b ≡ true → (a && b) ≡ true
both a b first second = rw (first, second) refl

pub is_text-append : (x y : List ℕ) → is_text x ≡ true → is_text y ≡ true → is_text (x ++ y) ≡ true
is_text-append x y first second =
    let first_bytes : is_utf8 x ≡ true = and_left (is_utf8 x) (list_all is_character (chars x)) first in
    let second_bytes : is_utf8 y ≡ true = and_left (is_utf8 y) (list_all is_character (chars y)) second in
    let first_chars : list_all is_character (chars x) ≡ true = and_right (is_utf8 x) (list_all is_character (chars x)) first in
    let second_chars : list_all is_character (chars y) ≡ true = and_right (is_utf8 y) (list_all is_character (chars y)) second in
    let utf8 = IsUtf8-from_is_utf8 x first_bytes in
    both (is_utf8 (x ++ y)) (list_all is_character (chars (x ++ y)))
    (is_utf8-from_IsUtf8 (x ++ y) (IsUtf8-append x y utf8 (IsUtf8-from_is_utf8 y second_bytes)))
    (ap (λ c. list_all is_character c) (chars-append x y utf8) ∙ list_all-append is_character (chars x) (chars y) ∙ both (list_all is_character (chars x)) (list_all is_character (chars y)) first_chars second_chars)

within : (b : Bool) → not b ≡ false → b ≡ true
within true holds = refl
within false holds = absurd (grind arith)

literal_joined : (before text : List ℕ) → is_literal before ≡ true → is_text text ≡ true → not (nat_le (length (before ++ text)) longest_literal) ≡ false → is_literal (before ++ text) ≡ true
literal_joined before text literal is short = both (is_text (before ++ text)) (nat_le (length (before ++ text)) longest_literal) (is_text-append before text (and_left (is_text before) (nat_le (length before) longest_literal) literal) is) (within (nat_le (length (before ++ text)) longest_literal) short)

-- a literal that does not get too long stays one that can be kept
pub sound_with_text : (place : Place) (text : List ℕ) → is_sound_place place ≡ true → is_text text ≡ true → passes_literal place text ≡ false → is_sound_place (with_text place text) ≡ true
sound_with_text (InLiteral owner before) text sound is short = literal_joined before text sound is short
sound_with_text BeforeRoot text sound is short = refl
sound_with_text InRoot text sound is short = refl
sound_with_text (InHeader kind) text sound is short = refl
sound_with_text InBody text sound is short = refl
sound_with_text InRest text sound is short = refl
sound_with_text (InSection part) text sound is short = refl
sound_with_text (InObject part subject) text sound is short = refl
sound_with_text InLink text sound is short = refl
sound_with_text InSkipped text sound is short = refl
sound_with_text AfterRoot text sound is short = refl
