-- The IRI of a class: a namespace and a local name, which are together no UUID's URN.
use Rattle.std.proofs.Common.{◌≡◌, ◌≤◌, ◌<◌, ℕ, zero, suc, ◌+◌, ◌-◌, List, [], ◌∷◌, ◌++◌, length, get_or, drop, Bool, true, false, ◌&&◌, ◌||◌, not, ◌==◌, nat_eq, nat_lt, nat_le, slice_index, if◌then◌else◌, Option, None, Some, ⊎_elim, refl, sym, ap, ◌∙◌, arith, length-append, length-drop, get_or-drop}
use Rattle.std.proofs.Math.Bool.{or-true}
use Rattle.std.proofs.lemmas.Bool.{cases_lt}
use Rattle.std.proofs.lemmas.Bool.Decides.{nat_tests}
use Rattle.std.proofs.lemmas.List.{get_or_append_left}
use Rattle.std.proofs.lemmas.List.Folds.{list_all-append}
use Rattle.std.specs.Int.{w128, from_be_bytes}
use Rattle.std.specs.List.{list_all, starts_with}
use Rattle.std.specs.Option.{option_map}
use Rattle.nm_ident.proofs.Idents.{list_all-weaker, name_bytes}
use Rattle.nm_ident.specs.Ident.{ident_behind_hash, ident_of_about, is_iri, urn_prefix}
use Rattle.nm_ident.specs.Name.{continues_name, ends_namespace, is_name, is_namespace}
use Rattle.nm_ident.specs.QualifiedName.{QualifiedName}
use Rattle.nm_ident.specs.UuidText.{uuid_of}
use Rattle.nm_ident.specs.declared.ident.Ident.TheVariants.{Uuid}
use Rattle.nm_statement.specs.Limits.{longest_iri}
use Rattle.nm_statement.specs.Sound.{is_sound_iri}
use Rattle.nm_terms.specs.Bytes.{is_between, is_visible}
use Rattle.nm_text.proofs.Utf8Texts.{texts_by_bytes}
use Rattle.nm_text.specs.Characters.{is_text}
use Rattle.nm_text.specs.Utf8.{place_after}
use Rattle.nm_text.specs.declared.character.Place.TheVariants.{Between}
use Rattle.uuid.proofs.TextLemmas.{by_index_at, by_index_length}
use Rattle.uuid.specs.Text.{by_index, byte_of_digits, digit_place, digits_of, has_hyphens, hyphen_place, is_hex_digit, is_hyphen_place}

-- ---- the bytes of a UUID's text

-- a place that has no hyphen is that of a digit
digit_at : (k : ℕ) → k < 36 → is_hyphen_place k ≡ false → (hyphen_place (digit_place k) ≡ k) × (digit_place k < 32)
digit_at k within plain = by (nat_lt k 8) (nat_lt k 13) (nat_lt k 18) (nat_lt k 23) refl refl refl refl
  where
    by : (a b c d : Bool) → nat_lt k 8 ≡ a → nat_lt k 13 ≡ b → nat_lt k 18 ≡ c → nat_lt k 23 ≡ d
        → (hyphen_place (if a then k else if b then k - 1 else if c then k - 2 else if d then k - 3 else k - 4) ≡ k)
        × ((if a then k else if b then k - 1 else if c then k - 2 else if d then k - 3 else k - 4) < 32)
    by true b c d first second third fourth = (rw first refl, grind (arith, nat_tests))
    by false true c d first second third fourth =
        let low : nat_lt (k - 1) 8 ≡ false = grind (arith, nat_tests) in
        let high : nat_lt (k - 1) 12 ≡ true = grind (arith, nat_tests) in
        let back : k - 1 + 1 ≡ k = grind (arith, nat_tests) in
        (rw (low, high) back, grind (arith, nat_tests))
    by false false true d first second third fourth =
        let low : nat_lt (k - 2) 8 ≡ false = grind (arith, nat_tests) in
        let next : nat_lt (k - 2) 12 ≡ false = grind (arith, nat_tests) in
        let high : nat_lt (k - 2) 16 ≡ true = grind (arith, nat_tests) in
        let back : k - 2 + 2 ≡ k = grind (arith, nat_tests) in
        (rw (low, next, high) back, grind (arith, nat_tests))
    by false false false true first second third fourth =
        let low : nat_lt (k - 3) 8 ≡ false = grind (arith, nat_tests) in
        let next : nat_lt (k - 3) 12 ≡ false = grind (arith, nat_tests) in
        let last : nat_lt (k - 3) 16 ≡ false = grind (arith, nat_tests) in
        let high : nat_lt (k - 3) 20 ≡ true = grind (arith, nat_tests) in
        let back : k - 3 + 3 ≡ k = grind (arith, nat_tests) in
        (rw (low, next, last, high) back, grind (arith, nat_tests))
    by false false false false first second third fourth =
        let low : nat_lt (k - 4) 8 ≡ false = grind (arith, nat_tests) in
        let next : nat_lt (k - 4) 12 ≡ false = grind (arith, nat_tests) in
        let last : nat_lt (k - 4) 16 ≡ false = grind (arith, nat_tests) in
        let high : nat_lt (k - 4) 20 ≡ false = grind (arith, nat_tests) in
        let back : k - 4 + 4 ≡ k = grind (arith, nat_tests) in
        (rw (low, next, last, high) back, grind (arith, nat_tests))

test_at : (test : ℕ → Bool) (xs : List ℕ) (k : ℕ) → list_all test xs ≡ true → k < length xs → test (get_or xs k 0) ≡ true
test_at test [] k all within = absurd (omega arith)
test_at test (x ∷ xs) zero all within = grind arith
test_at test (x ∷ xs) (suc k) all within = test_at test xs k (grind arith) (omega arith)

-- `#` and `/`
ends_no_uuid : (byte : ℕ) → ends_namespace byte ≡ true → is_hex_digit byte ≡ false
ends_no_uuid byte ends = grind (arith, nat_tests)

hyphens_at : (text : List ℕ) (k : ℕ) → has_hyphens text ≡ true → is_hyphen_place k ≡ true → slice_index text k ≡ 45
hyphens_at text k hyphens place = by (k == 8) (k == 13) (k == 18) (k == 23) refl refl refl refl place hyphens
  where
    by : (a b c d : Bool) → (k == 8) ≡ a → (k == 13) ≡ b → (k == 18) ≡ c → (k == 23) ≡ d → (a || b || c || d) ≡ true
        → ((slice_index text 8 == 45) && (slice_index text 13 == 45) && (slice_index text 18 == 45) && (slice_index text 23 == 45)) ≡ true → slice_index text k ≡ 45
    by true b c d first second third fourth one all =
        let same : k ≡ 8 = grind (arith, nat_tests) in
        let there : slice_index text 8 ≡ 45 = grind (arith, nat_tests) in rw same there
    by false true c d first second third fourth one all =
        let same : k ≡ 13 = grind (arith, nat_tests) in
        let there : slice_index text 13 ≡ 45 = grind (arith, nat_tests) in rw same there
    by false false true d first second third fourth one all =
        let same : k ≡ 18 = grind (arith, nat_tests) in
        let there : slice_index text 18 ≡ 45 = grind (arith, nat_tests) in rw same there
    by false false false true first second third fourth one all =
        let same : k ≡ 23 = grind (arith, nat_tests) in
        let there : slice_index text 23 ≡ 45 = grind (arith, nat_tests) in rw same there
    by false false false false first second third fourth one all = absurd (grind arith)

-- the tests through which a number is read of a text
tests_of : (value : List ℕ → ℕ) (first long hyphens many hex : Bool) (bytes : List ℕ) (id : ℕ)
    → (if first then option_map value (if long && hyphens then (if many && hex then Some bytes else None) else None) else None) ≡ Some id
    → (first ≡ true) × (hyphens ≡ true) × (hex ≡ true)
tests_of value true true true true true bytes id read = (refl, refl, refl)
tests_of value true true true true false bytes id read = absurd (let differ = read in cc)
tests_of value true true true false hex bytes id read = absurd (let differ = read in cc)
tests_of value true true false many hex bytes id read = absurd (let differ = read in cc)
tests_of value true false hyphens many hex bytes id read = absurd (let differ = read in cc)
tests_of value false long hyphens many hex bytes id read = absurd (let differ = read in cc)

-- no byte of a UUID's text ends a namespace
no_end_in_uuid : (text : List ℕ) (id k : ℕ) → uuid_of text ≡ Some id → k < length text → ends_namespace (slice_index text k) ≡ true → ⊥
unfolding uuid_of
no_end_in_uuid text id k read within ends =
    let digits : List ℕ = digits_of text in
    let tests = tests_of (from_be_bytes w128) (length text == 36) (length text == 36) (has_hyphens text) (length digits == 32) (list_all is_hex_digit digits) (by_index 16 (byte_of_digits digits)) id read in
    let size : length text ≡ 36 = grind (arith, nat_tests, tests.0) in
    by (is_hyphen_place k) refl (omega arith) tests.1 tests.2
  where
    by : (hyphen : Bool) → is_hyphen_place k ≡ hyphen → k < 36 → has_hyphens text ≡ true → list_all is_hex_digit (digits_of text) ≡ true → ⊥
    by true place below hyphens hex =
        let there : slice_index text k ≡ 45 = hyphens_at text k hyphens place in
        let wrong : ends_namespace 45 ≡ true = ap ends_namespace (sym there) ∙ ends in
        absurd (let differ : false ≡ true = wrong in cc)
    by false place below hyphens hex =
        let at = digit_at k below place in
        let there : get_or (digits_of text) (digit_place k) 0 ≡ slice_index text k = by_index_at 32 (λ i. slice_index text (hyphen_place i)) (digit_place k) 0 at.1 ∙ ap (slice_index text) at.0 in
        let inside : digit_place k < length (digits_of text) = omega (arith, at.1, by_index_length 32 (λ i. slice_index text (hyphen_place i))) in
        let is : is_hex_digit (slice_index text k) ≡ true = ap is_hex_digit (sym there) ∙ test_at is_hex_digit (digits_of text) (digit_place k) hex inside in
        let differ : true ≡ false = sym is ∙ ends_no_uuid (slice_index text k) ends in
        absurd (cc)

-- ---- texts of ASCII

abbrev is_ascii : ℕ → Bool
is_ascii byte = is_between 0x20 0x7F byte

ascii_stays : (bytes : List ℕ) → list_all is_ascii bytes ≡ true → place_after Between bytes ≡ Between
ascii_stays [] all = refl
ascii_stays (byte ∷ bytes) all = by (is_ascii byte) refl all (ascii_stays bytes)
  where
    by : (ascii : Bool) → is_ascii byte ≡ ascii → (ascii && list_all is_ascii bytes) ≡ true → (list_all is_ascii bytes ≡ true → place_after Between bytes ≡ Between) → place_after Between (byte ∷ bytes) ≡ Between
    by false is both others = absurd cc
    by true is both others = rw (is, or-true ((byte == 0x9) || (byte == 0xA) || (byte == 0xD))) (others both)

pub ascii_text : (bytes : List ℕ) → list_all is_ascii bytes ≡ true → is_text bytes ≡ true
ascii_text bytes all = texts_by_bytes bytes ∙ rw (ascii_stays bytes all) refl

-- ---- the IRI of a class

prefix_reads : (text prefix : List ℕ) (k : ℕ) → starts_with nat_eq text prefix ≡ true → k < length prefix → get_or text k 0 ≡ get_or prefix k 0
prefix_reads text [] k starts within = absurd (omega arith)
prefix_reads [] (first ∷ prefix) k starts within = absurd (let differ : false ≡ true = starts in cc)
prefix_reads (byte ∷ text) (first ∷ prefix) zero starts within = grind (arith, nat_tests)
prefix_reads (byte ∷ text) (first ∷ prefix) (suc k) starts within = prefix_reads text prefix k (grind arith) (omega arith)

not_both : (b : Bool) → not b ≡ true → b ≡ true → ⊥
not_both true kept holds = absurd (grind arith)
not_both false kept holds = absurd (grind arith)

no_end_in_urn : (k : ℕ) → k < 9 → ends_namespace (get_or urn_prefix k 0) ≡ true → ⊥
no_end_in_urn k below ends = not_both (ends_namespace (get_or urn_prefix k 0)) (test_at (λ byte. not (ends_namespace byte)) urn_prefix k refl below) ends

record NamespaceParts (ns : List ℕ) : Type 0 where
  long : 2 ≤ length ns
  visible : list_all is_visible ns ≡ true
  first : (slice_index ns 0 == 35) ≡ false
  ends : ends_namespace (slice_index ns (length ns - 1)) ≡ true

namespace_parts : (ns : List ℕ) → is_namespace ns ≡ true → NamespaceParts ns
namespace_parts ns is = record { long = grind (arith, nat_tests); visible = grind arith; first = grind arith; ends = grind arith }

-- the end of the namespace, where it stands in the IRI
end_of_namespace : (ns local : List ℕ) → NamespaceParts ns → ends_namespace (get_or (ns ++ local) (length ns - 1) 0) ≡ true
end_of_namespace ns local parts =
    let long : 2 ≤ length ns = parts.long in
    let inside : length ns - 1 < length ns = omega arith in
    ap ends_namespace (get_or_append_left ns local 0 (length ns - 1) inside) ∙ parts.ends

behind_urn : (ns local : List ℕ) → NamespaceParts ns → starts_with nat_eq (ns ++ local) urn_prefix ≡ true → 9 ≤ length ns - 1
behind_urn ns local parts starts = ⊎_elim before (λ behind. behind) (cases_lt (length ns - 1) 9)
  where
    before : length ns - 1 < 9 → 9 ≤ length ns - 1
    before below = absurd (no_end_in_urn (length ns - 1) below (ap ends_namespace (sym (prefix_reads (ns ++ local) urn_prefix (length ns - 1) starts below)) ∙ end_of_namespace ns local parts))

no_urn : (ns local : List ℕ) → NamespaceParts ns → starts_with nat_eq (ns ++ local) urn_prefix ≡ true → uuid_of (drop 9 (ns ++ local)) ≡ None
no_urn ns local parts starts = by (uuid_of (drop 9 (ns ++ local))) refl
  where
    by : (seen : Option ℕ) → uuid_of (drop 9 (ns ++ local)) ≡ seen → seen ≡ None
    by None read = refl
    by (Some id) read =
        let far : 9 ≤ length ns - 1 = behind_urn ns local parts starts in
        let long : 2 ≤ length ns = parts.long in
        let same : 9 + (length ns - 1 - 9) ≡ length ns - 1 = omega arith in
        let there : get_or (drop 9 (ns ++ local)) (length ns - 1 - 9) 0 ≡ get_or (ns ++ local) (length ns - 1) 0 = get_or-drop 9 (ns ++ local) (length ns - 1 - 9) 0 ∙ ap (λ (k : ℕ). get_or (ns ++ local) k 0) same in
        let within : length ns - 1 - 9 < length (drop 9 (ns ++ local)) = omega (arith, length-drop 9 (ns ++ local), length-append ns local) in
        absurd (no_end_in_uuid (drop 9 (ns ++ local)) id (length ns - 1 - 9) read within (ap ends_namespace there ∙ end_of_namespace ns local parts))

no_hash : (ns local : List ℕ) → NamespaceParts ns → ident_behind_hash (ns ++ local) ≡ None
no_hash [] local parts = let long : 2 ≤ 0 = parts.long in absurd (omega arith)
no_hash (byte ∷ bytes) local parts = let other : (byte == 35) ≡ false = parts.first in rw other refl

no_ident : (ns local : List ℕ) → NamespaceParts ns → ident_of_about (ns ++ local) ≡ None
no_ident ns local parts = by (starts_with nat_eq (ns ++ local) urn_prefix) refl
  where
    by : (urn : Bool) → starts_with nat_eq (ns ++ local) urn_prefix ≡ urn → (if urn then option_map Uuid (uuid_of (drop 9 (ns ++ local))) else ident_behind_hash (ns ++ local)) ≡ None
    by true starts = ap (option_map Uuid) (no_urn ns local parts starts)
    by false starts = no_hash ns local parts

an_iri : (ns local : List ℕ) → NamespaceParts ns → is_iri (ns ++ local) ≡ true
an_iri [] local parts = let long : 2 ≤ 0 = parts.long in absurd (omega arith)
an_iri (byte ∷ bytes) local parts = let other : (byte == 35) ≡ false = parts.first in rw other refl

visible_is_ascii : (byte : ℕ) → is_visible byte ≡ true → is_ascii byte ≡ true
visible_is_ascii byte is = grind (arith, nat_tests)

name_byte_is_ascii : (byte : ℕ) → continues_name byte ≡ true → is_ascii byte ≡ true
name_byte_is_ascii byte is = grind (arith, nat_tests)

iri_text : (ns local : List ℕ) → NamespaceParts ns → is_name local ≡ true → is_text (ns ++ local) ≡ true
iri_text ns local parts named =
    ascii_text (ns ++ local) (list_all-append is_ascii ns local
    ∙ rw (list_all-weaker is_visible is_ascii visible_is_ascii ns parts.visible, list_all-weaker continues_name is_ascii name_byte_is_ascii local (name_bytes local named)) refl)

-- what names a class can be stated
pub class_iri_sound : (element : QualifiedName) → is_namespace element.ns ≡ true → is_name element.local ≡ true → nat_le (length (element.ns ++ element.local)) longest_iri ≡ true
    → is_sound_iri (element.ns ++ element.local) ≡ true
class_iri_sound element kept named short =
    let parts = namespace_parts element.ns kept in
    rw (an_iri element.ns element.local parts, no_ident element.ns element.local parts, iri_text element.ns element.local parts named, short) refl
