-- The prefixes of a canonical document are names, no two are the same, and each means its namespace.
use Rattle.std.proofs.Common.{◌≡◌, ◌∙◌, ℕ, zero, suc, ◌+◌, ◌-◌, ◌/◌, ◌%◌, ◌^◌, ◌<◌, ◌≤◌, Bool, true, false, List, [], ◌∷◌, length, get_or, map, Option, None, Some, refl, sym, ap, arith, position, nat_lt, le-leb, if◌then◌else◌, cond, subst}
use Rattle.std.specs.Prelude.{◌==◌, codes}
use Rattle.std.specs.Fmt.{decimal, digit_glyph, digits, digits_onto}
use Rattle.std.specs.Char.{is_ascii_digit}
use Rattle.std.specs.Cmp.Lexicographic.{bytes_decides}
use Rattle.std.specs.List.{enumerate_from, list_all}
use Rattle.std.proofs.lemmas.List.Quantifiers.{position-Some}
use Rattle.std.proofs.lemmas.Bool.Decides.{nat_tests}
use Rattle.std.proofs.lemmas.Bool.{eqb-true, ltb-false, ltb-true}
use Rattle.std.proofs.lemmas.Fmt.{decimal_is_IsNumeral_wide}
use Rattle.std.specs.Str.Parse.{digits_value}
use Rattle.nm_ident.proofs.Idents.{list_all-weaker}
use Rattle.nm_ident.specs.Name.{is_name, continues_name, rdf_namespace, md_namespace, dm_namespace}
use Rattle.nm_terms.specs.Bytes.{same_text}
use Rattle.nm_reader.specs.Opened.{Declaration}
use Rattle.nm_reader.specs.Namespaces.{declared, namespace_of}
use Rattle.nm_writer.specs.Namespaces.{cim_place, is_rdf, numbered_prefix, prefix_at, prefix_of}

-- ---- decimal digits

glyph_is_digit : (d : ℕ) → d < 10 → is_ascii_digit (digit_glyph false d) ≡ true
glyph_is_digit d small = grind (arith, nat_tests)

digits_onto_all_digits : (k n : ℕ) (after : List ℕ) → list_all is_ascii_digit after ≡ true → list_all is_ascii_digit (digits_onto k 10 false n after) ≡ true
digits_onto_all_digits zero n after all = all
digits_onto_all_digits (suc k) n after all =
    let more : list_all is_ascii_digit (digit_glyph false (n % 10) ∷ after) ≡ true = rw (glyph_is_digit (n % 10) (omega arith), all) refl in
    either (n / 10 == 0) (digit_glyph false (n % 10) ∷ after) (digits_onto k 10 false (n / 10) (digit_glyph false (n % 10) ∷ after)) more (digits_onto_all_digits k (n / 10) (digit_glyph false (n % 10) ∷ after) more)
  where
    either : (b : Bool) (xs ys : List ℕ) → list_all is_ascii_digit xs ≡ true → list_all is_ascii_digit ys ≡ true → list_all is_ascii_digit (cond b xs ys) ≡ true
    either true xs ys one other = one
    either false xs ys one other = other

digits_from_nothing : (base : ℕ) (upper : Bool) (n : ℕ) → digits_onto 64 base upper n [] ≡ digits base upper n
unfolding digits
digits_from_nothing base upper n = refl

decimal_all_digits : (n : ℕ) → list_all is_ascii_digit (decimal n) ≡ true
decimal_all_digits n =
    let all = digits_onto_all_digits 64 n [] refl in
    subst (λ (bytes : List ℕ). list_all is_ascii_digit bytes ≡ true) (digits_from_nothing 10 false n) all

numbers_differ : (a b : ℕ) → a < 10 ^ 64 → b < 10 ^ 64 → decimal a ≡ decimal b → a ≡ b
numbers_differ a b small also same = sym (decimal_is_IsNumeral_wide a small).1 ∙ ap (digits_value 10) same ∙ (decimal_is_IsNumeral_wide b also).1

-- ---- each is a name

digits-shorter : (k n : ℕ) (after : List ℕ) → length (digits_onto k 10 false n after) ≤ k + length after
digits-shorter zero n after = omega arith
digits-shorter (suc k) n after = by (n / 10 == 0) (digits-shorter k (n / 10) (digit_glyph false (n % 10) ∷ after))
  where
    by : (last : Bool) → length (digits_onto k 10 false (n / 10) (digit_glyph false (n % 10) ∷ after)) ≤ k + length (digit_glyph false (n % 10) ∷ after)
        → length (if last then digit_glyph false (n % 10) ∷ after else digits_onto k 10 false (n / 10) (digit_glyph false (n % 10) ∷ after)) ≤ suc k + length after
    by true others = omega arith
    by false others = omega (arith, others)

decimal_is_short : (n : ℕ) → length (decimal n) ≤ 64
unfolding digits
decimal_is_short n = digits-shorter 64 n []

digit_continues : (byte : ℕ) → is_ascii_digit byte ≡ true → continues_name byte ≡ true
digit_continues byte digit = grind (arith, nat_tests)

decimal_all_name_bytes : (number : ℕ) → list_all continues_name (decimal number) ≡ true
decimal_all_name_bytes number = list_all-weaker is_ascii_digit continues_name digit_continues (decimal number) (decimal_all_digits number)

numbered_is_name : (number : ℕ) → is_name (numbered_prefix number) ≡ true
numbered_is_name number = rw (decimal_all_name_bytes number, le-leb (length (110 ∷ decimal number)) 128 (omega (arith, decimal_is_short number))) refl

pub prefix_at_is_name : (cim : Option ℕ) (place : ℕ) → is_name (prefix_at cim place) ≡ true
prefix_at_is_name None place = numbered_is_name (place + 1)
prefix_at_is_name (Some cim) place = by (place == cim) (nat_lt place cim)
  where
    by : (same before : Bool) → is_name (if same then codes "cim" else if before then numbered_prefix (place + 1) else numbered_prefix place) ≡ true
    by true before = refl
    by false true = numbered_is_name (place + 1)
    by false false = numbered_is_name place

-- ---- no other prefix is one of them

-- a prefix begins with `c` or with `n`
pub apart : (first : ℕ) (text : List ℕ) (cim : Option ℕ) (place : ℕ) → (first == 99) ≡ false → (first == 110) ≡ false → same_text (first ∷ text) (prefix_at cim place) ≡ false
apart first text None place c n = rw n refl
apart first text (Some cim) place c n = by (place == cim) (nat_lt place cim)
  where
    by : (same before : Bool) → same_text (first ∷ text) (if same then codes "cim" else if before then numbered_prefix (place + 1) else numbered_prefix place) ≡ false
    by true before = rw c refl
    by false true = rw n refl
    by false false = rw n refl

same_text-sym : (x y : List ℕ) → same_text x y ≡ false → same_text y x ≡ false
same_text-sym x y e = by (same_text y x) refl
  where
    by : (same : Bool) → same_text y x ≡ same → same ≡ false
    by false is = refl
    by true is = absurd (let back : same_text x y ≡ true = (bytes_decides x y).1 (sym ((bytes_decides y x).0 is)) in let wrong : true ≡ false = sym back ∙ e in cc)

pub apart_back : (first : ℕ) (text : List ℕ) (cim : Option ℕ) (place : ℕ) → (first == 99) ≡ false → (first == 110) ≡ false → same_text (prefix_at cim place) (first ∷ text) ≡ false
apart_back first text cim place c n = same_text-sym (first ∷ text) (prefix_at cim place) (apart first text cim place c n)

apart_from : (a b : ℕ) → (a == b) ≡ false → a ≡ b → ⊥
apart_from a b apart same = grind (arith, nat_tests)

same_number : (a b : ℕ) → a < 10 ^ 64 → b < 10 ^ 64 → numbered_prefix a ≡ numbered_prefix b → a ≡ b
same_number a b small also same = numbers_differ a b small also (behind 110 (decimal a) (decimal b) same)
  where
    behind : (first : ℕ) (xs ys : List ℕ) → first ∷ xs ≡ first ∷ ys → xs ≡ ys
    behind first xs ys same = cc

no_number : (number : ℕ) → codes "cim" ≡ numbered_prefix number → ⊥
no_number number same = let heads : 99 ≡ 110 = ap first_of same in omega (arith, heads)
  where
    first_of : List ℕ → ℕ
    first_of [] = 0
    first_of (byte ∷ bytes) = byte

-- no two places have the same
pub distinct : (cim : Option ℕ) (place other : ℕ) → place + 1 < 10 ^ 64 → other + 1 < 10 ^ 64 → same_text (prefix_at cim place) (prefix_at cim other) ≡ true → place ≡ other
distinct None place other small also same =
    let one = same_number (place + 1) (other + 1) small also ((bytes_decides (prefix_at None place) (prefix_at None other)).0 same) in omega (arith, one)
distinct (Some cim) place other small also same =
    by (place == cim) (nat_lt place cim) (other == cim) (nat_lt other cim) refl refl refl refl ((bytes_decides (prefix_at (Some cim) place) (prefix_at (Some cim) other)).0 same)
  where
    by : (is before was earlier : Bool) → (place == cim) ≡ is → nat_lt place cim ≡ before → (other == cim) ≡ was → nat_lt other cim ≡ earlier
        → (if is then codes "cim" else if before then numbered_prefix (place + 1) else numbered_prefix place) ≡ (if was then codes "cim" else if earlier then numbered_prefix (other + 1) else numbered_prefix other) → place ≡ other
    by true before true earlier e f g h same = eqb-true place cim e ∙ sym (eqb-true other cim g)
    by true before false true e f g h same = absurd (no_number (other + 1) same)
    by true before false false e f g h same = absurd (no_number other same)
    by false true true earlier e f g h same = absurd (no_number (place + 1) (sym same))
    by false false true earlier e f g h same = absurd (no_number place (sym same))
    by false true false true e f g h same = let one = same_number (place + 1) (other + 1) small also same in omega (arith, one)
    by false true false false e f g h same =
        let one = same_number (place + 1) other small (omega arith) same in
        let below = ltb-true place cim f in
        let above = ltb-false other cim h in
        absurd (apart_from other cim g (omega (arith, one, below, above)))
    by false false false true e f g h same =
        let one = same_number place (other + 1) (omega arith) also same in
        let above = ltb-false place cim f in
        let below = ltb-true other cim h in
        absurd (apart_from place cim e (omega (arith, one, below, above)))
    by false false false false e f g h same = same_number place other (omega arith) (omega arith) same

-- ---- each means its namespace

-- a namespace that has its prefix: RDF's has one in every document
abbrev pub IsDeclared : List (List ℕ) → List ℕ → Type 0
IsDeclared namespaces ns = is_rdf ns ≡ false → (place : ℕ) × (position (same_text ns) namespaces ≡ Some place)

abbrev pub declaration : List ℕ → List ℕ → Declaration
declaration prefix ns = record { prefix = Some prefix; namespace = ns }

abbrev pub namespace_declaration : Option ℕ → ℕ × List ℕ → Declaration
namespace_declaration cim entry = declaration (prefix_at cim entry.0) entry.1

abbrev pub namespace_declarations : List (List ℕ) → List Declaration
namespace_declarations namespaces = map (namespace_declaration (cim_place namespaces)) (enumerate_from 0 namespaces)

-- what a root declares
abbrev pub root_scope : List Declaration → List Declaration
root_scope more = declaration (codes "rdf") rdf_namespace ∷ declaration (codes "md") md_namespace ∷ more

declared_at : (cim : Option ℕ) (start : ℕ) (namespaces : List (List ℕ)) (i place : ℕ) → i < length namespaces → place ≡ start + i → start + length namespaces < 10 ^ 64 - 1
    → declared (map (namespace_declaration cim) (enumerate_from start namespaces)) (Some (prefix_at cim place)) ≡ Some (get_or namespaces i [])
declared_at cim start [] i place within is small = absurd (omega arith)
declared_at cim start (ns ∷ namespaces) zero place within is small =
    let same : start ≡ place = omega (arith, is) in
    let itself : same_text (prefix_at cim start) (prefix_at cim place) ≡ true = (bytes_decides (prefix_at cim start) (prefix_at cim place)).1 (ap (prefix_at cim) same) in
    rw itself refl
declared_at cim start (ns ∷ namespaces) (suc i) place within is small =
    by (same_text (prefix_at cim start) (prefix_at cim place)) refl (declared_at cim (start + 1) namespaces i place (omega (arith, within)) (omega (arith, is)) (omega (arith, small)))
  where
    by : (same : Bool) → same_text (prefix_at cim start) (prefix_at cim place) ≡ same
        → declared (map (namespace_declaration cim) (enumerate_from (start + 1) namespaces)) (Some (prefix_at cim place)) ≡ Some (get_or namespaces i [])
        → (if same then Some ns else declared (map (namespace_declaration cim) (enumerate_from (start + 1) namespaces)) (Some (prefix_at cim place))) ≡ Some (get_or namespaces i [])
    by false e others = others
    by true e others = absurd (let equal : start ≡ place = distinct cim start place (omega (arith, small)) (omega (arith, small, within, is)) e in omega (arith, equal, is))

abbrev pub Means : List Declaration → List ℕ → List ℕ → Type 0
Means scope prefix ns = namespace_of scope (Some prefix) ≡ Some ns

namespace_means : (namespaces : List (List ℕ)) (ns : List ℕ) (place : ℕ) → length namespaces < 10 ^ 64 - 1 → position (same_text ns) namespaces ≡ Some place
    → declared (namespace_declarations namespaces) (Some (prefix_at (cim_place namespaces) place)) ≡ Some ns
namespace_means namespaces ns place small found =
    let at = position-Some (same_text ns) namespaces place [] found in
    let same : ns ≡ get_or namespaces place [] = (bytes_decides ns (get_or namespaces place [])).0 at.1 in
    declared_at (cim_place namespaces) 0 namespaces place place at.0 (omega arith) (omega (arith, small)) ∙ ap Some (sym same)

-- in a full model
pub means_in_full : (namespaces : List (List ℕ)) (ns : List ℕ) → length namespaces < 10 ^ 64 - 1 → IsDeclared namespaces ns → Means (root_scope (namespace_declarations namespaces)) (prefix_of namespaces ns) ns
means_in_full namespaces ns small is = by (is_rdf ns) refl
  where
    by : (rdf : Bool) → is_rdf ns ≡ rdf → Means (root_scope (namespace_declarations namespaces)) (prefix_of namespaces ns) ns
    by true e = rw e (ap Some (sym ((bytes_decides ns rdf_namespace).0 e)))
    by false e =
        let at = is e in
        let found : position (same_text ns) namespaces ≡ Some at.0 = at.1 in
        let cim = cim_place namespaces in
        rw (e, found, apart_back 120 (codes "ml") cim at.0 refl refl, apart 114 (codes "df") cim at.0 refl refl, apart 109 (codes "d") cim at.0 refl refl) (namespace_means namespaces ns at.0 small found)

-- in a difference model
pub means_in_difference : (namespaces : List (List ℕ)) (ns : List ℕ) → length namespaces < 10 ^ 64 - 1 → IsDeclared namespaces ns
    → Means (root_scope (declaration (codes "dm") dm_namespace ∷ namespace_declarations namespaces)) (prefix_of namespaces ns) ns
means_in_difference namespaces ns small is = by (is_rdf ns) refl
  where
    by : (rdf : Bool) → is_rdf ns ≡ rdf → Means (root_scope (declaration (codes "dm") dm_namespace ∷ namespace_declarations namespaces)) (prefix_of namespaces ns) ns
    by true e = rw e (ap Some (sym ((bytes_decides ns rdf_namespace).0 e)))
    by false e =
        let at = is e in
        let found : position (same_text ns) namespaces ≡ Some at.0 = at.1 in
        let cim = cim_place namespaces in
        rw (e, found, apart_back 120 (codes "ml") cim at.0 refl refl, apart 114 (codes "df") cim at.0 refl refl, apart 109 (codes "d") cim at.0 refl refl, apart 100 (codes "m") cim at.0 refl refl) (namespace_means namespaces ns at.0 small found)
