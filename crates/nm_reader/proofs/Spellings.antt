-- Names that are spelt alike are equal.
use Rattle.std.proofs.Common.{◌≡◌, ℕ, List, Bool, true, false, ◌&&◌, Option, None, Some, refl, sym, ap, ◌∙◌, arith}
use Rattle.std.specs.Cmp.Lexicographic.{same_text as equal_texts}
use Rattle.std.proofs.lemmas.Cmp.{nat_list_eq_equiv}
use Rattle.nm_ident.specs.QualifiedName.{QualifiedName}
use Rattle.nm_terms.specs.Bytes.{same_text}
use Rattle.nm_reader.specs.Namespaces.{same_name, same_prefix, same_spelling}
use Rattle.nm_piece.specs.declared.piece.Attribute.{Attribute}
use Rattle.nm_piece.specs.declared.piece.QName.{QName}
use Rattle.std.specs.List.{list_any}
use Rattle.std.specs.Option.{option_eq}
use Rattle.std.specs.Prelude.{[], ◌∷◌, map}
use denote.Ref.{Bor}
use Rattle.nm_reader.specs.Namespaces.{are_distinct_by, are_spelt_once}
use Rattle.nm_reader.specs.Seen.{named, spelt}

pub and_left : (a b : Bool) → (a && b) ≡ true → a ≡ true
and_left true b holds = refl
and_left false b holds = holds

pub and_right : (a b : Bool) → (a && b) ≡ true → b ≡ true
and_right true b holds = holds
and_right false b holds = absurd (grind arith)

pub texts_equal : (x y : List ℕ) → same_text x y ≡ true → x ≡ y
texts_equal x y same = equal_texts x y (sym same)

pub same_text-refl : (x : List ℕ) → same_text x x ≡ true
same_text-refl x = nat_list_eq_equiv.refl x

prefixes_equal : (x y : Option (List ℕ)) → same_prefix x y ≡ true → x ≡ y
prefixes_equal None None same = refl
prefixes_equal (Some x) (Some y) same = ap Some (texts_equal x y same)
prefixes_equal None (Some y) same = absurd (grind arith)
prefixes_equal (Some x) None same = absurd (grind arith)

same_prefix-refl : (x : Option (List ℕ)) → same_prefix x x ≡ true
same_prefix-refl None = refl
same_prefix-refl (Some x) = same_text-refl x

abbrev qname : Option (List ℕ) → List ℕ → QName
qname prefix local = record { prefix = prefix; local = local }

abbrev qualified : List ℕ → List ℕ → QualifiedName
qualified ns local = record { ns = ns; local = local }

pub spellings_equal : (x y : QName) → same_spelling x y ≡ true → x ≡ y
spellings_equal x y same =
    let prefixes : x.prefix ≡ y.prefix = prefixes_equal x.prefix y.prefix (and_left _ _ same) in
    let locals : x.local ≡ y.local = texts_equal x.local y.local (and_right _ _ same) in
    ap (λ prefix. qname prefix x.local) prefixes ∙ ap (λ local. qname y.prefix local) locals

pub same_spelling-refl : (x : QName) → same_spelling x x ≡ true
same_spelling-refl x = rw (same_prefix-refl x.prefix, same_text-refl x.local) refl

pub names_equal : (x y : QualifiedName) → same_name x y ≡ true → x ≡ y
names_equal x y same =
    let namespaces : x.ns ≡ y.ns = texts_equal x.ns y.ns (and_left _ _ same) in
    let locals : x.local ≡ y.local = texts_equal x.local y.local (and_right _ _ same) in
    ap (λ ns. qualified ns x.local) namespaces ∙ ap (λ local. qualified y.ns local) locals

-- ---- names that are put in order

any_in : {X Y : Type 0} (test : Y → Bool) (f : X → Y) (xs : List X) → list_any (λ x. test (f x)) xs ≡ list_any test (map f xs)
any_in test f [] = refl
any_in test f (x ∷ xs) = rw (any_in test f xs) refl

distinct_in : {X Y : Type 0} (same : Y → Y → Bool) (f : X → Y) (xs : List X) → are_distinct_by (λ x y. same (f x) (f y)) xs ≡ are_distinct_by same (map f xs)
distinct_in same f [] = refl
distinct_in same f (x ∷ xs) = rw (any_in (same (f x)) f xs, distinct_in same f xs) refl

-- how std compares two spellings
abbrev pub equal_spellings : (Option (Bor (List ℕ)) × Bor (List ℕ)) → (Option (Bor (List ℕ)) × Bor (List ℕ)) → Bool
equal_spellings x y = option_eq (λ (a b : Bor (List ℕ)). same_text a.now b.now) x.0 y.0 && same_text x.1.now y.1.now

spelt_alike : (x y : Option (Bor (List ℕ)) × Bor (List ℕ)) → equal_spellings x y ≡ same_spelling (spelt x) (spelt y)
spelt_alike (None, x) (None, y) = refl
spelt_alike (None, x) (Some b, y) = refl
spelt_alike (Some a, x) (None, y) = refl
spelt_alike (Some a, x) (Some b, y) = refl

pub once_if_distinct : (attributes : List Attribute) (spellings : List (Option (Bor (List ℕ)) × Bor (List ℕ))) → map spelt spellings ≡ map named attributes
    → are_distinct_by equal_spellings spellings ≡ are_spelt_once attributes
once_if_distinct attributes spellings are =
    ap (λ (same : _ → _ → Bool). are_distinct_by same spellings) (λ i x y. spelt_alike x y i)
    ∙ distinct_in same_spelling spelt spellings
    ∙ ap (λ names. are_distinct_by same_spelling names) are
    ∙ sym (distinct_in same_spelling named attributes)
