-- The namespaces that a canonical document declares, and their prefixes (Namespaces in XML).
use Rattle.std.specs.Prelude.{◌≡◌, ℕ, ◌+◌, ◌<◌, ◌≤◌, List, [], ◌∷◌, ◌++◌, length, map, Bool, Option, None, Some, Result, MatchResult, nat_eq, nat_lt, ◌==◌, codes, position, if◌then◌else◌}
use Rattle.std.specs.List.{starts_with, range_with_len, insert}
use Rattle.std.specs.BTreeSet.{insert_key}
use Rattle.std.specs.Fmt.{decimal}
use Rattle.nm_terms.specs.Bytes.{same_text}
use Rattle.nm_ident.specs.Name.{rdf_namespace}
use Rattle.nm_ident.specs.Order.{text_cmp}

-- a rising list of texts with one more in its place, unless it is there
abbrev pub insert_text : List ℕ → List (List ℕ) → List (List ℕ)
insert_text text texts = insert_key text_cmp texts text

-- the texts of a list, strictly rising by their bytes
abbrev pub rising_texts : List (List ℕ) → List (List ℕ)
rising_texts [] = []
rising_texts (text ∷ texts) = insert_text text (rising_texts texts)

abbrev pub is_rdf : List ℕ → Bool
is_rdf ns = same_text ns rdf_namespace

-- the declared namespaces with one more: RDF's is always declared
abbrev pub with_namespace : List (List ℕ) → List ℕ → List (List ℕ)
with_namespace namespaces ns = if is_rdf ns then namespaces else insert_text ns namespaces

-- the place of a namespace that is there, or where it would stand
abbrev pub IsPlaceOf : List (List ℕ) → List ℕ → Result ℕ ℕ → Type 0
IsPlaceOf namespaces ns result =
    MatchResult result
    (λ place. (place < length namespaces) × (position (same_text ns) namespaces ≡ Some place) × (insert_text ns namespaces ≡ namespaces))
    (λ place. (place ≤ length namespaces) × (position (same_text ns) namespaces ≡ None) × (insert namespaces place ns ≡ insert_text ns namespaces))

-- whether it is a namespace of IEC's technical committee 57, as CIM's own are
abbrev pub is_of_committee : List ℕ → Bool
is_of_committee ns = starts_with nat_eq ns (codes "http://iec.ch/TC57/")

-- the place of the namespace whose prefix is `cim`
abbrev pub cim_place : List (List ℕ) → Option ℕ
cim_place namespaces = position is_of_committee namespaces

-- `n1`, `n2` and so on, counting no place for `cim`
abbrev pub numbered_prefix : ℕ → List ℕ
numbered_prefix number = codes "n" ++ decimal number

abbrev pub prefix_at : Option ℕ → ℕ → List ℕ
prefix_at None place = numbered_prefix (place + 1)
prefix_at (Some cim) place =
    if place == cim then codes "cim"
    else if nat_lt place cim then numbered_prefix (place + 1)
    else numbered_prefix place

-- the prefix of each
abbrev pub prefixes_of : List (List ℕ) → List (List ℕ)
prefixes_of namespaces = map (prefix_at (cim_place namespaces)) (range_with_len 0 (length namespaces))

abbrev pub prefix_or_nothing : List (List ℕ) → Option ℕ → List ℕ
prefix_or_nothing namespaces None = []
prefix_or_nothing namespaces (Some place) = prefix_at (cim_place namespaces) place

-- the prefix of a declared namespace
abbrev pub prefix_of : List (List ℕ) → List ℕ → List ℕ
prefix_of namespaces ns =
    if is_rdf ns then codes "rdf" else prefix_or_nothing namespaces (position (same_text ns) namespaces)
