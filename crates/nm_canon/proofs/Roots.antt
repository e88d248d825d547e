-- The root of a canonical document declares its prefixes.
use Rattle.std.proofs.Common.{◌≡◌, ◌∙◌, ℕ, ◌+◌, ◌-◌, ◌^◌, ◌<◌, Bool, true, false, List, [], ◌∷◌, length, map, Option, refl, ap, nat_le, arith, append-nil}
use Rattle.std.specs.Prelude.{◌==◌, codes}
use Rattle.std.specs.List.{AllByRecursion, enumerate_from, filter_map, list_all, list_any}
use Rattle.nm_ident.specs.Name.{dm_namespace, md_namespace, rdf_namespace}
use Rattle.nm_terms.specs.Bytes.{same_text}
use Rattle.nm_piece.specs.declared.piece.Attribute.{Attribute}
use Rattle.nm_piece.specs.declared.piece.QName.{QName}
use Rattle.nm_reader.specs.Meaning.{only_inside}
use Rattle.nm_reader.specs.Opened.{Declaration}
use Rattle.nm_reader.specs.Namespaces.{are_spelt_once, declaration_of, given, has_declared_prefix, same_spelling}
use Rattle.nm_reader.specs.Place.{root_name}
use Rattle.nm_reader.specs.declared.place.Place.TheVariants.{AfterRoot, BeforeRoot, InRoot}
use Rattle.nm_reader.specs.declared.place.Role.TheVariants.{RootElement}
use Rattle.nm_writer.specs.Namespaces.{cim_place, prefix_at}
use Rattle.nm_canon.proofs.Made.{declaring, qname, namespace_attributes, namespace_entry}
use Rattle.nm_canon.proofs.Prefixes.{apart, apart_back, declaration, distinct, root_scope, namespace_declaration, namespace_declarations}
use Rattle.nm_canon.proofs.Telling.{IsTag, quiet, tag_within}

abbrev Entry : Type 0
Entry = ℕ × List ℕ

-- ---- what is declared

entries_declare : (cim : Option ℕ) (entries : List Entry) → filter_map declaration_of (map (namespace_entry cim) entries) ≡ map (namespace_declaration cim) entries
entries_declare cim [] = refl
entries_declare cim (entry ∷ entries) = ap (λ (others : List Declaration). namespace_declaration cim entry ∷ others) (entries_declare cim entries)

entries_give_nothing : (scope : List Declaration) (cim : Option ℕ) (entries : List Entry) → filter_map (given scope) (map (namespace_entry cim) entries) ≡ []
entries_give_nothing scope cim [] = refl
entries_give_nothing scope cim (entry ∷ entries) = entries_give_nothing scope cim entries

-- ---- what may be declared

-- a namespace that a prefix may have
abbrev pub IsSome : List ℕ → Type 0
IsSome ns = nat_le (length ns) 0 ≡ false

entries_allowed : (scope : List Declaration) (cim : Option ℕ) (start : ℕ) (namespaces : List (List ℕ)) → AllByRecursion IsSome namespaces
    → list_all (λ attribute. has_declared_prefix (declaration_of attribute) scope attribute) (map (namespace_entry cim) (enumerate_from start namespaces)) ≡ true
entries_allowed scope cim start [] some = refl
entries_allowed scope cim start (ns ∷ namespaces) some =
    rw (apart_back 120 (codes "ml") cim start refl refl, apart_back 120 (codes "mlns") cim start refl refl, some.0) (entries_allowed scope cim (start + 1) namespaces some.1)

-- ---- no prefix is declared twice

abbrev spelt : List ℕ → QName
spelt prefix = qname (codes "xmlns") prefix

abbrev is_among : List ℕ → List Attribute → Bool
is_among prefix attributes = list_any (λ attribute. same_spelling (spelt prefix) attribute.name) attributes

other_prefix : (first : ℕ) (text : List ℕ) (cim : Option ℕ) (start : ℕ) (namespaces : List (List ℕ)) → (first == 99) ≡ false → (first == 110) ≡ false
    → is_among (first ∷ text) (map (namespace_entry cim) (enumerate_from start namespaces)) ≡ false
other_prefix first text cim start [] c n = refl
other_prefix first text cim start (ns ∷ namespaces) c n = rw (apart first text cim start c n) (other_prefix first text cim (start + 1) namespaces c n)

not_same : (cim : Option ℕ) (place other : ℕ) → place < other → other + 1 < 10 ^ 64 → same_text (prefix_at cim place) (prefix_at cim other) ≡ false
not_same cim place other less small = by (same_text (prefix_at cim place) (prefix_at cim other)) refl
  where
    by : (same : Bool) → same_text (prefix_at cim place) (prefix_at cim other) ≡ same → same ≡ false
    by false is = refl
    by true is = absurd (let equal : place ≡ other = distinct cim place other (omega (arith, less, small)) small is in omega (arith, equal, less))

earlier_prefix : (cim : Option ℕ) (place start : ℕ) (namespaces : List (List ℕ)) → place < start → start + length namespaces < 10 ^ 64 - 1
    → is_among (prefix_at cim place) (map (namespace_entry cim) (enumerate_from start namespaces)) ≡ false
earlier_prefix cim place start [] before small = refl
earlier_prefix cim place start (ns ∷ namespaces) before small =
    rw (not_same cim place start before (omega (arith, small))) (earlier_prefix cim place (start + 1) namespaces (omega (arith, before)) (omega (arith, small)))

entries_once : (cim : Option ℕ) (start : ℕ) (namespaces : List (List ℕ)) → start + length namespaces < 10 ^ 64 - 1 → are_spelt_once (map (namespace_entry cim) (enumerate_from start namespaces)) ≡ true
entries_once cim start [] small = refl
entries_once cim start (ns ∷ namespaces) small =
    rw (earlier_prefix cim start (start + 1) namespaces (omega arith) (omega (arith, small))) (entries_once cim (start + 1) namespaces (omega (arith, small)))

-- ---- the root

module _ (namespaces : List (List ℕ)) (small : length namespaces < 10 ^ 64 - 1) (some : AllByRecursion IsSome namespaces) where
  pub full_root : IsTag BeforeRoot [] (root_scope (namespace_declarations namespaces)) (qname (codes "rdf") (codes "RDF"))
      (declaring (codes "rdf") rdf_namespace ∷ declaring (codes "md") md_namespace ∷ namespace_attributes namespaces) InRoot AfterRoot [] []
  full_root =
      let cim = cim_place namespaces in
      let entries = enumerate_from 0 namespaces in
      let scope = root_scope (namespace_declarations namespaces) in
      quiet BeforeRoot [] scope (qname (codes "rdf") (codes "RDF")) (declaring (codes "rdf") rdf_namespace ∷ declaring (codes "md") md_namespace ∷ namespace_attributes namespaces) InRoot AfterRoot []
      (tag_within BeforeRoot [] scope (qname (codes "rdf") (codes "RDF")) (declaring (codes "rdf") rdf_namespace ∷ declaring (codes "md") md_namespace ∷ namespace_attributes namespaces) root_name [] RootElement (only_inside InRoot)
      (ap root_scope (append-nil (filter_map declaration_of (map (namespace_entry cim) entries)) ∙ entries_declare cim entries)) refl
      (entries_allowed scope cim 0 namespaces some)
      (rw (other_prefix 114 (codes "df") cim 0 namespaces refl refl, other_prefix 109 (codes "d") cim 0 namespaces refl refl) (entries_once cim 0 namespaces (omega (arith, small))))
      (entries_give_nothing scope cim entries) refl refl refl refl refl)

  pub difference_root : IsTag BeforeRoot [] (root_scope (declaration (codes "dm") dm_namespace ∷ namespace_declarations namespaces)) (qname (codes "rdf") (codes "RDF"))
      (declaring (codes "rdf") rdf_namespace ∷ declaring (codes "md") md_namespace ∷ declaring (codes "dm") dm_namespace ∷ namespace_attributes namespaces) InRoot AfterRoot [] []
  difference_root =
      let cim = cim_place namespaces in
      let entries = enumerate_from 0 namespaces in
      let scope = root_scope (declaration (codes "dm") dm_namespace ∷ namespace_declarations namespaces) in
      quiet BeforeRoot [] scope (qname (codes "rdf") (codes "RDF")) (declaring (codes "rdf") rdf_namespace ∷ declaring (codes "md") md_namespace ∷ declaring (codes "dm") dm_namespace ∷ namespace_attributes namespaces) InRoot AfterRoot []
      (tag_within BeforeRoot [] scope (qname (codes "rdf") (codes "RDF")) (declaring (codes "rdf") rdf_namespace ∷ declaring (codes "md") md_namespace ∷ declaring (codes "dm") dm_namespace ∷ namespace_attributes namespaces)
      root_name [] RootElement (only_inside InRoot)
      (ap (λ (more : List Declaration). root_scope (declaration (codes "dm") dm_namespace ∷ more)) (append-nil (filter_map declaration_of (map (namespace_entry cim) entries)) ∙ entries_declare cim entries)) refl
      (entries_allowed scope cim 0 namespaces some)
      (rw (other_prefix 114 (codes "df") cim 0 namespaces refl refl, other_prefix 109 (codes "d") cim 0 namespaces refl refl, other_prefix 100 (codes "m") cim 0 namespaces refl refl) (entries_once cim 0 namespaces (omega (arith, small))))
      (entries_give_nothing scope cim entries) refl refl refl refl refl)
