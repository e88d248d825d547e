-- The properties of an object and of a header fit where they stand, with what they tell.
use Rattle.std.proofs.Common.{◌≡◌, ◌∙◌, ℕ, ◌<◌, ◌^◌, Bool, true, false, not, ◌&&◌, ◌||◌, List, [], ◌∷◌, length, Option, None, Some, is_none, refl, ap, nat_le}
use Rattle.std.specs.Prelude.{codes}
use Rattle.std.specs.List.{AllByRecursion, flat_map}
use Rattle.std.specs.Option.{option_map}
use Rattle.nm_ident.proofs.Idents.{ident_of_about-hash, ident_of_id-id_of}
use Rattle.nm_ident.proofs.UuidTexts.{uuid_of-uuid_text}
use Rattle.nm_ident.specs.Ident.{id_of, ident_of_about, ident_of_id, ident_or_iri, is_iri, is_sound_ident, target_of}
use Rattle.nm_ident.specs.Name.{is_namespace, is_name, is_predicate, md_namespace, dm_namespace, rdf_namespace}
use Rattle.nm_ident.specs.QualifiedName.{QualifiedName}
use Rattle.nm_ident.specs.declared.ident.Ident.{Ident}
use Rattle.nm_ident.specs.declared.ident.Ident.TheVariants.{Uuid}
use Rattle.nm_ident.specs.declared.ident.Target.{Target}
use Rattle.nm_ident.specs.declared.ident.Target.TheVariants as target
use Rattle.nm_terms.specs.Bytes.{same_text}
use Rattle.nm_text.specs.Characters.{is_text}
use Rattle.nm_statement.specs.Sound.{is_sound_iri, is_sound_object, is_sound_statement}
use Rattle.nm_statement.specs.declared.object.Object.{Object}
use Rattle.nm_statement.specs.declared.object.Object.TheVariants.{Literal, Resource, Iri}
use Rattle.nm_statement.specs.declared.statement.Statement.{Statement}
use Rattle.nm_reader.specs.Blocks.{Blocks}
use Rattle.nm_reader.specs.declared.counts.Counts.{Counts}
use Rattle.nm_statement.specs.Limits.{longest_iri, longest_literal}
use Rattle.nm_reader.specs.declared.meaning.Meaning.{Meaning}
use Rattle.nm_reader.specs.Meaning.{header_link_meaning, ident_in, link_counts, link_meaning, listed, object_of_target, part_counts, resource_name, short_object, text_counts, told_of, uuid_in}
use Rattle.nm_reader.specs.declared.fact.Fact.{Fact}
use Rattle.nm_reader.specs.declared.fact.Kind.{Kind}
use Rattle.nm_reader.specs.declared.fact.LinkProperty.{LinkProperty}
use Rattle.nm_reader.specs.declared.fact.Part.{Part}
use Rattle.nm_reader.specs.declared.fact.TextProperty.{TextProperty}
use Rattle.nm_reader.specs.declared.fact.Fact.TheVariants.{Links, States, Tells as TellsText}
use Rattle.nm_reader.specs.Opened.{Declaration}
use Rattle.nm_reader.specs.Namespaces.{element_name, or_empty}
use Rattle.nm_reader.specs.declared.place.Owner.{Owner}
use Rattle.nm_reader.specs.declared.place.Place.{Place}
use Rattle.nm_reader.specs.Place.{is_foreign, role_of}
use Rattle.nm_reader.specs.declared.place.Role.TheVariants.{HeaderLink, HeaderText, PropertyElement}
use Rattle.nm_reader.specs.declared.place.Place.TheVariants.{InHeader, InLink, InLiteral, InObject}
use Rattle.nm_reader.specs.declared.place.Owner.TheVariants.{OfModel, OfSubject}
use Rattle.nm_writer.specs.Namespaces.{prefix_of}
use Rattle.nm_canon.proofs.Documents.{both, object_sound, predicate_kept}
use Rattle.nm_canon.proofs.Made.{blocks_of, link_block, md, model_block, object_block, property_block, qname, spelt_with, text_inside, urn_of, value_block}
use Rattle.nm_canon.proofs.Prefixes.{Means, root_scope}
use Rattle.nm_canon.proofs.Telling.{IsInside, TakesFeed, Tells, tag_is, nothing_plus, tells_both, tells_element, tells_empty, tells_nothing}

-- ---- lists

pub tells_list : {X : Type 0} (place : Place) (scope : List Declaration) (block : X → Blocks → Blocks) (facts : X → List Fact) (counts : X → List Counts) (P : X → Type 0)
    → ((x : X) → P x → Tells place scope (block x) (facts x) (counts x)) → (xs : List X) → AllByRecursion P xs → Tells place scope (blocks_of block xs) (flat_map facts xs) (flat_map counts xs)
tells_list place scope block facts counts P each [] all = tells_nothing place scope
tells_list place scope block facts counts P each (x ∷ xs) all =
    tells_both place scope (block x) (blocks_of block xs) (facts x) (flat_map facts xs) (counts x) (flat_map counts xs) (each x all.0) (tells_list place scope block facts counts P each xs all.1)

-- ---- literals

literal_inside : (owner : Owner) (scope : List Declaration) (text : List ℕ) → nat_le (length text) longest_literal ≡ true → IsInside (InLiteral owner []) scope (text_inside text) (told_of owner text ∷ []) []
literal_inside owner scope [] short = record { end = InLiteral owner []; fit = refl; after = refl; ends = refl; facts_inside = []; tell = refl; all = refl; count = nothing_plus }
literal_inside owner scope (byte ∷ text) short =
    record { end = InLiteral owner (byte ∷ text); fit = rw short refl; after = refl; ends = refl; facts_inside = []; tell = refl; all = refl; count = nothing_plus }

-- ---- names of properties

pub record IsPredicate (name : QualifiedName) : Type 0 where
  pub namespace : is_namespace name.ns ≡ true
  pub named : is_name name.local ≡ true
  pub own : is_foreign (codes "type") name ≡ false

pub predicate_parts : (name : QualifiedName) → is_predicate name ≡ true → IsPredicate name
predicate_parts name kept =
    let parts = by (is_namespace name.ns) (is_name name.local) (same_text name.ns md_namespace) (same_text name.ns dm_namespace) (same_text name.ns rdf_namespace) (same_text name.local (codes "type")) kept in
    record { namespace = parts.0; named = parts.1; own = parts.2 }
  where
    by : (n l m d r t : Bool) → (n && l && not m && not d && (not r || t)) ≡ true → (n ≡ true) × (l ≡ true) × ((m || d || (r && not t)) ≡ false)
    by true true false false false t e = (refl, refl, refl)
    by true true false false true true e = (refl, refl, refl)
    by true true false false true false e = absurd cc
    by true true true d r t e = absurd cc
    by true true false true r t e = absurd cc
    by true false m d r t e = absurd cc
    by false l m d r t e = absurd cc

pub called : (scope : List Declaration) (prefix : List ℕ) (name : QualifiedName) → Means scope prefix name.ns → element_name scope (qname prefix name.local) ≡ name
called scope prefix name means = ap (λ (ns : Option (List ℕ)). ◌of◌ (or_empty ns) name.local) means
  where
    ◌of◌ : List ℕ → List ℕ → QualifiedName
    ◌of◌ ns local = record { ns = ns; local = local }

-- ---- properties of objects

module _ (more : List Declaration) (part : Part) (subject : Ident) where
  pub in_object : TakesFeed (InObject part subject)
  in_object = record { takes = refl; stays = refl }

  value_tells : (name : QualifiedName) (prefix text : List ℕ) → is_predicate name ≡ true → Means (root_scope more) prefix name.ns → nat_le (length text) longest_literal ≡ true
      → Tells (InObject part subject) (root_scope more) (value_block (qname prefix name.local) text)
      (States part (record { subject = subject; predicate = name; object = Literal text }) ∷ []) (part_counts part ∷ [])
  value_tells name prefix text kept means short =
      let is = predicate_parts name kept in
      let meaning : Meaning = record { inside = InLiteral (OfSubject part subject name) []; tells = None; counts = part_counts part } in
      let tag = tag_is (InObject part subject) (root_scope more) (qname prefix name.local) [] name [] PropertyElement meaning
      refl (called (root_scope more) prefix name means) (rw means refl) refl refl is.namespace (rw is.own refl) refl refl refl in
      tells_element (InObject part subject) (root_scope more) (qname prefix name.local) [] (text_inside text) (InLiteral (OfSubject part subject name) []) [] (told_of (OfSubject part subject name) text ∷ []) (part_counts part ∷ []) []
      tag in_object (literal_inside (OfSubject part subject name) (root_scope more) text short)

  link_tells : (name : QualifiedName) (prefix resource : List ℕ) (linked : Target) → is_predicate name ≡ true → Means (root_scope more) prefix name.ns → target_of resource ≡ Some linked
      → short_object (object_of_target linked) ≡ true
      → Tells (InObject part subject) (root_scope more) (link_block (qname prefix name.local) resource)
      (States part (record { subject = subject; predicate = name; object = object_of_target linked }) ∷ []) (part_counts part ∷ [])
  link_tells name prefix resource linked kept means points short =
      let is = predicate_parts name kept in
      let meaning = link_meaning part subject name linked in
      let tag = tag_is (InObject part subject) (root_scope more) (qname prefix name.local) (record { name = qname (codes "rdf") (codes "resource"); value = resource } ∷ []) name
      (record { name = resource_name; value = resource } ∷ []) PropertyElement meaning
      refl (called (root_scope more) prefix name means) (rw means refl) refl refl is.namespace (rw is.own refl) refl (ap (λ (t : Option Target). option_map (link_meaning part subject name) t) points) (rw short refl) in
      tells_empty (InObject part subject) (root_scope more) (qname prefix name.local) (record { name = qname (codes "rdf") (codes "resource"); value = resource } ∷ []) InLink (listed meaning.tells) (meaning.counts ∷ [])
      tag in_object refl refl

-- ---- what an identifier and an IRI name

pub id_again : (ident : Ident) → is_sound_ident ident ≡ true → ident_of_id (id_of ident) ≡ Some ident
id_again ident kept = ident_of_id-id_of ident kept

pub hash_again : (ident : Ident) → is_sound_ident ident ≡ true → ident_of_about (35 ∷ id_of ident) ≡ Some ident
hash_again ident kept = ident_of_about-hash (id_of ident) ∙ id_again ident kept

pub iri_target : (iri : List ℕ) → is_sound_iri iri ≡ true → (target_of iri ≡ Some (target.Iri iri)) × (nat_le (length iri) longest_iri ≡ true)
iri_target iri sound = by (is_iri iri) (ident_of_about iri) (is_text iri) (nat_le (length iri) longest_iri) refl sound
  where
    by : (iri_is : Bool) (ident : Option Ident) (text short : Bool) → is_iri iri ≡ iri_is → (iri_is && is_none ident && text && short) ≡ true → (ident_or_iri ident iri ≡ Some (target.Iri iri)) × (short ≡ true)
    by true None true true is e = (rw is refl, refl)
    by true None true false is e = absurd cc
    by true None false short is e = absurd cc
    by true (Some ident) text short is e = absurd cc
    by false ident text short is e = absurd cc

literal_short : (text : List ℕ) → (is_text text && nat_le (length text) longest_literal) ≡ true → nat_le (length text) longest_literal ≡ true
literal_short text sound = (both (is_text text) (nat_le (length text) longest_literal) sound).1

-- a property tells its statement
pub property_tells : (more : List Declaration) (part : Part) (namespaces : List (List ℕ)) (statement : Statement) → is_sound_statement statement ≡ true
    → Means (root_scope more) (prefix_of namespaces statement.predicate.ns) statement.predicate.ns
    → Tells (InObject part statement.subject) (root_scope more) (property_block namespaces statement) (States part statement ∷ []) (part_counts part ∷ [])
property_tells more part namespaces statement sound means = by statement.object (object_sound statement sound)
  where
    by : (object : Object) → is_sound_object object ≡ true
        → Tells (InObject part statement.subject) (root_scope more) (object_block (spelt_with namespaces statement.predicate) object)
        (States part (record { subject = statement.subject; predicate = statement.predicate; object = object }) ∷ []) (part_counts part ∷ [])
    by (Literal text) fits = value_tells more part statement.subject statement.predicate (prefix_of namespaces statement.predicate.ns) text (predicate_kept statement sound) means (literal_short text fits)
    by (Resource ident) fits =
        link_tells more part statement.subject statement.predicate (prefix_of namespaces statement.predicate.ns) (35 ∷ id_of ident) (target.Ident ident) (predicate_kept statement sound) means
        (ap (λ (found : Option Ident). ident_or_iri found (35 ∷ id_of ident)) (hash_again ident fits)) refl
    by (Iri iri) fits =
        let names = iri_target iri fits in
        link_tells more part statement.subject statement.predicate (prefix_of namespaces statement.predicate.ns) iri (target.Iri iri) (predicate_kept statement sound) means names.0 names.1

-- ---- properties of headers

pub in_header : (kind : Kind) → TakesFeed (InHeader kind)
in_header kind = record { takes = refl; stays = refl }

abbrev pub md_name : List ℕ → QualifiedName
md_name local = record { ns = md_namespace; local = local }

pub header_value_tells : (more : List Declaration) (kind : Kind) (property : TextProperty) (local text : List ℕ) → role_of (InHeader kind) (md_name local) ≡ HeaderText property → nat_le (length text) longest_literal ≡ true
    → Tells (InHeader kind) (root_scope more) (value_block (md local) text) (TellsText property text ∷ []) (text_counts property ∷ [])
header_value_tells more kind property local text plays short =
    let meaning : Meaning = record { inside = InLiteral (OfModel property) []; tells = None; counts = text_counts property } in
    let tag = tag_is (InHeader kind) (root_scope more) (md local) [] (md_name local) [] (HeaderText property) meaning refl refl refl refl refl refl plays refl refl refl in
    tells_element (InHeader kind) (root_scope more) (md local) [] (text_inside text) (InLiteral (OfModel property) []) [] (told_of (OfModel property) text ∷ []) (text_counts property ∷ []) []
    tag (in_header kind) (literal_inside (OfModel property) (root_scope more) text short)

pub urn_again : (id : ℕ) → id < 2 ^ 128 → ident_of_about (urn_of id) ≡ Some (Uuid id)
urn_again id small = ap (λ (found : Option ℕ). option_map Uuid found) (uuid_of-uuid_text id small)

pub header_link_tells : (more : List Declaration) (kind : Kind) (property : LinkProperty) (local : List ℕ) (id : ℕ) → role_of (InHeader kind) (md_name local) ≡ HeaderLink property → id < 2 ^ 128
    → Tells (InHeader kind) (root_scope more) (model_block (md local) id) (Links property id ∷ []) (link_counts property ∷ [])
header_link_tells more kind property local id plays small =
    let meaning = header_link_meaning property id in
    let tag = tag_is (InHeader kind) (root_scope more) (md local) (record { name = qname (codes "rdf") (codes "resource"); value = urn_of id } ∷ []) (md_name local)
    (record { name = resource_name; value = urn_of id } ∷ []) (HeaderLink property) meaning refl refl refl refl refl refl plays refl
    (ap (λ (found : Option Ident). option_map (header_link_meaning property) (uuid_in (ident_in (ident_or_iri found (urn_of id))))) (urn_again id small)) refl in
    tells_empty (InHeader kind) (root_scope more) (md local) (record { name = qname (codes "rdf") (codes "resource"); value = urn_of id } ∷ []) InLink (listed meaning.tells) (meaning.counts ∷ [])
    tag (in_header kind) refl refl
