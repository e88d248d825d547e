-- The objects of a model or a section fit where they stand, and tell its statements.
use Rattle.std.proofs.Common.{◌≡◌, ◌∙◌, ℕ, Bool, true, false, not, ◌&&◌, ◌||◌, List, [], ◌∷◌, ◌++◌, length, map, Option, None, Some, is_some, refl, sym, ap, subst, nat_le}
use Rattle.std.specs.Prelude.{codes}
use Rattle.std.specs.List.{AllByRecursion, flat_map}
use Rattle.std.specs.Option.{option_map}
use Rattle.std.proofs.lemmas.List.{map-append}
use Rattle.nm_ident.specs.Ident.{id_of, is_sound_ident}
use Rattle.nm_ident.specs.Name.{is_namespace, is_name, is_predicate, md_namespace, dm_namespace, rdf_namespace, type_name}
use Rattle.nm_ident.specs.QualifiedName.{QualifiedName}
use Rattle.nm_ident.specs.declared.ident.Ident.{Ident}
use Rattle.nm_terms.specs.Bytes.{same_text}
use Rattle.nm_statement.specs.Sound.{is_sound_statement}
use Rattle.nm_statement.specs.declared.object.Object.TheVariants.{Iri}
use Rattle.nm_statement.specs.declared.statement.Statement.{Statement}
use Rattle.nm_reader.specs.Blocks.{End}
use Rattle.nm_reader.specs.declared.counts.Counts.{Counts}
use Rattle.nm_statement.specs.Limits.{longest_iri}
use Rattle.nm_reader.specs.declared.meaning.Meaning.{Meaning}
use Rattle.nm_reader.specs.Meaning.{about_name, are_allowed, id_name, identity_of, listed, object_meaning, only_inside, part_counts}
use Rattle.nm_reader.specs.declared.fact.Fact.{Fact}
use Rattle.nm_reader.specs.declared.fact.Part.{Part}
use Rattle.nm_reader.specs.declared.fact.Fact.TheVariants.{States}
use Rattle.nm_reader.specs.Opened.{Declaration}
use Rattle.nm_reader.specs.Namespaces.{Given, are_spelt_once, given_by, has_declared_prefixes, scope_inside}
use Rattle.nm_reader.specs.declared.place.Place.{Place}
use Rattle.nm_reader.specs.Place.{description_name, is_foreign, object_role, role_of}
use Rattle.nm_reader.specs.declared.place.Place.TheVariants.{InObject}
use Rattle.nm_reader.specs.declared.place.Role.TheVariants.{ObjectElement}
use Rattle.nm_writer.specs.Canonical.{element_of, own, properties_of, subjects_of}
use Rattle.nm_writer.specs.Namespaces.{is_rdf, prefix_of}
use Rattle.nm_canon.proofs.Prefixes.{IsDeclared}
use Rattle.nm_canon.proofs.Made.{blocks_of, feed, identifying, object_of, object_with, objects_of, property_block, qname, spelt_with}
use Rattle.nm_canon.proofs.Prefixes.{Means, root_scope}
use Rattle.nm_canon.proofs.Properties.{called, hash_again, id_again, in_object, property_tells, tells_list}
use Rattle.nm_canon.proofs.Telling.{IsInside, TakesFeed, Tells, inside_of_blocks, quiet, tag_is, tells_element}

-- ---- what an object tells

abbrev pub type_of : Ident → Option QualifiedName → List Statement
type_of subject None = []
type_of subject (Some name) = record { subject = subject; predicate = type_name; object = Iri (name.ns ++ name.local) } ∷ []

abbrev pub told_of_subject : Ident → List Statement → List Statement
told_of_subject subject statements = type_of subject (element_of statements) ++ properties_of statements

-- ---- its identity

abbrev identity_given : Bool → Ident → List Given
identity_given true subject = record { name = id_name; value = id_of subject } ∷ []
identity_given false subject = record { name = about_name; value = 35 ∷ id_of subject } ∷ []

identity_is : (is_new : Bool) (subject : Ident) → is_sound_ident subject ≡ true → identity_of (identity_given is_new subject) ≡ Some subject
identity_is true subject kept = id_again subject kept
identity_is false subject kept = hash_again subject kept

module _ (more : List Declaration) (subject : Ident) where
  identity_scoped : (is_new : Bool) → scope_inside (root_scope more) (identifying is_new subject ∷ []) ≡ root_scope more
  identity_scoped true = refl
  identity_scoped false = refl

  identity_gives : (is_new : Bool) → given_by (root_scope more) (identifying is_new subject ∷ []) ≡ identity_given is_new subject
  identity_gives true = refl
  identity_gives false = refl

  identity_once : (is_new : Bool) → are_spelt_once (identifying is_new subject ∷ []) ≡ true
  identity_once true = refl
  identity_once false = refl

  identity_allowed : (is_new : Bool) (part : Part) → are_allowed (ObjectElement part) (identity_given is_new subject) ≡ true
  identity_allowed true part = refl
  identity_allowed false part = refl

  description_declared : (is_new : Bool) → has_declared_prefixes (root_scope more) (qname (codes "rdf") (codes "Description")) (identifying is_new subject ∷ []) ≡ true
  description_declared true = refl
  description_declared false = refl

  class_declared : (is_new : Bool) (prefix ns local : List ℕ) → Means (root_scope more) prefix ns → has_declared_prefixes (root_scope more) (qname prefix local) (identifying is_new subject ∷ []) ≡ true
  class_declared true prefix ns local means = rw means refl
  class_declared false prefix ns local means = rw means refl

-- ---- its class

-- a class that can name an element of a document with these declarations
pub record IsClass (more : List Declaration) (namespaces : List (List ℕ)) (name : QualifiedName) : Type 0 where
  pub kept : is_predicate name ≡ true
  pub other : is_rdf name.ns ≡ false
  pub declared : IsDeclared namespaces name.ns
  pub means : Means (root_scope more) (prefix_of namespaces name.ns) name.ns
  pub short : nat_le (length (name.ns ++ name.local)) longest_iri ≡ true

class_parts : (name : QualifiedName) → is_predicate name ≡ true → is_rdf name.ns ≡ false → (is_namespace name.ns ≡ true) × (is_foreign (codes "Description") name ≡ false)
class_parts name kept other = by (is_namespace name.ns) (is_name name.local) (same_text name.ns md_namespace) (same_text name.ns dm_namespace) (same_text name.ns rdf_namespace) (same_text name.local (codes "type")) (same_text name.local (codes "Description")) kept other
  where
    by : (n l m d r t e : Bool) → (n && l && not m && not d && (not r || t)) ≡ true → r ≡ false → (n ≡ true) × ((m || d || (r && not e)) ≡ false)
    by n l m d true t e kept other = absurd cc
    by true true false false false t e kept other = (refl, refl)
    by true true true d false t e kept other = absurd cc
    by true true false true false t e kept other = absurd cc
    by true false m d false t e kept other = absurd cc
    by false l m d false t e kept other = absurd cc

-- ---- one object

-- a place where objects of the part stand
pub record HoldsObjects (place : Place) (part : Part) : Type 0 where
  pub roles : (element : QualifiedName) → role_of place element ≡ object_role part element
  pub white : TakesFeed place

-- a statement that can be written of the subject
pub record IsToldOf (more : List Declaration) (namespaces : List (List ℕ)) (subject : Ident) (statement : Statement) : Type 0 where
  pub about : statement.subject ≡ subject
  pub sound : is_sound_statement statement ≡ true
  pub declared : IsDeclared namespaces statement.predicate.ns
  pub means : Means (root_scope more) (prefix_of namespaces statement.predicate.ns) statement.predicate.ns

singles : {X Y : Type 0} (f : X → Y) (xs : List X) → flat_map (λ x. f x ∷ []) xs ≡ map f xs
singles f [] = refl
singles f (x ∷ xs) = ap (λ (ys : List _). f x ∷ ys) (singles f xs)

module _ (more : List Declaration) (namespaces : List (List ℕ)) (place : Place) (part : Part) (holds : HoldsObjects place part) (subject : Ident) (kept : is_sound_ident subject ≡ true) where
  properties_inside : (properties : List Statement) → AllByRecursion (IsToldOf more namespaces subject) properties
      → IsInside (InObject part subject) (root_scope more) (feed (blocks_of (property_block namespaces) properties End)) (map (States part) properties) (map (λ (statement : Statement). part_counts part) properties)
  properties_inside properties each =
      inside_of_blocks (InObject part subject) (root_scope more) (blocks_of (property_block namespaces) properties) (map (States part) properties) (map (λ (statement : Statement). part_counts part) properties)
      (subst (λ (facts : List Fact). Tells (InObject part subject) (root_scope more) (blocks_of (property_block namespaces) properties) facts (map (λ (statement : Statement). part_counts part) properties)) (singles (States part) properties)
      (subst (λ (counts : List Counts). Tells (InObject part subject) (root_scope more) (blocks_of (property_block namespaces) properties) (flat_map (λ statement. States part statement ∷ []) properties) counts) (singles (λ (statement : Statement). part_counts part) properties)
      (tells_list (InObject part subject) (root_scope more) (property_block namespaces) (λ statement. States part statement ∷ []) (λ statement. part_counts part ∷ []) (IsToldOf more namespaces subject)
      (λ statement is. subst (λ (subject : Ident). Tells (InObject part subject) (root_scope more) (property_block namespaces statement) (States part statement ∷ []) (part_counts part ∷ [])) is.about (property_tells more part namespaces statement is.sound is.means)) properties each)))
      (in_object more part subject) refl refl

  object_tells : (is_new : Bool) (class : Option QualifiedName) (properties : List Statement) → ((name : QualifiedName) → class ≡ Some name → IsClass more namespaces name) → AllByRecursion (IsToldOf more namespaces subject) properties
      → Tells place (root_scope more) (object_with namespaces is_new subject class properties) (map (States part) (type_of subject class ++ properties)) (map (λ (statement : Statement). part_counts part) (type_of subject class ++ properties))
  object_tells is_new None properties classes each =
      let meaning = only_inside (InObject part subject) in
      let tag = quiet place (root_scope more) (root_scope more) (qname (codes "rdf") (codes "Description")) (identifying is_new subject ∷ []) (InObject part subject) place [] (tag_is place (root_scope more) (qname (codes "rdf") (codes "Description")) (identifying is_new subject ∷ []) description_name (identity_given is_new subject) (ObjectElement part) meaning
      (identity_scoped more subject is_new) refl (description_declared more subject is_new) (identity_once more subject is_new) (identity_gives more subject is_new) refl
      (holds.roles description_name) (identity_allowed more subject is_new part) (ap (λ (found : Option Ident). option_map (object_meaning part description_name) found) (identity_is is_new subject kept)) refl) in
      tells_element place (root_scope more) (qname (codes "rdf") (codes "Description")) (identifying is_new subject ∷ []) (feed (blocks_of (property_block namespaces) properties End)) (InObject part subject)
      [] (map (States part) properties) [] (map (λ (statement : Statement). part_counts part) properties) tag holds.white (properties_inside properties each)
  object_tells is_new (Some name) properties classes each =
      let is = classes name refl in
      let parts = class_parts name is.kept is.other in
      let meaning : Meaning = record {
        inside = InObject part subject;
        tells = Some (States part (record { subject = subject; predicate = type_name; object = Iri (name.ns ++ name.local) }));
        counts = part_counts part;
      } in
      let means : object_meaning part name subject ≡ meaning = rw is.other refl in
      let tag = tag_is place (root_scope more) (spelt_with namespaces name) (identifying is_new subject ∷ []) name (identity_given is_new subject) (ObjectElement part) meaning
      (identity_scoped more subject is_new) (called (root_scope more) (prefix_of namespaces name.ns) name is.means) (class_declared more subject is_new (prefix_of namespaces name.ns) name.ns name.local is.means)
      (identity_once more subject is_new) (identity_gives more subject is_new) parts.0
      (holds.roles name ∙ rw parts.1 refl) (identity_allowed more subject is_new part)
      (ap (λ (found : Option Ident). option_map (object_meaning part name) found) (identity_is is_new subject kept) ∙ ap (λ (m : Meaning). Some m) means) (rw is.short refl) in
      tells_element place (root_scope more) (spelt_with namespaces name) (identifying is_new subject ∷ []) (feed (blocks_of (property_block namespaces) properties End)) (InObject part subject)
      (listed meaning.tells) (map (States part) properties) (meaning.counts ∷ []) (map (λ (statement : Statement). part_counts part) properties) tag holds.white (properties_inside properties each)

-- ---- all objects

-- what is stated of the subject can be written
pub record CanBeTold (more : List Declaration) (namespaces : List (List ℕ)) (statements : List Statement) (subject : Ident) : Type 0 where
  pub kept : is_sound_ident subject ≡ true
  pub classes : (name : QualifiedName) → element_of (own statements subject) ≡ Some name → IsClass more namespaces name
  pub each : AllByRecursion (IsToldOf more namespaces subject) (properties_of (own statements subject))

joined_map : {X Y Z : Type 0} (f : Y → Z) (g : X → List Y) (xs : List X) → flat_map (λ x. map f (g x)) xs ≡ map f (flat_map g xs)
joined_map f g [] = refl
joined_map f g (x ∷ xs) = ap (λ (zs : List _). map f (g x) ++ zs) (joined_map f g xs) ∙ sym (map-append f (g x) (flat_map g xs))

-- all that the objects tell
abbrev pub told_of_all : List Statement → List Statement
told_of_all statements = flat_map (λ subject. told_of_subject subject (own statements subject)) (subjects_of statements)

pub objects_tell : (more : List Declaration) (namespaces : List (List ℕ)) (place : Place) (part : Part) (is_full : Bool) (statements : List Statement) → HoldsObjects place part
    → AllByRecursion (CanBeTold more namespaces statements) (subjects_of statements)
    → Tells place (root_scope more) (objects_of is_full namespaces statements) (map (States part) (told_of_all statements)) (map (λ (statement : Statement). part_counts part) (told_of_all statements))
objects_tell more namespaces place part is_full statements holds all =
    let told = λ (subject : Ident). told_of_subject subject (own statements subject) in
    let all_tell = tells_list place (root_scope more) (λ subject. object_of is_full namespaces subject (own statements subject)) (λ subject. map (States part) (told subject)) (λ subject. map (λ (statement : Statement). part_counts part) (told subject))
    (CanBeTold more namespaces statements)
    (λ subject is. object_tells more namespaces place part holds subject is.kept (is_full && is_some (element_of (own statements subject))) (element_of (own statements subject)) (properties_of (own statements subject)) is.classes is.each)
    (subjects_of statements) all in
    subst (λ (facts : List Fact). Tells place (root_scope more) (objects_of is_full namespaces statements) facts (map (λ (statement : Statement). part_counts part) (told_of_all statements))) (joined_map (States part) told (subjects_of statements))
    (subst (λ (counts : List Counts). Tells place (root_scope more) (objects_of is_full namespaces statements) (flat_map (λ subject. map (States part) (told subject)) (subjects_of statements)) counts) (joined_map (λ (statement : Statement). part_counts part) told (subjects_of statements)) all_tell)
