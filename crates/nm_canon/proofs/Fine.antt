-- The blocks of a sound model can be written: their names are names, and their texts are texts.
use Rattle.std.proofs.Common.{◌≡◌, ◌∙◌, ℕ, ◌+◌, Bool, true, false, ◌&&◌, ◌||◌, List, [], ◌∷◌, length, map, Option, None, Some, is_none, is_some, nat_le, refl, arith, position, if◌then◌else◌}
use Rattle.std.specs.Prelude.{◌==◌, codes}
use Rattle.std.specs.List.{AllByRecursion, enumerate_from, list_all}
use Rattle.std.proofs.Math.Bool.{or-true}
use Rattle.std.proofs.lemmas.Bool.Decides.{nat_tests}
use Rattle.nm_ident.proofs.Idents.{id_of-name_bytes, list_all-weaker}
use Rattle.nm_ident.proofs.UuidTexts.{uuid_text-all_uuid_bytes}
use Rattle.nm_ident.specs.Ident.{id_of, ident_of_about, is_iri, is_sound_ident}
use Rattle.nm_ident.specs.Name.{continues_name, dm_namespace, md_namespace, rdf_namespace, is_name, is_namespace, is_predicate}
use Rattle.nm_terms.specs.Bytes.{is_between, same_text}
use Rattle.nm_ident.specs.UuidText.{is_uuid_byte, uuid_text}
use Rattle.nm_ident.specs.QualifiedName.{QualifiedName}
use Rattle.nm_ident.specs.declared.ident.Ident.{Ident}
use Rattle.nm_statement.specs.Literal.{is_literal}
use Rattle.nm_statement.specs.Limits.{longest_iri, longest_literal}
use Rattle.nm_statement.specs.Sound.{is_sound_iri, is_sound_object}
use Rattle.nm_statement.specs.declared.object.Object.{Object}
use Rattle.nm_statement.specs.declared.object.Object.TheVariants.{Literal, Resource, Iri}
use Rattle.nm_statement.specs.declared.statement.Statement.{Statement}
use Rattle.nm_model.specs.Sound.{is_sound_header, is_sound_property}
use Rattle.nm_model.specs.declared.header.Header.{Header}
use Rattle.nm_piece.specs.declared.piece.QName.{QName}
use Rattle.nm_piece.specs.Name.{is_qname}
use Rattle.nm_reader.specs.Opened.{Declaration}
use Rattle.nm_reader.specs.Blocks.{Blocks, Element, End}
use Rattle.nm_text.specs.Characters.{is_text}
use Rattle.nm_text.specs.Utf8.{place_after}
use Rattle.nm_text.specs.declared.character.Place.TheVariants.{Between}
use Rattle.nm_writer.specs.Canonical.{element_of, own, properties_of, subjects_of}
use Rattle.nm_writer.specs.Namespaces.{cim_place, is_rdf, prefix_at, prefix_of, prefix_or_nothing}
use Rattle.nm_canon.proofs.Prefixes.{IsDeclared}
use Rattle.nm_text.proofs.Utf8Texts.{texts_by_bytes}
use Rattle.nm_canon.proofs.Made.{blocks_of, declaring, element_spelt, feed, header_block, headed, link_block, md, model_block, object_block, object_of, object_with, objects_of, optional_block, property_block, rdf_attribute, root, section_block, namespace_entry, spelt_with, text_inside, urn_of, value_block}
use Rattle.nm_canon.proofs.Prefixes.{prefix_at_is_name}
use Rattle.nm_canon.proofs.Declared.{IsNamespace, any_of}
use Rattle.nm_canon.proofs.Documents.{both, object_sound, predicate_kept}
use Rattle.nm_canon.proofs.Headers.{every_of, header_parts, profiles_parts}
use Rattle.nm_canon.proofs.Objects.{CanBeTold, IsClass, IsToldOf}
use Rattle.nm_canon.proofs.Properties.{predicate_parts}
use Rattle.nm_canon.proofs.Tags.{IsRun, IsWritten}
use Rattle.nm_canon.proofs.Written.{BeginsWithTag, CanBeWritten}

-- ---- texts of visible ASCII

abbrev is_ascii : ℕ → Bool
is_ascii byte = is_between 0x20 0x7F byte

ascii_stays : (bytes : List ℕ) → list_all is_ascii bytes ≡ true → place_after Between bytes ≡ Between
ascii_stays [] all = refl
ascii_stays (byte ∷ bytes) all = by (is_ascii byte) refl all (ascii_stays bytes)
  where
    by : (ascii : Bool) → is_ascii byte ≡ ascii → (ascii && list_all is_ascii bytes) ≡ true → (list_all is_ascii bytes ≡ true → place_after Between bytes ≡ Between) → place_after Between (byte ∷ bytes) ≡ Between
    by false is both others = absurd cc
    by true is both others = rw (is, or-true ((byte == 0x9) || (byte == 0xA) || (byte == 0xD))) (others both)

ascii_text : (bytes : List ℕ) → list_all is_ascii bytes ≡ true → is_text bytes ≡ true
ascii_text bytes all = texts_by_bytes bytes ∙ rw (ascii_stays bytes all) refl

name_byte_is_ascii : (byte : ℕ) → continues_name byte ≡ true → is_ascii byte ≡ true
name_byte_is_ascii byte is = grind (arith, nat_tests)

uuid_byte_is_ascii : (byte : ℕ) → is_uuid_byte byte ≡ true → is_ascii byte ≡ true
uuid_byte_is_ascii byte is = grind (arith, nat_tests)

visible_is_ascii : (byte : ℕ) → is_between 33 126 byte ≡ true → is_ascii byte ≡ true
visible_is_ascii byte is = grind (arith, nat_tests)

id_ascii : (ident : Ident) → is_sound_ident ident ≡ true → list_all is_ascii (id_of ident) ≡ true
id_ascii ident kept = list_all-weaker continues_name is_ascii name_byte_is_ascii (id_of ident) (id_of-name_bytes ident kept)

urn_text : (id : ℕ) → is_text (urn_of id) ≡ true
urn_text id = ascii_text (urn_of id) (list_all-weaker is_uuid_byte is_ascii uuid_byte_is_ascii (uuid_text id) (uuid_text-all_uuid_bytes id))

namespace_bytes : (ns : List ℕ) → is_namespace ns ≡ true → list_all (is_between 33 126) ns ≡ true
namespace_bytes ns is = grind arith

pub namespace_text : (ns : List ℕ) → is_namespace ns ≡ true → is_text ns ≡ true
namespace_text ns is = ascii_text ns (list_all-weaker (is_between 33 126) is_ascii visible_is_ascii ns (namespace_bytes ns is))

-- ---- lines

-- blocks before which a line may end
pub record IsFine (blocks : Blocks) : Type 0 where
  pub begins : BeginsWithTag blocks
  pub written : CanBeWritten blocks

pub end_fine : IsFine End
end_fine = record { begins = tt; written = tt }

feed_run : IsRun (10 ∷ [])
feed_run = record { first = 10; others = []; some = refl; characters = texts_by_bytes (10 ∷ []) }

pub feed_written : (blocks : Blocks) → IsFine blocks → CanBeWritten (feed blocks)
feed_written blocks fine = (feed_run, fine.begins, fine.written)

text_written : (text : List ℕ) → is_text text ≡ true → CanBeWritten (text_inside text)
text_written [] is = tt
text_written (byte ∷ text) is = (record { first = byte; others = text; some = refl; characters = is }, tt, tt)

pub value_fine : (name : QName) (text : List ℕ) (behind : Blocks) → is_qname name ≡ true → is_text text ≡ true → IsFine behind → IsFine (value_block name text behind)
value_fine name text behind named is fine =
    record { begins = tt; written = (record { named = named; each = tt }, text_written text is, feed_written behind fine) }

pub link_fine : (name : QName) (target : List ℕ) (behind : Blocks) → is_qname name ≡ true → is_text target ≡ true → IsFine behind → IsFine (link_block name target behind)
link_fine name target behind named is fine =
    record { begins = tt; written = (record { named = named; each = (record { named = refl; characters = is }, tt) }, feed_written behind fine) }

-- an element with one attribute, whose lines are these
pub element_fine : (name : QName) (local value : List ℕ) (inside behind : Blocks) → is_qname name ≡ true → is_name local ≡ true → is_text value ≡ true → IsFine inside → IsFine behind
    → IsFine (Element name (rdf_attribute local value ∷ []) (feed inside) (feed behind))
element_fine name local value inside behind named called is within fine =
    record { begins = tt; written = (record { named = named; each = (record { named = rw called refl; characters = is }, tt) }, feed_written inside within, feed_written behind fine) }

pub list_fine : {X : Type 0} (P : X → Type 0) (block : X → Blocks → Blocks) → ((x : X) (behind : Blocks) → P x → IsFine behind → IsFine (block x behind)) → (xs : List X) (behind : Blocks) → AllByRecursion P xs → IsFine behind
    → IsFine (blocks_of block xs behind)
list_fine P block each [] behind all fine = fine
list_fine P block each (x ∷ xs) behind all fine = each x (blocks_of block xs behind) all.0 (list_fine P block each xs behind all.1 fine)

-- ---- objects

prefix_is_name : (namespaces : List (List ℕ)) (ns : List ℕ) → IsDeclared namespaces ns → is_name (prefix_of namespaces ns) ≡ true
prefix_is_name namespaces ns declared = by (is_rdf ns) refl
  where
    by : (rdf : Bool) → is_rdf ns ≡ rdf → is_name (if rdf then codes "rdf" else prefix_or_nothing namespaces (position (same_text ns) namespaces)) ≡ true
    by true is = refl
    by false is = let at = declared is in rw at.1 (prefix_at_is_name (cim_place namespaces) at.0)

spelt_named : (namespaces : List (List ℕ)) (name : QualifiedName) → is_predicate name ≡ true → IsDeclared namespaces name.ns → is_qname (spelt_with namespaces name) ≡ true
spelt_named namespaces name kept declared = rw (prefix_is_name namespaces name.ns declared, (predicate_parts name kept).named) refl

iri_text : (iri : List ℕ) → is_sound_iri iri ≡ true → is_text iri ≡ true
iri_text iri sound =
    let last = both (is_iri iri && is_none (ident_of_about iri) && is_text iri) (nat_le (length iri) longest_iri) sound in
    (both (is_iri iri && is_none (ident_of_about iri)) (is_text iri) last.0).1

hash_text : (ident : Ident) → is_sound_ident ident ≡ true → is_text (35 ∷ id_of ident) ≡ true
hash_text ident kept = ascii_text (35 ∷ id_of ident) (id_ascii ident kept)

object_fine : (name : QName) (object : Object) (behind : Blocks) → is_qname name ≡ true → is_sound_object object ≡ true → IsFine behind → IsFine (object_block name object behind)
object_fine name (Literal text) behind named sound fine = value_fine name text behind named (both (is_text text) (nat_le (length text) longest_literal) sound).0 fine
object_fine name (Resource ident) behind named sound fine = link_fine name (35 ∷ id_of ident) behind named (hash_text ident sound) fine
object_fine name (Iri iri) behind named sound fine = link_fine name iri behind named (iri_text iri sound) fine

module _ (more : List Declaration) (namespaces : List (List ℕ)) where
  property_fine : (subject : Ident) (statement : Statement) (behind : Blocks) → IsToldOf more namespaces subject statement → IsFine behind → IsFine (property_block namespaces statement behind)
  property_fine subject statement behind is fine =
      object_fine (spelt_with namespaces statement.predicate) statement.object behind (spelt_named namespaces statement.predicate (predicate_kept statement is.sound) is.declared) (object_sound statement is.sound) fine

  element_named : (class : Option QualifiedName) → ((name : QualifiedName) → class ≡ Some name → IsClass more namespaces name) → is_qname (element_spelt namespaces class) ≡ true
  element_named None classes = refl
  element_named (Some name) classes = let is = classes name refl in spelt_named namespaces name is.kept is.declared

  object_with_fine : (is_new : Bool) (subject : Ident) (class : Option QualifiedName) (properties : List Statement) (behind : Blocks) → is_sound_ident subject ≡ true
      → ((name : QualifiedName) → class ≡ Some name → IsClass more namespaces name) → AllByRecursion (IsToldOf more namespaces subject) properties → IsFine behind → IsFine (object_with namespaces is_new subject class properties behind)
  object_with_fine is_new subject class properties behind kept classes each fine = by is_new
    where
      inside : Blocks
      inside = blocks_of (property_block namespaces) properties End

      by : (is_new : Bool) → IsFine (object_with namespaces is_new subject class properties behind)
      by true =
          element_fine (element_spelt namespaces class) (codes "ID") (id_of subject) (blocks_of (property_block namespaces) properties End) behind (element_named class classes) refl (ascii_text (id_of subject) (id_ascii subject kept))
          (list_fine (IsToldOf more namespaces subject) (property_block namespaces) (property_fine subject) properties End each end_fine) fine
      by false =
          element_fine (element_spelt namespaces class) (codes "about") (35 ∷ id_of subject) (blocks_of (property_block namespaces) properties End) behind (element_named class classes) refl (hash_text subject kept)
          (list_fine (IsToldOf more namespaces subject) (property_block namespaces) (property_fine subject) properties End each end_fine) fine

  pub objects_fine : (is_full : Bool) (statements : List Statement) (behind : Blocks) → AllByRecursion (CanBeTold more namespaces statements) (subjects_of statements) → IsFine behind → IsFine (objects_of is_full namespaces statements behind)
  objects_fine is_full statements behind all fine =
      list_fine (CanBeTold more namespaces statements) (λ subject. object_of is_full namespaces subject (own statements subject))
      (λ subject behind is fine. object_with_fine (is_full && is_some (element_of (own statements subject))) subject (element_of (own statements subject)) (properties_of (own statements subject)) behind is.kept is.classes is.each fine)
      (subjects_of statements) behind all fine

  pub section_fine : (name : QName) (statements : List Statement) (behind : Blocks) → is_qname name ≡ true → AllByRecursion (CanBeTold more namespaces statements) (subjects_of statements) → IsFine behind → IsFine (section_block namespaces name statements behind)
  section_fine name statements behind named all fine =
      element_fine name (codes "parseType") (codes "Statements") (objects_of false namespaces statements End) behind named refl (texts_by_bytes (codes "Statements")) (objects_fine false statements End all end_fine) fine

-- ---- headers

optional_fine : (name : QName) (text : Option (List ℕ)) (behind : Blocks) → is_qname name ≡ true → is_sound_property text ≡ true → IsFine behind → IsFine (optional_block name text behind)
optional_fine name None behind named sound fine = fine
optional_fine name (Some text) behind named sound fine = value_fine name text behind named (both (is_text text) (nat_le (length text) longest_literal) sound).0 fine

models_fine : (name : QName) (ids : List ℕ) (behind : Blocks) → is_qname name ≡ true → IsFine behind → IsFine (blocks_of (model_block name) ids behind)
models_fine name ids behind named fine = list_fine (λ (id : ℕ). Unit {0}) (model_block name) (λ id behind any fine. link_fine name (urn_of id) behind named (urn_text id) fine) ids behind (any_of ids) fine

profiles_fine : (name : QName) (texts : List (List ℕ)) (behind : Blocks) → is_qname name ≡ true → list_all is_literal texts ≡ true → IsFine behind → IsFine (blocks_of (value_block name) texts behind)
profiles_fine name texts behind named sound fine =
    list_fine (λ text. is_literal text ≡ true) (value_block name) (λ text behind is fine. value_fine name text behind named (both (is_text text) (nat_le (length text) longest_literal) is).0 fine) texts behind (every_of is_literal texts sound) fine

pub header_fine : (header : Header) (behind : Blocks) → is_sound_header header ≡ true → IsFine behind → IsFine (header_block header behind)
header_fine header behind sound fine =
    let is = header_parts header sound in
    optional_fine (md (codes "Model.created")) header.created _ refl is.created
    (optional_fine (md (codes "Model.scenarioTime")) header.scenario_time _ refl is.scenario_time
    (optional_fine (md (codes "Model.version")) header.version _ refl is.version
    (optional_fine (md (codes "Model.description")) header.description _ refl is.description
    (optional_fine (md (codes "Model.modelingAuthoritySet")) header.authority _ refl is.authority
    (profiles_fine (md (codes "Model.profile")) header.profiles _ refl (profiles_parts header.profiles is.profiles).0
    (models_fine (md (codes "Model.DependentOn")) header.depends _ refl
    (models_fine (md (codes "Model.Supersedes")) header.supersedes behind refl fine)))))))

pub headed_fine : (name : QName) (id : ℕ) (inside behind : Blocks) → is_qname name ≡ true → IsFine inside → IsFine behind → IsFine (headed name id inside behind)
headed_fine name id inside behind named within fine = element_fine name (codes "about") (urn_of id) inside behind named refl (urn_text id) within fine

-- ---- the root

declared_written : (prefix ns : List ℕ) → is_name prefix ≡ true → is_namespace ns ≡ true → IsWritten (declaring prefix ns)
declared_written prefix ns named is = record { named = rw named refl; characters = namespace_text ns is }

namespaces_written : (cim : Option ℕ) (start : ℕ) (namespaces : List (List ℕ)) → AllByRecursion IsNamespace namespaces → AllByRecursion IsWritten (map (namespace_entry cim) (enumerate_from start namespaces))
namespaces_written cim start [] kept = tt
namespaces_written cim start (ns ∷ namespaces) kept = (declared_written (prefix_at cim start) ns (prefix_at_is_name cim start) kept.0, namespaces_written cim (start + 1) namespaces kept.1)

pub full_root_written : (namespaces : List (List ℕ)) (inside : Blocks) → AllByRecursion IsNamespace namespaces → IsFine inside → CanBeWritten (root [] namespaces inside)
full_root_written namespaces inside kept fine =
    (feed_run, tt, (record { named = refl; each = (declared_written (codes "rdf") rdf_namespace refl refl, (declared_written (codes "md") md_namespace refl refl, namespaces_written (cim_place namespaces) 0 namespaces kept)) }, feed_written inside fine, feed_written End end_fine))

pub difference_root_written : (namespaces : List (List ℕ)) (inside : Blocks) → AllByRecursion IsNamespace namespaces → IsFine inside → CanBeWritten (root (declaring (codes "dm") dm_namespace ∷ []) namespaces inside)
difference_root_written namespaces inside kept fine =
    (feed_run, tt, (record { named = refl; each = (declared_written (codes "rdf") rdf_namespace refl refl, (declared_written (codes "md") md_namespace refl refl, (declared_written (codes "dm") dm_namespace refl refl, namespaces_written (cim_place namespaces) 0 namespaces kept))) }, feed_written inside fine, feed_written End end_fine))
