-- The blocks that a canonical document spells.
use Rattle.std.specs.Prelude.{ℕ, List, [], ◌∷◌, ◌++◌, Bool, true, false, ◌&&◌, Option, None, Some, is_some, codes, map}
use Rattle.std.specs.List.{enumerate_from}
use Rattle.nm_ident.specs.Ident.{id_of, urn_prefix}
use Rattle.nm_ident.specs.Name.{dm_namespace, md_namespace, rdf_namespace}
use Rattle.nm_ident.specs.QualifiedName.{QualifiedName}
use Rattle.nm_ident.specs.UuidText.{uuid_text}
use Rattle.nm_ident.specs.declared.ident.Ident.{Ident}
use Rattle.nm_statement.specs.declared.object.Object.{Object}
use Rattle.nm_statement.specs.declared.object.Object.TheVariants.{Literal, Resource, Iri}
use Rattle.nm_statement.specs.declared.set.Change.{Change}
use Rattle.nm_statement.specs.declared.statement.Statement.{Statement}
use Rattle.nm_model.specs.declared.header.Header.{Header}
use Rattle.nm_model.specs.declared.document.Full.{Full}
use Rattle.nm_model.specs.declared.document.Difference.{Difference}
use Rattle.nm_model.specs.declared.document.Document.{Document}
use Rattle.nm_model.specs.declared.document.Document.TheVariants as document
use Rattle.nm_piece.specs.declared.piece.Attribute.{Attribute}
use Rattle.nm_piece.specs.declared.piece.QName.{QName}
use Rattle.nm_reader.specs.Blocks.{Blocks, Element, Empty, End, Text}
use Rattle.nm_writer.specs.Canonical.{element_of, own, properties_of, namespaces_of, subjects_of}
use Rattle.nm_writer.specs.Namespaces.{cim_place, prefix_at, prefix_of}

-- ---- names and attributes

abbrev pub qname : List ℕ → List ℕ → QName
qname prefix local = record { prefix = Some prefix; local = local }

abbrev pub attribute : List ℕ → List ℕ → List ℕ → Attribute
attribute prefix local value = record { name = qname prefix local; value = value }

abbrev pub rdf_attribute : List ℕ → List ℕ → Attribute
rdf_attribute local value = attribute (codes "rdf") local value

abbrev pub declaring : List ℕ → List ℕ → Attribute
declaring prefix ns = attribute (codes "xmlns") prefix ns

-- the name as it is written in a document with these namespaces
abbrev pub spelt_with : List (List ℕ) → QualifiedName → QName
spelt_with namespaces name = qname (prefix_of namespaces name.ns) name.local

-- ---- lines

abbrev pub feed : Blocks → Blocks
feed behind = Text (10 ∷ []) behind

abbrev pub text_inside : List ℕ → Blocks
text_inside [] = End
text_inside (byte ∷ text) = Text (byte ∷ text) End

abbrev pub value_block : QName → List ℕ → Blocks → Blocks
value_block name text behind = Element name [] (text_inside text) (feed behind)

abbrev pub link_block : QName → List ℕ → Blocks → Blocks
link_block name target behind = Empty name (rdf_attribute (codes "resource") target ∷ []) (feed behind)

abbrev pub object_block : QName → Object → Blocks → Blocks
object_block name (Literal text) behind = value_block name text behind
object_block name (Resource ident) behind = link_block name (35 ∷ id_of ident) behind
object_block name (Iri iri) behind = link_block name iri behind

abbrev pub property_block : List (List ℕ) → Statement → Blocks → Blocks
property_block namespaces statement behind = object_block (spelt_with namespaces statement.predicate) statement.object behind

-- ---- lists

abbrev pub blocks_of : {X : Type 0} → (X → Blocks → Blocks) → List X → Blocks → Blocks
blocks_of block [] behind = behind
blocks_of block (x ∷ xs) behind = block x (blocks_of block xs behind)

-- ---- objects

abbrev pub element_spelt : List (List ℕ) → Option QualifiedName → QName
element_spelt namespaces None = qname (codes "rdf") (codes "Description")
element_spelt namespaces (Some name) = spelt_with namespaces name

abbrev pub identifying : Bool → Ident → Attribute
identifying true subject = rdf_attribute (codes "ID") (id_of subject)
identifying false subject = rdf_attribute (codes "about") (35 ∷ id_of subject)

abbrev pub object_with : List (List ℕ) → Bool → Ident → Option QualifiedName → List Statement → Blocks → Blocks
object_with namespaces is_new subject class properties behind =
    Element (element_spelt namespaces class) (identifying is_new subject ∷ []) (feed (blocks_of (property_block namespaces) properties End)) (feed behind)

abbrev pub object_of : Bool → List (List ℕ) → Ident → List Statement → Blocks → Blocks
object_of is_full namespaces subject statements behind =
    object_with namespaces (is_full && is_some (element_of statements)) subject (element_of statements) (properties_of statements) behind

abbrev pub objects_of : Bool → List (List ℕ) → List Statement → Blocks → Blocks
objects_of is_full namespaces statements behind =
    blocks_of (λ subject. object_of is_full namespaces subject (own statements subject)) (subjects_of statements) behind

-- ---- headers

abbrev pub md : List ℕ → QName
md local = qname (codes "md") local

abbrev pub dm : List ℕ → QName
dm local = qname (codes "dm") local

abbrev pub optional_block : QName → Option (List ℕ) → Blocks → Blocks
optional_block name None behind = behind
optional_block name (Some text) behind = value_block name text behind

abbrev pub urn_of : ℕ → List ℕ
urn_of id = urn_prefix ++ uuid_text id

abbrev pub model_block : QName → ℕ → Blocks → Blocks
model_block name id behind = link_block name (urn_of id) behind

abbrev pub header_block : Header → Blocks → Blocks
header_block header behind =
    optional_block (md (codes "Model.created")) header.created
    (optional_block (md (codes "Model.scenarioTime")) header.scenario_time
    (optional_block (md (codes "Model.version")) header.version
    (optional_block (md (codes "Model.description")) header.description
    (optional_block (md (codes "Model.modelingAuthoritySet")) header.authority
    (blocks_of (value_block (md (codes "Model.profile"))) header.profiles
    (blocks_of (model_block (md (codes "Model.DependentOn"))) header.depends
    (blocks_of (model_block (md (codes "Model.Supersedes"))) header.supersedes behind)))))))

abbrev pub headed : QName → ℕ → Blocks → Blocks → Blocks
headed name id inside behind = Element name (rdf_attribute (codes "about") (urn_of id) ∷ []) (feed inside) (feed behind)

-- ---- documents

abbrev pub namespace_entry : Option ℕ → ℕ × List ℕ → Attribute
namespace_entry cim entry = declaring (prefix_at cim entry.0) entry.1

abbrev pub namespace_attributes : List (List ℕ) → List Attribute
namespace_attributes namespaces = map (namespace_entry (cim_place namespaces)) (enumerate_from 0 namespaces)

abbrev pub root : List Attribute → List (List ℕ) → Blocks → Blocks
root declared namespaces inside =
    feed (Element (qname (codes "rdf") (codes "RDF")) (declaring (codes "rdf") rdf_namespace ∷ declaring (codes "md") md_namespace ∷ (declared ++ namespace_attributes namespaces)) (feed inside) (feed End))

abbrev pub full_blocks : Full → Blocks
full_blocks full =
    let namespaces = namespaces_of (full.statements ∷ []) in
    root [] namespaces (headed (md (codes "FullModel")) full.header.id (header_block full.header End) (objects_of true namespaces full.statements End))

abbrev pub section_block : List (List ℕ) → QName → List Statement → Blocks → Blocks
section_block namespaces name statements behind =
    Element name (rdf_attribute (codes "parseType") (codes "Statements") ∷ []) (feed (objects_of false namespaces statements End)) (feed behind)

abbrev pub sections_block : List (List ℕ) → Change → Blocks → Blocks
sections_block namespaces change behind =
    section_block namespaces (dm (codes "preconditions")) change.pre
    (section_block namespaces (dm (codes "forwardDifferences")) change.fwd
    (section_block namespaces (dm (codes "reverseDifferences")) change.rev behind))

abbrev pub difference_blocks : Difference → Blocks
difference_blocks difference =
    let change = difference.change in
    let namespaces = namespaces_of (change.pre ∷ change.fwd ∷ change.rev ∷ []) in
    root (declaring (codes "dm") dm_namespace ∷ []) namespaces
    (headed (dm (codes "DifferenceModel")) difference.header.id (header_block difference.header (sections_block namespaces change End)) End)

-- what stands behind the XML declaration
abbrev pub document_blocks : Document → Blocks
document_blocks (document.Full full) = full_blocks full
document_blocks (document.Difference difference) = difference_blocks difference
