-- The canonical document of a model: the one spelling of it that is written.
use Rattle.std.specs.Prelude.{◌≡◌, ℕ, ◌+◌, ◌<◌, List, [], ◌∷◌, ◌++◌, length, take, drop, Bool, true, false, not, ◌&&◌, ◌||◌, Option, None, Some, ◌==◌, codes, if◌then◌else◌, reverse, is_some, map}
use Rattle.std.specs.List.{flat_map, filter, enumerate_from, prefix_len}
use Rattle.std.specs.Ordering.{is_eq}
use Rattle.nm_ident.specs.QualifiedName.{QualifiedName}
use Rattle.nm_ident.specs.Name.{rdf_namespace, md_namespace, dm_namespace, type_name, is_predicate}
use Rattle.nm_ident.specs.Ident.{id_of}
use Rattle.nm_ident.specs.Order.{ident_cmp, name_cmp}
use Rattle.nm_ident.specs.UuidText.{uuid_text}
use Rattle.nm_ident.specs.declared.ident.Ident.{Ident}
use Rattle.nm_statement.specs.declared.object.Object.{Object}
use Rattle.nm_statement.specs.declared.object.Object.TheVariants.{Literal, Resource, Iri}
use Rattle.nm_statement.specs.declared.set.Change.{Change}
use Rattle.nm_statement.specs.declared.statement.Statement.{Statement}
use Rattle.nm_model.specs.declared.header.Header.{Header}
use Rattle.nm_model.specs.declared.document.Full.{Full}
use Rattle.nm_model.specs.declared.document.Difference.{Difference}
use Rattle.nm_model.specs.declared.document.Document.{Document}
use Rattle.nm_model.specs.declared.document.Document.TheVariants as document
use Rattle.nm_text.specs.Escape.{text_spelling, attribute_spelling}
use Rattle.nm_writer.specs.Namespaces.{rising_texts, is_rdf, cim_place, prefix_at, prefix_of}

-- ---- the objects of a set, grouped by subject

abbrev pub is_about : Ident → Statement → Bool
is_about subject statement = is_eq (ident_cmp subject statement.subject)

-- the subjects of a list of statements, each where it stands first
abbrev pub subjects_of : List Statement → List Ident
subjects_of [] = []
subjects_of (statement ∷ statements) =
    statement.subject ∷ filter (λ subject. not (is_eq (ident_cmp statement.subject subject))) (subjects_of statements)

-- what is stated of a subject
abbrev pub own : List Statement → Ident → List Statement
own statements subject = filter (is_about subject) statements

-- how many statements at the front are of the first one's subject
abbrev pub group_length : List Statement → ℕ
group_length [] = 0
group_length (statement ∷ statements) = 1 + prefix_len (is_about statement.subject) statements

-- ---- the type that names an element

-- the bytes up to the last `#` or `/`, and those after it, of a text that is read from its end
abbrev pub split_back : List ℕ → List ℕ → QualifiedName
split_back [] after = record { ns = []; local = after }
split_back (byte ∷ before) after =
    if (byte == 35) || (byte == 47) then record { ns = reverse (byte ∷ before); local = after }
    else split_back before (byte ∷ after)

-- an IRI split after its last `#` or `/`
abbrev pub split_iri : List ℕ → QualifiedName
split_iri iri = split_back (reverse iri) []

-- the class that can name an element: a name outside RDF's namespace
abbrev pub class_of_iri : List ℕ → Option QualifiedName
class_of_iri iri =
    let name = split_iri iri in if is_predicate name && not (is_rdf name.ns) then Some name else None

abbrev pub class_of_object : Object → Option QualifiedName
class_of_object (Literal text) = None
class_of_object (Resource ident) = None
class_of_object (Iri iri) = class_of_iri iri

-- the class that the statement gives its subject, where that can name an element
abbrev pub class_of : Statement → Option QualifiedName
class_of statement = if is_eq (name_cmp statement.predicate type_name) then class_of_object statement.object else None

abbrev pub or_else : Option QualifiedName → Option QualifiedName → Option QualifiedName
or_else None other = other
or_else (Some name) other = Some name

-- the class of the first statement that gives one: the least, where the statements are in order
abbrev pub element_of : List Statement → Option QualifiedName
element_of [] = None
element_of (statement ∷ statements) = or_else (class_of statement) (element_of statements)

-- the statements other than the one that names the element
abbrev pub properties_of : List Statement → List Statement
properties_of [] = []
properties_of (statement ∷ statements) =
    if is_some (class_of statement) then statements else statement ∷ properties_of statements

-- the statement at the place names the element, and the others are its properties
pub record IsNamedBy (statements : List Statement) (place : ℕ) (name : QualifiedName) : Type 0 where
  pub within : place < length statements
  pub class : element_of statements ≡ Some name
  pub others : properties_of statements ≡ take place statements ++ drop (place + 1) statements

-- ---- namespaces

abbrev pub namespace_of : Option QualifiedName → List (List ℕ)
namespace_of None = []
namespace_of (Some name) = name.ns ∷ []

abbrev pub element_namespace : List Statement → Ident → List (List ℕ)
element_namespace statements subject = namespace_of (element_of (own statements subject))

-- the namespaces of the classes that name elements
abbrev pub class_namespaces : List Statement → List (List ℕ)
class_namespaces statements = flat_map (element_namespace statements) (subjects_of statements)

-- the namespaces of the predicates, and of the classes that name elements
abbrev pub namespaces_in : List Statement → List (List ℕ)
namespaces_in statements = map (λ statement. statement.predicate.ns) statements ++ class_namespaces statements

-- those of all sections that a document declares, in the order of their bytes
abbrev pub namespaces_of : List (List Statement) → List (List ℕ)
namespaces_of sections = rising_texts (filter (λ ns. not (is_rdf ns)) (flat_map namespaces_in sections))

-- ---- lines

abbrev pub line_feed : List ℕ
line_feed = 10 ∷ []

abbrev pub tag_of : List (List ℕ) → QualifiedName → List ℕ
tag_of namespaces name = prefix_of namespaces name.ns ++ codes ":" ++ name.local

abbrev pub value_line : List ℕ → List ℕ → List ℕ
value_line tag text = codes "<" ++ tag ++ codes ">" ++ text_spelling text ++ codes "</" ++ tag ++ codes ">" ++ line_feed

abbrev pub link_line : List ℕ → List ℕ → List ℕ
link_line tag target = codes "<" ++ tag ++ codes " rdf:resource=\"" ++ target ++ codes "\"/>" ++ line_feed

abbrev pub object_line : List ℕ → Object → List ℕ
object_line tag (Literal text) = value_line tag text
object_line tag (Resource ident) = link_line tag (codes "#" ++ id_of ident)
object_line tag (Iri iri) = link_line tag (attribute_spelling iri)

-- one property of a subject
abbrev pub property_line : List (List ℕ) → Statement → List ℕ
property_line namespaces statement = object_line (tag_of namespaces statement.predicate) statement.object

abbrev pub element_tag : List (List ℕ) → Option QualifiedName → List ℕ
element_tag namespaces None = codes "rdf:Description"
element_tag namespaces (Some name) = tag_of namespaces name

-- a full model says `rdf:ID` of what it gives a class, all else is `rdf:about`
abbrev pub identity : Bool → Ident → List ℕ
identity true subject = codes " rdf:ID=\"" ++ id_of subject ++ codes "\""
identity false subject = codes " rdf:about=\"#" ++ id_of subject ++ codes "\""

abbrev pub element_start : List ℕ → Bool → Ident → List ℕ
element_start tag is_new subject = codes "<" ++ tag ++ identity is_new subject ++ codes ">" ++ line_feed

abbrev pub closing : List ℕ → List ℕ
closing tag = codes "</" ++ tag ++ codes ">" ++ line_feed

-- the object of a subject, of which these are the statements
abbrev pub element : Bool → List (List ℕ) → Ident → List Statement → List ℕ
element is_full namespaces subject statements =
    let name = element_of statements in let tag = element_tag namespaces name in
    element_start tag (is_full && is_some name) subject
    ++ flat_map (property_line namespaces) (properties_of statements)
    ++ closing tag

-- the objects of a model or of a section, in order
abbrev pub elements : Bool → List (List ℕ) → List Statement → List ℕ
elements is_full namespaces statements =
    flat_map (λ subject. element is_full namespaces subject (own statements subject)) (subjects_of statements)

-- ---- the header

abbrev pub optional_line : List ℕ → Option (List ℕ) → List ℕ
optional_line tag None = []
optional_line tag (Some text) = value_line tag text

abbrev pub model_line : List ℕ → ℕ → List ℕ
model_line tag id = link_line tag (codes "urn:uuid:" ++ uuid_text id)

abbrev pub header_lines : Header → List ℕ
header_lines header =
    optional_line (codes "md:Model.created") header.created
    ++ optional_line (codes "md:Model.scenarioTime") header.scenario_time
    ++ optional_line (codes "md:Model.version") header.version
    ++ optional_line (codes "md:Model.description") header.description
    ++ optional_line (codes "md:Model.modelingAuthoritySet") header.authority
    ++ flat_map (value_line (codes "md:Model.profile")) header.profiles
    ++ flat_map (model_line (codes "md:Model.DependentOn")) header.depends
    ++ flat_map (model_line (codes "md:Model.Supersedes")) header.supersedes

abbrev pub header_start : List ℕ → ℕ → List ℕ
header_start tag id = codes "<" ++ tag ++ codes " rdf:about=\"urn:uuid:" ++ uuid_text id ++ codes "\">" ++ line_feed

-- ---- the document

abbrev pub declaration : List ℕ → List ℕ → List ℕ
declaration prefix ns = codes " xmlns:" ++ prefix ++ codes "=\"" ++ attribute_spelling ns ++ codes "\""

-- the declarations of the namespaces in use
abbrev pub declarations : List (List ℕ) → List ℕ
declarations namespaces =
    flat_map (λ entry. declaration (prefix_at (cim_place namespaces) entry.0) entry.1) (enumerate_from 0 namespaces)

abbrev pub xml_line : List ℕ
xml_line = codes "<?xml version=\"1.0\" encoding=\"UTF-8\"?>" ++ line_feed

abbrev pub root_start : List ℕ
root_start = codes "<rdf:RDF" ++ declaration (codes "rdf") rdf_namespace ++ declaration (codes "md") md_namespace

abbrev pub front : List ℕ → List (List ℕ) → List ℕ
front declared namespaces = xml_line ++ root_start ++ declared ++ declarations namespaces ++ codes ">" ++ line_feed

abbrev pub canonical_full : Full → List ℕ
canonical_full full =
    let namespaces = namespaces_of (full.statements ∷ []) in
    front [] namespaces
    ++ header_start (codes "md:FullModel") full.header.id ++ header_lines full.header ++ closing (codes "md:FullModel")
    ++ elements true namespaces full.statements
    ++ closing (codes "rdf:RDF")

abbrev pub section : List ℕ → List (List ℕ) → List Statement → List ℕ
section tag namespaces statements =
    codes "<" ++ tag ++ codes " rdf:parseType=\"Statements\">" ++ line_feed
    ++ elements false namespaces statements ++ closing tag

-- all three, also those that state nothing
abbrev pub sections : List (List ℕ) → Change → List ℕ
sections namespaces change =
    section (codes "dm:preconditions") namespaces change.pre
    ++ section (codes "dm:forwardDifferences") namespaces change.fwd
    ++ section (codes "dm:reverseDifferences") namespaces change.rev

abbrev pub canonical_difference : Difference → List ℕ
canonical_difference difference =
    let change = difference.change in
    let namespaces = namespaces_of (change.pre ∷ change.fwd ∷ change.rev ∷ []) in
    front (declaration (codes "dm") dm_namespace) namespaces
    ++ header_start (codes "dm:DifferenceModel") difference.header.id ++ header_lines difference.header
    ++ sections namespaces change
    ++ closing (codes "dm:DifferenceModel")
    ++ closing (codes "rdf:RDF")

abbrev pub canonical_of : Document → List ℕ
canonical_of (document.Full full) = canonical_full full
canonical_of (document.Difference difference) = canonical_difference difference
