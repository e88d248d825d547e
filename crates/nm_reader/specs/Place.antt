-- The places of a document, and what an element is in its place (RDF/XML, section 7; IEC 61970-552).
use Rattle.std.specs.Prelude.{ℕ, List, [], ◌∷◌, Bool, ◌&&◌, ◌||◌, not, codes, if◌then◌else◌}
use Rattle.nm_ident.specs.Name.{dm_namespace, md_namespace, rdf_namespace}
use Rattle.nm_terms.specs.Bytes.{same_text}
use Rattle.nm_ident.specs.QualifiedName.{QualifiedName}
use Rattle.nm_reader.specs.Namespaces.{same_name}
use Rattle.nm_reader.specs.declared.fact.Kind.{Kind}
use Rattle.nm_reader.specs.declared.fact.Kind.TheVariants.{Full, Difference}
use Rattle.nm_reader.specs.declared.fact.LinkProperty.TheVariants.{DependentOn, Supersedes}
use Rattle.nm_reader.specs.declared.fact.Part.{Part}
use Rattle.nm_reader.specs.declared.fact.Part.TheVariants.{Whole, Preconditions, Forward, Reverse}
use Rattle.nm_reader.specs.declared.place.Place.{Place}
use Rattle.nm_reader.specs.declared.place.Place.TheVariants.{BeforeRoot, InRoot, InHeader, InBody, InRest, InSection, InObject, InLiteral, InLink, InSkipped, AfterRoot}
use Rattle.nm_reader.specs.declared.place.Role.{Role}
use Rattle.nm_reader.specs.declared.place.Role.TheVariants.{RootElement, ModelHeader, HeaderText, HeaderLink, OtherProperty, SectionElement, ObjectElement, PropertyElement, NoHeader, Stray, Nested}
use Rattle.nm_reader.specs.declared.fact.TextProperty.TheVariants.{Created, ScenarioTime, Version, Description, Authority, Profile}

abbrev pub rdf : List ℕ → QualifiedName
rdf local = record { ns = rdf_namespace; local = local }

abbrev pub md : List ℕ → QualifiedName
md local = record { ns = md_namespace; local = local }

abbrev pub dm : List ℕ → QualifiedName
dm local = record { ns = dm_namespace; local = local }

abbrev pub root_name : QualifiedName
root_name = rdf (codes "RDF")

abbrev pub description_name : QualifiedName
description_name = rdf (codes "Description")

abbrev pub is_rdf : QualifiedName → Bool
is_rdf name = same_text name.ns rdf_namespace

abbrev pub is_md : QualifiedName → Bool
is_md name = same_text name.ns md_namespace

abbrev pub is_dm : QualifiedName → Bool
is_dm name = same_text name.ns dm_namespace

-- the role of the first name of a table that the element has, else the other
abbrev pub role_in : List (QualifiedName × Role) → QualifiedName → Role → Role
role_in [] element other = other
role_in (row ∷ rows) element other = if same_name row.0 element then row.1 else role_in rows element other

-- the header is the first element inside the root
abbrev pub headers : List (QualifiedName × Role)
headers = (md (codes "FullModel"), ModelHeader Full) ∷ (dm (codes "DifferenceModel"), ModelHeader Difference) ∷ []

-- the header properties that are kept
abbrev pub properties : List (QualifiedName × Role)
properties =
    (md (codes "Model.created"), HeaderText Created)
    ∷ (md (codes "Model.scenarioTime"), HeaderText ScenarioTime)
    ∷ (md (codes "Model.version"), HeaderText Version)
    ∷ (md (codes "Model.description"), HeaderText Description)
    ∷ (md (codes "Model.modelingAuthoritySet"), HeaderText Authority)
    ∷ (md (codes "Model.profile"), HeaderText Profile)
    ∷ (md (codes "Model.DependentOn"), HeaderLink DependentOn)
    ∷ (md (codes "Model.Supersedes"), HeaderLink Supersedes)
    ∷ []

-- the sections stand in the header of a difference model
abbrev pub sections : Kind → List (QualifiedName × Role)
sections Full = []
sections Difference =
    (dm (codes "preconditions"), SectionElement Preconditions)
    ∷ (dm (codes "forwardDifferences"), SectionElement Forward)
    ∷ (dm (codes "reverseDifferences"), SectionElement Reverse)
    ∷ []

-- in a header: no name of RDF, of those of difference models its sections, and every other property
abbrev pub header_role : Kind → QualifiedName → Role
header_role kind element =
    if is_rdf element then Stray
    else if is_dm element then role_in (sections kind) element Stray
    else role_in properties element OtherProperty

-- of the names of RDF one alone, and none of those of headers and of difference models
abbrev pub is_foreign : List ℕ → QualifiedName → Bool
is_foreign allowed element =
    is_md element || is_dm element || (is_rdf element && not (same_text element.local allowed))

-- an object has the name of its class, or is an `rdf:Description`
abbrev pub object_role : Part → QualifiedName → Role
object_role part element = if is_foreign (codes "Description") element then Stray else ObjectElement part

abbrev pub property_role : QualifiedName → Role
property_role element = if is_foreign (codes "type") element then Stray else PropertyElement

abbrev pub role_of : Place → QualifiedName → Role
role_of BeforeRoot element = role_in ((root_name, RootElement) ∷ []) element Stray
role_of InRoot element = role_in headers element NoHeader
role_of (InHeader kind) element = header_role kind element
role_of InBody element = object_role Whole element
role_of InRest element = Stray
role_of (InSection part) element = object_role part element
role_of (InObject part subject) element = property_role element
role_of (InLiteral owner text) element = Nested
role_of InLink element = Nested
role_of InSkipped element = Nested
role_of AfterRoot element = Stray

abbrev pub place_behind : Role → Place → Place
place_behind RootElement place = AfterRoot
place_behind (ModelHeader Full) place = InBody
place_behind (ModelHeader Difference) place = InRest
place_behind _ place = place
