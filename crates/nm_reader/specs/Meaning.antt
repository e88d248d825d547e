-- The attributes that an element may have, and what it means with them (RDF/XML, section 7.2;
-- IEC 61970-552).
use Rattle.std.specs.Prelude.{◌≡◌, ℕ, List, [], ◌∷◌, ◌++◌, length, Bool, true, ◌&&◌, not, nat_le, codes, if◌then◌else◌, Option, None, Some}
use Rattle.std.specs.List.{list_all, list_any}
use Rattle.std.specs.Option.{option_map}
use Rattle.nm_ident.specs.Ident.{ident_of_about, ident_of_id, target_of}
use Rattle.nm_ident.specs.Name.{is_predicate, rdf_namespace, type_name}
use Rattle.nm_terms.specs.Bytes.{same_text}
use Rattle.nm_ident.specs.QualifiedName.{QualifiedName}
use Rattle.nm_ident.specs.declared.ident.Ident.{Ident}
use Rattle.nm_ident.specs.declared.ident.Ident.TheVariants.{Uuid}
use Rattle.nm_ident.specs.declared.ident.Target.{Target}
use Rattle.nm_ident.specs.declared.ident.Target.TheVariants as target
use Rattle.nm_statement.specs.declared.object.Object.{Object}
use Rattle.nm_statement.specs.declared.object.Object.TheVariants as object
use Rattle.nm_statement.specs.Limits.{longest_iri}
use Rattle.nm_reader.specs.Limits.{nothing, one_change, one_dependency, one_profile, one_statement, one_superseded}
use Rattle.nm_reader.specs.declared.counts.Counts.{Counts}
use Rattle.nm_reader.specs.Namespaces.{Given, same_name, xml_namespace}
use Rattle.nm_reader.specs.Place.{description_name}
use Rattle.nm_reader.specs.declared.fact.Fact.{Fact}
use Rattle.nm_reader.specs.declared.fact.Fact.TheVariants.{Heads, Tells, Links, States}
use Rattle.nm_reader.specs.declared.fact.Kind.{Kind}
use Rattle.nm_reader.specs.declared.fact.LinkProperty.{LinkProperty}
use Rattle.nm_reader.specs.declared.fact.LinkProperty.TheVariants.{DependentOn, Supersedes}
use Rattle.nm_reader.specs.declared.place.Owner.{Owner}
use Rattle.nm_reader.specs.declared.place.Owner.TheVariants.{OfModel, OfSubject}
use Rattle.nm_reader.specs.declared.fact.Part.{Part}
use Rattle.nm_reader.specs.declared.fact.Part.TheVariants.{Whole}
use Rattle.nm_reader.specs.declared.place.Place.{Place}
use Rattle.nm_reader.specs.declared.place.Place.TheVariants.{InRoot, InHeader, InSection, InObject, InLiteral, InLink, InSkipped}
use Rattle.nm_reader.specs.declared.place.Role.{Role}
use Rattle.nm_reader.specs.declared.place.Role.TheVariants.{RootElement, EmptyRoot, ModelHeader, HeaderText, HeaderLink, OtherProperty, SectionElement, ObjectElement, PropertyElement, NoHeader, Stray, Nested}
use Rattle.nm_reader.specs.declared.fact.TextProperty.{TextProperty}
use Rattle.nm_reader.specs.declared.fact.TextProperty.TheVariants.{Profile}
use Rattle.nm_reader.specs.declared.attributes.Allowed.{Allowed}
use Rattle.nm_reader.specs.declared.attributes.Allowed.TheVariants.{OfRoot, OfIdentity, OfSection, OfProperty}
use Rattle.nm_reader.specs.declared.meaning.Meaning.{Meaning}

abbrev pub xml : List ℕ → QualifiedName
xml local = record { ns = xml_namespace; local = local }

abbrev pub rdf : List ℕ → QualifiedName
rdf local = record { ns = rdf_namespace; local = local }

abbrev pub lang_name : QualifiedName
lang_name = xml (codes "lang")

abbrev pub base_name : QualifiedName
base_name = xml (codes "base")

abbrev pub about_name : QualifiedName
about_name = rdf (codes "about")

abbrev pub id_name : QualifiedName
id_name = rdf (codes "ID")

abbrev pub resource_name : QualifiedName
resource_name = rdf (codes "resource")

abbrev pub datatype_name : QualifiedName
datatype_name = rdf (codes "datatype")

abbrev pub parse_type_name : QualifiedName
parse_type_name = rdf (codes "parseType")

abbrev pub name_given : Given → QualifiedName
name_given attribute = attribute.name

abbrev pub same_given : Given → Given → Bool
same_given x y = same_name x.name y.name

abbrev pub is_one_of : List QualifiedName → Given → Bool
is_one_of names attribute = list_any (λ name. same_name name attribute.name) names

-- whether each attribute is one of these, and none stands twice
abbrev pub has_only : List QualifiedName → List Given → Bool
has_only names [] = true
has_only names (attribute ∷ others) =
    is_one_of names attribute && not (list_any (same_given attribute) others) && has_only names others

abbrev pub names_of : Allowed → List QualifiedName
names_of OfRoot = base_name ∷ lang_name ∷ []
names_of OfIdentity = about_name ∷ id_name ∷ []
names_of OfSection = parse_type_name ∷ []
names_of OfProperty = resource_name ∷ lang_name ∷ datatype_name ∷ []

abbrev pub is_statements : Given → Bool
is_statements attribute = same_text attribute.value (codes "Statements")

-- the attributes that an element may have
abbrev pub are_allowed : Role → List Given → Bool
are_allowed RootElement attributes = has_only (names_of OfRoot) attributes
are_allowed EmptyRoot attributes = has_only (names_of OfRoot) attributes
are_allowed (ModelHeader kind) attributes = has_only (names_of OfIdentity) attributes && nat_le (length attributes) 1
are_allowed (ObjectElement part) attributes = has_only (names_of OfIdentity) attributes && nat_le (length attributes) 1
are_allowed (SectionElement part) attributes = has_only (names_of OfSection) attributes && list_all is_statements attributes
are_allowed _ attributes = has_only (names_of OfProperty) attributes

-- the value of the attribute of a name
abbrev pub value_of : QualifiedName → List Given → Option (List ℕ)
value_of name [] = None
value_of name (attribute ∷ attributes) =
    if same_name attribute.name name then Some attribute.value else value_of name attributes

abbrev pub identity : Option (List ℕ) → Option (List ℕ) → Option Ident
identity (Some about) id = ident_of_about about
identity None (Some id) = ident_of_id id
identity None None = None

-- the resource that `rdf:about` or `rdf:ID` names
abbrev pub identity_of : List Given → Option Ident
identity_of attributes = identity (value_of about_name attributes) (value_of id_name attributes)

abbrev pub uuid_in : Option Ident → Option ℕ
uuid_in (Some (Uuid id)) = Some id
uuid_in _ = None

-- a model's identity is a UUID
abbrev pub model_id_of : List Given → Option ℕ
model_id_of attributes = uuid_in (identity_of attributes)

abbrev pub ident_in : Option Target → Option Ident
ident_in (Some (target.Ident ident)) = Some ident
ident_in _ = None

abbrev pub linked_in : Option (List ℕ) → Option ℕ
linked_in None = None
linked_in (Some resource) = uuid_in (ident_in (target_of resource))

-- the model that `rdf:resource` names
abbrev pub linked_by : List Given → Option ℕ
linked_by attributes = linked_in (value_of resource_name attributes)

abbrev pub only_inside : Place → Meaning
only_inside place = record { inside = place; tells = None; counts = nothing }

abbrev pub header_meaning : Kind → ℕ → Meaning
header_meaning kind id = record { inside = InHeader kind; tells = Some (Heads kind id); counts = nothing }

abbrev pub text_counts : TextProperty → Counts
text_counts Profile = one_profile
text_counts _ = nothing

-- a header property with a literal has no `rdf:resource`
abbrev pub header_text_meaning : TextProperty → Option (List ℕ) → Option Meaning
header_text_meaning property None =
    Some (record { inside = InLiteral (OfModel property) []; tells = None; counts = text_counts property })
header_text_meaning property (Some resource) = None

abbrev pub link_counts : LinkProperty → Counts
link_counts DependentOn = one_dependency
link_counts Supersedes = one_superseded

abbrev pub header_link_meaning : LinkProperty → ℕ → Meaning
header_link_meaning property id =
    record { inside = InLink; tells = Some (Links property id); counts = link_counts property }

abbrev pub part_counts : Part → Counts
part_counts Whole = one_statement
part_counts _ = one_change

-- an object's element states its class, unless it is an `rdf:Description`
abbrev pub object_meaning : Part → QualifiedName → Ident → Meaning
object_meaning part element subject =
    if same_name element description_name then only_inside (InObject part subject)
    else record {
      inside = InObject part subject;
      tells = Some (States part (record { subject = subject; predicate = type_name; object = object.Iri (element.ns ++ element.local) }));
      counts = part_counts part;
    }

abbrev pub object_of_target : Target → Object
object_of_target (target.Ident ident) = object.Resource ident
object_of_target (target.Iri iri) = object.Iri iri

abbrev pub link_meaning : Part → Ident → QualifiedName → Target → Meaning
link_meaning part subject predicate linked = record {
  inside = InLink;
  tells = Some (States part (record { subject = subject; predicate = predicate; object = object_of_target linked }));
  counts = part_counts part;
}

-- a property states its `rdf:resource`, or else the literal inside it, of the subject around it
abbrev pub property_meaning : Place → QualifiedName → Option (List ℕ) → Option Meaning
property_meaning (InObject part subject) predicate None = Some (record {
  inside = InLiteral (OfSubject part subject predicate) [];
  tells = None;
  counts = part_counts part;
})
property_meaning (InObject part subject) predicate (Some resource) =
    option_map (link_meaning part subject predicate) (target_of resource)
property_meaning _ predicate resource = None

-- what an element means in its role; nothing where its attributes make no sense there
abbrev pub meaning_of : Place → Role → QualifiedName → List Given → Option Meaning
meaning_of place RootElement element attributes = Some (only_inside InRoot)
meaning_of place (ModelHeader kind) element attributes = option_map (header_meaning kind) (model_id_of attributes)
meaning_of place (HeaderText property) element attributes =
    header_text_meaning property (value_of resource_name attributes)
meaning_of place (HeaderLink property) element attributes =
    option_map (header_link_meaning property) (linked_by attributes)
meaning_of place OtherProperty element attributes = Some (only_inside InSkipped)
meaning_of place (SectionElement part) element attributes = Some (only_inside (InSection part))
meaning_of place (ObjectElement part) element attributes = option_map (object_meaning part element) (identity_of attributes)
meaning_of place PropertyElement element attributes =
    property_meaning place element (value_of resource_name attributes)
meaning_of place EmptyRoot element attributes = None
meaning_of place NoHeader element attributes = None
meaning_of place Stray element attributes = None
meaning_of place Nested element attributes = None

-- an element without a meaning is refused, so that the place inside it does not matter
abbrev pub inside_of : Option Meaning → Place
inside_of (Some meaning) = meaning.inside
inside_of None = InSkipped

abbrev pub listed : Option Fact → List Fact
listed None = []
listed (Some fact) = fact ∷ []

abbrev pub told_by : Option Meaning → List Fact
told_by (Some meaning) = listed meaning.tells
told_by None = []

abbrev pub counted_by : Option Meaning → Counts
counted_by (Some meaning) = meaning.counts
counted_by None = nothing

-- what the end of an element tells: the literal of a property
abbrev pub told_of : Owner → List ℕ → Fact
told_of (OfModel property) text = Tells property text
told_of (OfSubject part subject predicate) text =
    States part (record { subject = subject; predicate = predicate; object = object.Literal text })

abbrev pub told_at_end : Place → List Fact
told_at_end (InLiteral owner text) = told_of owner text ∷ []
told_at_end _ = []

abbrev pub short_object : Object → Bool
short_object (object.Iri iri) = nat_le (length iri) longest_iri
short_object _ = true

abbrev pub short_fact : Fact → Bool
short_fact (States part statement) = short_object statement.object
short_fact _ = true

-- whether no IRI that is told is too long
abbrev pub has_short_iris : List Fact → Bool
has_short_iris facts = list_all short_fact facts

-- a property's name is one that a statement may have
abbrev pub IsStatable : Role → QualifiedName → Type 0
IsStatable PropertyElement element = is_predicate element ≡ true
IsStatable _ element = Unit {0}
