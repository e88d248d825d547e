-- What a tag tells can be kept, where the place around it can.
use Rattle.std.proofs.Common.{◌≡◌, ℕ, List, [], ◌∷◌, ◌++◌, length, Bool, true, false, ◌&&◌, nat_le, if◌then◌else◌, Option, None, Some, refl, sym, ap, ◌∙◌}
use Rattle.std.specs.List.{list_all}
use Rattle.std.specs.Option.{option_map}
use Rattle.nm_ident.proofs.Idents.{ident_of_about-sound, ident_of_id-sound}
use Rattle.nm_ident.specs.Ident.{ident_of_about, ident_or_iri, is_iri, is_sound_ident, target_of}
use Rattle.nm_ident.specs.Name.{is_name, is_namespace, is_predicate, type_name}
use Rattle.nm_ident.specs.QualifiedName.{QualifiedName}
use Rattle.nm_ident.specs.declared.ident.Ident.{Ident}
use Rattle.nm_ident.specs.declared.ident.Ident.TheVariants.{Uuid, Local}
use Rattle.nm_ident.specs.declared.ident.Target.{Target}
use Rattle.nm_ident.specs.declared.ident.Target.TheVariants as target
use Rattle.nm_model.specs.Sound.{is_model_id}
use Rattle.nm_piece.specs.declared.piece.Attribute.{Attribute}
use Rattle.nm_statement.specs.Limits.{longest_iri}
use Rattle.nm_statement.specs.Literal.{is_literal}
use Rattle.nm_statement.specs.Sound.{is_sound_iri, is_sound_statement}
use Rattle.nm_statement.specs.declared.object.Object.TheVariants as object
use Rattle.nm_text.specs.Characters.{is_text}
use Rattle.nm_reader.specs.Meaning.{about_name, has_short_iris, header_link_meaning, header_meaning, header_text_meaning, id_name, ident_in, identity, identity_of, inside_of, IsStatable, link_meaning, linked_by, linked_in, meaning_of, model_id_of, object_meaning, only_inside, part_counts, property_meaning, resource_name, told_by, uuid_in, value_of}
use Rattle.nm_reader.specs.Namespaces.{Given, declaration_of, given_by, same_name}
use Rattle.nm_reader.specs.Place.{description_name, place_behind}
use Rattle.nm_reader.specs.declared.fact.Fact.{Fact}
use Rattle.nm_reader.specs.declared.fact.Fact.TheVariants.{Heads, Tells, Links, States}
use Rattle.nm_reader.specs.declared.fact.Kind.{Kind}
use Rattle.nm_reader.specs.declared.fact.Kind.TheVariants.{Full, Difference}
use Rattle.nm_reader.specs.declared.fact.LinkProperty.{LinkProperty}
use Rattle.nm_reader.specs.declared.fact.Part.{Part}
use Rattle.nm_reader.specs.declared.fact.TextProperty.{TextProperty}
use Rattle.nm_reader.specs.declared.meaning.Meaning.{Meaning}
use Rattle.nm_reader.specs.Opened.{Declaration}
use Rattle.nm_reader.specs.declared.place.Owner.{Owner}
use Rattle.nm_reader.specs.declared.place.Owner.TheVariants.{OfModel, OfSubject}
use Rattle.nm_reader.specs.declared.place.Place.{Place}
use Rattle.nm_reader.specs.declared.place.Place.TheVariants.{InObject, InLiteral}
use Rattle.nm_reader.specs.declared.place.Role.{Role}
use Rattle.nm_reader.specs.declared.place.Role.TheVariants.{RootElement, EmptyRoot, ModelHeader, HeaderText, HeaderLink, OtherProperty, SectionElement, ObjectElement, PropertyElement, NoHeader, Stray, Nested}
use Rattle.nm_reader.proofs.ClassIris.{class_iri_sound}
use Rattle.nm_reader.proofs.Entered.{empty_literal}
use Rattle.nm_reader.proofs.Spellings.{and_left, and_right}

-- a fact that a model can keep
abbrev pub is_sound_fact : Fact → Bool
is_sound_fact (Heads kind id) = is_model_id id
is_sound_fact (Tells property text) = is_literal text
is_sound_fact (Links property id) = is_model_id id
is_sound_fact (States part statement) = is_sound_statement statement

abbrev pub is_sound_owner : Owner → Bool
is_sound_owner (OfModel property) = true
is_sound_owner (OfSubject part subject predicate) = is_sound_ident subject && is_predicate predicate

-- a place of which nothing else is told
abbrev pub is_kept_place : Place → Bool
is_kept_place (InObject part subject) = is_sound_ident subject
is_kept_place (InLiteral owner text) = is_literal text && is_sound_owner owner
is_kept_place _ = true

pub record IsKept (meaning : Option Meaning) : Type 0 where
  pub inside : is_kept_place (inside_of meaning) ≡ true
  pub told : list_all is_sound_fact (told_by meaning) ≡ true

none_kept : IsKept None
none_kept = record { inside = refl; told = refl }

-- ---- identifiers

uuid_kept : (ident : Option Ident) → ((i : Ident) → ident ≡ Some i → is_sound_ident i ≡ true) → (id : ℕ) → uuid_in ident ≡ Some id → is_model_id id ≡ true
uuid_kept None sound id is = absurd (let differ = is in cc)
uuid_kept (Some (Uuid n)) sound id is =
    let same : n ≡ id = cc in
    ap is_model_id (sym same) ∙ sound (Uuid n) refl
uuid_kept (Some (Local text)) sound id is = absurd (let differ = is in cc)

identity_by : (about id : Option (List ℕ)) (i : Ident) → identity about id ≡ Some i → is_sound_ident i ≡ true
identity_by (Some about) id i is = ident_of_about-sound about i is
identity_by None (Some id) i is = ident_of_id-sound id i is
identity_by None None i is = absurd (let differ = is in cc)

identity_sound : (attributes : List Given) (i : Ident) → identity_of attributes ≡ Some i → is_sound_ident i ≡ true
identity_sound attributes i is = identity_by (value_of about_name attributes) (value_of id_name attributes) i is

model_sound : (attributes : List Given) (id : ℕ) → model_id_of attributes ≡ Some id → is_model_id id ≡ true
model_sound attributes id is = uuid_kept (identity_of attributes) (identity_sound attributes) id is

-- what `rdf:resource` may name
TargetIs : List ℕ → Target → Type 0
TargetIs text (target.Ident i) = is_sound_ident i ≡ true
TargetIs text (target.Iri iri) = (iri ≡ text) × (is_iri text ≡ true) × (ident_of_about text ≡ None)

target_is : (text : List ℕ) (t : Target) → target_of text ≡ Some t → TargetIs text t
unfolding TargetIs
target_is text t is = by (ident_of_about text) refl t is
  where
    iri_by : (iri : Bool) → is_iri text ≡ iri → ident_of_about text ≡ None → (t : Target) → (if iri then Some (target.Iri text) else None) ≡ Some t → TargetIs text t
    iri_by true kept none (target.Ident i) is = absurd (let differ = is in cc)
    iri_by true kept none (target.Iri iri) is = let same : iri ≡ text = cc in (same, kept, none)
    iri_by false kept none t is = absurd (let differ = is in cc)

    by : (seen : Option Ident) → ident_of_about text ≡ seen → (t : Target) → ident_or_iri seen text ≡ Some t → TargetIs text t
    by (Some ident) seen (target.Ident i) is = let same : ident ≡ i = cc in ap is_sound_ident (sym same) ∙ ident_of_about-sound text ident seen
    by (Some ident) seen (target.Iri iri) is = absurd (let differ = is in cc)
    by None seen t is = iri_by (is_iri text) refl seen t is

linked_ident : (text : List ℕ) (seen : Option Target) → target_of text ≡ seen → (i : Ident) → ident_in seen ≡ Some i → is_sound_ident i ≡ true
unfolding TargetIs
linked_ident text None seen i is = absurd (let differ = is in cc)
linked_ident text (Some (target.Ident ident)) seen i is = let same : ident ≡ i = cc in ap is_sound_ident (sym same) ∙ target_is text (target.Ident ident) seen
linked_ident text (Some (target.Iri iri)) seen i is = absurd (let differ = is in cc)

linked_by_sound : (resource : Option (List ℕ)) (id : ℕ) → linked_in resource ≡ Some id → is_model_id id ≡ true
linked_by_sound None id is = absurd (let differ = is in cc)
linked_by_sound (Some resource) id is = uuid_kept (ident_in (target_of resource)) (linked_ident resource (target_of resource) refl) id is

linked_sound : (attributes : List Given) (id : ℕ) → linked_by attributes ≡ Some id → is_model_id id ≡ true
linked_sound attributes id is = linked_by_sound (value_of resource_name attributes) id is

-- ---- headers

header_kept : (kind : Kind) (id : Option ℕ) → ((n : ℕ) → id ≡ Some n → is_model_id n ≡ true) → IsKept (option_map (header_meaning kind) id)
header_kept kind None sound = none_kept
header_kept kind (Some n) sound = record { inside = refl; told = rw (sound n refl) refl }

text_kept : (property : TextProperty) (resource : Option (List ℕ)) → IsKept (header_text_meaning property resource)
text_kept property None = record { inside = rw empty_literal refl; told = refl }
text_kept property (Some resource) = none_kept

link_kept : (property : LinkProperty) (id : Option ℕ) → ((n : ℕ) → id ≡ Some n → is_model_id n ≡ true) → IsKept (option_map (header_link_meaning property) id)
link_kept property None sound = none_kept
link_kept property (Some n) sound = record { inside = refl; told = rw (sound n refl) refl }

-- ---- objects

class_kept : (described : Bool) (part : Part) (element : QualifiedName) (subject : Ident) → is_sound_ident subject ≡ true → is_namespace element.ns ≡ true → is_name element.local ≡ true
    → has_short_iris (told_by (Some (if described then only_inside (InObject part subject) else record { inside = InObject part subject; tells = Some (States part (record { subject = subject; predicate = type_name; object = object.Iri (element.ns ++ element.local) })); counts = part_counts part }))) ≡ true
    → IsKept (Some (if described then only_inside (InObject part subject) else record { inside = InObject part subject; tells = Some (States part (record { subject = subject; predicate = type_name; object = object.Iri (element.ns ++ element.local) })); counts = part_counts part }))
class_kept true part element subject sound kept named short = record { inside = sound; told = refl }
class_kept false part element subject sound kept named short =
    let iri : is_sound_iri (element.ns ++ element.local) ≡ true = class_iri_sound element kept named (and_left (nat_le (length (element.ns ++ element.local)) longest_iri) true short) in
    record { inside = sound; told = rw (sound, iri) refl }

object_kept : (part : Part) (element : QualifiedName) (subject : Option Ident) → ((i : Ident) → subject ≡ Some i → is_sound_ident i ≡ true) → is_namespace element.ns ≡ true → is_name element.local ≡ true
    → has_short_iris (told_by (option_map (object_meaning part element) subject)) ≡ true → IsKept (option_map (object_meaning part element) subject)
object_kept part element None sound kept named short = none_kept
object_kept part element (Some subject) sound kept named short = class_kept (same_name element description_name) part element subject (sound subject refl) kept named short

-- ---- properties

target_kept : (part : Part) (subject : Ident) (predicate : QualifiedName) (text : List ℕ) (linked : Option Target) → target_of text ≡ linked → is_sound_ident subject ≡ true → is_predicate predicate ≡ true → is_text text ≡ true
    → has_short_iris (told_by (option_map (link_meaning part subject predicate) linked)) ≡ true → IsKept (option_map (link_meaning part subject predicate) linked)
unfolding TargetIs
target_kept part subject predicate text None seen sound named spelt short = none_kept
target_kept part subject predicate text (Some (target.Ident i)) seen sound named spelt short =
    let linked : is_sound_ident i ≡ true = target_is text (target.Ident i) seen in
    record { inside = refl; told = rw (sound, named, linked) refl }
target_kept part subject predicate text (Some (target.Iri iri)) seen sound named spelt short =
    let is : TargetIs text (target.Iri iri) = target_is text (target.Iri iri) seen in
    let first : is_iri iri ≡ true = ap is_iri is.0 ∙ is.1 in
    let none : ident_of_about iri ≡ None = ap ident_of_about is.0 ∙ is.2 in
    let characters : is_text iri ≡ true = ap is_text is.0 ∙ spelt in
    let few : nat_le (length iri) longest_iri ≡ true = and_left (nat_le (length iri) longest_iri) true short in
    let all : is_sound_iri iri ≡ true = rw (first, none, characters, few) refl in
    record { inside = refl; told = rw (sound, named, all) refl }

property_kept : (place : Place) (element : QualifiedName) (resource : Option (List ℕ)) → is_kept_place place ≡ true → is_predicate element ≡ true → ((text : List ℕ) → resource ≡ Some text → is_text text ≡ true)
    → has_short_iris (told_by (property_meaning place element resource)) ≡ true → IsKept (property_meaning place element resource)
property_kept (InObject part subject) element None kept named spelt short = record { inside = rw (empty_literal, kept, named) refl; told = refl }
property_kept (InObject part subject) element (Some resource) kept named spelt short = target_kept part subject element resource (target_of resource) refl kept named (spelt resource refl) short
property_kept _ element resource kept named spelt short = none_kept

-- ---- attributes

abbrev pub has_text : Attribute → Bool
has_text attribute = is_text attribute.value

abbrev is_text_given : Given → Bool
is_text_given attribute = is_text attribute.value

value_text : (name : QualifiedName) (attributes : List Given) → list_all is_text_given attributes ≡ true → (text : List ℕ) → value_of name attributes ≡ Some text → is_text text ≡ true
value_text name [] all text is = absurd (let differ = is in cc)
value_text name (attribute ∷ attributes) all text is = by (same_name attribute.name name) is (value_text name attributes (and_right (is_text attribute.value) (list_all is_text_given attributes) all) text)
  where
    by : (same : Bool) → (if same then Some attribute.value else value_of name attributes) ≡ Some text → (value_of name attributes ≡ Some text → is_text text ≡ true) → is_text text ≡ true
    by true is others = let same : attribute.value ≡ text = cc in ap is_text (sym same) ∙ and_left (is_text attribute.value) (list_all is_text_given attributes) all
    by false is others = others is

pub given_texts : (scope : List Declaration) (attributes : List Attribute) → list_all has_text attributes ≡ true → list_all is_text_given (given_by scope attributes) ≡ true
given_texts scope [] all = refl
given_texts scope (attribute ∷ attributes) all = by (declaration_of attribute) refl (given_texts scope attributes (and_right (is_text attribute.value) (list_all has_text attributes) all))
  where
    by : (declaration : Option Declaration) → declaration_of attribute ≡ declaration → list_all is_text_given (given_by scope attributes) ≡ true → list_all is_text_given (given_by scope (attribute ∷ attributes)) ≡ true
    by (Some declaration) is others = rw is others
    by None is others = rw (is, and_left (is_text attribute.value) (list_all has_text attributes) all) others

-- ---- all tags

pub meaning_kept : (place : Place) (role : Role) (element : QualifiedName) (attributes : List Given) → is_kept_place place ≡ true → is_namespace element.ns ≡ true → is_name element.local ≡ true → IsStatable role element
    → list_all is_text_given attributes ≡ true → has_short_iris (told_by (meaning_of place role element attributes)) ≡ true → IsKept (meaning_of place role element attributes)
meaning_kept place RootElement element attributes around kept named statable texts short = record { inside = refl; told = refl }
meaning_kept place EmptyRoot element attributes around kept named statable texts short = none_kept
meaning_kept place (ModelHeader kind) element attributes around kept named statable texts short = header_kept kind (model_id_of attributes) (model_sound attributes)
meaning_kept place (HeaderText property) element attributes around kept named statable texts short = text_kept property (value_of resource_name attributes)
meaning_kept place (HeaderLink property) element attributes around kept named statable texts short = link_kept property (linked_by attributes) (linked_sound attributes)
meaning_kept place OtherProperty element attributes around kept named statable texts short = record { inside = refl; told = refl }
meaning_kept place (SectionElement part) element attributes around kept named statable texts short = record { inside = refl; told = refl }
meaning_kept place (ObjectElement part) element attributes around kept named statable texts short = object_kept part element (identity_of attributes) (identity_sound attributes) kept named short
meaning_kept place PropertyElement element attributes around kept named statable texts short = property_kept place element (value_of resource_name attributes) around statable (value_text resource_name attributes texts) short
meaning_kept place NoHeader element attributes around kept named statable texts short = none_kept
meaning_kept place Stray element attributes around kept named statable texts short = none_kept
meaning_kept place Nested element attributes around kept named statable texts short = none_kept

pub behind_kept : (role : Role) (place : Place) → is_kept_place place ≡ true → is_kept_place (place_behind role place) ≡ true
behind_kept RootElement place kept = refl
behind_kept EmptyRoot place kept = kept
behind_kept (ModelHeader Full) place kept = refl
behind_kept (ModelHeader Difference) place kept = refl
behind_kept (HeaderText property) place kept = kept
behind_kept (HeaderLink property) place kept = kept
behind_kept OtherProperty place kept = kept
behind_kept (SectionElement part) place kept = kept
behind_kept (ObjectElement part) place kept = kept
behind_kept PropertyElement place kept = kept
behind_kept NoHeader place kept = kept
behind_kept Stray place kept = kept
behind_kept Nested place kept = kept
