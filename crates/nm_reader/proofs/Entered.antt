-- What a tag that is taken leaves.
use Rattle.std.proofs.Common.{◌≡◌, ℕ, List, [], ◌∷◌, ◌++◌, Bool, true, false, ◌&&◌, ◌||◌, not, Option, None, Some, is_none, if◌then◌else◌, refl, sym, ap, ◌∙◌}
use Rattle.std.proofs.lemmas.Str.{IsUtf8-nil, is_utf8-from_IsUtf8, chars-nil}
use Rattle.std.specs.List.{list_all}
use Rattle.std.specs.Option.{option_map}
use Rattle.std.specs.Str.{chars, is_utf8}
use Rattle.nm_ident.specs.Ident.{target_of}
use Rattle.nm_ident.specs.QualifiedName.{QualifiedName}
use Rattle.nm_ident.specs.declared.ident.Ident.{Ident}
use Rattle.nm_ident.specs.declared.ident.Target.{Target}
use Rattle.nm_piece.specs.declared.piece.Attribute.{Attribute}
use Rattle.nm_piece.specs.declared.piece.Piece.TheVariants.{Open}
use Rattle.nm_piece.specs.declared.piece.QName.{QName}
use Rattle.nm_statement.specs.Literal.{is_literal}
use Rattle.nm_text.specs.Characters.{is_character, is_text}
use Rattle.nm_reader.specs.Context.{Context, entered, tag_at}
use Rattle.nm_reader.specs.Cutting.{Spelt}
use Rattle.nm_reader.specs.Limits.{is_within_limits, plus}
use Rattle.nm_reader.specs.Meaning.{are_allowed, has_short_iris, header_link_meaning, header_meaning, header_text_meaning, identity_of, inside_of, link_meaning, linked_by, meaning_of, model_id_of, object_meaning, only_inside, property_meaning, resource_name, told_by, value_of}
use Rattle.nm_reader.specs.Namespaces.{Given, are_spelt_once, declared_by, has_declared_prefixes, has_namespace, same_name}
use Rattle.nm_reader.specs.Place.{description_name, place_behind}
use Rattle.nm_reader.specs.Rules.{code_at, is_header, is_header_property, is_nested, is_of_object, is_stray, lacks_header, role_judged}
use Rattle.nm_reader.specs.Shape.{limit_code, or_code, shape_code}
use Rattle.nm_reader.specs.Tag.{Tag, behind_tag, counted_by_tag, element_of, given_of, inside_of_tag, meaning_of_tag, role_of_tag, scope_of, told_by_tag}
use Rattle.nm_reader.specs.Taken.{IsJudged, entered_by, is_sound_place, tag_code}
use Rattle.nm_reader.specs.declared.counts.Counts.{Counts}
use Rattle.nm_reader.specs.declared.fact.Fact.{Fact}
use Rattle.nm_reader.specs.declared.fact.Kind.{Kind}
use Rattle.nm_reader.specs.declared.fact.Kind.TheVariants.{Full, Difference}
use Rattle.nm_reader.specs.declared.fact.LinkProperty.{LinkProperty}
use Rattle.nm_reader.specs.declared.fact.Part.{Part}
use Rattle.nm_reader.specs.declared.fact.TextProperty.{TextProperty}
use Rattle.nm_reader.specs.declared.fault.Code.TheVariants as code
use Rattle.nm_reader.specs.declared.judging.Judged.{Judged}
use Rattle.nm_reader.specs.declared.meaning.Meaning.{Meaning}
use Rattle.nm_reader.specs.declared.place.Place.{Place}
use Rattle.nm_reader.specs.declared.place.Place.TheVariants.{InObject}
use Rattle.nm_reader.specs.declared.place.Role.{Role}
use Rattle.nm_reader.specs.declared.place.Role.TheVariants.{RootElement, EmptyRoot, ModelHeader, HeaderText, HeaderLink, OtherProperty, SectionElement, ObjectElement, PropertyElement, NoHeader, Stray, Nested}
use Rattle.nm_reader.proofs.Judged.{no_meaning, rows_joined}

-- ---- an empty literal is one that can be kept

both : (a b : Bool) → a ≡ true → b ≡ true → (a && b) ≡ true
both a b first second = rw (first, second) refl

empty_text : is_text [] ≡ true
empty_text = both (is_utf8 []) (list_all is_character (chars [])) (is_utf8-from_IsUtf8 [] IsUtf8-nil) (ap (λ c. list_all is_character c) chars-nil)

pub empty_literal : is_literal [] ≡ true
empty_literal = both (is_text []) true empty_text refl

header_sound : (kind : Kind) (id : Option ℕ) → is_sound_place (inside_of (option_map (header_meaning kind) id)) ≡ true
header_sound kind None = refl
header_sound kind (Some id) = refl

text_sound : (property : TextProperty) (resource : Option (List ℕ)) → is_sound_place (inside_of (header_text_meaning property resource)) ≡ true
text_sound property None = empty_literal
text_sound property (Some resource) = refl

link_sound : (property : LinkProperty) (id : Option ℕ) → is_sound_place (inside_of (option_map (header_link_meaning property) id)) ≡ true
link_sound property None = refl
link_sound property (Some id) = refl

class_sound : (class : Bool) (part : Part) (subject : Ident) (told : Option Fact) (counts : Counts) → is_sound_place (inside_of (Some (if class then only_inside (InObject part subject) else record { inside = InObject part subject; tells = told; counts = counts }))) ≡ true
class_sound true part subject told counts = refl
class_sound false part subject told counts = refl

object_sound : (part : Part) (element : QualifiedName) (subject : Option Ident) → is_sound_place (inside_of (option_map (object_meaning part element) subject)) ≡ true
object_sound part element None = refl
object_sound part element (Some subject) = class_sound (same_name element description_name) part subject _ _

target_sound : (part : Part) (subject : Ident) (element : QualifiedName) (linked : Option Target) → is_sound_place (inside_of (option_map (link_meaning part subject element) linked)) ≡ true
target_sound part subject element None = refl
target_sound part subject element (Some linked) = refl

property_sound : (place : Place) (element : QualifiedName) (resource : Option (List ℕ)) → is_sound_place (inside_of (property_meaning place element resource)) ≡ true
property_sound (InObject part subject) element None = empty_literal
property_sound (InObject part subject) element (Some resource) = target_sound part subject element (target_of resource)
property_sound _ element resource = refl

inside_sound : (place : Place) (role : Role) (element : QualifiedName) (given : List Given) → is_sound_place (inside_of (meaning_of place role element given)) ≡ true
inside_sound place RootElement element given = refl
inside_sound place EmptyRoot element given = refl
inside_sound place (ModelHeader kind) element given = header_sound kind (model_id_of given)
inside_sound place (HeaderText property) element given = text_sound property (value_of resource_name given)
inside_sound place (HeaderLink property) element given = link_sound property (linked_by given)
inside_sound place OtherProperty element given = refl
inside_sound place (SectionElement part) element given = refl
inside_sound place (ObjectElement part) element given = object_sound part element (identity_of given)
inside_sound place PropertyElement element given = property_sound place element (value_of resource_name given)
inside_sound place NoHeader element given = refl
inside_sound place Stray element given = refl
inside_sound place Nested element given = refl

-- the place inside an element that was judged
pub judged_sound : (tag : Tag) (empty : Bool) (counted : Counts) (judged : Judged) → IsJudged tag empty counted judged → is_sound_place judged.meaning.inside ≡ true
judged_sound tag empty counted judged is =
    ap (λ m. is_sound_place (inside_of m)) (sym is.meaning) ∙ inside_sound tag.place (role_of_tag tag) (element_of tag) (given_of tag)

-- ---- the context inside an element that was judged

pub entered_is : (context : Context) (name : QName) (attributes : List Attribute) (empty : Bool) (judged : Judged)
    → IsJudged (tag_at context name attributes) empty context.counted judged
    → entered_by context name (declared_by attributes) judged ≡ entered context (tag_at context name attributes)
unfolding behind_tag inside_of_tag told_by_tag
entered_is context name attributes empty judged is =
    let tag : Tag = tag_at context name attributes in
    let build : Role → Option Meaning → Counts → Context = λ (role : Role) (meaning : Option Meaning) (counts : Counts). record {
      elements = record { name = name; behind = place_behind role context.place; declared = declared_by attributes } ∷ context.elements;
      place = inside_of meaning;
      told = context.told ++ told_by meaning;
      counted = counts;
      begun = true;
    } in
    ap (λ (r : Role). build r (Some judged.meaning) judged.counted) (sym is.role)
    ∙ ap (λ (m : Option Meaning). build (role_of_tag tag) m judged.counted) (sym is.meaning)
    ∙ ap (λ (n : Counts). build (role_of_tag tag) (meaning_of_tag tag) n) is.sum

-- ---- the code of a tag

pub tag_code_is : (context : Context) (name : QName) (attributes : List Attribute) (empty : Bool)
    → code_at context (Spelt (Open name attributes empty)) ≡ tag_code (tag_at context name attributes) empty context.counted
unfolding code_at tag_code
tag_code_is context name attributes empty =
    let tag : Tag = tag_at context name attributes in
    let role : Role = role_judged tag empty in
    let once : Bool = are_spelt_once attributes in
    let declared : Bool = has_declared_prefixes (scope_of tag) name attributes in
    let kept : Bool = has_namespace (element_of tag) in
    let allowed : Bool = are_allowed role (given_of tag) in
    let within : Bool = is_within_limits (plus context.counted (counted_by_tag tag)) in
    let short : Bool = has_short_iris (told_by (meaning_of_tag tag)) in
    rows_joined (is_nested role) (not once) (not declared) (not kept) (lacks_header role allowed) (is_stray role) (not allowed)
    (is_header role && is_none (meaning_of_tag tag)) (is_of_object role && is_none (meaning_of_tag tag)) (is_header_property role && is_none (meaning_of_tag tag)) (not within || not short)
    ∙ ap (λ (none : Bool). or_code (shape_code role once declared kept allowed)
    (or_code (if is_header role && none then Some code.Header else if is_of_object role && none then Some code.Identifier else if is_header_property role && none then Some code.Header else None) (limit_code within short)))
    (no_meaning (meaning_of_tag tag))

-- ---- the place behind an element

pub behind_sound : (role : Role) (place : Place) → is_sound_place place ≡ true → is_sound_place (place_behind role place) ≡ true
behind_sound RootElement place sound = refl
behind_sound EmptyRoot place sound = sound
behind_sound (ModelHeader Full) place sound = refl
behind_sound (ModelHeader Difference) place sound = refl
behind_sound (HeaderText property) place sound = sound
behind_sound (HeaderLink property) place sound = sound
behind_sound OtherProperty place sound = sound
behind_sound (SectionElement part) place sound = sound
behind_sound (ObjectElement part) place sound = sound
behind_sound PropertyElement place sound = sound
behind_sound NoHeader place sound = sound
behind_sound Stray place sound = sound
behind_sound Nested place sound = sound
