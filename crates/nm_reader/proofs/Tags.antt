-- No rule on tags applies to a tag exactly where the tag is taken, an empty one may end, and no limit
-- is passed.
use Rattle.std.proofs.Common.{◌≡◌, ℕ, List, [], ◌∷◌, codes, Bool, true, false, ◌&&◌, ◌||◌, not, Option, None, Some, is_none, is_some, if◌then◌else◌, refl, sym, ap, ◌∙◌, arith}
use Rattle.std.specs.List.{list_all}
use Rattle.std.specs.Option.{option_map}
use Rattle.nm_ident.specs.QualifiedName.{QualifiedName}
use Rattle.nm_ident.specs.declared.ident.Ident.{Ident}
use Rattle.nm_reader.specs.Context.{Context, tag_at}
use Rattle.nm_reader.specs.Limits.{is_within_limits, plus}
use Rattle.nm_reader.specs.Meaning.{are_allowed, header_link_meaning, header_meaning, header_text_meaning, link_meaning, object_meaning, only_inside, property_meaning, has_short_iris, inside_of, linked_by, meaning_of, identity_of, model_id_of, told_by, value_of, resource_name}
use Rattle.nm_ident.specs.Ident.{target_of}
use Rattle.nm_ident.specs.declared.ident.Target.{Target}
use Rattle.nm_reader.specs.Namespaces.{Given, are_spelt_once, has_declared_prefixes, has_namespace, same_name}
use Rattle.nm_reader.specs.Place.{description_name, headers, is_dm, is_foreign, is_rdf, properties, role_in, role_of, root_name, sections}
use Rattle.nm_piece.specs.declared.piece.Attribute.{Attribute}
use Rattle.nm_piece.specs.declared.piece.QName.{QName}
use Rattle.nm_piece.specs.declared.piece.Piece.TheVariants.{Open}
use Rattle.nm_reader.specs.Cutting.{Spelt}
use Rattle.nm_reader.specs.Rules.{code_at, is_header, is_header_property, is_nested, is_of_object, is_stray, lacks_header, role_at, role_judged}
use Rattle.nm_reader.specs.Tag.{Tag, counted_by_tag, element_of, given_of, inside_of_tag, is_taken, meaning_of_tag, role_of_tag, scope_of}
use Rattle.nm_reader.specs.Texts.{may_end}
use Rattle.nm_reader.specs.declared.fault.Code.{Code}
use Rattle.nm_reader.specs.declared.fault.Code.TheVariants as code
use Rattle.nm_reader.proofs.Spellings.{and_left, and_right, names_equal}
use Rattle.nm_reader.specs.declared.fact.Fact.{Fact}
use Rattle.nm_reader.specs.declared.fact.Kind.{Kind}
use Rattle.nm_reader.specs.declared.fact.Kind.TheVariants.{Full, Difference}
use Rattle.nm_reader.specs.declared.fact.LinkProperty.{LinkProperty}
use Rattle.nm_reader.specs.declared.fact.Part.{Part}
use Rattle.nm_reader.specs.declared.fact.Part.TheVariants.{Whole}
use Rattle.nm_reader.specs.declared.place.Place.{Place}
use Rattle.nm_reader.specs.declared.place.Place.TheVariants.{BeforeRoot, InRoot, InHeader, InBody, InRest, InSection, InObject, InLiteral, InLink, InSkipped, AfterRoot}
use Rattle.nm_reader.specs.declared.place.Role.{Role}
use Rattle.nm_reader.specs.declared.place.Role.TheVariants.{RootElement, EmptyRoot, ModelHeader, HeaderText, HeaderLink, OtherProperty, SectionElement, ObjectElement, PropertyElement, NoHeader, Stray, Nested}
use Rattle.nm_reader.specs.declared.fact.TextProperty.{TextProperty}
use Rattle.nm_reader.specs.declared.counts.Counts.{Counts}

-- the rules on roles, attributes and meanings
abbrev is_judged_fine : Role → Bool → Bool → Bool
is_judged_fine role allowed meaningless =
    not (is_nested role) && not (lacks_header role allowed) && not (is_stray role) && allowed
    && not (is_header role && meaningless) && not (is_of_object role && meaningless)
    && not (is_header_property role && meaningless)

-- a role in which a meaning is asked for
abbrev Asks : Role → Type 0
Asks role = (allowed meaningless : Bool) → is_judged_fine role allowed meaningless ≡ (allowed && not meaningless)

by_meaning : {X : Type 0} (role : Role) → Asks role → (allowed : Bool) (meaning : Option X) → is_judged_fine role allowed (is_none meaning) ≡ (allowed && is_some meaning)
by_meaning role asks allowed None = asks allowed true
by_meaning role asks allowed (Some x) = asks allowed false

header_asks : (kind : Kind) → Asks (ModelHeader kind)
header_asks kind true true = refl
header_asks kind true false = refl
header_asks kind false meaningless = refl

text_asks : (property : TextProperty) → Asks (HeaderText property)
text_asks property true true = refl
text_asks property true false = refl
text_asks property false meaningless = refl

link_asks : (property : LinkProperty) → Asks (HeaderLink property)
link_asks property true true = refl
link_asks property true false = refl
link_asks property false meaningless = refl

object_asks : (part : Part) → Asks (ObjectElement part)
object_asks part true true = refl
object_asks part true false = refl
object_asks part false meaningless = refl

property_asks : Asks PropertyElement
property_asks true true = refl
property_asks true false = refl
property_asks false meaningless = refl

-- a role in which every element means something, or none does
always : (allowed : Bool) → (allowed && true && true && true) ≡ (allowed && true)
always true = refl
always false = refl

never : (allowed : Bool) → false ≡ (allowed && false)
never true = refl
never false = refl

not_both : (allowed : Bool) → (not allowed && true && allowed && true && true && true) ≡ (allowed && false)
not_both true = refl
not_both false = refl

judged : (place : Place) (role : Role) (element : QualifiedName) (given : List Given) → is_judged_fine role (are_allowed role given) (is_none (meaning_of place role element given)) ≡ (are_allowed role given && is_some (meaning_of place role element given))
judged place RootElement element given = always _
judged place EmptyRoot element given = not_both _
judged place (ModelHeader kind) element given = by_meaning (ModelHeader kind) (header_asks kind) _ (meaning_of place (ModelHeader kind) element given)
judged place (HeaderText property) element given = by_meaning (HeaderText property) (text_asks property) _ (meaning_of place (HeaderText property) element given)
judged place (HeaderLink property) element given = by_meaning (HeaderLink property) (link_asks property) _ (meaning_of place (HeaderLink property) element given)
judged place OtherProperty element given = always _
judged place (SectionElement part) element given = always _
judged place (ObjectElement part) element given = by_meaning (ObjectElement part) (object_asks part) _ (meaning_of place (ObjectElement part) element given)
judged place PropertyElement element given = by_meaning PropertyElement property_asks _ (meaning_of place PropertyElement element given)
judged place NoHeader element given = never _
judged place Stray element given = never _
judged place Nested element given = never _

-- ---- the place inside an element may end, but for the root

abbrev is_root : Role → Bool
is_root RootElement = true
is_root _ = false

header_ends : (kind : Kind) (id : Option ℕ) → may_end (inside_of (option_map (header_meaning kind) id)) ≡ true
header_ends kind None = refl
header_ends kind (Some id) = refl

text_ends : (property : TextProperty) (resource : Option (List ℕ)) → may_end (inside_of (header_text_meaning property resource)) ≡ true
text_ends property None = refl
text_ends property (Some resource) = refl

link_ends : (property : LinkProperty) (id : Option ℕ) → may_end (inside_of (option_map (header_link_meaning property) id)) ≡ true
link_ends property None = refl
link_ends property (Some id) = refl

class_ends : (class : Bool) (part : Part) (subject : Ident) (told : Option Fact) (counts : Counts) → may_end (inside_of (Some (if class then only_inside (InObject part subject) else record { inside = InObject part subject; tells = told; counts = counts }))) ≡ true
class_ends true part subject told counts = refl
class_ends false part subject told counts = refl

object_ends : (part : Part) (element : QualifiedName) (subject : Option Ident) → may_end (inside_of (option_map (object_meaning part element) subject)) ≡ true
object_ends part element None = refl
object_ends part element (Some subject) = class_ends (same_name element description_name) part subject _ _

target_ends : (part : Part) (subject : Ident) (element : QualifiedName) (linked : Option Target) → may_end (inside_of (option_map (link_meaning part subject element) linked)) ≡ true
target_ends part subject element None = refl
target_ends part subject element (Some linked) = refl

property_ends : (place : Place) (element : QualifiedName) (resource : Option (List ℕ)) → may_end (inside_of (property_meaning place element resource)) ≡ true
property_ends (InObject part subject) element None = refl
property_ends (InObject part subject) element (Some resource) = target_ends part subject element (target_of resource)
property_ends _ element resource = refl

inside_ends : (place : Place) (role : Role) (element : QualifiedName) (given : List Given) → may_end (inside_of (meaning_of place role element given)) ≡ not (is_root role)
inside_ends place RootElement element given = refl
inside_ends place EmptyRoot element given = refl
inside_ends place (ModelHeader kind) element given = header_ends kind (model_id_of given)
inside_ends place (HeaderText property) element given = text_ends property (value_of resource_name given)
inside_ends place (HeaderLink property) element given = link_ends property (linked_by given)
inside_ends place OtherProperty element given = refl
inside_ends place (SectionElement part) element given = refl
inside_ends place (ObjectElement part) element given = object_ends part element (identity_of given)
inside_ends place PropertyElement element given = property_ends place element (value_of resource_name given)
inside_ends place NoHeader element given = refl
inside_ends place Stray element given = refl
inside_ends place Nested element given = refl

-- ---- an element is the root by its name alone, and an empty one of that name has no other role

-- what the name of the root is in a place
abbrev IsRootRole : Role → Type 0
IsRootRole RootElement = Unit {0}
IsRootRole NoHeader = Unit {0}
IsRootRole Stray = Unit {0}
IsRootRole Nested = Unit {0}
IsRootRole _ = ⊥

root_roles : (place : Place) → IsRootRole (role_of place root_name)
root_roles BeforeRoot = tt
root_roles InRoot = tt
root_roles (InHeader kind) = tt
root_roles InBody = tt
root_roles InRest = tt
root_roles (InSection part) = tt
root_roles (InObject part subject) = tt
root_roles (InLiteral owner text) = tt
root_roles InLink = tt
root_roles InSkipped = tt
root_roles AfterRoot = tt

root_roles_of : (place : Place) (element : QualifiedName) → same_name root_name element ≡ true → IsRootRole (role_of place element)
root_roles_of place element same = rw (← (names_equal root_name element same)) (root_roles place)

no_root_row : (same : Bool) (role other : Role) → not (is_root role) ≡ true → is_root other ≡ false → is_root (if same then role else other) ≡ false
no_root_row true role other differs others_differ = grind arith
no_root_row false role other differs others_differ = others_differ

-- no row of a table is the root's
no_root_in : (rows : List (QualifiedName × Role)) (element : QualifiedName) (other : Role) → list_all (λ row. not (is_root row.1)) rows ≡ true → is_root other ≡ false → is_root (role_in rows element other) ≡ false
no_root_in [] element other rows_differ other_differs = other_differs
no_root_in (row ∷ rows) element other rows_differ other_differs =
    no_root_row (same_name row.0 element) row.1 (role_in rows element other) (and_left _ _ rows_differ)
    (no_root_in rows element other (and_right _ _ rows_differ) other_differs)

root_or_stray : (same : Bool) → is_root (if same then RootElement else Stray) ≡ same
root_or_stray true = refl
root_or_stray false = refl

no_root_for : (first second : Bool) (third fourth : Role) → is_root third ≡ false → is_root fourth ≡ false → is_root (if first then Stray else if second then third else fourth) ≡ false
no_root_for true second third fourth differs others = refl
no_root_for false true third fourth differs others = differs
no_root_for false false third fourth differs others = others

no_root_section : (kind : Kind) (element : QualifiedName) → is_root (role_in (sections kind) element Stray) ≡ false
no_root_section Full element = refl
no_root_section Difference element = no_root_in (sections Difference) element Stray refl refl

no_root_choice : (stray : Bool) (role : Role) → is_root role ≡ false → is_root (if stray then Stray else role) ≡ false
no_root_choice true role differs = refl
no_root_choice false role differs = differs

contrary : (b : Bool) {X : Type 0} → b ≡ false → b ≡ true → X
contrary b is_false is_true = absurd (grind arith)

root_is_named : (place : Place) (element : QualifiedName) → is_root (role_of place element) ≡ true → same_name root_name element ≡ true
root_is_named BeforeRoot element root = sym (root_or_stray (same_name root_name element)) ∙ root
root_is_named InRoot element root = contrary _ (no_root_in headers element NoHeader refl refl) root
root_is_named (InHeader kind) element root = contrary _ (no_root_for (is_rdf element) (is_dm element) _ _ (no_root_section kind element) (no_root_in properties element OtherProperty refl refl)) root
root_is_named InBody element root = contrary _ (no_root_choice (is_foreign (codes "Description") element) (ObjectElement Whole) refl) root
root_is_named InRest element root = contrary _ refl root
root_is_named (InSection part) element root = contrary _ (no_root_choice (is_foreign (codes "Description") element) (ObjectElement part) refl) root
root_is_named (InObject part subject) element root = contrary _ (no_root_choice (is_foreign (codes "type") element) PropertyElement refl) root
root_is_named (InLiteral owner text) element root = contrary _ refl root
root_is_named InLink element root = contrary _ refl root
root_is_named InSkipped element root = contrary _ refl root
root_is_named AfterRoot element root = contrary _ refl root

-- ---- a tag that is no empty root, and one that is

ends_or_stays : (empty same root : Bool) → (root ≡ true → same ≡ true) → (empty && same) ≡ false → (not empty || not root) ≡ true
ends_or_stays false same root named other = refl
ends_or_stays true same false named other = refl
ends_or_stays true same true named other = contrary _ other (named refl)

and_true : (a b : Bool) → b ≡ true → a ≡ (a && b)
and_true true b holds = sym holds
and_true false b holds = refl

plain_role : (role : Role) → role_at role false ≡ role
plain_role RootElement = refl
plain_role EmptyRoot = refl
plain_role (ModelHeader kind) = refl
plain_role (HeaderText property) = refl
plain_role (HeaderLink property) = refl
plain_role OtherProperty = refl
plain_role (SectionElement part) = refl
plain_role (ObjectElement part) = refl
plain_role PropertyElement = refl
plain_role NoHeader = refl
plain_role Stray = refl
plain_role Nested = refl

judged_plain : (place : Place) (role : Role) (element : QualifiedName) (given : List Given) (empty same : Bool) → (is_root role ≡ true → same ≡ true) → (empty && same) ≡ false
    → is_judged_fine role (are_allowed role given) (is_none (meaning_of place role element given))
    ≡ (are_allowed role given && is_some (meaning_of place role element given) && (not empty || may_end (inside_of (meaning_of place role element given))))
judged_plain place role element given empty same named other =
    judged place role element given ∙ and_true _ _ (ap (λ ends. not empty || ends) (inside_ends place role element given) ∙ ends_or_stays empty same (is_root role) named other)

never_both : (allowed other : Bool) → (not allowed && true && allowed && true && true && true) ≡ (other && false)
never_both true true = refl
never_both true false = refl
never_both false true = refl
never_both false false = refl

never_ends : (allowed : Bool) → (not allowed && true && allowed && true && true && true) ≡ (allowed && true && false)
never_ends true = refl
never_ends false = refl

never_stays : (allowed other : Bool) → (not allowed && true && allowed && true && true && true) ≡ (other && false && true)
never_stays true true = refl
never_stays true false = refl
never_stays false true = refl
never_stays false false = refl

never_nests : (other : Bool) → false ≡ (other && false && true)
never_nests true = refl
never_nests false = refl

judged_root : (place : Place) (role : Role) (element : QualifiedName) (given : List Given) (meaningless : Bool) → IsRootRole role
    → is_judged_fine (role_at role true) (are_allowed (role_at role true) given) meaningless
    ≡ (are_allowed role given && is_some (meaning_of place role element given) && (not true || may_end (inside_of (meaning_of place role element given))))
judged_root place RootElement element given meaningless named = never_ends _
judged_root place NoHeader element given meaningless named = never_stays _ _
judged_root place Stray element given meaningless named = never_stays _ _
judged_root place Nested element given meaningless named = never_nests _
judged_root place EmptyRoot element given meaningless named = absurd named
judged_root place (ModelHeader kind) element given meaningless named = absurd named
judged_root place (HeaderText property) element given meaningless named = absurd named
judged_root place (HeaderLink property) element given meaningless named = absurd named
judged_root place OtherProperty element given meaningless named = absurd named
judged_root place (SectionElement part) element given meaningless named = absurd named
judged_root place (ObjectElement part) element given meaningless named = absurd named
judged_root place PropertyElement element given meaningless named = absurd named

judged_by_name : (place : Place) (element : QualifiedName) (given : List Given) (empty root : Bool) → root ≡ (empty && same_name root_name element)
    → is_judged_fine (role_at (role_of place element) root) (are_allowed (role_at (role_of place element) root) given) (is_none (meaning_of place (role_of place element) element given))
    ≡ (are_allowed (role_of place element) given && is_some (meaning_of place (role_of place element) element given) && (not empty || may_end (inside_of (meaning_of place (role_of place element) element given))))
judged_by_name place element given empty false named =
    rw (plain_role (role_of place element)) (judged_plain place (role_of place element) element given empty (same_name root_name element) (root_is_named place element) (sym named))
judged_by_name place element given true true named =
    judged_root place (role_of place element) element given _ (root_roles_of place element (sym named))
judged_by_name place element given false true named = absurd (grind arith)

-- ---- the rules in a row

abbrev row : (b1 b2 b3 b4 b5 b6 b7 b8 b9 b10 b11 : Bool) → Option Code
row b1 b2 b3 b4 b5 b6 b7 b8 b9 b10 b11 =
    if b1 then Some code.Nesting
    else if b2 then Some code.Attribute
    else if b3 then Some code.Prefix
    else if b4 then Some code.Namespace
    else if b5 then Some code.Header
    else if b6 then Some code.Stray
    else if b7 then Some code.Attribute
    else if b8 then Some code.Header
    else if b9 then Some code.Identifier
    else if b10 then Some code.Header
    else if b11 then Some code.Limit
    else None

none_in_row : (b1 b2 b3 b4 b5 b6 b7 b8 b9 b10 b11 : Bool) → is_none (row b1 b2 b3 b4 b5 b6 b7 b8 b9 b10 b11)
    ≡ (not b1 && not b2 && not b3 && not b4 && not b5 && not b6 && not b7 && not b8 && not b9 && not b10 && not b11)
none_in_row true b2 b3 b4 b5 b6 b7 b8 b9 b10 b11 = refl
none_in_row false true b3 b4 b5 b6 b7 b8 b9 b10 b11 = refl
none_in_row false false true b4 b5 b6 b7 b8 b9 b10 b11 = refl
none_in_row false false false true b5 b6 b7 b8 b9 b10 b11 = refl
none_in_row false false false false true b6 b7 b8 b9 b10 b11 = refl
none_in_row false false false false false true b7 b8 b9 b10 b11 = refl
none_in_row false false false false false false true b8 b9 b10 b11 = refl
none_in_row false false false false false false false true b9 b10 b11 = refl
none_in_row false false false false false false false false true b10 b11 = refl
none_in_row false false false false false false false false false true b11 = refl
none_in_row false false false false false false false false false false true = refl
none_in_row false false false false false false false false false false false = refl

same_tests : (a b : Bool) → (a ≡ true → b ≡ true) → (b ≡ true → a ≡ true) → a ≡ b
same_tests true true there back = refl
same_tests true false there back = sym (there refl)
same_tests false true there back = back refl
same_tests false false there back = refl

regroup : (nested once declared kept lacks stray allowed model resource value within short right : Bool)
    → (not nested && not lacks && not stray && allowed && not model && not resource && not value) ≡ right
    → (not nested && not (not once) && not (not declared) && not (not kept) && not lacks && not stray && not (not allowed) && not model && not resource && not value && not (not within || not short))
    ≡ (once && declared && kept && right && short && within)
regroup nested once declared kept lacks stray allowed model resource value within short right e =
    rw (← e) (same_tests _ _ (λ h. grind arith) (λ h. grind arith))

reorder : (once declared kept allowed means ends short within : Bool)
    → (once && declared && kept && (allowed && means && ends) && short && within)
    ≡ (once && declared && kept && allowed && means && short && ends && within)
reorder once declared kept allowed means ends short within = same_tests _ _ (λ h. grind arith) (λ h. grind arith)

-- no rule applies to a tag exactly where it is taken, an empty one may end, and no limit is passed
pub fine_tag : (context : Context) (name : QName) (attributes : List Attribute) (empty : Bool)
    → is_none (code_at context (Spelt (Open name attributes empty)))
    ≡ (is_taken (tag_at context name attributes) && (not empty || may_end (inside_of_tag (tag_at context name attributes)))
    && is_within_limits (plus context.counted (counted_by_tag (tag_at context name attributes))))
unfolding code_at is_taken inside_of_tag
fine_tag context name attributes empty =
    let tag : Tag = tag_at context name attributes in
    let role : Role = role_judged tag empty in
    let once : Bool = are_spelt_once attributes in
    let declared : Bool = has_declared_prefixes (scope_of tag) name attributes in
    let kept : Bool = has_namespace (element_of tag) in
    let lacks : Bool = lacks_header role (are_allowed role (given_of tag)) in
    let allowed : Bool = are_allowed role (given_of tag) in
    let model : Bool = is_header role && is_none (meaning_of_tag tag) in
    let resource : Bool = is_of_object role && is_none (meaning_of_tag tag) in
    let value : Bool = is_header_property role && is_none (meaning_of_tag tag) in
    let within : Bool = is_within_limits (plus context.counted (counted_by_tag tag)) in
    let short : Bool = has_short_iris (told_by (meaning_of_tag tag)) in
    let means : Bool = is_some (meaning_of_tag tag) in
    let allowed_there : Bool = are_allowed (role_of_tag tag) (given_of tag) in
    let ends : Bool = not empty || may_end (inside_of (meaning_of_tag tag)) in
    none_in_row (is_nested role) (not once) (not declared) (not kept) lacks (is_stray role) (not allowed) model resource value (not within || not short)
    ∙ regroup (is_nested role) once declared kept lacks (is_stray role) allowed model resource value within short (allowed_there && means && ends)
    (judged_by_name context.place (element_of tag) (given_of tag) empty (empty && same_name root_name (element_of tag)) refl)
    ∙ reorder once declared kept allowed_there means ends short within
