-- What the rules on tags come to: the code of a tag, and the meaning of a tag that has none.
use Rattle.std.proofs.Common.{◌≡◌, List, [], ◌∷◌, codes, Bool, true, false, ◌&&◌, ◌||◌, not, Option, None, Some, is_none, is_some, if◌then◌else◌, refl, arith}
use Rattle.std.specs.List.{list_all}
use Rattle.nm_ident.specs.Name.{dm_namespace, is_name, is_namespace, md_namespace, rdf_namespace}
use Rattle.nm_ident.specs.QualifiedName.{QualifiedName}
use Rattle.nm_terms.specs.Bytes.{same_text}
use Rattle.nm_reader.specs.Meaning.{IsStatable, meaning_of}
use Rattle.nm_reader.specs.Namespaces.{Given, same_name}
use Rattle.nm_reader.specs.Place.{headers, is_dm, is_foreign, is_rdf, properties, role_in, role_of, root_name, sections}
use Rattle.nm_reader.specs.Rules.{role_at}
use Rattle.nm_reader.specs.Shape.{or_code, shape_code, value_code}
use Rattle.nm_reader.specs.declared.fact.Kind.{Kind}
use Rattle.nm_reader.specs.declared.fact.Kind.TheVariants.{Full, Difference}
use Rattle.nm_reader.specs.declared.fact.Part.TheVariants.{Whole}
use Rattle.nm_reader.specs.declared.fault.Code.{Code}
use Rattle.nm_reader.specs.declared.fault.Code.TheVariants as code
use Rattle.nm_reader.specs.declared.place.Place.{Place}
use Rattle.nm_reader.specs.declared.place.Place.TheVariants.{BeforeRoot, InRoot, InHeader, InBody, InRest, InSection, InObject, InLiteral, InLink, InSkipped, AfterRoot}
use Rattle.nm_reader.specs.declared.place.Role.{Role}
use Rattle.nm_reader.specs.declared.place.Role.TheVariants.{RootElement, EmptyRoot, ModelHeader, HeaderText, HeaderLink, OtherProperty, SectionElement, ObjectElement, PropertyElement, NoHeader, Stray, Nested}
use Rattle.nm_reader.proofs.Spellings.{and_left, and_right}

-- ---- the rules in a row are those on the shape, on the values and on the limits

pub rows_joined : (b1 b2 b3 b4 b5 b6 b7 b8 b9 b10 b11 : Bool)
    → (if b1 then Some code.Nesting else if b2 then Some code.Attribute else if b3 then Some code.Prefix else if b4 then Some code.Namespace else if b5 then Some code.Header else if b6 then Some code.Stray else if b7 then Some code.Attribute else if b8 then Some code.Header else if b9 then Some code.Identifier else if b10 then Some code.Header else if b11 then Some code.Limit else None)
    ≡ or_code (if b1 then Some code.Nesting else if b2 then Some code.Attribute else if b3 then Some code.Prefix else if b4 then Some code.Namespace else if b5 then Some code.Header else if b6 then Some code.Stray else if b7 then Some code.Attribute else None)
    (or_code (if b8 then Some code.Header else if b9 then Some code.Identifier else if b10 then Some code.Header else None) (if b11 then Some code.Limit else None))
rows_joined true b2 b3 b4 b5 b6 b7 b8 b9 b10 b11 = refl
rows_joined false true b3 b4 b5 b6 b7 b8 b9 b10 b11 = refl
rows_joined false false true b4 b5 b6 b7 b8 b9 b10 b11 = refl
rows_joined false false false true b5 b6 b7 b8 b9 b10 b11 = refl
rows_joined false false false false true b6 b7 b8 b9 b10 b11 = refl
rows_joined false false false false false true b7 b8 b9 b10 b11 = refl
rows_joined false false false false false false true b8 b9 b10 b11 = refl
rows_joined false false false false false false false true b9 b10 b11 = refl
rows_joined false false false false false false false false true b10 b11 = refl
rows_joined false false false false false false false false false true b11 = refl
rows_joined false false false false false false false false false false true = refl
rows_joined false false false false false false false false false false false = refl

pub no_meaning : {X : Type 0} (o : Option X) → is_none o ≡ not (is_some o)
no_meaning None = refl
no_meaning (Some x) = refl

-- ---- a property's name is one that a statement may have

is_property : Role → Bool
is_property PropertyElement = true
is_property _ = false

no_property_row : (same : Bool) (role other : Role) → not (is_property role) ≡ true → is_property other ≡ false → is_property (if same then role else other) ≡ false
unfolding is_property
no_property_row true role other differs others_differ = grind arith
no_property_row false role other differs others_differ = others_differ

no_property_in : (rows : List (QualifiedName × Role)) (element : QualifiedName) (other : Role) → list_all (λ row. not (is_property row.1)) rows ≡ true → is_property other ≡ false → is_property (role_in rows element other) ≡ false
unfolding is_property
no_property_in [] element other rows_differ other_differs = other_differs
no_property_in (row ∷ rows) element other rows_differ other_differs =
    no_property_row (same_name row.0 element) row.1 (role_in rows element other) (and_left _ _ rows_differ)
    (no_property_in rows element other (and_right _ _ rows_differ) other_differs)

no_property_for : (first second : Bool) (third fourth : Role) → is_property third ≡ false → is_property fourth ≡ false → is_property (if first then Stray else if second then third else fourth) ≡ false
unfolding is_property
no_property_for true second third fourth differs others = refl
no_property_for false true third fourth differs others = differs
no_property_for false false third fourth differs others = others

no_property_section : (kind : Kind) (element : QualifiedName) → is_property (role_in (sections kind) element Stray) ≡ false
unfolding is_property
no_property_section Full element = refl
no_property_section Difference element = no_property_in (sections Difference) element Stray refl refl

no_property_choice : (stray : Bool) (role : Role) → is_property role ≡ false → is_property (if stray then Stray else role) ≡ false
unfolding is_property
no_property_choice true role differs = refl
no_property_choice false role differs = differs

statable_other : (role : Role) (element : QualifiedName) → is_property role ≡ false → IsStatable role element
unfolding is_property
statable_other RootElement element other = tt
statable_other EmptyRoot element other = tt
statable_other (ModelHeader kind) element other = tt
statable_other (HeaderText property) element other = tt
statable_other (HeaderLink property) element other = tt
statable_other OtherProperty element other = tt
statable_other (SectionElement part) element other = tt
statable_other (ObjectElement part) element other = tt
statable_other PropertyElement element other = absurd (grind arith)
statable_other NoHeader element other = tt
statable_other Stray element other = tt
statable_other Nested element other = tt

stated_name : (md dm rdf type kept name : Bool) → (md || dm || (rdf && not type)) ≡ false → kept ≡ true → name ≡ true → (kept && name && not md && not dm && (not rdf || type)) ≡ true
stated_name md dm rdf type kept name own is_kept named = grind arith

statable_in_object : (foreign : Bool) (element : QualifiedName) → is_foreign (codes "type") element ≡ foreign → is_namespace element.ns ≡ true → is_name element.local ≡ true
    → IsStatable (if foreign then Stray else PropertyElement) element
statable_in_object true element is kept named = tt
statable_in_object false element is kept named =
    stated_name (same_text element.ns md_namespace) (same_text element.ns dm_namespace) (same_text element.ns rdf_namespace) (same_text element.local (codes "type")) (is_namespace element.ns) (is_name element.local) is kept named

pub statable : (place : Place) (element : QualifiedName) → is_namespace element.ns ≡ true → is_name element.local ≡ true → IsStatable (role_of place element) element
unfolding is_property
statable BeforeRoot element kept named = statable_other (role_in ((root_name, RootElement) ∷ []) element Stray) element (no_property_in ((root_name, RootElement) ∷ []) element Stray refl refl)
statable InRoot element kept named = statable_other (role_in headers element NoHeader) element (no_property_in headers element NoHeader refl refl)
statable (InHeader kind) element kept named = statable_other (role_of (InHeader kind) element) element (no_property_for (is_rdf element) (is_dm element) (role_in (sections kind) element Stray) (role_in properties element OtherProperty) (no_property_section kind element) (no_property_in properties element OtherProperty refl refl))
statable InBody element kept named = statable_other (role_of InBody element) element (no_property_choice (is_foreign (codes "Description") element) (ObjectElement Whole) refl)
statable InRest element kept named = tt
statable (InSection part) element kept named = statable_other (role_of (InSection part) element) element (no_property_choice (is_foreign (codes "Description") element) (ObjectElement part) refl)
statable (InObject part subject) element kept named = statable_in_object (is_foreign (codes "type") element) element refl kept named
statable (InLiteral owner text) element kept named = tt
statable InLink element kept named = tt
statable InSkipped element kept named = tt
statable AfterRoot element kept named = tt

-- ---- a tag without a code has a namespace that is kept, and a meaning

pub kept_if_shaped : (role : Role) (once declared kept allowed : Bool) → shape_code role once declared kept allowed ≡ None → kept ≡ true
kept_if_shaped role once declared true allowed none = refl
kept_if_shaped role once declared false allowed none = absurd (grind arith)

empty_root_never : (once declared kept allowed : Bool) {X : Type 0} → shape_code EmptyRoot once declared kept allowed ≡ None → X
empty_root_never false declared kept allowed none = absurd (cc)
empty_root_never true false kept allowed none = absurd (cc)
empty_root_never true true false allowed none = absurd (cc)
empty_root_never true true true true none = absurd (cc)
empty_root_never true true true false none = absurd (cc)

no_header_never : (once declared kept allowed : Bool) {X : Type 0} → shape_code NoHeader once declared kept allowed ≡ None → X
no_header_never false declared kept allowed none = absurd (cc)
no_header_never true false kept allowed none = absurd (cc)
no_header_never true true false allowed none = absurd (cc)
no_header_never true true true allowed none = absurd (cc)

stray_never : (once declared kept allowed : Bool) {X : Type 0} → shape_code Stray once declared kept allowed ≡ None → X
stray_never false declared kept allowed none = absurd (cc)
stray_never true false kept allowed none = absurd (cc)
stray_never true true false allowed none = absurd (cc)
stray_never true true true allowed none = absurd (cc)

nested_never : (once declared kept allowed : Bool) {X : Type 0} → shape_code Nested once declared kept allowed ≡ None → X
nested_never once declared kept allowed none = absurd (cc)

some_code : (means : Bool) (code : Code) → (if not means then Some code else None) ≡ None → means ≡ true
some_code true code none = refl
some_code false code none = absurd (cc)

-- a tag without a code means something
pub means : (place : Place) (role : Role) (root once declared kept allowed : Bool) (element : QualifiedName) (given : List Given)
    → shape_code (role_at role root) once declared kept allowed ≡ None → value_code (role_at role root) (is_some (meaning_of place role element given)) ≡ None
    → is_some (meaning_of place role element given) ≡ true
means place RootElement root once declared kept allowed element given shape value = refl
means place EmptyRoot true once declared kept allowed element given shape value = empty_root_never once declared kept allowed shape
means place EmptyRoot false once declared kept allowed element given shape value = empty_root_never once declared kept allowed shape
means place (ModelHeader kind) true once declared kept allowed element given shape value = empty_root_never once declared kept allowed shape
means place (ModelHeader kind) false once declared kept allowed element given shape value = some_code _ code.Header value
means place (HeaderText property) true once declared kept allowed element given shape value = empty_root_never once declared kept allowed shape
means place (HeaderText property) false once declared kept allowed element given shape value = some_code _ code.Header value
means place (HeaderLink property) true once declared kept allowed element given shape value = empty_root_never once declared kept allowed shape
means place (HeaderLink property) false once declared kept allowed element given shape value = some_code _ code.Header value
means place OtherProperty root once declared kept allowed element given shape value = refl
means place (SectionElement part) root once declared kept allowed element given shape value = refl
means place (ObjectElement part) true once declared kept allowed element given shape value = empty_root_never once declared kept allowed shape
means place (ObjectElement part) false once declared kept allowed element given shape value = some_code _ code.Identifier value
means place PropertyElement true once declared kept allowed element given shape value = empty_root_never once declared kept allowed shape
means place PropertyElement false once declared kept allowed element given shape value = some_code _ code.Identifier value
means place NoHeader true once declared kept allowed element given shape value = empty_root_never once declared kept allowed shape
means place NoHeader false once declared kept allowed element given shape value = no_header_never once declared kept allowed shape
means place Stray true once declared kept allowed element given shape value = empty_root_never once declared kept allowed shape
means place Stray false once declared kept allowed element given shape value = stray_never once declared kept allowed shape
means place Nested true once declared kept allowed element given shape value = nested_never once declared kept allowed shape
means place Nested false once declared kept allowed element given shape value = nested_never once declared kept allowed shape
