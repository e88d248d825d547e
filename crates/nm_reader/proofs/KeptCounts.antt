-- What is told, and what the open elements will tell, is no more than what is counted.
use Rattle.std.proofs.Common.{◌≡◌, ◌≤◌, ℕ, ◌+◌, List, [], ◌∷◌, ◌++◌, length, Bool, true, false, Option, None, Some, if◌then◌else◌, refl, ap, arith}
use Rattle.std.specs.List.{filter_map}
use Rattle.std.specs.Option.{option_map}
use Rattle.nm_ident.specs.Ident.{target_of}
use Rattle.nm_ident.specs.Name.{type_name}
use Rattle.nm_ident.specs.QualifiedName.{QualifiedName}
use Rattle.nm_ident.specs.declared.ident.Ident.{Ident}
use Rattle.nm_ident.specs.declared.ident.Target.{Target}
use Rattle.nm_piece.specs.declared.piece.Attribute.{Attribute}
use Rattle.nm_piece.specs.declared.piece.Piece.{Piece}
use Rattle.nm_piece.specs.declared.piece.Piece.TheVariants.{Start, Doctype, Open, Close, Text, Skip}
use Rattle.nm_piece.specs.declared.piece.QName.{QName}
use Rattle.nm_statement.specs.declared.object.Object.TheVariants as object
use Rattle.nm_reader.specs.Context.{Context, after, after_all, after_tag, beginning, entered, left_behind, tag_at}
use Rattle.nm_reader.specs.Limits.{nothing, plus}
use Rattle.nm_reader.specs.Meaning.{counted_by, header_link_meaning, header_meaning, header_text_meaning, identity_of, inside_of, link_counts, link_meaning, linked_by, meaning_of, model_id_of, object_meaning, only_inside, part_counts, property_meaning, resource_name, text_counts, told_at_end, told_by, value_of}
use Rattle.nm_reader.specs.Namespaces.{Given, same_name}
use Rattle.nm_reader.specs.Place.{description_name, place_behind}
use Rattle.nm_reader.specs.Tag.{Tag, behind_tag, counted_by_tag, element_of, given_of, inside_of_tag, meaning_of_tag, role_of_tag, told_by_tag}
use Rattle.nm_reader.specs.Texts.{with_text}
use Rattle.nm_reader.specs.declared.counts.Counts.{Counts}
use Rattle.nm_reader.specs.declared.fact.Fact.{Fact}
use Rattle.nm_reader.specs.declared.fact.Fact.TheVariants.{Heads, Tells, Links, States}
use Rattle.nm_reader.specs.declared.fact.Kind.{Kind}
use Rattle.nm_reader.specs.declared.fact.Kind.TheVariants.{Full, Difference}
use Rattle.nm_reader.specs.declared.fact.LinkProperty.{LinkProperty}
use Rattle.nm_reader.specs.declared.fact.Part.{Part}
use Rattle.nm_reader.specs.declared.fact.TextProperty.{TextProperty}
use Rattle.nm_reader.specs.Opened.{Opened}
use Rattle.nm_reader.specs.declared.place.Owner.{Owner}
use Rattle.nm_reader.specs.declared.place.Owner.TheVariants.{OfModel, OfSubject}
use Rattle.nm_reader.specs.declared.place.Place.{Place}
use Rattle.nm_reader.specs.declared.place.Place.TheVariants.{BeforeRoot, InRoot, InHeader, InBody, InRest, InSection, InObject, InLiteral, InLink, InSkipped, AfterRoot}
use Rattle.nm_reader.specs.declared.place.Role.{Role}
use Rattle.nm_reader.specs.declared.place.Role.TheVariants.{RootElement, EmptyRoot, ModelHeader, HeaderText, HeaderLink, OtherProperty, SectionElement, ObjectElement, PropertyElement, NoHeader, Stray, Nested}

abbrev pub counts_of : Fact → Counts
counts_of (Heads kind id) = nothing
counts_of (Tells property text) = text_counts property
counts_of (Links property id) = link_counts property
counts_of (States part statement) = part_counts part

abbrev owner_counts : Owner → Counts
owner_counts (OfModel property) = text_counts property
owner_counts (OfSubject part subject predicate) = part_counts part

-- what the end of the element around a place will tell
abbrev place_counts : Place → Counts
place_counts (InLiteral owner text) = owner_counts owner
place_counts _ = nothing

abbrev pub weigh_by : (Fact → ℕ) → List Fact → ℕ
weigh_by weight [] = 0
weigh_by weight (fact ∷ facts) = weight fact + weigh_by weight facts

weigh_by-append : (weight : Fact → ℕ) (xs ys : List Fact) → weigh_by weight (xs ++ ys) ≡ weigh_by weight xs + weigh_by weight ys
weigh_by-append weight [] ys = omega arith
weigh_by-append weight (x ∷ xs) ys = omega (arith, weigh_by-append weight xs ys)

-- one of the counts
module _ (count : Counts → ℕ) (adds : (x y : Counts) → count (plus x y) ≡ count x + count y) (none : count nothing ≡ 0) where
  abbrev weight : Fact → ℕ
  weight fact = count (counts_of fact)

  abbrev waiting : List Opened → ℕ
  waiting [] = 0
  waiting (opened ∷ elements) = count (place_counts opened.behind) + waiting elements

  abbrev pub IsCounted : Context → Type 0
  IsCounted context = weigh_by weight context.told + count (place_counts context.place) + waiting context.elements ≤ count context.counted

  -- ---- tags

  only_counted : (place : Place) → place_counts place ≡ nothing → count (place_counts place) ≤ 0
  only_counted place is = omega (arith, none, ap count is)

  header_counted : (kind : Kind) (id : Option ℕ)
      → weigh_by weight (told_by (option_map (header_meaning kind) id)) + count (place_counts (inside_of (option_map (header_meaning kind) id))) ≤ count (counted_by (option_map (header_meaning kind) id))
  header_counted kind None = omega (arith, none)
  header_counted kind (Some id) = omega (arith, none)

  text_counted : (property : TextProperty) (resource : Option (List ℕ))
      → weigh_by weight (told_by (header_text_meaning property resource)) + count (place_counts (inside_of (header_text_meaning property resource))) ≤ count (counted_by (header_text_meaning property resource))
  text_counted property None = omega (arith, none)
  text_counted property (Some resource) = omega (arith, none)

  link_counted : (property : LinkProperty) (id : Option ℕ)
      → weigh_by weight (told_by (option_map (header_link_meaning property) id)) + count (place_counts (inside_of (option_map (header_link_meaning property) id))) ≤ count (counted_by (option_map (header_link_meaning property) id))
  link_counted property None = omega (arith, none)
  link_counted property (Some id) = omega (arith, none)

  class_counted : (described : Bool) (part : Part) (element : QualifiedName) (subject : Ident)
      → weigh_by weight (told_by (Some (if described then only_inside (InObject part subject) else record { inside = InObject part subject; tells = Some (States part (record { subject = subject; predicate = type_name; object = object.Iri (element.ns ++ element.local) })); counts = part_counts part })))
      + count (place_counts (inside_of (Some (if described then only_inside (InObject part subject) else record { inside = InObject part subject; tells = Some (States part (record { subject = subject; predicate = type_name; object = object.Iri (element.ns ++ element.local) })); counts = part_counts part }))))
      ≤ count (counted_by (Some (if described then only_inside (InObject part subject) else record { inside = InObject part subject; tells = Some (States part (record { subject = subject; predicate = type_name; object = object.Iri (element.ns ++ element.local) })); counts = part_counts part })))
  class_counted true part element subject = omega (arith, none)
  class_counted false part element subject = omega (arith, none)

  object_counted : (part : Part) (element : QualifiedName) (subject : Option Ident)
      → weigh_by weight (told_by (option_map (object_meaning part element) subject)) + count (place_counts (inside_of (option_map (object_meaning part element) subject))) ≤ count (counted_by (option_map (object_meaning part element) subject))
  object_counted part element None = omega (arith, none)
  object_counted part element (Some subject) = class_counted (same_name element description_name) part element subject

  target_counted : (part : Part) (subject : Ident) (predicate : QualifiedName) (linked : Option Target)
      → weigh_by weight (told_by (option_map (link_meaning part subject predicate) linked)) + count (place_counts (inside_of (option_map (link_meaning part subject predicate) linked))) ≤ count (counted_by (option_map (link_meaning part subject predicate) linked))
  target_counted part subject predicate None = omega (arith, none)
  target_counted part subject predicate (Some linked) = omega (arith, none)

  property_counted : (place : Place) (element : QualifiedName) (resource : Option (List ℕ))
      → weigh_by weight (told_by (property_meaning place element resource)) + count (place_counts (inside_of (property_meaning place element resource))) ≤ count (counted_by (property_meaning place element resource))
  property_counted (InObject part subject) element None = omega (arith, none)
  property_counted (InObject part subject) element (Some resource) = target_counted part subject element (target_of resource)
  property_counted _ element resource = omega (arith, none)

  meaning_counted : (place : Place) (role : Role) (element : QualifiedName) (attributes : List Given)
      → weigh_by weight (told_by (meaning_of place role element attributes)) + count (place_counts (inside_of (meaning_of place role element attributes))) ≤ count (counted_by (meaning_of place role element attributes))
  meaning_counted place RootElement element attributes = omega (arith, none)
  meaning_counted place EmptyRoot element attributes = omega (arith, none)
  meaning_counted place (ModelHeader kind) element attributes = header_counted kind (model_id_of attributes)
  meaning_counted place (HeaderText property) element attributes = text_counted property (value_of resource_name attributes)
  meaning_counted place (HeaderLink property) element attributes = link_counted property (linked_by attributes)
  meaning_counted place OtherProperty element attributes = omega (arith, none)
  meaning_counted place (SectionElement part) element attributes = omega (arith, none)
  meaning_counted place (ObjectElement part) element attributes = object_counted part element (identity_of attributes)
  meaning_counted place PropertyElement element attributes = property_counted place element (value_of resource_name attributes)
  meaning_counted place NoHeader element attributes = omega (arith, none)
  meaning_counted place Stray element attributes = omega (arith, none)
  meaning_counted place Nested element attributes = omega (arith, none)

  behind_counted : (role : Role) (place : Place) → count (place_counts (place_behind role place)) ≤ count (place_counts place)
  behind_counted RootElement place = omega (arith, none)
  behind_counted EmptyRoot place = omega arith
  behind_counted (ModelHeader Full) place = omega (arith, none)
  behind_counted (ModelHeader Difference) place = omega (arith, none)
  behind_counted (HeaderText property) place = omega arith
  behind_counted (HeaderLink property) place = omega arith
  behind_counted OtherProperty place = omega arith
  behind_counted (SectionElement part) place = omega arith
  behind_counted (ObjectElement part) place = omega arith
  behind_counted PropertyElement place = omega arith
  behind_counted NoHeader place = omega arith
  behind_counted Stray place = omega arith
  behind_counted Nested place = omega arith

  -- ---- contexts

  entered_counted : (context : Context) (name : QName) (attributes : List Attribute) → IsCounted context → IsCounted (entered context (tag_at context name attributes))
  unfolding behind_tag inside_of_tag told_by_tag counted_by_tag
  entered_counted context name attributes counted =
      let tag : Tag = tag_at context name attributes in
      let by_tag = meaning_counted context.place (role_of_tag tag) (element_of tag) (given_of tag) in
      let behind = behind_counted (role_of_tag tag) context.place in
      omega (arith, weigh_by-append weight context.told (told_by (meaning_of_tag tag)), adds context.counted (counted_by (meaning_of_tag tag)), by_tag, behind, counted)

  ended_counted : (place : Place) → weigh_by weight (told_at_end place) ≤ count (place_counts place)
  ended_counted (InLiteral (OfModel property) text) = omega arith
  ended_counted (InLiteral (OfSubject part subject predicate) text) = omega arith
  ended_counted _ = omega (arith, none)

  left_counted : (elements : List Opened) (context : Context) → context.elements ≡ elements → IsCounted context → IsCounted (left_behind elements context)
  left_counted [] context is counted = counted
  left_counted (opened ∷ elements) context is counted =
      let before : weigh_by weight context.told + count (place_counts context.place) + waiting (opened ∷ elements) ≤ count context.counted = rw is at counted in
      omega (arith, weigh_by-append weight context.told (told_at_end context.place), ended_counted context.place, before)

  text_kept : (place : Place) (text : List ℕ) → place_counts (with_text place text) ≡ place_counts place
  text_kept (InLiteral owner before) text = refl
  text_kept BeforeRoot text = refl
  text_kept InRoot text = refl
  text_kept (InHeader kind) text = refl
  text_kept InBody text = refl
  text_kept InRest text = refl
  text_kept (InSection part) text = refl
  text_kept (InObject part subject) text = refl
  text_kept InLink text = refl
  text_kept InSkipped text = refl
  text_kept AfterRoot text = refl

  tag_counted : (context : Context) (name : QName) (attributes : List Attribute) (empty : Bool) → IsCounted context → IsCounted (after_tag context (tag_at context name attributes) empty)
  tag_counted context name attributes true counted = left_counted _ (entered context (tag_at context name attributes)) refl (entered_counted context name attributes counted)
  tag_counted context name attributes false counted = entered_counted context name attributes counted

  after_counted : (context : Context) (piece : Piece) → IsCounted context → IsCounted (after context piece)
  after_counted context (Start encoding) counted = counted
  after_counted context Doctype counted = counted
  after_counted context (Open name attributes empty) counted = tag_counted context name attributes empty counted
  after_counted context (Close name) counted = left_counted context.elements context refl counted
  after_counted context (Text text) counted = omega (arith, ap count (text_kept context.place text), counted)
  after_counted context Skip counted = counted

  all_counted : (pieces : List Piece) (context : Context) → IsCounted context → IsCounted (after_all context pieces)
  all_counted [] context counted = counted
  all_counted (piece ∷ pieces) context counted = all_counted pieces (after context piece) (after_counted context piece counted)

  -- what pieces tell is no more than they count for
  pub told_counted : (pieces : List Piece) → weigh_by weight (after_all beginning pieces).told ≤ count (after_all beginning pieces).counted
  told_counted pieces =
      let all : IsCounted (after_all beginning pieces) = all_counted pieces beginning (omega (arith, none)) in
      omega (arith, all)

-- ---- how long the lists of a model are

abbrev pub found : {X : Type 0} → Option X → ℕ
found None = 0
found (Some x) = 1

pub length-found : {X : Type 0} (h : Fact → Option X) (facts : List Fact) → length (filter_map h facts) ≡ weigh_by (λ fact. found (h fact)) facts
length-found h [] = refl
length-found {X = X} h (fact ∷ facts) = by (h fact) refl (length-found h facts)
  where
    by : (seen : Option X) → h fact ≡ seen → length (filter_map h facts) ≡ weigh_by (λ fact. found (h fact)) facts → length (filter_map h (fact ∷ facts)) ≡ found (h fact) + weigh_by (λ fact. found (h fact)) facts
    by None is others = rw is (omega (arith, others))
    by (Some x) is others = rw is (omega (arith, others))

pub weigh_by-same : (u v : Fact → ℕ) → ((fact : Fact) → u fact ≡ v fact) → (facts : List Fact) → weigh_by u facts ≡ weigh_by v facts
weigh_by-same u v same [] = refl
weigh_by-same u v same (fact ∷ facts) = omega (arith, same fact, weigh_by-same u v same facts)

pub weigh_by-sum : (u v : Fact → ℕ) (facts : List Fact) → weigh_by (λ fact. u fact + v fact) facts ≡ weigh_by u facts + weigh_by v facts
weigh_by-sum u v [] = refl
weigh_by-sum u v (fact ∷ facts) = omega (arith, weigh_by-sum u v facts)
