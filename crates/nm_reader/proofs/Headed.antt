-- A document that fits has a header, which comes before all else that it tells.
use Rattle.std.proofs.Common.{◌≡◌, ℕ, List, [], ◌∷◌, ◌++◌, codes, Bool, true, false, ◌&&◌, Option, None, Some, is_some, if◌then◌else◌, refl, ap, arith}
use Rattle.std.specs.Option.{option_map}
use Rattle.nm_ident.specs.QualifiedName.{QualifiedName}
use Rattle.nm_reader.specs.Blocks.{Blocks, End, Skip, Text, Empty, Element, fits, place_after, tag_in, told}
use Rattle.nm_reader.specs.Meaning.{are_allowed, has_short_iris, header_meaning, inside_of, meaning_of, model_id_of, told_by}
use Rattle.nm_reader.specs.Namespaces.{Given, are_spelt_once, has_declared_prefixes, has_namespace, same_name, scope_inside}
use Rattle.nm_reader.specs.Opened.{Declaration}
use Rattle.nm_piece.specs.declared.piece.Attribute.{Attribute}
use Rattle.nm_piece.specs.declared.piece.QName.{QName}
use Rattle.nm_reader.specs.Place.{dm, md, root_name}
use Rattle.nm_reader.specs.Tag.{Tag, element_of, given_of, inside_of_tag, is_taken, meaning_of_tag, role_of_tag, scope_of, told_by_tag}
use Rattle.nm_reader.specs.Texts.{is_after_root, may_end}
use Rattle.nm_reader.proofs.Spellings.{and_left, and_right}
use Rattle.nm_reader.specs.declared.fact.Fact.{Fact}
use Rattle.nm_reader.specs.declared.fact.Fact.TheVariants.{Heads}
use Rattle.nm_reader.specs.declared.fact.Kind.{Kind}
use Rattle.nm_reader.specs.declared.fact.Kind.TheVariants.{Full, Difference}
use Rattle.nm_reader.specs.declared.place.Place.{Place}
use Rattle.nm_reader.specs.declared.place.Place.TheVariants.{BeforeRoot, InRoot}
use Rattle.nm_reader.specs.declared.place.Role.TheVariants.{RootElement, ModelHeader, NoHeader, Stray}

-- the header comes first
abbrev pub IsHeaded : List Fact → Type 0
IsHeaded facts = (kind : Kind) × (id : ℕ) × (others : List Fact) × (facts ≡ Heads kind id ∷ others)

not_false : {X : Type 0} → false ≡ true → X
not_false never = absurd (grind arith)

header_told : (kind : Kind) (id : Option ℕ) → is_some (option_map (header_meaning kind) id) ≡ true → IsHeaded (told_by (option_map (header_meaning kind) id))
header_told kind None means = not_false means
header_told kind (Some id) means = (kind, id, [], refl)

header_by_name : (place : Place) (full difference : Bool) (element : QualifiedName) (given : List Given)
    → is_some (meaning_of place (if full then ModelHeader Full else if difference then ModelHeader Difference else NoHeader) element given) ≡ true
    → IsHeaded (told_by (meaning_of place (if full then ModelHeader Full else if difference then ModelHeader Difference else NoHeader) element given))
header_by_name place true difference element given means = header_told Full (model_id_of given) means
header_by_name place false true element given means = header_told Difference (model_id_of given) means
header_by_name place false false element given means = not_false means

-- of six tests the fifth
fifth : (a b c d e f : Bool) → (a && b && c && d && e && f) ≡ true → e ≡ true
fifth a b c d e f holds = grind arith

taken_means : (tag : Tag) → is_taken tag ≡ true → is_some (meaning_of_tag tag) ≡ true
unfolding is_taken
taken_means tag taken = fifth (are_spelt_once tag.attributes) (has_declared_prefixes (scope_of tag) tag.name tag.attributes) (has_namespace (element_of tag)) (are_allowed (role_of_tag tag) (given_of tag)) (is_some (meaning_of_tag tag)) (has_short_iris (told_by (meaning_of_tag tag))) taken

-- the first element in the root is the header
header_taken : (outer : List Declaration) (name : QName) (attributes : List Attribute) → is_taken (tag_in InRoot outer name attributes) ≡ true
    → IsHeaded (told_by_tag (tag_in InRoot outer name attributes))
unfolding told_by_tag
header_taken outer name attributes taken =
    let tag : Tag = tag_in InRoot outer name attributes in
    header_by_name InRoot (same_name (md (codes "FullModel")) (element_of tag)) (same_name (dm (codes "DifferenceModel")) (element_of tag)) (element_of tag) (given_of tag) (taken_means tag taken)

headed_front : (facts others : List Fact) → IsHeaded facts → IsHeaded (facts ++ others)
headed_front facts others (kind, id, behind, same) = (kind, id, behind ++ others, ap (λ f. f ++ others) same)

headed_in_root : (blocks : Blocks) (outer : List Declaration) → fits InRoot outer blocks ≡ true → may_end (place_after InRoot outer blocks) ≡ true → IsHeaded (told InRoot outer blocks)
headed_in_root End outer fit ends = not_false ends
headed_in_root (Skip behind) outer fit ends = headed_in_root behind outer fit ends
headed_in_root (Text text behind) outer fit ends = headed_in_root behind outer (and_right _ _ fit) ends
headed_in_root (Empty name attributes behind) outer fit ends =
    headed_front _ _ (header_taken outer name attributes (and_left _ _ (and_left _ _ fit)))
headed_in_root (Element name attributes inside behind) outer fit ends =
    headed_front _ _ (header_taken outer name attributes (and_left _ _ (and_left _ _ (and_left _ _ fit))))

-- the element before which nothing is told is the root
IsRoot : Place → List Fact → Type 0
IsRoot place facts = (place ≡ InRoot) × (facts ≡ [])

root_by_name : (place : Place) (root : Bool) (element : QualifiedName) (given : List Given) → is_some (meaning_of place (if root then RootElement else Stray) element given) ≡ true
    → IsRoot (inside_of (meaning_of place (if root then RootElement else Stray) element given)) (told_by (meaning_of place (if root then RootElement else Stray) element given))
unfolding IsRoot
root_by_name place true element given means = (refl, refl)
root_by_name place false element given means = not_false means

root_taken : (outer : List Declaration) (name : QName) (attributes : List Attribute) → is_taken (tag_in BeforeRoot outer name attributes) ≡ true
    → IsRoot (inside_of_tag (tag_in BeforeRoot outer name attributes)) (told_by_tag (tag_in BeforeRoot outer name attributes))
unfolding told_by_tag inside_of_tag
root_taken outer name attributes taken =
    let tag : Tag = tag_in BeforeRoot outer name attributes in
    root_by_name BeforeRoot (same_name root_name (element_of tag)) (element_of tag) (given_of tag) (taken_means tag taken)

headed_in : (place : Place) (facts behind : List Fact) (outer : List Declaration) (inside : Blocks) → IsRoot place facts
    → fits place outer inside ≡ true → may_end (place_after place outer inside) ≡ true → IsHeaded (facts ++ (told place outer inside ++ behind))
unfolding IsRoot
headed_in place facts behind outer inside root fit ends =
    let e : place ≡ InRoot = root.0 in
    let there : IsHeaded (told InRoot outer inside) = headed_in_root inside outer (rw e at fit) (rw e at ends) in
    rw (root.1, root.0) (headed_front _ behind there)

empty_root : (place : Place) (facts : List Fact) {X : Type 0} → IsRoot place facts → may_end place ≡ true → X
unfolding IsRoot
empty_root place facts root ends =
    let e : place ≡ InRoot = root.0 in
    not_false (rw e at ends)

pub headed : (blocks : Blocks) (outer : List Declaration) → fits BeforeRoot outer blocks ≡ true → is_after_root (place_after BeforeRoot outer blocks) ≡ true → IsHeaded (told BeforeRoot outer blocks)
headed End outer fit whole = not_false whole
headed (Skip behind) outer fit whole = headed behind outer fit whole
headed (Text text behind) outer fit whole = headed behind outer (and_right _ _ fit) whole
headed (Empty name attributes behind) outer fit whole =
    empty_root _ _ (root_taken outer name attributes (and_left _ _ (and_left _ _ fit))) (and_right _ _ (and_left _ _ fit))
headed (Element name attributes inside behind) outer fit whole =
    let taken = and_left _ _ (and_left _ _ (and_left _ _ fit)) in
    headed_in (inside_of_tag (tag_in BeforeRoot outer name attributes)) (told_by_tag (tag_in BeforeRoot outer name attributes)) _ (scope_inside outer attributes) inside
    (root_taken outer name attributes taken) (and_right _ _ (and_left _ _ (and_left _ _ fit))) (and_right _ _ (and_left _ _ fit))
