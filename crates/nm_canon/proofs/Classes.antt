-- The class that names an element is the two parts of its IRI.
use Rattle.std.proofs.Common.{◌≡◌, ◌∙◌, ℕ, Bool, true, false, not, ◌&&◌, ◌||◌, cond, List, [], ◌∷◌, ◌++◌, reverse, Option, None, Some, if◌then◌else◌, refl, sym, ap, subst, append_assoc, append-nil}
use Rattle.std.specs.Prelude.{◌==◌}
use Rattle.std.specs.Ordering.{is_eq}
use Rattle.std.proofs.lemmas.List.{reverse-append, reverse-reverse}
use Rattle.nm_ident.proofs.Orders.{name_cmp-equal, equal_from}
use Rattle.nm_ident.specs.Name.{is_predicate, type_name}
use Rattle.nm_ident.specs.Order.{name_cmp}
use Rattle.nm_ident.specs.QualifiedName.{QualifiedName}
use Rattle.nm_statement.specs.declared.object.Object.{Object}
use Rattle.nm_statement.specs.declared.object.Object.TheVariants.{Literal, Resource, Iri}
use Rattle.nm_statement.specs.declared.statement.Statement.{Statement}
use Rattle.nm_writer.specs.Canonical.{class_of, class_of_iri, class_of_object, element_of, or_else, split_back, split_iri}
use Rattle.nm_writer.specs.Namespaces.{is_rdf}

some_is : {X : Type 0} (x y : X) → Some x ≡ Some y → x ≡ y
some_is x y same = cc

-- one turn of the split, from whether the byte ends a namespace
abbrev split_at : Bool → ℕ → List ℕ → List ℕ → QualifiedName
split_at ends byte before after = if ends then record { ns = reverse (byte ∷ before); local = after } else split_back before (byte ∷ after)

split_back-joined : (back after : List ℕ) → (split_back back after).ns ++ (split_back back after).local ≡ reverse back ++ after
split_back-joined [] after = refl
split_back-joined (byte ∷ before) after = by (split_back-joined before (byte ∷ after)) ((byte == 35) || (byte == 47))
  where
    by : (split_back before (byte ∷ after)).ns ++ (split_back before (byte ∷ after)).local ≡ reverse before ++ byte ∷ after
        → (ends : Bool) → (split_at ends byte before after).ns ++ (split_at ends byte before after).local ≡ reverse (byte ∷ before) ++ after
    by earlier true = refl
    by earlier false =
        earlier
        ∙ sym (append_assoc (reverse before) (byte ∷ []) after)
        ∙ ap (λ (bytes : List ℕ). bytes ++ after) (sym (reverse-append (byte ∷ []) before))

-- both parts of an IRI are the IRI
split_iri-joined : (iri : List ℕ) → (split_iri iri).ns ++ (split_iri iri).local ≡ iri
split_iri-joined iri = split_back-joined (reverse iri) [] ∙ append-nil (reverse (reverse iri)) ∙ reverse-reverse iri

-- the statement gives its subject this class
pub record IsTypeOf (statement : Statement) (name : QualifiedName) : Type 0 where
  pub predicate : statement.predicate ≡ type_name
  pub object : statement.object ≡ Iri (name.ns ++ name.local)
  pub other : is_rdf name.ns ≡ false

named_if : (named rdf : Bool) (x y : QualifiedName) → cond (named && not rdf) (Some x) None ≡ Some y → (rdf ≡ false) × (x ≡ y)
named_if true false x y e = (refl, some_is x y e)
named_if true true x y e = absurd cc
named_if false rdf x y e = absurd cc

-- the IRI of a class that names an element is its two parts
class_of_iri-parts : (iri : List ℕ) (name : QualifiedName) → class_of_iri iri ≡ Some name → (iri ≡ name.ns ++ name.local) × (is_rdf name.ns ≡ false)
class_of_iri-parts iri name e =
    let found = named_if (is_predicate (split_iri iri)) (is_rdf (split_iri iri).ns) (split_iri iri) name e in (
      sym (split_iri-joined iri) ∙ ap (λ (n : QualifiedName). n.ns ++ n.local) found.1,
      subst (λ (n : QualifiedName). is_rdf n.ns ≡ false) found.1 found.0,
    )

class_of_object-parts : (object : Object) (name : QualifiedName) → class_of_object object ≡ Some name → (object ≡ Iri (name.ns ++ name.local)) × (is_rdf name.ns ≡ false)
class_of_object-parts (Literal text) name e = absurd cc
class_of_object-parts (Resource ident) name e = absurd cc
class_of_object-parts (Iri iri) name e = let parts = class_of_iri-parts iri name e in (ap Iri parts.0, parts.1)

pub class_of-is : (statement : Statement) (name : QualifiedName) → class_of statement ≡ Some name → IsTypeOf statement name
class_of-is statement name e = by (is_eq (name_cmp statement.predicate type_name)) refl e
  where
    by : (same : Bool) → is_eq (name_cmp statement.predicate type_name) ≡ same → cond same (class_of_object statement.object) None ≡ Some name → IsTypeOf statement name
    by true tie is =
        let parts = class_of_object-parts statement.object name is in
        record {
          predicate = name_cmp-equal statement.predicate type_name (equal_from (name_cmp statement.predicate type_name) tie);
          object = parts.0;
          other = parts.1;
        }
    by false tie is = absurd cc

-- a class that names an element is no name of RDF
pub element_of-other : (statements : List Statement) (name : QualifiedName) → element_of statements ≡ Some name → is_rdf name.ns ≡ false
element_of-other [] name e = absurd cc
element_of-other (statement ∷ statements) name e = by (element_of-other statements name) (class_of statement) refl e
  where
    by : (element_of statements ≡ Some name → is_rdf name.ns ≡ false) → (class : Option QualifiedName) → class_of statement ≡ class → or_else class (element_of statements) ≡ Some name
        → is_rdf name.ns ≡ false
    by others None is e = others e
    by others (Some first) is e = (class_of-is statement name (is ∙ e)).other
