-- The parts of an object, and the steps of the loops that write objects.
use Rattle.std.proofs.Common.{◌≡◌, ℕ, ◌+◌, ◌<◌, ◌≤◌, List, [], ◌∷◌, ◌++◌, take, drop, length, get_or, arith, Bool, true, false, not, ◌&&◌, cond, Option, None, Some, codes, position, nat_lt, unwrap_or, fold, flat_map, is_some, sym, ◌∙◌, ap, refl, append_assoc, ltb-false}
use Rattle.std.specs.Ordering.{is_eq}
use Rattle.std.specs.List.{prefix_len, position_or_len}
use Rattle.std.proofs.lemmas.List.{flat_map_more, take_more}
use Rattle.std.proofs.lemmas.List.Concat.{flat_map-append}
use Rattle.std.proofs.lemmas.List.Sums.{fold-append, prefix_len-le-length}
use Rattle.nm_ident.proofs.Orders.{derived-ident_cmp}
use Rattle.nm_ident.specs.Order.{ident_cmp}
use Rattle.nm_ident.specs.QualifiedName.{QualifiedName}
use Rattle.nm_ident.specs.contracts.ident.IdentOrd.TheImpl.Laws as ident_laws
use Rattle.nm_ident.specs.contracts.ident.IdentPartialEq.TheImpl as ident_eq
use Rattle.nm_ident.specs.declared.ident.Ident.{Ident}
use Rattle.nm_statement.specs.Set.{IsRising}
use Rattle.nm_statement.specs.declared.statement.Statement.{Statement}
use Rattle.nm_writer.specs.Canonical.{class_namespaces, closing, element, element_of, element_start, elements, element_tag, group_length, properties_of, property_line, namespace_of, tag_of, IsNamedBy}
use Rattle.nm_writer.specs.Namespaces.{with_namespace}
use Rattle.nm_writer.proofs.Groups.{by_subject-first}

-- `==` of identifiers is that of their order
pub derived-ident_eq : (x y : Ident) → ident_eq.ghosts.eq x y ≡ is_eq (ident_cmp x y)
derived-ident_eq x y = ident_laws.matches_eq-law x y ∙ ap is_eq (derived-ident_cmp x y)

-- ---- the front that passes

not_not : (b : Bool) → not (not b) ≡ b
not_not true = refl
not_not false = refl

module _ {X : Type 0} (p : X → Bool) where
  first_failing : (xs : List X) → position_or_len (λ x. not (p x)) xs ≡ prefix_len p xs
  first_failing [] = refl
  first_failing (x ∷ xs) = λ i. cond (not_not (p x) i) (1 + first_failing xs i) 0

  -- the place of the first that fails, or the end
  pub first_failing-or_end : (xs : List X) → unwrap_or (position (λ x. not (p x)) xs) (length xs) ≡ prefix_len p xs
  first_failing-or_end xs =
      ap (λ (n : ℕ). unwrap_or (cond (nat_lt n (length xs)) (Some n) None) (length xs)) (first_failing xs)
      ∙ by (nat_lt (prefix_len p xs) (length xs)) refl
    where
      by : (b : Bool) → nat_lt (prefix_len p xs) (length xs) ≡ b → unwrap_or (cond b (Some (prefix_len p xs)) None) (length xs) ≡ prefix_len p xs
      by true e = refl
      by false e = omega (arith, ltb-false (prefix_len p xs) (length xs) e, prefix_len-le-length p xs)

-- ---- the parts of an object

and_true : (b : Bool) → (b && true) ≡ b
and_true true = refl
and_true false = refl

and_false : (b : Bool) → (b && false) ≡ false
and_false true = refl
and_false false = refl

-- the object of a subject that has a class
pub element-named : (is_full : Bool) (namespaces : List (List ℕ)) (subject : Ident) (group : List Statement) (place : ℕ) (name : QualifiedName) → IsNamedBy group place name
    → element is_full namespaces subject group
    ≡ element_start (tag_of namespaces name) is_full subject
    ++ (flat_map (property_line namespaces) (take place group) ++ flat_map (property_line namespaces) (drop (place + 1) group))
    ++ closing (tag_of namespaces name)
element-named is_full namespaces subject group place name named =
    ap (λ (class : Option QualifiedName). element_start (element_tag namespaces class) (is_full && is_some class) subject ++ flat_map (property_line namespaces) (properties_of group) ++ closing (element_tag namespaces class)) named.class
    ∙ ap (λ (is_new : Bool). element_start (tag_of namespaces name) is_new subject ++ flat_map (property_line namespaces) (properties_of group) ++ closing (tag_of namespaces name)) (and_true is_full)
    ∙ ap (λ (lines : List ℕ). element_start (tag_of namespaces name) is_full subject ++ lines ++ closing (tag_of namespaces name))
    (ap (flat_map (property_line namespaces)) named.others ∙ flat_map-append (property_line namespaces) (take place group) (drop (place + 1) group))

-- the object of one that has none
pub element-plain : (is_full : Bool) (namespaces : List (List ℕ)) (subject : Ident) (group : List Statement) → element_of group ≡ None → properties_of group ≡ group
    → element is_full namespaces subject group
    ≡ element_start (codes "rdf:Description") false subject ++ flat_map (property_line namespaces) group ++ closing (codes "rdf:Description")
element-plain is_full namespaces subject group none all =
    ap (λ (class : Option QualifiedName). element_start (element_tag namespaces class) (is_full && is_some class) subject ++ flat_map (property_line namespaces) (properties_of group) ++ closing (element_tag namespaces class)) none
    ∙ ap (λ (is_new : Bool). element_start (codes "rdf:Description") is_new subject ++ flat_map (property_line namespaces) (properties_of group) ++ closing (codes "rdf:Description")) (and_false is_full)
    ∙ ap (λ (ss : List Statement). element_start (codes "rdf:Description") false subject ++ flat_map (property_line namespaces) ss ++ closing (codes "rdf:Description")) all

three : (start first second third a b c : List ℕ) → first ≡ start ++ a → second ≡ first ++ b → third ≡ second ++ c → third ≡ start ++ (a ++ b ++ c)
three start first second third a b c is-first is-second is-third =
    is-third ∙ ap (λ (bytes : List ℕ). bytes ++ c) (is-second ∙ ap (λ (bytes : List ℕ). bytes ++ b) is-first) ∙ simp append_assoc

four : (start first second third fourth a b c d : List ℕ) → first ≡ start ++ a → second ≡ first ++ b → third ≡ second ++ c → fourth ≡ third ++ d → fourth ≡ start ++ (a ++ (b ++ c) ++ d)
four start first second third fourth a b c d is-first is-second is-third is-fourth =
    is-fourth ∙ ap (λ (bytes : List ℕ). bytes ++ d) (is-third ∙ ap (λ (bytes : List ℕ). bytes ++ c) (is-second ∙ ap (λ (bytes : List ℕ). bytes ++ b) is-first)) ∙ simp append_assoc

module _ (is_full : Bool) (namespaces : List (List ℕ)) (subject : Ident) (group : List Statement) (start first second third : List ℕ) where
  -- the parts of an object that has a class, written one after the other
  pub named_written : (place : ℕ) (name : QualifiedName) (fourth opening closed : List ℕ) (front back : List Statement) → IsNamedBy group place name
      → opening ≡ tag_of namespaces name → closed ≡ tag_of namespaces name → front ≡ take place group → back ≡ drop (place + 1) group
      → first ≡ start ++ element_start opening is_full subject → second ≡ first ++ flat_map (property_line namespaces) front
      → third ≡ second ++ flat_map (property_line namespaces) back → fourth ≡ third ++ closing closed → fourth ≡ start ++ element is_full namespaces subject group
  named_written place name fourth opening closed front back named is-opening is-closed is-front is-back is-first is-second is-third is-fourth =
      four start first second third fourth (element_start (tag_of namespaces name) is_full subject) (flat_map (property_line namespaces) (take place group))
      (flat_map (property_line namespaces) (drop (place + 1) group)) (closing (tag_of namespaces name))
      (is-first ∙ ap (λ (tag : List ℕ). start ++ element_start tag is_full subject) is-opening)
      (is-second ∙ ap (λ (ss : List Statement). first ++ flat_map (property_line namespaces) ss) is-front)
      (is-third ∙ ap (λ (ss : List Statement). second ++ flat_map (property_line namespaces) ss) is-back)
      (is-fourth ∙ ap (λ (tag : List ℕ). third ++ closing tag) is-closed)
      ∙ ap (λ (bytes : List ℕ). start ++ bytes) (sym (element-named is_full namespaces subject group place name named))

  -- those of one that has none
  pub plain_written : element_of group ≡ None → properties_of group ≡ group → first ≡ start ++ element_start (codes "rdf:Description") false subject
      → second ≡ first ++ flat_map (property_line namespaces) group → third ≡ second ++ closing (codes "rdf:Description") → third ≡ start ++ element is_full namespaces subject group
  plain_written none all is-first is-second is-third =
      three start first second third (element_start (codes "rdf:Description") false subject) (flat_map (property_line namespaces) group) (closing (codes "rdf:Description")) is-first is-second is-third
      ∙ ap (λ (bytes : List ℕ). start ++ bytes) (sym (element-plain is_full namespaces subject group none all))

-- ---- the steps of loops

-- one item more is written
pub lines_step : {X : Type 0} (f : X → List ℕ) (xs : List X) (i : ℕ) (x : X) (start out after : List ℕ) → i < length xs → x ≡ get_or xs i x
    → out ≡ start ++ flat_map f (take i xs) → after ≡ out ++ f x → after ≡ start ++ flat_map f (take (i + 1) xs)
lines_step f xs i x start out after within here so_far appended =
    appended
    ∙ ap (λ (bytes : List ℕ). bytes ++ f x) so_far
    ∙ flat_map_more f start (take i xs) x
    ∙ ap (λ y. start ++ flat_map f (take i xs ++ y ∷ [])) here
    ∙ ap (λ ys. start ++ flat_map f ys) (sym (take_more xs i x within))

-- one object more is written
elements_next : (is_full : Bool) (namespaces : List (List ℕ)) (x : Statement) (xs : List Statement) (out after all : List ℕ) → IsRising (x ∷ xs)
    → after ≡ out ++ element is_full namespaces x.subject (take (group_length (x ∷ xs)) (x ∷ xs))
    → out ++ elements is_full namespaces (x ∷ xs) ≡ all → after ++ elements is_full namespaces (drop (group_length (x ∷ xs)) (x ∷ xs)) ≡ all
elements_next is_full namespaces x xs out after all rising appended so_far =
    let rest = elements is_full namespaces (drop (group_length (x ∷ xs)) (x ∷ xs)) in
    ap (λ (bytes : List ℕ). bytes ++ rest) appended
    ∙ append_assoc out (element is_full namespaces x.subject (take (group_length (x ∷ xs)) (x ∷ xs))) rest
    ∙ ap (λ (bytes : List ℕ). out ++ bytes) (sym (by_subject-first (element is_full namespaces) x xs rising))
    ∙ so_far

pub elements_step : (is_full : Bool) (namespaces : List (List ℕ)) (rest : List Statement) (first : Statement) (group behind : List Statement) (out after all : List ℕ)
    → 1 ≤ length rest → first ≡ get_or rest 0 first → group ≡ take (group_length rest) rest → behind ≡ drop (group_length rest) rest → IsRising rest
    → after ≡ out ++ element is_full namespaces first.subject group → out ++ elements is_full namespaces rest ≡ all → after ++ elements is_full namespaces behind ≡ all
elements_step is_full namespaces [] first group behind out after all some here is-group is-behind rising appended so_far = absurd (omega arith)
elements_step is_full namespaces (x ∷ xs) first group behind out after all some here is-group is-behind rising appended so_far =
    ap (λ (ss : List Statement). after ++ elements is_full namespaces ss) is-behind
    ∙ elements_next is_full namespaces x xs out after all rising
    (appended ∙ (λ i. out ++ element is_full namespaces (here i).subject (is-group i))) so_far

-- the class of one group more is added
pub namespaces_step : (rest group behind : List Statement) (before after all : List (List ℕ)) → group ≡ take (group_length rest) rest → behind ≡ drop (group_length rest) rest → IsRising rest
    → after ≡ fold with_namespace before (namespace_of (element_of group)) → fold with_namespace before (class_namespaces rest) ≡ all → fold with_namespace after (class_namespaces behind) ≡ all
namespaces_step [] group behind before after all is-group is-behind rising added so_far =
    (λ i. fold with_namespace (added i) (class_namespaces (is-behind i))) ∙ ap (λ (ss : List Statement). fold with_namespace before (namespace_of (element_of ss))) is-group ∙ so_far
namespaces_step (x ∷ xs) group behind before after all is-group is-behind rising added so_far =
    (λ i. fold with_namespace (added i) (class_namespaces (is-behind i)))
    ∙ ap (λ (ss : List Statement). fold with_namespace (fold with_namespace before (namespace_of (element_of ss))) (class_namespaces (drop (group_length (x ∷ xs)) (x ∷ xs)))) is-group
    ∙ sym (fold-append with_namespace before (namespace_of (element_of (take (group_length (x ∷ xs)) (x ∷ xs)))) (class_namespaces (drop (group_length (x ∷ xs)) (x ∷ xs))))
    ∙ ap (fold with_namespace before) (sym (by_subject-first (λ subject ss. namespace_of (element_of ss)) x xs rising))
    ∙ so_far
