-- The class that an IRI names, and the type that names an element.
use Rattle.std.proofs.Common.{◌≡◌, ℕ, ◌+◌, ◌-◌, ◌<◌, List, [], ◌∷◌, ◌++◌, take, drop, length, reverse, arith, Bool, true, false, not, ◌&&◌, cond, None, Some, Ordering, nat_lt, position, sym, ◌∙◌, ap, refl, codes, append_assoc, if◌then◌else◌, take-append-drop, append-nil, ltb-true, ltb-false, length-drop, drop_at, take_at}
use Rattle.std.specs.declared.cmp.Ordering.TheVariants.{Less, Equal, Greater}
use Rattle.std.specs.Ordering.{is_eq, ordering_then}
use Rattle.std.specs.Cmp.Lexicographic.{texts_ties}
use Rattle.std.specs.List.{position_or_len}
use Rattle.std.proofs.lemmas.List.{reverse-append, reverse-reverse, length-reverse}
use Rattle.std.proofs.lemmas.List.Sums.{prefix_len-le-length}
use Rattle.nm_ident.proofs.Rising.{one_plus}
use Rattle.nm_terms.specs.Bytes.{same_text}
use Rattle.nm_ident.specs.Name.{ends_namespace, is_predicate, rdf_namespace, type_name}
use Rattle.nm_ident.specs.Order.{name_cmp, text_cmp}
use Rattle.nm_ident.specs.QualifiedName.{QualifiedName}
use Rattle.nm_writer.specs.Canonical.{class_of_iri, split_back, split_iri}
use Rattle.nm_writer.specs.Namespaces.{is_rdf}

-- ---- the predicate `rdf:type`

both_level : (a b : Ordering) → is_eq (ordering_then a b) ≡ (is_eq a && is_eq b)
both_level Less b = refl
both_level Equal b = refl
both_level Greater b = refl

pub is_type-is : (name : QualifiedName) → is_eq (name_cmp name type_name) ≡ (is_rdf name.ns && same_text name.local (codes "type"))
is_type-is name =
    both_level (text_cmp name.ns rdf_namespace) (text_cmp name.local (codes "type"))
    ∙ (λ i. sym (texts_ties name.ns rdf_namespace) i && sym (texts_ties name.local (codes "type")) i)

-- ---- the last `#` or `/`

reverse-cons : (x : ℕ) (xs : List ℕ) → reverse (x ∷ xs) ≡ reverse xs ++ x ∷ []
reverse-cons x xs = reverse-append (x ∷ []) xs

split_back-found : (back after : List ℕ) → position_or_len ends_namespace back < length back
    → split_back back after ≡ record { ns = reverse (drop (position_or_len ends_namespace back) back); local = reverse (take (position_or_len ends_namespace back) back) ++ after }
split_back-found [] after found = absurd (omega arith)
split_back-found (byte ∷ before) after found = by (split_back-found before (byte ∷ after)) (ends_namespace byte) found
  where
    by : (position_or_len ends_namespace before < length before → split_back before (byte ∷ after) ≡ record { ns = reverse (drop (position_or_len ends_namespace before) before); local = reverse (take (position_or_len ends_namespace before) before) ++ byte ∷ after }) → (b : Bool) → cond (not b) (1 + position_or_len ends_namespace before) 0 < length (byte ∷ before)
        → (if b then (record { ns = reverse (byte ∷ before); local = after }) else split_back before (byte ∷ after))
        ≡ record { ns = reverse (drop (cond (not b) (1 + position_or_len ends_namespace before) 0) (byte ∷ before)); local = reverse (take (cond (not b) (1 + position_or_len ends_namespace before) 0) (byte ∷ before)) ++ after }
    by earlier true within = refl
    by earlier false within =
        let n = position_or_len ends_namespace before in
        earlier (omega arith)
        ∙ (λ i. record { ns = reverse (drop n before); local = (sym (append_assoc (reverse (take n before)) (byte ∷ []) after) ∙ ap (λ (xs : List ℕ). xs ++ after) (sym (reverse-cons byte (take n before)))) i })
        ∙ rw one_plus refl

split_back-none : (back after : List ℕ) → position_or_len ends_namespace back ≡ length back → (split_back back after).ns ≡ []
split_back-none [] after none = refl
split_back-none (byte ∷ before) after none = by (split_back-none before (byte ∷ after)) (ends_namespace byte) none
  where
    by : (position_or_len ends_namespace before ≡ length before → (split_back before (byte ∷ after)).ns ≡ []) → (b : Bool) → cond (not b) (1 + position_or_len ends_namespace before) 0 ≡ length (byte ∷ before)
        → (if b then (record { ns = reverse (byte ∷ before); local = after }) else split_back before (byte ∷ after)).ns ≡ []
    by earlier true e = absurd (omega arith)
    by earlier false e = earlier (omega arith)

position_found : (b : Bool) (n i : ℕ) → cond b (Some n) None ≡ Some i → (b ≡ true) × (n ≡ i)
position_found true n i e = (refl, cc)
position_found false n i e = cc

position_none : (b : Bool) (n : ℕ) → cond b (Some n) None ≡ None → b ≡ false
position_none true n e = cc
position_none false n e = refl

-- an IRI is split behind its last `#` or `/`, which stands n bytes before the end
pub split_iri-found : (iri : List ℕ) (n : ℕ) → position ends_namespace (reverse iri) ≡ Some n
    → (n < length iri) × (split_iri iri ≡ record { ns = take (length iri - n) iri; local = drop (length iri - n) iri })
split_iri-found iri n found =
    let back = reverse iri in
    let k = length iri - n in
    let at = position_found (nat_lt (position_or_len ends_namespace back) (length back)) (position_or_len ends_namespace back) n found in
    let below : position_or_len ends_namespace back < length back = ltb-true (position_or_len ends_namespace back) (length back) at.0 in
    let within : n < length iri = omega (arith, length-reverse iri, at.1) in
    let parts : back ≡ reverse (drop k iri) ++ reverse (take k iri) = ap reverse (sym (take-append-drop k iri)) ∙ reverse-append (take k iri) (drop k iri) in
    let long : length (reverse (drop k iri)) ≡ n = omega (arith, length-reverse (drop k iri), length-drop k iri) in
    let ns : reverse (drop n back) ≡ take k iri = ap (λ (xs : List ℕ). reverse (drop n xs)) parts ∙ ap reverse (drop_at (reverse (drop k iri)) (reverse (take k iri)) n long) ∙ reverse-reverse (take k iri) in
    let local : reverse (take n back) ++ [] ≡ drop k iri = append-nil (reverse (take n back)) ∙ ap (λ (xs : List ℕ). reverse (take n xs)) parts ∙ ap reverse (take_at (reverse (drop k iri)) (reverse (take k iri)) n long) ∙ reverse-reverse (drop k iri) in (
      within,
      split_back-found back [] below
          ∙ ap (λ (m : ℕ). record { ns = reverse (drop m back); local = reverse (take m back) ++ [] }) at.1
          ∙ (λ i. record { ns = ns i; local = local i }),
    )

no_class : (name : QualifiedName) → name.ns ≡ [] → (if is_predicate name && not (is_rdf name.ns) then Some name else None) ≡ None
no_class name e = rw e refl

-- an IRI without them names no class
pub class_of_iri-none : (iri : List ℕ) → position ends_namespace (reverse iri) ≡ None → class_of_iri iri ≡ None
class_of_iri-none iri none =
    let back = reverse iri in
    let past = ltb-false (position_or_len ends_namespace back) (length back) (position_none (nat_lt (position_or_len ends_namespace back) (length back)) (position_or_len ends_namespace back) none) in
    let all : position_or_len ends_namespace back ≡ length back = omega (arith, past, prefix_len-le-length (λ byte. not (ends_namespace byte)) back) in
    no_class (split_iri iri) (split_back-none back [] all)

pub class_of_iri-is : (iri : List ℕ) (name : QualifiedName) (named other : Bool) → split_iri iri ≡ name → is_predicate name ≡ named → is_rdf name.ns ≡ other
    → class_of_iri iri ≡ (if named && not other then Some name else None)
class_of_iri-is iri name named other is e r =
    ap (λ (n : QualifiedName). if is_predicate n && not (is_rdf n.ns) then Some n else None) is
    ∙ (λ i. if e i && not (r i) then Some name else None)
