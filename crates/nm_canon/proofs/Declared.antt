-- The namespaces of sound sections are declared.
use Rattle.std.proofs.Common.{◌≡◌, ◌∙◌, ℕ, ◌+◌, ◌<◌, Bool, true, false, not, ◌&&◌, ◌||◌, cond, List, [], ◌∷◌, ◌++◌, length, map, filter, Option, None, Some, Ordering, refl, sym, ap, subst, arith, position, lt-ltb, nat_le, if◌then◌else◌}
use Rattle.std.specs.declared.cmp.Ordering.TheVariants.{Less, Equal, Greater}
use Rattle.std.specs.Cmp.Lexicographic.{bytes_decides, texts_ties}
use Rattle.std.specs.List.{AllByRecursion, flat_map, list_all, list_any, position_or_len}
use Rattle.std.specs.Ordering.{is_eq, match_ordering}
use Rattle.std.proofs.lemmas.List.Folds.{list_any-append}
use Rattle.std.proofs.lemmas.Bool.Decides.{nat_tests}
use Rattle.nm_ident.proofs.Orders.{ident_cmp-equal}
use Rattle.nm_ident.specs.Name.{is_namespace, is_predicate, type_name}
use Rattle.nm_terms.specs.Bytes.{same_text}
use Rattle.nm_ident.specs.Order.{ident_cmp, name_cmp, text_cmp}
use Rattle.nm_ident.specs.QualifiedName.{QualifiedName}
use Rattle.nm_ident.specs.declared.ident.Ident.{Ident}
use Rattle.nm_statement.specs.Sound.{is_sound_iri, is_sound_object, is_sound_statement}
use Rattle.nm_statement.specs.declared.object.Object.{Object}
use Rattle.nm_statement.specs.declared.object.Object.TheVariants.{Literal, Resource, Iri}
use Rattle.nm_statement.specs.declared.statement.Statement.{Statement}
use Rattle.nm_statement.specs.Limits.{longest_iri}
use Rattle.nm_writer.specs.Canonical.{class_of, class_of_iri, class_of_object, class_namespaces, element_of, element_namespace, is_about, or_else, own, namespace_of, namespaces_in, namespaces_of, split_iri, subjects_of}
use Rattle.nm_writer.specs.Namespaces.{insert_text, is_rdf, prefix_of, rising_texts}
use Rattle.nm_writer.proofs.Groups.{every-filter, every-subjects_of}
use Rattle.nm_canon.proofs.Classes.{class_of-is, element_of-other}
use Rattle.nm_canon.proofs.Prefixes.{IsDeclared}
use Rattle.nm_writer.proofs.Namespaces.{has, has-rising_texts}
use Rattle.nm_reader.specs.Opened.{Declaration}
use Rattle.nm_canon.proofs.Documents.{each_sound, every_weaker, every-properties_of, object_sound, predicate_kept, subject_kept}
use Rattle.nm_canon.proofs.Objects.{CanBeTold, IsToldOf}
use Rattle.nm_canon.proofs.Prefixes.{Means, root_scope}
use Rattle.nm_canon.proofs.Properties.{iri_target, predicate_parts}
use Rattle.nm_canon.proofs.Roots.{IsSome}
use Rattle.nm_canon.proofs.Statements.{about_own}

-- ---- tests of lists

or_left : (a b : Bool) → a ≡ true → (a || b) ≡ true
or_left true b e = refl
or_left false b e = absurd cc

or_right : (a b : Bool) → b ≡ true → (a || b) ≡ true
or_right true b e = refl
or_right false b e = e

-- what passes a test is among those that are kept, where all that pass are kept
kept_any : {X : Type 0} (test kept : X → Bool) → ((x : X) → test x ≡ true → kept x ≡ true) → (xs : List X) → list_any test xs ≡ true → list_any test (filter kept xs) ≡ true
kept_any test kept stays [] any = any
kept_any test kept stays (x ∷ xs) any = by (test x) (kept x) refl refl any (kept_any test kept stays xs)
  where
    by : (here stay : Bool) → test x ≡ here → kept x ≡ stay → (here || list_any test xs) ≡ true → (list_any test xs ≡ true → list_any test (filter kept xs) ≡ true)
        → list_any test (cond stay (x ∷ filter kept xs) (filter kept xs)) ≡ true
    by true true passes stays_here any others = or_left (test x) (list_any test (filter kept xs)) passes
    by true false passes goes any others = absurd (let both : false ≡ true = sym goes ∙ stays x passes in cc)
    by false true fails stays_here any others = or_right (test x) (list_any test (filter kept xs)) (others any)
    by false false fails goes any others = others any

place_within : {X : Type 0} (test : X → Bool) (xs : List X) → list_any test xs ≡ true → position_or_len test xs < length xs
place_within test [] any = absurd cc
place_within test (x ∷ xs) any = by (test x) any (place_within test xs)
  where
    by : (here : Bool) → (here || list_any test xs) ≡ true → (list_any test xs ≡ true → position_or_len test xs < length xs)
        → cond (not here) (1 + position_or_len test xs) 0 < length (x ∷ xs)
    by true any others = omega arith
    by false any others = omega (arith, others any)

found_place : {X : Type 0} (test : X → Bool) (xs : List X) → list_any test xs ≡ true → (place : ℕ) × (position test xs ≡ Some place)
found_place test xs any = (position_or_len test xs, rw (lt-ltb (position_or_len test xs) (length xs) (place_within test xs any)) refl)

-- ---- namespaces in lists of them

abbrev pub holds : List (List ℕ) → List ℕ → Bool
holds texts text = list_any (same_text text) texts

holds_is_has : (texts : List (List ℕ)) (text : List ℕ) → holds texts text ≡ has texts text
holds_is_has texts text = λ i. list_any (λ (other : List ℕ). texts_ties text other i) texts

holds-rising_texts : (texts : List (List ℕ)) (text : List ℕ) → holds (rising_texts texts) text ≡ holds texts text
holds-rising_texts texts text = holds_is_has (rising_texts texts) text ∙ has-rising_texts texts text ∙ sym (holds_is_has texts text)

-- a namespace of the list is declared
pub declared_of : (all : List (List ℕ)) (ns : List ℕ) → holds all ns ≡ true → IsDeclared (rising_texts (filter (λ x. not (is_rdf x)) all)) ns
declared_of all ns held other =
    let stays = λ (x : List ℕ) (same : same_text ns x ≡ true). subst (λ (text : List ℕ). not (is_rdf text) ≡ true) ((bytes_decides ns x).0 same) (ap not other) in
    let kept : holds (filter (λ x. not (is_rdf x)) all) ns ≡ true = kept_any (same_text ns) (λ x. not (is_rdf x)) stays all held in
    found_place (same_text ns) (rising_texts (filter (λ x. not (is_rdf x)) all)) (holds-rising_texts (filter (λ x. not (is_rdf x)) all) ns ∙ kept)

any_flat : {X : Type 0} (test : X → Bool) (namespaces : X → List (List ℕ)) (ns : List ℕ) → ((x : X) → test x ≡ true → holds (namespaces x) ns ≡ true)
    → (xs : List X) → list_any test xs ≡ true → holds (flat_map namespaces xs) ns ≡ true
any_flat test namespaces ns each [] any = any
any_flat test namespaces ns each (x ∷ xs) any =
    list_any-append (same_text ns) (namespaces x) (flat_map namespaces xs) ∙ by (test x) refl any (any_flat test namespaces ns each xs)
  where
    by : (here : Bool) → test x ≡ here → (here || list_any test xs) ≡ true → (list_any test xs ≡ true → holds (flat_map namespaces xs) ns ≡ true)
        → (holds (namespaces x) ns || holds (flat_map namespaces xs) ns) ≡ true
    by true passes any others = or_left (holds (namespaces x) ns) (holds (flat_map namespaces xs) ns) (each x passes)
    by false fails any others = or_right (holds (namespaces x) ns) (holds (flat_map namespaces xs) ns) (others any)

-- ---- classes that name elements

class_of_iri-kept : (iri : List ℕ) (name : QualifiedName) → class_of_iri iri ≡ Some name → is_predicate name ≡ true
class_of_iri-kept iri name is = by (split_iri iri) (is_predicate (split_iri iri)) (not (is_rdf (split_iri iri).ns)) refl is
  where
    by : (split : QualifiedName) (kept other : Bool) → is_predicate split ≡ kept → (if kept && other then Some split else None) ≡ Some name → is_predicate name ≡ true
    by split true true kept same = subst (λ (x : QualifiedName). is_predicate x ≡ true) (let e : split ≡ name = cc in e) kept
    by split true false kept same = absurd cc
    by split false other kept same = absurd cc

class_of-kept : (statement : Statement) (name : QualifiedName) → class_of statement ≡ Some name → is_predicate name ≡ true
class_of-kept statement name is = by (is_eq (name_cmp statement.predicate type_name)) statement.object is
  where
    by : (types : Bool) (object : Object) → (if types then class_of_object object else None) ≡ Some name → is_predicate name ≡ true
    by false object is = absurd cc
    by true (Literal text) is = absurd cc
    by true (Resource ident) is = absurd cc
    by true (Iri iri) is = class_of_iri-kept iri name is

pub element_of-kept : (statements : List Statement) (name : QualifiedName) → element_of statements ≡ Some name → is_predicate name ≡ true
element_of-kept [] name is = absurd cc
element_of-kept (statement ∷ statements) name is = by (class_of statement) refl is (element_of-kept statements name)
  where
    by : (class : Option QualifiedName) → class_of statement ≡ class → or_else class (element_of statements) ≡ Some name
        → (element_of statements ≡ Some name → is_predicate name ≡ true) → is_predicate name ≡ true
    by None none is others = others is
    by (Some first) some is others = class_of-kept statement name (some ∙ is)

-- what names an element is stated of its subject
element_is_stated : (kept : Statement → Bool) (statements : List Statement) (name : QualifiedName) → element_of (filter kept statements) ≡ Some name → list_any kept statements ≡ true
element_is_stated kept [] name is = absurd cc
element_is_stated kept (statement ∷ statements) name is = by (kept statement) is (element_is_stated kept statements name)
  where
    by : (here : Bool) → element_of (cond here (statement ∷ filter kept statements) (filter kept statements)) ≡ Some name
        → (element_of (filter kept statements) ≡ Some name → list_any kept statements ≡ true) → (here || list_any kept statements) ≡ true
    by true is others = refl
    by false is others = others is

-- ---- subjects

is_equal : (order : Ordering) → is_eq order ≡ true → order ≡ Equal
is_equal Less e = absurd cc
is_equal Equal e = refl
is_equal Greater e = absurd cc

same_ident : (x y : Ident) → is_eq (ident_cmp x y) ≡ true → x ≡ y
same_ident x y e = ident_cmp-equal x y (is_equal (ident_cmp x y) e)

-- what is not the subject of the first statement is kept of the others' subjects
still_kept : (subject first x : Ident) → is_eq (ident_cmp subject first) ≡ false → is_eq (ident_cmp subject x) ≡ true → not (is_eq (ident_cmp first x)) ≡ true
still_kept subject first x apart same = by (is_eq (ident_cmp first x)) refl
  where
    by : (level : Bool) → is_eq (ident_cmp first x) ≡ level → not level ≡ true
    by false is = refl
    by true is =
        let left : subject ≡ x = same_ident subject x same in
        let right : first ≡ x = same_ident first x is in
        let both : is_eq (ident_cmp subject first) ≡ is_eq (ident_cmp first x) = (λ i. is_eq (ident_cmp (left i) (right i))) ∙ (λ i. is_eq (ident_cmp (sym right i) x)) in
        absurd (let differ : false ≡ true = sym apart ∙ both ∙ is in cc)

among_subjects : (subject : Ident) (statements : List Statement) → list_any (is_about subject) statements ≡ true
    → list_any (λ (x : Ident). is_eq (ident_cmp subject x)) (subjects_of statements) ≡ true
among_subjects subject [] any = any
among_subjects subject (statement ∷ statements) any = by (is_eq (ident_cmp subject statement.subject)) refl any (among_subjects subject statements)
  where
    by : (here : Bool) → is_eq (ident_cmp subject statement.subject) ≡ here → (here || list_any (is_about subject) statements) ≡ true
        → (list_any (is_about subject) statements ≡ true → list_any (λ (x : Ident). is_eq (ident_cmp subject x)) (subjects_of statements) ≡ true)
        → (here || list_any (λ (x : Ident). is_eq (ident_cmp subject x)) (filter (λ x. not (is_eq (ident_cmp statement.subject x))) (subjects_of statements))) ≡ true
    by true is any others = refl
    by false is any others =
        kept_any (λ (x : Ident). is_eq (ident_cmp subject x)) (λ x. not (is_eq (ident_cmp statement.subject x)))
        (λ x same. still_kept subject statement.subject x is same) (subjects_of statements) (others any)

-- the namespace of what names an element is one of the classes'
class_namespace : (statements : List Statement) (subject : Ident) (name : QualifiedName) → element_of (own statements subject) ≡ Some name → holds (class_namespaces statements) name.ns ≡ true
class_namespace statements subject name is =
    let here : holds (element_namespace statements subject) name.ns ≡ true = ap (λ (class : Option QualifiedName). holds (namespace_of class) name.ns) is ∙ or_left (same_text name.ns name.ns) false ((bytes_decides name.ns name.ns).1 refl) in
    any_flat (λ (x : Ident). is_eq (ident_cmp subject x)) (element_namespace statements) name.ns
    (λ x same. subst (λ (y : Ident). holds (element_namespace statements y) name.ns ≡ true) (same_ident subject x same) here)
    (subjects_of statements) (among_subjects subject statements (element_is_stated (is_about subject) statements name is))

-- ---- sections

-- the namespaces of the section have prefixes
abbrev pub DeclaresAll : List (List ℕ) → List (List ℕ) → Type 0
DeclaresAll namespaces used = (ns : List ℕ) → holds used ns ≡ true → IsDeclared namespaces ns

pub front_declared : (namespaces one two : List (List ℕ)) → DeclaresAll namespaces (one ++ two) → DeclaresAll namespaces one
front_declared namespaces one two declares ns held = declares ns (list_any-append (same_text ns) one two ∙ or_left (holds one ns) (holds two ns) held)

pub back_declared : (namespaces one two : List (List ℕ)) → DeclaresAll namespaces (one ++ two) → DeclaresAll namespaces two
back_declared namespaces one two declares ns held = declares ns (list_any-append (same_text ns) one two ∙ or_right (holds one ns) (holds two ns) held)

-- the namespace of each predicate is declared
predicates_declared : (namespaces : List (List ℕ)) (statements : List Statement) → DeclaresAll namespaces (map (λ statement. statement.predicate.ns) statements) → AllByRecursion (λ statement. IsDeclared namespaces statement.predicate.ns) statements
predicates_declared namespaces [] declares = tt
predicates_declared namespaces (statement ∷ statements) declares =
    let ns = statement.predicate.ns in
    let others = map (λ (other : Statement). other.predicate.ns) statements in
    (declares ns (or_left (same_text ns ns) (holds others ns) ((bytes_decides ns ns).1 refl)), predicates_declared namespaces statements (back_declared namespaces (ns ∷ []) others declares))

-- ---- what is stated can be told

element_of-short : (statements : List Statement) (name : QualifiedName) → AllByRecursion (λ statement. is_sound_statement statement ≡ true) statements → element_of statements ≡ Some name
    → nat_le (length (name.ns ++ name.local)) longest_iri ≡ true
element_of-short [] name sound is = absurd cc
element_of-short (statement ∷ statements) name sound is = by (class_of statement) refl is (element_of-short statements name sound.1)
  where
    by : (class : Option QualifiedName) → class_of statement ≡ class → or_else class (element_of statements) ≡ Some name
        → (element_of statements ≡ Some name → nat_le (length (name.ns ++ name.local)) longest_iri ≡ true) → nat_le (length (name.ns ++ name.local)) longest_iri ≡ true
    by None none is others = others is
    by (Some first) some is others =
        let object = (class_of-is statement name (some ∙ is)).object in
        let iri : is_sound_iri (name.ns ++ name.local) ≡ true = ap is_sound_object (sym object) ∙ object_sound statement sound.0 in
        (iri_target (name.ns ++ name.local) iri).1

every_both : {X : Type 0} (P Q R : X → Type 0) → ((x : X) → P x → Q x → R x) → (xs : List X) → AllByRecursion P xs → AllByRecursion Q xs → AllByRecursion R xs
every_both P Q R joins [] p q = tt
every_both P Q R joins (x ∷ xs) p q = (joins x p.0 q.0, every_both P Q R joins xs p.1 q.1)

subject-is : (subject : Ident) (statement : Statement) → is_about subject statement ≡ true → statement.subject ≡ subject
subject-is subject statement about = sym (same_ident subject statement.subject about)

module _ (more : List Declaration) (namespaces : List (List ℕ)) (means : (ns : List ℕ) → IsDeclared namespaces ns → Means (root_scope more) (prefix_of namespaces ns) ns) where
  -- sound, with a prefix for its predicate
  pub record IsReady (statement : Statement) : Type 0 where
    pub sound : is_sound_statement statement ≡ true
    pub declared : IsDeclared namespaces statement.predicate.ns

  pub section_told : (statements : List Statement) → list_all is_sound_statement statements ≡ true → DeclaresAll namespaces (namespaces_in statements) → AllByRecursion (CanBeTold more namespaces statements) (subjects_of statements)
  section_told statements sound declares =
      let each = each_sound statements sound in
      let stated = map (λ (statement : Statement). statement.predicate.ns) statements in
      let ready = every_both (λ statement. is_sound_statement statement ≡ true) (λ statement. IsDeclared namespaces statement.predicate.ns) IsReady
      (λ statement sound declared. record { sound = sound; declared = declared }) statements each (predicates_declared namespaces statements (front_declared namespaces stated (class_namespaces statements) declares)) in
      every-subjects_of (CanBeTold more namespaces statements) statements
      (every_weaker (λ statement. is_sound_statement statement ≡ true) (λ statement. CanBeTold more namespaces statements statement.subject)
      (λ statement is.
      let subject = statement.subject in
      record {
        kept = subject_kept statement is;
        classes = λ name named. record {
          kept = element_of-kept (own statements subject) name named;
          other = element_of-other (own statements subject) name named;
          declared = back_declared namespaces stated (class_namespaces statements) declares name.ns (class_namespace statements subject name named);
          means = means name.ns (back_declared namespaces stated (class_namespaces statements) declares name.ns (class_namespace statements subject name named));
          short = element_of-short (own statements subject) name (every-filter (is_about subject) (λ statement. is_sound_statement statement ≡ true) statements each) named;
        };
        each = every-properties_of (IsToldOf more namespaces subject) (own statements subject)
            (every_both (λ statement. is_about subject statement ≡ true) IsReady (IsToldOf more namespaces subject)
            (λ other about ready. record { about = subject-is subject other about; sound = ready.sound; declared = ready.declared; means = means other.predicate.ns ready.declared }) (own statements subject)
            (about_own subject statements) (every-filter (is_about subject) IsReady statements ready));
      }) statements each)

-- ---- no namespace is empty

namespace_some : (ns : List ℕ) → is_namespace ns ≡ true → IsSome ns
namespace_some ns is = grind (arith, nat_tests)

every-append : {X : Type 0} (P : X → Type 0) (xs ys : List X) → AllByRecursion P xs → AllByRecursion P ys → AllByRecursion P (xs ++ ys)
every-append P [] ys p q = q
every-append P (x ∷ xs) ys p q = (p.0, every-append P xs ys p.1 q)

every-flat_map : {X Y : Type 0} (P : X → Type 0) (Q : Y → Type 0) (f : X → List Y) → ((x : X) → P x → AllByRecursion Q (f x)) → (xs : List X) → AllByRecursion P xs → AllByRecursion Q (flat_map f xs)
every-flat_map P Q f each [] all = tt
every-flat_map P Q f each (x ∷ xs) all = every-append Q (f x) (flat_map f xs) (each x all.0) (every-flat_map P Q f each xs all.1)

pub any_of : {X : Type 0} (xs : List X) → AllByRecursion (λ (x : X). Unit {0}) xs
any_of [] = tt
any_of (x ∷ xs) = (tt, any_of xs)

every-map : {X Y : Type 0} (Q : Y → Type 0) (f : X → Y) (xs : List X) → AllByRecursion (λ x. Q (f x)) xs → AllByRecursion Q (map f xs)
every-map Q f [] all = tt
every-map Q f (x ∷ xs) all = (all.0, every-map Q f xs all.1)

-- a namespace of the kind that is kept
abbrev pub IsNamespace : List ℕ → Type 0
IsNamespace ns = is_namespace ns ≡ true

class_namespace_kept : (statements : List Statement) (subject : Ident) → AllByRecursion IsNamespace (element_namespace statements subject)
class_namespace_kept statements subject = by (element_of (own statements subject)) refl
  where
    by : (class : Option QualifiedName) → element_of (own statements subject) ≡ class → AllByRecursion IsNamespace (namespace_of class)
    by None is = tt
    by (Some name) is = ((predicate_parts name (element_of-kept (own statements subject) name is)).namespace, tt)

namespaces_in_kept : (statements : List Statement) → list_all is_sound_statement statements ≡ true → AllByRecursion IsNamespace (namespaces_in statements)
namespaces_in_kept statements sound =
    every-append IsNamespace (map (λ statement. statement.predicate.ns) statements) (class_namespaces statements)
    (every-map IsNamespace (λ (statement : Statement). statement.predicate.ns) statements
    (every_weaker (λ statement. is_sound_statement statement ≡ true) (λ statement. IsNamespace statement.predicate.ns) (λ statement is. (predicate_parts statement.predicate (predicate_kept statement is)).namespace) statements (each_sound statements sound)))
    (every-flat_map (λ (subject : Ident). Unit {0}) IsNamespace (element_namespace statements) (λ subject any. class_namespace_kept statements subject) (subjects_of statements) (any_of (subjects_of statements)))

every-insert_text : (P : List ℕ → Type 0) (text : List ℕ) (texts : List (List ℕ)) → P text → AllByRecursion P texts → AllByRecursion P (insert_text text texts)
every-insert_text P text [] here all = (here, tt)
every-insert_text P text (other ∷ texts) here all = by (text_cmp text other) (every-insert_text P text texts here all.1)
  where
    by : (order : Ordering) → AllByRecursion P (insert_text text texts) → AllByRecursion P (match_ordering order (text ∷ other ∷ texts) (other ∷ texts) (other ∷ insert_text text texts))
    by Less others = (here, all)
    by Equal others = all
    by Greater others = (all.0, others)

every-rising_texts : (P : List ℕ → Type 0) (texts : List (List ℕ)) → AllByRecursion P texts → AllByRecursion P (rising_texts texts)
every-rising_texts P [] all = tt
every-rising_texts P (text ∷ texts) all = every-insert_text P text (rising_texts texts) all.0 (every-rising_texts P texts all.1)

abbrev IsSoundList : List Statement → Type 0
IsSoundList statements = list_all is_sound_statement statements ≡ true

-- the namespaces that a document declares are of the kind that is kept
pub namespaces_kept : (sections : List (List Statement)) → AllByRecursion IsSoundList sections → AllByRecursion IsNamespace (namespaces_of sections)
namespaces_kept sections sound =
    every-rising_texts IsNamespace _ (every-filter (λ ns. not (is_rdf ns)) IsNamespace (flat_map namespaces_in sections)
    (every-flat_map IsSoundList IsNamespace namespaces_in namespaces_in_kept sections sound))

pub namespaces_some : (namespaces : List (List ℕ)) → AllByRecursion IsNamespace namespaces → AllByRecursion IsSome namespaces
namespaces_some namespaces kept = every_weaker IsNamespace IsSome namespace_some namespaces kept
