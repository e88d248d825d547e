-- A document declares at most two namespaces for each statement: that of its predicate and that of a class.
use Rattle.std.proofs.Common.{ℕ, suc, ◌+◌, ◌*◌, ◌≤◌, Bool, true, false, not, cond, List, [], ◌∷◌, ◌++◌, length, map, Option, None, Some, Ordering, arith}
use Rattle.std.specs.List.{filter, flat_map}
use Rattle.std.specs.Ordering.{is_eq, match_ordering}
use Rattle.std.specs.declared.cmp.Ordering.TheVariants.{Less, Equal, Greater}
use Rattle.std.proofs.lemmas.List.{length-append, length-map}
use Rattle.nm_ident.specs.Order.{ident_cmp, text_cmp}
use Rattle.nm_ident.specs.QualifiedName.{QualifiedName}
use Rattle.nm_ident.specs.declared.ident.Ident.{Ident}
use Rattle.nm_statement.specs.declared.statement.Statement.{Statement}
use Rattle.nm_writer.specs.Canonical.{class_namespaces, element_of, element_namespace, own, namespace_of, namespaces_in, namespaces_of, subjects_of}
use Rattle.nm_writer.specs.Namespaces.{insert_text, is_rdf, rising_texts}

filter-shorter : {X : Type 0} (test : X → Bool) (xs : List X) → length (filter test xs) ≤ length xs
filter-shorter test [] = omega arith
filter-shorter test (x ∷ xs) = by (filter-shorter test xs) (test x)
  where
    by : length (filter test xs) ≤ length xs → (passes : Bool) → length (cond passes (x ∷ filter test xs) (filter test xs)) ≤ length (x ∷ xs)
    by others true = omega (arith, others)
    by others false = omega (arith, others)

insert-longer : (texts : List (List ℕ)) (text : List ℕ) → length (insert_text text texts) ≤ suc (length texts)
insert-longer [] text = omega arith
insert-longer (other ∷ texts) text = by (insert-longer texts text) (text_cmp text other)
  where
    by : length (insert_text text texts) ≤ suc (length texts) → (order : Ordering)
        → length (match_ordering order (text ∷ other ∷ texts) (other ∷ texts) (other ∷ insert_text text texts)) ≤ suc (length (other ∷ texts))
    by others Less = omega (arith, others)
    by others Equal = omega (arith, others)
    by others Greater = omega (arith, others)

rising-shorter : (texts : List (List ℕ)) → length (rising_texts texts) ≤ length texts
rising-shorter [] = omega arith
rising-shorter (text ∷ texts) = omega (arith, rising-shorter texts, insert-longer (rising_texts texts) text)

subjects-shorter : (statements : List Statement) → length (subjects_of statements) ≤ length statements
subjects-shorter [] = omega arith
subjects-shorter (statement ∷ statements) =
    omega (arith, subjects-shorter statements, filter-shorter (λ subject. not (is_eq (ident_cmp statement.subject subject))) (subjects_of statements))

one_namespace : (name : Option QualifiedName) → length (namespace_of name) ≤ 1
one_namespace None = omega arith
one_namespace (Some name) = omega arith

classes-shorter : (statements : List Statement) (subjects : List Ident) → length (flat_map (element_namespace statements) subjects) ≤ length subjects
classes-shorter statements [] = omega arith
classes-shorter statements (subject ∷ subjects) =
    omega (
      arith,
      length-append (element_namespace statements subject) (flat_map (element_namespace statements) subjects),
      one_namespace (element_of (own statements subject)),
      classes-shorter statements subjects,
    )

two_each : (statements : List Statement) → length (namespaces_in statements) ≤ 2 * length statements
two_each statements =
    omega (
      arith,
      length-append (map (λ statement. statement.predicate.ns) statements) (class_namespaces statements),
      length-map statements (λ statement. statement.predicate.ns),
      classes-shorter statements (subjects_of statements),
      subjects-shorter statements,
    )

few_of : (namespaces : List (List ℕ)) → length (rising_texts (filter (λ ns. not (is_rdf ns)) namespaces)) ≤ length namespaces
few_of namespaces = omega (arith, rising-shorter (filter (λ ns. not (is_rdf ns)) namespaces), filter-shorter (λ ns. not (is_rdf ns)) namespaces)

pub few_namespaces : (statements : List Statement) → length (namespaces_of (statements ∷ [])) ≤ 2 * length statements
few_namespaces statements =
    omega (arith, few_of (namespaces_in statements ++ []), length-append (namespaces_in statements) [], two_each statements)

pub few_namespaces_of_three : (one two three : List Statement) → length (namespaces_of (one ∷ two ∷ three ∷ [])) ≤ 2 * (length one + length two + length three)
few_namespaces_of_three one two three =
    omega (
      arith,
      few_of (namespaces_in one ++ (namespaces_in two ++ (namespaces_in three ++ []))),
      length-append (namespaces_in one) (namespaces_in two ++ (namespaces_in three ++ [])),
      length-append (namespaces_in two) (namespaces_in three ++ []),
      length-append (namespaces_in three) [],
      two_each one,
      two_each two,
      two_each three,
    )
