-- What the objects of a set tell is the set.
use Rattle.std.proofs.Common.{◌≡◌, ◌∙◌, ℕ, zero, suc, ◌<◌, ◌≤◌, Bool, true, false, ◌||◌, cond, List, [], ◌∷◌, ◌++◌, length, take, drop, Option, None, Some, is_some, refl, sym, ap, arith, take-append-drop}
use Rattle.std.specs.List.{AllByRecursion, flat_map}
use Rattle.std.proofs.lemmas.List.{length-append}
use Rattle.std.proofs.lemmas.List.Folds.{list_any-append}
use Rattle.nm_ident.proofs.Orders.{ident_cmp-equal, equal_from}
use Rattle.nm_ident.proofs.Rising.{or_swap}
use Rattle.nm_ident.specs.Order.{ident_cmp}
use Rattle.nm_ident.specs.QualifiedName.{QualifiedName}
use Rattle.nm_ident.specs.declared.ident.Ident.{Ident}
use Rattle.nm_statement.proofs.Sets.{set_of-members}
use Rattle.nm_statement.specs.Set.{IsRising, has, is_same, set_of}
use Rattle.nm_statement.specs.declared.statement.Statement.{Statement}
use Rattle.nm_writer.specs.Canonical.{class_of, element_of, group_length, is_about, or_else, own, properties_of, subjects_of}
use Rattle.nm_writer.proofs.Groups.{by_subject, by_subject-first, drop_group-shorter, drop_rises}
use Rattle.nm_canon.proofs.Classes.{IsTypeOf, class_of-is}
use Rattle.nm_canon.proofs.Objects.{told_of_all, told_of_subject, type_of}

-- ---- a set is its groups, one behind the other

abbrev group : Ident → List Statement → List Statement
group subject statements = statements

groups_within : (fuel : ℕ) (statements : List Statement) → length statements ≤ fuel → IsRising statements → by_subject group statements ≡ statements
groups_within fuel [] few rising = refl
groups_within zero (statement ∷ statements) few rising = absurd (omega arith)
groups_within (suc fuel) (statement ∷ statements) few rising =
    let all = statement ∷ statements in
    let behind = drop (group_length all) all in
    let shorter : length behind < length all = drop_group-shorter all (omega arith) in
    by_subject-first group statement statements rising
    ∙ ap (λ (others : List Statement). take (group_length all) all ++ others) (groups_within fuel behind (omega (arith, shorter, few)) (drop_rises (group_length all) all rising))
    ∙ take-append-drop (group_length all) all

pub groups : (statements : List Statement) → IsRising statements → flat_map (own statements) (subjects_of statements) ≡ statements
groups statements rising = groups_within (length statements) statements (omega arith) rising

-- ---- one group

class_again : (subject : Ident) (statement : Statement) (name : QualifiedName) → is_about subject statement ≡ true → IsTypeOf statement name → type_of subject (Some name) ≡ statement ∷ []
class_again subject statement name about is =
    let same : subject ≡ statement.subject = ident_cmp-equal subject statement.subject (equal_from (ident_cmp subject statement.subject) about) in
    λ i. record { subject = same i; predicate = sym is.predicate i; object = sym is.object i } ∷ []

has_told : (subject : Ident) (statements : List Statement) (x : Statement) → AllByRecursion (λ statement. is_about subject statement ≡ true) statements → has (told_of_subject subject statements) x ≡ has statements x
has_told subject [] x about = refl
has_told subject (statement ∷ statements) x about = by (has_told subject statements x about.1) (class_of statement) refl
  where
    by : has (told_of_subject subject statements) x ≡ has statements x → (class : Option QualifiedName) → class_of statement ≡ class
        → has (type_of subject (or_else class (element_of statements)) ++ cond (is_some class) statements (statement ∷ properties_of statements)) x ≡ (is_same x statement || has statements x)
    by others (Some name) is = ap (λ (first : List Statement). has (first ++ statements) x) (class_again subject statement name about.0 (class_of-is statement name is))
    by others None is =
        let type = type_of subject (element_of statements) in
        list_any-append (is_same x) type (statement ∷ properties_of statements)
        ∙ or_swap (has type x) (is_same x statement) (has (properties_of statements) x)
        ∙ ap (λ b. is_same x statement || b) (sym (list_any-append (is_same x) type (properties_of statements)) ∙ others)

as_many : (subject : Ident) (statements : List Statement) → length (told_of_subject subject statements) ≡ length statements
as_many subject [] = refl
as_many subject (statement ∷ statements) = by (as_many subject statements) (class_of statement)
  where
    by : length (told_of_subject subject statements) ≡ length statements → (class : Option QualifiedName)
        → length (type_of subject (or_else class (element_of statements)) ++ cond (is_some class) statements (statement ∷ properties_of statements)) ≡ length (statement ∷ statements)
    by others (Some name) = refl
    by others None =
        let type = type_of subject (element_of statements) in
        omega (arith, length-append type (statement ∷ properties_of statements), length-append type (properties_of statements), others)

-- ---- all groups

pub about_own : (subject : Ident) (statements : List Statement) → AllByRecursion (λ statement. is_about subject statement ≡ true) (own statements subject)
about_own subject [] = tt
about_own subject (statement ∷ statements) = by (about_own subject statements) (is_about subject statement) refl
  where
    by : AllByRecursion (λ s. is_about subject s ≡ true) (own statements subject) → (about : Bool) → is_about subject statement ≡ about → AllByRecursion (λ s. is_about subject s ≡ true) (cond about (statement ∷ own statements subject) (own statements subject))
    by others true is = (is, others)
    by others false is = others

has_all : (statements : List Statement) (subjects : List Ident) (x : Statement)
    → has (flat_map (λ subject. told_of_subject subject (own statements subject)) subjects) x ≡ has (flat_map (own statements) subjects) x
has_all statements [] x = refl
has_all statements (subject ∷ subjects) x =
    list_any-append (is_same x) (told_of_subject subject (own statements subject)) (flat_map (λ subject. told_of_subject subject (own statements subject)) subjects)
    ∙ (λ i. has_told subject (own statements subject) x (about_own subject statements) i || has_all statements subjects x i)
    ∙ sym (list_any-append (is_same x) (own statements subject) (flat_map (own statements) subjects))

many_all : (statements : List Statement) (subjects : List Ident)
    → length (flat_map (λ subject. told_of_subject subject (own statements subject)) subjects) ≡ length (flat_map (own statements) subjects)
many_all statements [] = refl
many_all statements (subject ∷ subjects) =
    omega (
      arith,
      length-append (told_of_subject subject (own statements subject)) (flat_map (λ subject. told_of_subject subject (own statements subject)) subjects),
      length-append (own statements subject) (flat_map (own statements) subjects),
      as_many subject (own statements subject),
      many_all statements subjects,
    )

-- what is told makes the set again
pub set_again : (statements : List Statement) → IsRising statements → set_of (told_of_all statements) ≡ statements
set_again statements rising =
    set_of-members statements (told_of_all statements) rising (λ x. sym (has_all statements (subjects_of statements) x ∙ ap (λ (all : List Statement). has all x) (groups statements rising)))

-- and states as many
pub told_length : (statements : List Statement) → IsRising statements → length (told_of_all statements) ≡ length statements
told_length statements rising = many_all statements (subjects_of statements) ∙ ap length (groups statements rising)
