-- Live projects in the order of their keys.
use Rattle.std.proofs.Common.{◌≡◌, ◌∙◌, List, [], ◌∷◌, false, map, Bor, IsPermutation, Ordering, nat_cmp, refl, sym, ap, subst}
use Rattle.std.proofs.lemmas.Cmp.{on_total}
use Rattle.std.specs.BTreeSet.{insert_key}
use Rattle.std.specs.Cmp.{IsTotalOrder}
use Rattle.std.specs.List.{AllByRecursion, IsDistinct}
use Rattle.std.specs.List.Sorted.{IsSorted, IsStrictlySortedBy}
use Rattle.std.specs.Ordering.{eq_by_cmp, is_eq, ordering_then}
use Rattle.std.specs.declared.cmp.Ordering.TheVariants.{Less, Equal, Greater}
use Rattle.nm_day.proofs.Orders.{key_cmp-total}
use Rattle.nm_day.specs.Day.{day_cmp}
use Rattle.nm_ident.proofs.Rising.{all_weaker, rising_of, rising-rising_of}
use Rattle.nm_stage.proofs.Sorting.{map-insert_key, moved_by_sort, sort_is, sorted_is}
use Rattle.nm_stage.specs.Laws.{LiveProjectsStandInOrder}
use Rattle.nm_stage.specs.Live.{filing_cmp}
use Rattle.nm_stage.specs.Project.{PlainProject, key_of}
use Rattle.nm_stage.specs.Steps.{in_order, project_cmp}

pub project_cmp-total : IsTotalOrder project_cmp
project_cmp-total = on_total key_of key_cmp-total

abbrev pub ref_cmp : Bor PlainProject → Bor PlainProject → Ordering
ref_cmp x y = project_cmp x.now y.now

ref_cmp-total : IsTotalOrder ref_cmp
ref_cmp-total = on_total (λ (r : Bor PlainProject). r.now) project_cmp-total

rising_is : (xs : List (Bor PlainProject)) → map (λ one. one.now) (rising_of ref_cmp-total xs) ≡ rising_of project_cmp-total (map (λ one. one.now) xs)
rising_is [] = refl
rising_is (x ∷ xs) =
    map-insert_key project_cmp-total (λ (r : Bor PlainProject). r.now) (rising_of ref_cmp-total xs) x
    ∙ ap (λ ordered. insert_key project_cmp ordered x.now) (rising_is xs)

then_less : (first second : Ordering) → second ≡ Less → is_eq (ordering_then first second) ≡ false
then_less Less second e = refl
then_less Equal second e = ap is_eq e
then_less Greater second e = refl

-- projects of different filings are not level
pub not_level : (x y : PlainProject) → filing_cmp x y ≡ Less → eq_by_cmp project_cmp x y ≡ false
not_level x y below =
    then_less (day_cmp x.day y.day) (ordering_then (nat_cmp x.filing y.filing) (nat_cmp 0 0)) (ap (λ r. ordering_then r (nat_cmp 0 0)) below)

pub distinct : (xs : List PlainProject) → IsStrictlySortedBy filing_cmp xs → IsDistinct (eq_by_cmp project_cmp) xs
unfolding IsStrictlySortedBy IsDistinct
distinct [] s = tt
distinct (x ∷ xs) s = (all_weaker (λ y. filing_cmp x y ≡ Less) (λ y. eq_by_cmp project_cmp x y ≡ false) (λ y. not_level x y) xs s.0, distinct xs s.1)

distinct_refs : (xs : List (Bor PlainProject)) → IsStrictlySortedBy filing_cmp (map (λ one. one.now) xs) → IsDistinct (eq_by_cmp ref_cmp) xs
unfolding IsStrictlySortedBy IsDistinct
distinct_refs [] s = tt
distinct_refs (x ∷ xs) s = (among xs s.0, distinct_refs xs s.1)
  where
    among : (ys : List (Bor PlainProject)) → AllByRecursion (λ y. filing_cmp x.now y ≡ Less) (map (λ one. one.now) ys) → AllByRecursion (λ y. eq_by_cmp ref_cmp x y ≡ false) ys
    among [] a = tt
    among (y ∷ ys) a = (not_level x.now y.now a.0, among ys a.1)

-- a sort of the projects by key
pub ordered_is : (xs ys : List (Bor PlainProject)) → IsStrictlySortedBy filing_cmp (map (λ one. one.now) xs) → IsPermutation xs ys → IsSorted ref_cmp ys
    → map (λ one. one.now) ys ≡ in_order (map (λ one. one.now) xs)
ordered_is xs ys rising moved sorted =
    ap (map (λ one. one.now)) (sort_is ref_cmp-total xs ys moved sorted (distinct_refs xs rising))
    ∙ rising_is xs
    ∙ sym (sorted_is project_cmp-total (map (λ one. one.now) xs) (distinct (map (λ one. one.now) xs) rising))

pub live_projects_stand_in_order : LiveProjectsStandInOrder
live_projects_stand_in_order live l = record {
  all = moved_by_sort project_cmp-total live;
  rising = subst (IsStrictlySortedBy project_cmp) (sym (sorted_is project_cmp-total live (distinct live l.rising))) (rising-rising_of project_cmp-total live);
}
