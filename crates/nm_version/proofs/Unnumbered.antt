-- Filing numbers order the projects of a day, and show nowhere else: live projects are in the order of their days,
-- those of one day as they stand in the list.
use Rattle.std.proofs.Common.{◌≡◌, ◌∙◌, List, [], ◌∷◌, ◌++◌, ℕ, Bool, true, false, if◌then◌else◌, Ordering, map, nat_cmp, refl, sym, ap}
use Rattle.std.specs.List.{AllByRecursion, filter, flat_map}
use Rattle.std.specs.List.Sorted.{IsStrictlySortedBy}
use Rattle.std.specs.Ordering.{is_gt, ordering_then}
use Rattle.std.specs.declared.cmp.Ordering.TheVariants.{Less, Equal, Greater}
use Rattle.nm_day.specs.Day.{day_cmp}
use Rattle.nm_ident.specs.declared.ident.Ident.{Ident}
use Rattle.nm_stage.specs.Live.{IsLive, filing_cmp}
use Rattle.nm_stage.specs.Project.{PlainProject, model_of}
use Rattle.nm_stage.specs.Sorted.{placed_by, sorted_by}
use Rattle.nm_stage.specs.Steps.{in_order, project_cmp}
use Rattle.nm_statement.specs.Set.{set_of}
use Rattle.nm_statement.specs.declared.statement.Statement.{Statement}
use Rattle.nm_version.proofs.Lists.{filter-map}
use Rattle.nm_version.specs.Assembly.{assembly_header}
use Rattle.nm_version.specs.Laws.{FilingNumbersStayInside, unnumbered}
use Rattle.nm_check.specs.Subject.{is_about}
use Rattle.nm_version.specs.Projects.{row_of}
use Rattle.nm_check.specs.Replay.{after_changes}
use Rattle.nm_version.specs.Replay.{in_service, is_in_service}
use Rattle.nm_check.specs.Timelines.{names_of}
use Rattle.nm_version.specs.Timeline.{line_where, lines_from, step_lines}
use Rattle.nm_version.specs.declared.line.Line.TheVariants.{Base}

-- ---- the order of the steps

abbrev day_order : PlainProject → PlainProject → Ordering
day_order x y = day_cmp x.day y.day

all_placed : (cmp : PlainProject → PlainProject → Ordering) (P : PlainProject → Type 0) (xs : List PlainProject) (x : PlainProject)
    → P x → AllByRecursion P xs → AllByRecursion P (placed_by cmp xs x)
all_placed cmp P [] x p a = (p, tt)
all_placed cmp P (y ∷ ys) x p a = by (all_placed cmp P ys x p a.1) (is_gt (cmp x y))
  where
    by : AllByRecursion P (placed_by cmp ys x) → (b : Bool) → AllByRecursion P (if b then y ∷ placed_by cmp ys x else x ∷ y ∷ ys)
    by others true = (a.0, others)
    by others false = (p, a)

all_sorted : (cmp : PlainProject → PlainProject → Ordering) (P : PlainProject → Type 0) (xs : List PlainProject) → AllByRecursion P xs → AllByRecursion P (sorted_by cmp xs)
all_sorted cmp P [] a = tt
all_sorted cmp P (x ∷ xs) a = all_placed cmp P (sorted_by cmp xs) x a.0 (all_sorted cmp P xs a.1)

-- of a project that was filed before another, the day alone says whether it comes behind it
by_day : (x y : PlainProject) → filing_cmp x y ≡ Less → is_gt (project_cmp x y) ≡ is_gt (day_order x y)
by_day x y before = ap (λ r. is_gt (ordering_then (day_cmp x.day y.day) (ordering_then r (nat_cmp 0 0)))) before ∙ by (day_cmp x.day y.day)
  where
    by : (r : Ordering) → is_gt (ordering_then r Less) ≡ is_gt r
    by Less = refl
    by Equal = refl
    by Greater = refl

placed_by_day : (xs : List PlainProject) (x : PlainProject) → AllByRecursion (λ y. filing_cmp x y ≡ Less) xs → placed_by project_cmp xs x ≡ placed_by day_order xs x
placed_by_day [] x a = refl
placed_by_day (y ∷ ys) x a = λ i. if by_day x y a.0 i then y ∷ placed_by_day ys x a.1 i else x ∷ y ∷ ys

sorted_by_day : (xs : List PlainProject) → IsStrictlySortedBy filing_cmp xs → in_order xs ≡ sorted_by day_order xs
unfolding IsStrictlySortedBy
sorted_by_day [] rising = refl
sorted_by_day (x ∷ xs) rising =
    placed_by_day (in_order xs) x (all_sorted project_cmp (λ y. filing_cmp x y ≡ Less) xs rising.0)
    ∙ ap (λ ys. placed_by day_order ys x) (sorted_by_day xs rising.1)

unnumbered_placed : (xs : List PlainProject) (x : PlainProject) → map unnumbered (placed_by day_order xs x) ≡ placed_by day_order (map unnumbered xs) (unnumbered x)
unnumbered_placed [] x = refl
unnumbered_placed (y ∷ ys) x = by (unnumbered_placed ys x) (is_gt (day_order x y))
  where
    by : map unnumbered (placed_by day_order ys x) ≡ placed_by day_order (map unnumbered ys) (unnumbered x) → (b : Bool)
        → map unnumbered (if b then y ∷ placed_by day_order ys x else x ∷ y ∷ ys)
        ≡ (if b then unnumbered y ∷ placed_by day_order (map unnumbered ys) (unnumbered x) else unnumbered x ∷ unnumbered y ∷ map unnumbered ys)
    by others true = ap (λ l. unnumbered y ∷ l) others
    by others false = refl

unnumbered_sorted : (xs : List PlainProject) → map unnumbered (sorted_by day_order xs) ≡ sorted_by day_order (map unnumbered xs)
unnumbered_sorted [] = refl
unnumbered_sorted (x ∷ xs) = unnumbered_placed (sorted_by day_order xs) x ∙ ap (λ ys. placed_by day_order ys (unnumbered x)) (unnumbered_sorted xs)

-- ---- what is asked of the steps

same_order : (xs ys : List PlainProject) → IsLive xs → IsLive ys → map unnumbered xs ≡ map unnumbered ys → map unnumbered (in_order xs) ≡ map unnumbered (in_order ys)
same_order xs ys live living same =
    ap (map unnumbered) (sorted_by_day xs live.rising)
    ∙ unnumbered_sorted xs
    ∙ ap (sorted_by day_order) same
    ∙ sym (ap (map unnumbered) (sorted_by_day ys living.rising) ∙ unnumbered_sorted ys)

same_in_service : (xs ys : List PlainProject) (day : List ℕ) → map unnumbered (in_order xs) ≡ map unnumbered (in_order ys) → map unnumbered (in_service xs day) ≡ map unnumbered (in_service ys day)
same_in_service xs ys day same =
    filter-map (is_in_service day) unnumbered (in_order xs)
    ∙ ap (filter (is_in_service day)) same
    ∙ sym (filter-map (is_in_service day) unnumbered (in_order ys))

-- what does not look at filing numbers
module _ {Y : Type 0} (f : PlainProject → Y) (g : PlainProject → Y) (blind : (x : PlainProject) → g x ≡ f (unnumbered x)) where
  seen : (xs : List PlainProject) → map g xs ≡ map f (map unnumbered xs)
  seen [] = refl
  seen (x ∷ xs) = λ i. blind x i ∷ seen xs i

  alike : (xs ys : List PlainProject) → map unnumbered xs ≡ map unnumbered ys → map g xs ≡ map g ys
  alike xs ys same = seen xs ∙ ap (map f) same ∙ sym (seen ys)

flat_map-map : {X Y Z : Type 0} (f : Y → List Z) (g : X → Y) (xs : List X) → flat_map (λ x. f (g x)) xs ≡ flat_map f (map g xs)
flat_map-map f g [] = refl
flat_map-map f g (x ∷ xs) = ap (λ l. f (g x) ++ l) (flat_map-map f g xs)

lines_unnumbered : (base : List Statement) (steps : List PlainProject) (subject : Ident) → lines_from base steps subject ≡ lines_from base (map unnumbered steps) subject
lines_unnumbered base steps subject =
    let named = flat_map-map (λ step. names_of step.change) unnumbered steps in
    λ i. flat_map (λ s. line_where base s (Base s) ++ flat_map-map (step_lines s) unnumbered steps i) (filter (is_about subject) (set_of (base ++ named i)))

pub filing_numbers_stay_inside : FilingNumbersStayInside
filing_numbers_stay_inside base xs ys live living same =
    let order = same_order xs ys live living same in
    let changes = λ (day : List ℕ). alike (λ (step : PlainProject). step.change) (λ step. step.change) (λ step. refl) (in_service xs day) (in_service ys day) (same_in_service xs ys day order) in
    let models = λ (day : List ℕ). alike model_of model_of (λ step. refl) (in_service xs day) (in_service ys day) (same_in_service xs ys day order) in
    record {
      models = λ day. λ i. record { header = assembly_header base.header (models day i) day; statements = after_changes base.statements (changes day i) };
      objects = λ day subject. ap (λ cs. filter (is_about subject) (after_changes base.statements cs)) (changes day);
      timelines = λ subject.
          lines_unnumbered base.statements (in_order xs) subject
          ∙ ap (λ steps. lines_from base.statements steps subject) order
          ∙ sym (lines_unnumbered base.statements (in_order ys) subject);
      rows = alike row_of row_of (λ step. refl) (in_order xs) (in_order ys) order;
    }
