-- The breaks of a replay rise by key, part and statement, and each is about a statement that a step names.
use Rattle.std.proofs.Common.{◌≡◌, ◌∙◌, List, [], ◌∷◌, ◌++◌, Bool, true, false, ◌||◌, not, cond, map, Ordering, refl, ap}
use Rattle.std.proofs.lemmas.Cmp.{nat_cmp_total, on_total, then_total, tied_itself}
use Rattle.std.proofs.lemmas.List.Kept.{IsStrictlySortedBy-filter}
use Rattle.std.specs.Cmp.{IsTotalOrder}
use Rattle.std.specs.List.{AllByRecursion, filter}
use Rattle.std.specs.List.Sorted.{IsStrictlySortedBy}
use Rattle.std.specs.Ordering.{is_eq, ordering_then}
use Rattle.std.specs.declared.cmp.Ordering.TheVariants.{Less}
use Rattle.nm_check.specs.Breaks.{break_at, break_cmp, breaks_at, statement_breaks}
use Rattle.nm_check.specs.Replay.{HasSets, set_after, step_cmp}
use Rattle.nm_check.specs.Timelines.{is_named, is_named_in}
use Rattle.nm_check.specs.declared.breaks.Break.{Break}
use Rattle.nm_day.proofs.Orders.{key_cmp-total}
use Rattle.nm_day.specs.Key.{key_cmp}
use Rattle.nm_day.specs.declared.key.Key.{Key}
use Rattle.nm_ident.proofs.Rising.{all_append, all_weaker}
use Rattle.nm_stage.specs.Project.{PlainStep}
use Rattle.nm_statement.proofs.Orders.{statement_cmp-total}
use Rattle.nm_statement.specs.Order.{statement_cmp}
use Rattle.nm_statement.specs.Set.{IsRising, has, is_same}
use Rattle.nm_statement.specs.declared.statement.Statement.{Statement}
use Rattle.nm_timeline.specs.Part.{part_cmp, place_of}
use Rattle.nm_timeline.specs.declared.part.Part.{Part}
use Rattle.nm_timeline.specs.declared.part.Part.TheVariants.{Precondition, Reverse, Forward}

pub part_cmp-total : IsTotalOrder part_cmp
part_cmp-total = on_total place_of nat_cmp_total

pub break_cmp-total : IsTotalOrder break_cmp
break_cmp-total = then_total (on_total (λ (b : Break). b.key) key_cmp-total) (then_total (on_total (λ (b : Break). b.part) part_cmp-total) (on_total (λ (b : Break). b.statement) statement_cmp-total))

-- ---- lists

module _ {X : Type 0} where
  pub all_map : {Y : Type 0} (P : Y → Type 0) (f : X → Y) (xs : List X) → AllByRecursion (λ x. P (f x)) xs → AllByRecursion P (map f xs)
  all_map P f [] a = tt
  all_map P f (x ∷ xs) a = (a.0, all_map P f xs a.1)

  pub all_so : (P : X → Type 0) → ((x : X) → P x) → (xs : List X) → AllByRecursion P xs
  all_so P h [] = tt
  all_so P h (x ∷ xs) = (h x, all_so P h xs)

  pub all_filter : (P : X → Type 0) (test : X → Bool) (xs : List X) → AllByRecursion P xs → AllByRecursion P (filter test xs)
  all_filter P test [] a = tt
  all_filter P test (x ∷ xs) a = by (all_filter P test xs a.1) (test x)
    where
      by : AllByRecursion P (filter test xs) → (b : Bool) → AllByRecursion P (cond b (x ∷ filter test xs) (filter test xs))
      by h true = (a.0, h)
      by h false = h

  pub rising_append : (R : X → X → Ordering) (xs ys : List X) → IsStrictlySortedBy R xs → IsStrictlySortedBy R ys
      → AllByRecursion (λ x. AllByRecursion (λ y. R x y ≡ Less) ys) xs → IsStrictlySortedBy R (xs ++ ys)
  unfolding IsStrictlySortedBy
  rising_append R [] ys s t a = t
  rising_append R (x ∷ xs) ys s t a = (all_append (λ y. R x y ≡ Less) xs ys s.0 a.0, rising_append R xs ys s.1 t a.1)

-- ---- one step

module _ (key : Key) where
  -- breaks of one step stand by part
  by_part : (p q : Part) (x y : Statement) → part_cmp p q ≡ Less → break_cmp (break_at key p x) (break_at key q y) ≡ Less
  by_part p q x y e =
      (λ i. ordering_then (tied_itself key_cmp-total key i) (ordering_then (part_cmp p q) (statement_cmp x y)))
      ∙ ap (λ r. ordering_then r (statement_cmp x y)) e

  -- and those of one part by statement
  by_statement : (p : Part) (x y : Statement) → statement_cmp x y ≡ Less → break_cmp (break_at key p x) (break_at key p y) ≡ Less
  by_statement p x y e =
      (λ i. ordering_then (tied_itself key_cmp-total key i) (ordering_then (tied_itself part_cmp-total p i) (statement_cmp x y)))
      ∙ e

  rising_part : (p : Part) (xs : List Statement) → IsRising xs → IsStrictlySortedBy break_cmp (map (break_at key p) xs)
  unfolding IsStrictlySortedBy
  rising_part p [] s = tt
  rising_part p (x ∷ xs) s = (all_map (λ b. break_cmp (break_at key p x) b ≡ Less) (break_at key p) xs (all_weaker (λ y. statement_cmp x y ≡ Less) (λ y. break_cmp (break_at key p x) (break_at key p y) ≡ Less) (λ y. by_statement p x y) xs s.0), rising_part p xs s.1)

  between : (p q : Part) → part_cmp p q ≡ Less → (xs ys : List Statement)
      → AllByRecursion (λ b. AllByRecursion (λ c. break_cmp b c ≡ Less) (map (break_at key q) ys)) (map (break_at key p) xs)
  between p q e xs ys =
      all_map (λ b. AllByRecursion (λ c. break_cmp b c ≡ Less) (map (break_at key q) ys)) (break_at key p) xs
      (all_so (λ x. AllByRecursion (λ c. break_cmp (break_at key p x) c ≡ Less) (map (break_at key q) ys))
      (λ x. all_map (λ c. break_cmp (break_at key p x) c ≡ Less) (break_at key q) ys (all_so (λ y. break_cmp (break_at key p x) (break_at key q y) ≡ Less) (λ y. by_part p q x y e) ys)) xs)

rising_step : (set : List Statement) (step : PlainStep) → HasSets step → IsStrictlySortedBy break_cmp (breaks_at set step)
rising_step set step sets =
    let lacks = λ (x : Statement). not (has set x) in
    let pres = filter lacks step.change.pre in
    let revs = filter lacks step.change.rev in
    let fwds = filter (has set) step.change.fwd in
    let pre = map (break_at step.key Precondition) pres in
    let rev = map (break_at step.key Reverse) revs in
    let fwd = map (break_at step.key Forward) fwds in
    rising_append break_cmp (pre ++ rev) fwd
    (rising_append break_cmp pre rev
    (rising_part step.key Precondition pres (IsStrictlySortedBy-filter statement_cmp lacks step.change.pre sets.pre))
    (rising_part step.key Reverse revs (IsStrictlySortedBy-filter statement_cmp lacks step.change.rev sets.rev))
    (between step.key Precondition Reverse refl pres revs))
    (rising_part step.key Forward fwds (IsStrictlySortedBy-filter statement_cmp (has set) step.change.fwd sets.fwd))
    (all_append (λ b. AllByRecursion (λ c. break_cmp b c ≡ Less) fwd) pre rev
    (between step.key Precondition Forward refl pres fwds)
    (between step.key Reverse Forward refl revs fwds))

-- what holds of the breaks of each part holds of those of the step
pub all_at : (P : Break → Type 0) (set : List Statement) (step : PlainStep)
    → AllByRecursion (λ x. P (break_at step.key Precondition x)) step.change.pre
    → AllByRecursion (λ x. P (break_at step.key Reverse x)) step.change.rev
    → AllByRecursion (λ x. P (break_at step.key Forward x)) step.change.fwd
    → AllByRecursion P (breaks_at set step)
all_at P set step a b c =
    let lacks = λ (x : Statement). not (has set x) in
    let pre = map (break_at step.key Precondition) (filter lacks step.change.pre) in
    let rev = map (break_at step.key Reverse) (filter lacks step.change.rev) in
    let fwd = map (break_at step.key Forward) (filter (has set) step.change.fwd) in
    all_append P (pre ++ rev) fwd
    (all_append P pre rev
    (all_map P (break_at step.key Precondition) (filter lacks step.change.pre) (all_filter (λ x. P (break_at step.key Precondition x)) lacks step.change.pre a))
    (all_map P (break_at step.key Reverse) (filter lacks step.change.rev) (all_filter (λ x. P (break_at step.key Reverse x)) lacks step.change.rev b)))
    (all_map P (break_at step.key Forward) (filter (has set) step.change.fwd) (all_filter (λ x. P (break_at step.key Forward x)) (has set) step.change.fwd c))

-- ---- all steps

-- where a key stands before all steps, a break at it stands before all of theirs
pub later_breaks : (key : Key) (steps : List PlainStep) (set : List Statement) → AllByRecursion (λ step. key_cmp key step.key ≡ Less) steps
    → AllByRecursion (λ c. key_cmp key c.key ≡ Less) (statement_breaks set steps)
later_breaks key [] set a = tt
later_breaks key (step ∷ steps) set a =
    all_append (λ c. key_cmp key c.key ≡ Less) (breaks_at set step) (statement_breaks (set_after set step.change) steps)
    (all_at (λ c. key_cmp key c.key ≡ Less) set step
    (all_so (λ x. key_cmp key step.key ≡ Less) (λ x. a.0) step.change.pre)
    (all_so (λ x. key_cmp key step.key ≡ Less) (λ x. a.0) step.change.rev)
    (all_so (λ x. key_cmp key step.key ≡ Less) (λ x. a.0) step.change.fwd))
    (later_breaks key steps (set_after set step.change) a.1)

by_key : (b c : Break) → key_cmp b.key c.key ≡ Less → break_cmp b c ≡ Less
by_key b c e = ap (λ r. ordering_then r (ordering_then (part_cmp b.part c.part) (statement_cmp b.statement c.statement))) e

pub rising_breaks : (steps : List PlainStep) (set : List Statement) → IsStrictlySortedBy step_cmp steps → AllByRecursion HasSets steps → IsStrictlySortedBy break_cmp (statement_breaks set steps)
unfolding IsStrictlySortedBy
rising_breaks [] set order sets = tt
rising_breaks (step ∷ steps) set order sets =
    let others = statement_breaks (set_after set step.change) steps in
    let later = later_breaks step.key steps (set_after set step.change) order.0 in
    let P : Break → Type 0 = λ b. AllByRecursion (λ c. break_cmp b c ≡ Less) others in
    let above : (p : Part) (x : Statement) → P (break_at step.key p x) =
    λ p x. all_weaker (λ c. key_cmp step.key c.key ≡ Less) (λ c. break_cmp (break_at step.key p x) c ≡ Less) (λ c. by_key (break_at step.key p x) c) others later
    in
    rising_append break_cmp (breaks_at set step) others (rising_step set step sets.0) (rising_breaks steps (set_after set step.change) order.1 sets.1)
    (all_at P set step
    (all_so (λ x. P (break_at step.key Precondition x)) (above Precondition) step.change.pre)
    (all_so (λ x. P (break_at step.key Reverse x)) (above Reverse) step.change.rev)
    (all_so (λ x. P (break_at step.key Forward x)) (above Forward) step.change.fwd))

-- ---- what breaks is named

pub same_itself : (s : Statement) → is_same s s ≡ true
same_itself s = ap is_eq (tied_itself statement_cmp-total s)

pub or_more : (a b : Bool) → b ≡ true → (a || b) ≡ true
or_more true b e = refl
or_more false b e = e

pub or_first : (a b : Bool) → a ≡ true → (a || b) ≡ true
or_first true b e = refl
or_first false b e = absurd (let wrong = e in cc)

pub own_members : (xs : List Statement) → AllByRecursion (λ x. has xs x ≡ true) xs
own_members [] = tt
own_members (x ∷ xs) = (or_first (is_same x x) (has xs x) (same_itself x), all_weaker (λ y. has xs y ≡ true) (λ y. has (x ∷ xs) y ≡ true) (λ y e. or_more (is_same y x) (has xs y) e) xs (own_members xs))

pub named_breaks : (P : Statement → Type 0) (steps : List PlainStep) (set : List Statement) → ((s : Statement) → is_named_in steps s ≡ true → P s)
    → AllByRecursion (λ b. P b.statement) (statement_breaks set steps)
named_breaks P [] set named = tt
named_breaks P (step ∷ steps) set named =
    all_append (λ b. P b.statement) (breaks_at set step) (statement_breaks (set_after set step.change) steps)
    (all_at (λ b. P b.statement) set step
    (all_weaker (λ x. has step.change.pre x ≡ true) P (λ x e. here x (or_first (has step.change.pre x) (has step.change.rev x || has step.change.fwd x) e)) step.change.pre (own_members step.change.pre))
    (all_weaker (λ x. has step.change.rev x ≡ true) P (λ x e. here x (or_more (has step.change.pre x) (has step.change.rev x || has step.change.fwd x) (or_first (has step.change.rev x) (has step.change.fwd x) e))) step.change.rev (own_members step.change.rev))
    (all_weaker (λ x. has step.change.fwd x ≡ true) P (λ x e. here x (or_more (has step.change.pre x) (has step.change.rev x || has step.change.fwd x) (or_more (has step.change.rev x) (has step.change.fwd x) e))) step.change.fwd (own_members step.change.fwd)))
    (named_breaks P steps (set_after set step.change) (λ s e. named s (or_more (is_named step.change s) (is_named_in steps s) e)))
  where
    here : (s : Statement) → is_named step.change s ≡ true → P s
    here s e = named s (or_first (is_named step.change s) (is_named_in steps s) e)
