-- The statements after steps, one after another.
use Rattle.std.specs.Prelude.{ℕ, List, Bool, map}
use Rattle.std.specs.List.{AllByRecursion, filter, fold}
use Rattle.std.specs.List.Sorted.{IsStrictlySortedBy}
use Rattle.std.specs.Ordering.{is_le}
use Rattle.std.specs.declared.cmp.Ordering.{Ordering}
use Rattle.nm_day.specs.Day.{day_cmp}
use Rattle.nm_day.specs.Key.{key_cmp}
use Rattle.nm_stage.specs.Project.{PlainStep}
use Rattle.nm_statement.specs.Set.{IsRising, minus_of, union_of}
use Rattle.nm_statement.specs.declared.set.Change.{Change}
use Rattle.nm_statement.specs.declared.statement.Statement.{Statement}

-- the set after a change, whether or not it fits
abbrev pub set_after : List Statement → Change → List Statement
set_after set change = union_of (minus_of set change.rev) change.fwd

-- the set after changes, one after another
abbrev pub after_changes : List Statement → List Change → List Statement
after_changes set changes = fold set_after set changes

abbrev pub changes_of : List PlainStep → List Change
changes_of steps = map (λ step. step.change) steps

-- whether the step is in service on a day
abbrev pub is_in_service : List ℕ → PlainStep → Bool
is_in_service day step = is_le (day_cmp step.key.day day)

-- the steps in service on a day
abbrev pub in_service : List PlainStep → List ℕ → List PlainStep
in_service steps day = filter (is_in_service day) steps

-- the statements of a day
abbrev pub statements_at : List Statement → List PlainStep → List ℕ → List Statement
statements_at base steps day = after_changes base (changes_of (in_service steps day))

-- ---- what steps are

abbrev pub step_cmp : PlainStep → PlainStep → Ordering
step_cmp x y = key_cmp x.key y.key

-- the parts of a change are sets
pub record HasSets (step : PlainStep) : Type 0 where
  pub pre : IsRising step.change.pre
  pub rev : IsRising step.change.rev
  pub fwd : IsRising step.change.fwd

-- steps in the order of their keys, whose changes are of sets
pub record AreSteps (steps : List PlainStep) : Type 0 where
  pub order : IsStrictlySortedBy step_cmp steps
  pub sets : AllByRecursion HasSets steps
