-- Replay: the base's statements changed by the steps, one after another, and what does not fit.
use Rattle.std.specs.Prelude.{ℕ, List, [], ◌∷◌, ◌++◌, Bool, not, Option, map}
use Rattle.std.specs.List.{filter}
use Rattle.std.specs.Ordering.{is_le}
use Rattle.nm_check.specs.Breaks.{first_of}
use Rattle.nm_check.specs.Replay.{after_changes, set_after}
use Rattle.nm_day.specs.Day.{day_cmp}
use Rattle.nm_model.specs.Header.{rising_ids}
use Rattle.nm_model.specs.declared.document.Full.{Full}
use Rattle.nm_model.specs.declared.header.Header.{Header}
use Rattle.nm_stage.specs.Dependencies.{unmet}
use Rattle.nm_stage.specs.Project.{PlainProject, model_of}
use Rattle.nm_stage.specs.Steps.{in_order}
use Rattle.nm_statement.specs.Set.{has}
use Rattle.nm_statement.specs.declared.set.Change.{Change}
use Rattle.nm_statement.specs.declared.statement.Statement.{Statement}
use Rattle.nm_version.specs.declared.refusal.Cause.{Cause}
use Rattle.nm_version.specs.declared.refusal.Cause.TheVariants.{Dependency, Precondition, Reverse, Forward}
use Rattle.nm_version.specs.declared.refusal.Refusal.{Refusal}
use Rattle.nm_version.specs.declared.refusal.Refusal.TheVariants as refusal

-- ---- a day

-- whether the project is in service on a day
abbrev pub is_in_service : List ℕ → PlainProject → Bool
is_in_service day project = is_le (day_cmp project.day day)

-- the steps in service on a day, in order
abbrev pub in_service : List PlainProject → List ℕ → List PlainProject
in_service live day = filter (is_in_service day) (in_order live)

-- the statements of a day
abbrev pub statements_at : Full → List PlainProject → List ℕ → List Statement
statements_at base live day = after_changes base.statements (map (λ step. step.change) (in_service live day))

-- ---- what does not fit

-- why a change does not fit a set: preconditions and reverse statements that it lacks, forward statements that
-- it has, each in statement order
abbrev pub statement_causes : List Statement → Change → List Cause
statement_causes set change =
    map Precondition (filter (λ statement. not (has set statement)) change.pre)
    ++ map Reverse (filter (λ statement. not (has set statement)) change.rev)
    ++ map Forward (filter (has set) change.fwd)

-- why a step does not fit what stands before it: the dependencies that are none of the known ids, by number,
-- and then the statements
abbrev pub causes : List ℕ → List Statement → PlainProject → List Cause
causes known set step =
    map Dependency (rising_ids (unmet known step.dependencies)) ++ statement_causes set step.change

abbrev pub refusal_at : PlainProject → Cause → Refusal
refusal_at step cause = refusal.Step step.day (model_of step) cause

-- all that does not fit, step by step. The ids known at a step are joined by its lineage for the later ones.
abbrev pub breaks : List ℕ → List Statement → List PlainProject → List Refusal
breaks known set [] = []
breaks known set (step ∷ steps) =
    map (refusal_at step) (causes known set step)
    ++ breaks (known ++ step.lineage) (set_after set step.change) steps

-- the models that are known before the first step: the base and those that it depends on
abbrev pub known_before : Header → List ℕ
known_before base = base.id ∷ base.depends

-- the first cause of the first step of the live projects that does not fit
unfoldable pub first_break : Full → List PlainProject → Option Refusal
first_break base live = first_of (breaks (known_before base.header) base.statements (in_order live))
