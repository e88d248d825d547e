-- What of the steps does not fit.
use Rattle.std.specs.Prelude.{◌≡◌, List, [], ◌∷◌, ◌++◌, not, map, Option, None, Some, if◌then◌else◌}
use Rattle.std.specs.List.{filter}
use Rattle.std.specs.Ordering.{is_gt, ordering_then}
use Rattle.std.specs.declared.cmp.Ordering.{Ordering}
use Rattle.nm_check.specs.Replay.{set_after}
use Rattle.nm_check.specs.declared.breaks.Break.{Break}
use Rattle.nm_day.specs.Key.{key_cmp}
use Rattle.nm_day.specs.declared.key.Key.{Key}
use Rattle.nm_stage.specs.Project.{PlainStep}
use Rattle.nm_statement.specs.Order.{statement_cmp}
use Rattle.nm_statement.specs.Set.{has}
use Rattle.nm_statement.specs.declared.statement.Statement.{Statement}
use Rattle.nm_timeline.specs.Part.{part_cmp}
use Rattle.nm_timeline.specs.declared.part.Part.{Part}
use Rattle.nm_timeline.specs.declared.part.Part.TheVariants.{Precondition, Reverse, Forward}

-- by step, then by part, then by statement
abbrev pub break_cmp : Break → Break → Ordering
break_cmp x y = ordering_then (key_cmp x.key y.key) (ordering_then (part_cmp x.part y.part) (statement_cmp x.statement y.statement))

abbrev pub break_at : Key → Part → Statement → Break
break_at key part statement = record { key = key; part = part; statement = statement }

-- what of a step does not fit the set before it: preconditions and reverse statements that the set lacks,
-- and forward statements that it has
abbrev pub breaks_at : List Statement → PlainStep → List Break
breaks_at set step =
    map (break_at step.key Precondition) (filter (λ statement. not (has set statement)) step.change.pre)
    ++ map (break_at step.key Reverse) (filter (λ statement. not (has set statement)) step.change.rev)
    ++ map (break_at step.key Forward) (filter (has set) step.change.fwd)

-- all that does not fit, step by step
abbrev pub statement_breaks : List Statement → List PlainStep → List Break
statement_breaks set [] = []
statement_breaks set (step ∷ steps) = breaks_at set step ++ statement_breaks (set_after set step.change) steps

abbrev pub first_of : {X : Type 0} → List X → Option X
first_of [] = None
first_of (x ∷ xs) = Some x

-- the first statement of the first step that does not fit
abbrev pub first_statement_break : List Statement → List PlainStep → Option Break
first_statement_break base steps = first_of (statement_breaks base steps)

-- every statement of every step fits
abbrev pub IsUnbroken : List Statement → List PlainStep → Type 0
IsUnbroken base steps = statement_breaks base steps ≡ []

-- ---- the least

abbrev pub lesser_break : Break → Option Break → Break
lesser_break x None = x
lesser_break x (Some y) = if is_gt (break_cmp x y) then y else x

abbrev pub least_break : List Break → Option Break
least_break [] = None
least_break (x ∷ xs) = Some (lesser_break x (least_break xs))
