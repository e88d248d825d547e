-- Steps that are taken away and added.
use Rattle.std.specs.Prelude.{◌≡◌, List, Bool, false, not, map, Contains}
use Rattle.std.specs.BTreeSet.{insert_key}
use Rattle.std.specs.List.{AllByRecursion, IsDistinct, filter, fold, list_any}
use Rattle.std.specs.Ordering.{eq_by_cmp}
use Rattle.nm_check.specs.Replay.{HasSets, step_cmp}
use Rattle.nm_check.specs.Timelines.{entries_of}
use Rattle.nm_day.specs.declared.key.Key.{Key}
use Rattle.nm_stage.specs.Project.{PlainStep}
use Rattle.nm_statement.specs.declared.statement.Statement.{Statement}
use Rattle.nm_timeline.specs.Timeline.{has_key}

abbrev pub keys_of : List PlainStep → List Key
keys_of steps = map (λ step. step.key) steps

-- the steps at other keys than those of these
abbrev pub without_steps : List PlainStep → List PlainStep → List PlainStep
without_steps remove steps = filter (λ step. not (has_key (keys_of remove) step.key)) steps

-- the steps and these, each put at its place
abbrev pub with_steps : List PlainStep → List PlainStep → List PlainStep
with_steps steps added = fold (insert_key step_cmp) steps added

abbrev pub edited_steps : List PlainStep → List PlainStep → List PlainStep → List PlainStep
edited_steps remove add steps = with_steps (without_steps remove steps) add

-- whether a step stands at the key of this one
abbrev pub is_step_taken : List PlainStep → PlainStep → Bool
is_step_taken steps step = list_any (eq_by_cmp step_cmp step) steps

-- the steps to take away are among the steps, the keys of those to add differ, and none of these keys is left
pub record CanEdit (remove add steps : List PlainStep) : Type 0 where
  pub removed : AllByRecursion (Contains steps) remove
  pub apart : IsDistinct (eq_by_cmp step_cmp) add
  pub free : AllByRecursion (λ step. is_step_taken (without_steps remove steps) step ≡ false) add
  pub sets : AllByRecursion HasSets add

-- the keys of the steps that name the statement
abbrev pub keys_naming : List PlainStep → Statement → List Key
keys_naming steps statement = map (λ entry. entry.0) (entries_of steps statement)
