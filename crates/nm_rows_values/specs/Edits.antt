-- Steps that a test files: one, or two at different keys.
use Rattle.std.specs.Prelude.{◌≡◌, List, [], ◌∷◌, false}
use Rattle.std.specs.Ordering.{eq_by_cmp}
use Rattle.nm_check.specs.Replay.{HasSets, step_cmp}
use Rattle.nm_stage.specs.Project.{PlainStep}

pub record IsOne (steps : List PlainStep) : Type 0 where
  pub first : PlainStep
  pub are : steps ≡ first ∷ []
  pub sets : HasSets first

pub record IsPair (steps : List PlainStep) : Type 0 where
  pub first : PlainStep
  pub second : PlainStep
  pub are : steps ≡ first ∷ second ∷ []
  pub first_sets : HasSets first
  pub second_sets : HasSets second
  pub apart : eq_by_cmp step_cmp first second ≡ false
