-- Where steps can be edited, so can the timeline of each statement.
use Rattle.std.proofs.Common.{◌≡◌, List, [], ◌∷◌, Bool, true, false, ◌||◌, cond, map, refl, subst}
use Rattle.std.specs.List.{AllByRecursion, IsDistinct, filter}
use Rattle.std.specs.Ordering.{eq_by_cmp}
use Rattle.nm_check.proofs.Edits.{entries_without}
use Rattle.nm_check.proofs.Presence.{or_none}
use Rattle.nm_check.proofs.Rising.{all_filter, all_map}
use Rattle.nm_check.specs.Edit.{CanEdit, is_step_taken, keys_naming, without_steps}
use Rattle.nm_check.specs.Replay.{AreSteps, step_cmp}
use Rattle.nm_check.specs.Timelines.{entries_of, entry_of, is_named}
use Rattle.nm_ident.proofs.Rising.{all_weaker}
use Rattle.nm_stage.specs.Project.{PlainStep}
use Rattle.nm_statement.specs.declared.statement.Statement.{Statement}
use Rattle.nm_timeline.specs.Timeline.{CanAdd, entry_cmp, is_taken, without_keys}

module _ (s : Statement) where
  abbrev named : PlainStep → Bool
  named step = is_named step.change s

  -- steps at different keys have entries at different keys
  entries_apart : (steps : List PlainStep) → IsDistinct (eq_by_cmp step_cmp) steps → IsDistinct (eq_by_cmp entry_cmp) (entries_of steps s)
  unfolding IsDistinct
  entries_apart [] apart = tt
  entries_apart (step ∷ steps) apart = by (entries_apart steps apart.1) (named step)
    where
      by : IsDistinct (eq_by_cmp entry_cmp) (entries_of steps s) → (n : Bool) → IsDistinct (eq_by_cmp entry_cmp) (map (entry_of s) (cond n (step ∷ filter named steps) (filter named steps)))
      by later true = (
        all_map (λ e. eq_by_cmp entry_cmp (entry_of s step) e ≡ false) (entry_of s) (filter named steps)
            (all_filter (λ x. eq_by_cmp step_cmp step x ≡ false) named steps apart.0),
        later,
      )
      by later false = later

  -- an entry whose step stands at a key of its own does so too
  entry_free : (step : PlainStep) (steps : List PlainStep) → is_step_taken steps step ≡ false → is_taken (entries_of steps s) (entry_of s step) ≡ false
  entry_free step [] free = refl
  entry_free step (x ∷ xs) free =
      let parts = or_none (eq_by_cmp step_cmp step x) (is_step_taken xs step) free in
      by (named x) parts.0 (entry_free step xs parts.1)
    where
      by : (n : Bool) → eq_by_cmp step_cmp step x ≡ false → is_taken (entries_of xs s) (entry_of s step) ≡ false
          → is_taken (map (entry_of s) (cond n (x ∷ filter named xs) (filter named xs))) (entry_of s step) ≡ false
      by true e h = (λ i. e i || h i)
      by false e h = h

  pub can_add : (remove add steps : List PlainStep) → AreSteps steps → CanEdit remove add steps
      → CanAdd (without_keys (keys_naming remove s) (entries_of steps s)) (entries_of add s)
  can_add remove add steps are can = record {
    apart = entries_apart add can.apart;
    free =
        subst (λ es. AllByRecursion (λ e. is_taken es e ≡ false) (entries_of add s)) (entries_without remove add steps s are can)
        (all_map (λ e. is_taken (entries_of (without_steps remove steps) s) e ≡ false) (entry_of s) (filter named add)
        (all_filter (λ step. is_taken (entries_of (without_steps remove steps) s) (entry_of s step) ≡ false) named add
        (all_weaker (λ step. is_step_taken (without_steps remove steps) step ≡ false) (λ step. is_taken (entries_of (without_steps remove steps) s) (entry_of s step) ≡ false) (λ step e. entry_free step (without_steps remove steps) e) add can.free)));
  }
