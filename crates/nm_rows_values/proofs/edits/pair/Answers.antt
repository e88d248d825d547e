use Rattle.std.proofs.Common.{◌≡◌, ◌∙◌, [], ◌∷◌, ◌++◌, ap, sym}
use Rattle.std.specs.Ordering.{eq_by_cmp}
use Rattle.nm_day.specs.Key.{key_cmp}
use Rattle.nm_stage.specs.Project.{PlainStep}
use Rattle.nm_timeline.proofs.Places.{same_key}
use Rattle.nm_rows_values.proofs.edits.pair.Goals as goal

pub returns : goal.returns
returns c =
    let first : c.first.inside.key ≡ c.args.first.key = ap (λ (step : PlainStep). step.key) c.first.view_is in
    let second : c.second.inside.key ≡ c.args.second.key = ap (λ (step : PlainStep). step.key) c.second.view_is in
    record {
      first = c.args.first;
      second = c.args.second;
      are =
          c.in_ok-push-2.ensures.items
          ∙ ap (λ steps. steps ++ c.args.second ∷ []) c.in_ok-push.ensures.items
          ∙ ap (λ steps. (steps ++ c.args.first ∷ []) ++ c.args.second ∷ []) c.new-steps.ensures.items;
      first_sets = c.are_sets.ensures;
      second_sets = c.are_sets-2.ensures;
      apart = (λ i. eq_by_cmp key_cmp (sym first i) (sym second i)) ∙ sym (same_key c.first.inside.key c.second.inside.key) ∙ sym c.eq.ensures ∙ c.if-eq.false;
    }
