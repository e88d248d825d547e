use Rattle.std.proofs.Common.{◌∙◌, ◌∷◌, ap, arith, map}
use Rattle.std.proofs.lemmas.List.{take_all}
use Rattle.nm_model.specs.Header.{rising_ids}
use Rattle.nm_model.proofs.Ids.{made_of}
use Rattle.nm_version.proofs.assembly.superseded.Goals as goal

pub returns : goal.returns
returns c =
    c.of_list.ensures
    ∙ made_of _ _ _ c.sort_unstable.ensures.permutation c.sort_unstable.ensures.sorted c.dedup.ensures.filtered
    ∙ ap rising_ids c.loop-step.invariant
    ∙ ap (λ steps. rising_ids (c.args.base ∷ map (λ step. step.model) steps)) (take_all c.loop-step.step-index c.args.steps.now (omega arith))
