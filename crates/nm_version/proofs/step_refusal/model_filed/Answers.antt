use Rattle.std.proofs.Common.{◌∙◌, sym, ap}
use Rattle.std.specs.Option.{option_map}
use Rattle.nm_version.specs.ByTimelines.{model_or_none}
use Rattle.nm_version.proofs.step_refusal.model_filed.Goals as goal

pub returns-in-Some : goal.returns-in-Some
returns-in-Some c =
    c.model.ensures ∙ ap model_or_none (sym (ap (option_map (λ one. one.now)) c.in-Some.is) ∙ c.filed_as.ensures)

pub returns-in-None : goal.returns-in-None
returns-in-None c = ap model_or_none (sym (ap (option_map (λ one. one.now)) c.in-None.is) ∙ c.filed_as.ensures)
