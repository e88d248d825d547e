use Rattle.std.proofs.Common.{◌∙◌, [], ap}
use Rattle.std.proofs.lemmas.Result.{IfOk-weaker}
use Rattle.nm_check.specs.Timelines.{base_of}
use Rattle.nm_version.proofs.version.timelines_of_base.Goals as goal

pub returns-clause-base : goal.returns-clause-base
returns-clause-base g c =
    IfOk-weaker c.taking_base.result _ _ (λ timelines told. ap base_of told ∙ c.base_is_of_timelines.ensures c.args.base [] c.as_slice-statements.ensures.rising) c.taking_base.ensures.timelines
