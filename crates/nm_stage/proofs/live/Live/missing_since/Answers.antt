use Rattle.std.proofs.Common.{◌∙◌}
use Rattle.nm_stage.proofs.AfterChange.{own_and_others}
use Rattle.nm_stage.proofs.live.Live.missing_since.Goals as goal

pub returns : goal.returns
returns c =
    c.earlier.ensures
    ∙ own_and_others c.args.known.now c.args.self.now c.args.filing c.missing_of_own-own.result c.missing_of_others-others.result c.projects_are_live.ensures c.missing_of_own-own.ensures c.missing_of_others-others.ensures
