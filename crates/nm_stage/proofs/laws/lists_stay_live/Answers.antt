use Rattle.nm_stage.proofs.Lives.{empty-live, with-live, without-live}
use Rattle.nm_stage.proofs.laws.lists_stay_live.Goals as goal

pub returns : goal.returns
returns c = record { empty = empty-live; with = with-live; without = without-live }
