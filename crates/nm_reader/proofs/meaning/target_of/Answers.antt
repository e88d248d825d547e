use Rattle.nm_reader.proofs.Options.{some_from_ok}
use Rattle.nm_reader.proofs.meaning.target_of.Goals as goal

pub returns-in-Ok : goal.returns-in-Ok
returns-in-Ok c = some_from_ok _ _ c.in-Ok.target c.in-Ok.ensures
