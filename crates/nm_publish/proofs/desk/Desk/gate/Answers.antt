use Rattle.nm_publish.proofs.Seats.{admits, tells, hears}
use Rattle.nm_publish.proofs.desk.Desk.gate.Goals as goal

pub reader-requires : goal.reader-requires
reader-requires g c = admits

pub tell-requires : goal.tell-requires
tell-requires g c = tells _ _

pub learn-requires-clause-rule : goal.learn-requires-clause-rule
learn-requires-clause-rule g c = hears _ _ _ _
