use Rattle.nm_publish.proofs.Seats.{enters}
use Rattle.nm_publish.proofs.gate.entered.Goals as goal

pub enter_as-requires : goal.enter_as-requires
enter_as-requires c = enters c.args.seat.place.id _
