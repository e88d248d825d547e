use Rattle.std.proofs.Common.{sym, subst}
use Rattle.nm_publish.specs.History.{History, GoesOn}
use Rattle.nm_publish.proofs.Seats.{publishes}
use Rattle.nm_publish.proofs.desk.published.Goals as goal

pub publish_as-writer-requires : goal.publish_as-writer-requires
publish_as-writer-requires g c next is =
    let shown = c.args.writer.desk.shown.value in
    publishes c.args.writer.desk.place.id _ shown next (subst (λ (h : History). GoesOn shown.front h) (sym is) c.requires.goes_on)
