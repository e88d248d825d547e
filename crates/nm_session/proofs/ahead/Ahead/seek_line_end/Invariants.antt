-- What comes stays the same, and no read failed.
use Rattle.std.proofs.Common.{◌≡◌, ◌-◌, length}
use Rattle.nm_session.specs.Ahead.{ReadsAhead}
use Rattle.nm_session.proofs.ahead.Ahead.seek_line_end.Given as goal

abbrev pub invariant-reading : goal.invariant-reading
invariant-reading g l =
    let source = g.S.Source in
    record {
      ahead : ReadsAhead l.fn.self l.self (source.left l.fn.source) (source.left l.source);
      unfailed : source.faults l.source ≡ source.faults l.fn.source;
      beside_stays : source.beside l.source ≡ source.beside l.fn.source;
    }

-- how many bytes are not buffered yet
abbrev pub decreases-reading : goal.decreases-reading
decreases-reading g l = l.room - length l.self.ahead
