-- In between two commands the session stands in its stream, and no call failed.
use Rattle.std.proofs.Common.{◌≡◌, ◌-◌, IfSome}
use Rattle.nm_session.proofs.Sessions.{Written}
use Rattle.nm_session.specs.Limits.{longest_session}
use Rattle.nm_session.proofs.stream.session.Given as goal

abbrev pub invariant-turns : goal.invariant-turns
invariant-turns g l =
    let source = g.S.Source in
    let sink = g.K.Sink in
    record {
      stands : IfSome (source.left l.fn.source) (λ stream.
          Written stream l.ahead (source.left l.source) l.state (sink.written l.fn.sink) (sink.written l.sink));
      reads_unfailed : source.faults l.source ≡ source.faults l.fn.source;
      writes_unfailed : sink.faults l.sink ≡ sink.faults l.fn.sink;
      source_beside : source.beside l.source ≡ source.beside l.fn.source;
      sink_beside : sink.beside l.sink ≡ sink.beside l.fn.sink;
    }

-- how many bytes the session may still take
abbrev pub decreases-turns : goal.decreases-turns
decreases-turns g l = longest_session - l.ahead.given
