-- In between two commands the opening stands in its stream, and no read failed.
use Rattle.std.proofs.Common.{◌≡◌, ◌-◌, IfSome}
use Rattle.nm_session.proofs.Openings.{Along}
use Rattle.nm_session.specs.Limits.{longest_session}
use Rattle.nm_session.proofs.start.run_to_end.Given as goal

abbrev pub invariant-turns : goal.invariant-turns
invariant-turns g l =
    let source = g.S.Source in
    record {
      along : IfSome (source.left l.fn.source) (λ stream. Along stream l.ahead (source.left l.source) l.state);
      unfailed : source.faults l.source ≡ source.faults l.fn.source;
      beside_stays : source.beside l.source ≡ source.beside l.fn.source;
    }

-- how many bytes the session may still take
abbrev pub decreases-turns : goal.decreases-turns
decreases-turns g l = longest_session - l.ahead.given
