use Rattle.std.proofs.Common.{◌≡◌, IfOk, subst}
use Rattle.nm_writer.specs.Canonical.{canonical_full}
use Rattle.nm_session.proofs.turn.document_of_day.Goals as goal

pub returns : goal.returns
returns c =
    subst (λ full. IfOk c.write_full.result (λ document. document.items ≡ canonical_full full)) c.in_ok-full.ensures c.write_full.ensures
