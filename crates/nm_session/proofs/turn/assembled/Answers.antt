use Rattle.std.proofs.Common.{◌≡◌, ◌∙◌, ℕ, List, IfOk, subst}
use Rattle.nm_version.specs.Assembly.{assembly}
use Rattle.nm_writer.specs.Canonical.{canonical_full}
use Rattle.nm_session.specs.Reply.{document_reply}
use Rattle.nm_session.proofs.turn.assembled.Goals as goal

pub returns : goal.returns
returns c =
    let bytes : c.deref.result.now ≡ canonical_full (assembly c.args.version.now.base c.args.version.now.live c.args.day) =
    c.deref.ensures.value ∙ c.in_ok-document.ensures
    in
    subst (λ (text : List ℕ). IfOk c.with_length.result (λ reply. reply.items ≡ document_reply text)) bytes c.with_length.ensures
