use Rattle.nm_version.specs.After.{commit_of}
use Rattle.nm_session.proofs.Turns.{refused_turn}
use Rattle.nm_session.proofs.changes.commit.Goals as goal

pub returns-in-Err-clause-ok : goal.returns-in-Err-clause-ok
returns-in-Err-clause-ok c =
    refused_turn (λ reply. reply) c.args.version.now (commit_of c.args.version.now c.args.command) c.in-Err.refusal c.refused.result
    c.in-Err.ensures c.refused.ensures.text c.refused.ensures.said
