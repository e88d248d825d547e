use Rattle.std.proofs.Common.{◌≡◌, refl}
use Rattle.nm_base.specs.declared.outcome.Status.TheVariants.{Done}
use Rattle.nm_cli.specs.Forms.{generated}
use Rattle.nm_session.proofs.Answered.{answers_whole}
use Rattle.nm_cli.proofs.generated.write_generated.Goals as goal

pub returns-in-Ok-clause-answers : goal.returns-in-Ok-clause-answers
returns-in-Ok-clause-answers g c =
    answers_whole (generated c.args.projects c.args.seed) Done _ _ (record { ending = refl; replies = c.in-Ok.ensures.whole })
