use Rattle.nm_version.proofs.Commits.{refused_early}
use Rattle.nm_version.proofs.version.Version.commit.Goals as goal

pub returns-in-Some-clause-commit : goal.returns-in-Some-clause-commit
returns-in-Some-clause-commit g c = refused_early c.args.self.now c.args.command c.in-Some.refusal c.in-Some.ensures
