use Rattle.std.proofs.Common.{◌∙◌, sym, ap}
use Rattle.nm_version.specs.Command.{header_of}
use Rattle.nm_version.specs.Refusal.{early_refusal}
use Rattle.nm_version.proofs.Commits.{allowed, few_commits, not_held}
use Rattle.nm_version.proofs.version.Version.changed.Goals as goal

pub filed-requires-clause-kind : goal.filed-requires-clause-kind
filed-requires-clause-kind c = (allowed _ _ (ap (early_refusal c.args.self.now) (sym c.in-File.is) ∙ c.requires)).kind

pub filed-requires-clause-free : goal.filed-requires-clause-free
filed-requires-clause-free c = not_held c.args.self.now (header_of c.in-File.document).id (allowed _ _ (ap (early_refusal c.args.self.now) (sym c.in-File.is) ∙ c.requires)).unused

pub filed-requires-clause-few : goal.filed-requires-clause-few
filed-requires-clause-few c = few_commits c.args.self.now (allowed c.args.self.now c.args.command c.requires).commits

pub revised-requires-clause-kind : goal.revised-requires-clause-kind
revised-requires-clause-kind c = (allowed _ _ (ap (early_refusal c.args.self.now) (sym c.in-Revise.is) ∙ c.requires)).kind

pub revised-requires-clause-known : goal.revised-requires-clause-known
revised-requires-clause-known c = (allowed _ _ (ap (early_refusal c.args.self.now) (sym c.in-Revise.is) ∙ c.requires)).unknown

pub revised-requires-clause-free : goal.revised-requires-clause-free
revised-requires-clause-free c = not_held c.args.self.now (header_of c.in-Revise.document).id (allowed _ _ (ap (early_refusal c.args.self.now) (sym c.in-Revise.is) ∙ c.requires)).unused

pub redated-requires : goal.redated-requires
redated-requires c = (allowed _ _ (ap (early_refusal c.args.self.now) (sym c.in-Redate.is) ∙ c.requires)).unknown

pub withdrawn-requires : goal.withdrawn-requires
withdrawn-requires c = (allowed _ _ (ap (early_refusal c.args.self.now) (sym c.in-Withdraw.is) ∙ c.requires)).unknown
