use Rattle.std.proofs.Common.{◌∙◌}
use Rattle.nm_writer.proofs.Elements.{derived-ident_eq}
use Rattle.nm_writer.proofs.element.is_about.Goals as goal

pub returns : goal.returns
returns c = c.eq.ensures ∙ derived-ident_eq c.args.subject.now c.args.statement.now.subject
