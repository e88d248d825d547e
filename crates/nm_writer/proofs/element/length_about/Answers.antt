use Rattle.std.proofs.Common.{◌∙◌, ℕ, Option, ap, length, unwrap_or}
use Rattle.nm_writer.specs.Canonical.{is_about}
use Rattle.nm_writer.proofs.Elements.{first_failing-or_end}
use Rattle.nm_writer.proofs.element.length_about.Goals as goal

pub returns-clause-value : goal.returns-clause-value
returns-clause-value c =
    let xs = c.args.statements.now in
    c.unwrap_or.ensures ∙ ap (λ (found : Option ℕ). unwrap_or found (length xs)) c.first_other.ensures
    ∙ first_failing-or_end (is_about c.args.subject.now) xs
