use Rattle.std.proofs.Common.{ℕ, sym, ap, ◌∙◌}
use Rattle.std.specs.Option.{option_map}
use Rattle.nm_text.proofs.References.{name_is, no_reference}
use Rattle.nm_text.proofs.reference.reference_at.Goals as goal

pub returns-in_err-behind : goal.returns-in_err-behind
returns-in_err-behind c =
    rw c.from_residual.ensures
    (sym (no_reference c.args.bytes.now c.split_before.result.0.now c.split_before.result.1.now c.split_before.ensures c.in_err-behind.ensures.cases))

pub returns-in_err-character : goal.returns-in_err-character
returns-in_err-character c =
    rw c.from_residual-in_err-character.ensures
    (sym (name_is c.args.bytes.now c.split_before.result.0.now c.split_before.result.1.now c.in_ok-behind.behind.now c.in_ok-behind.field-0-0.now
    c.split_before.ensures c.in_ok-behind.ensures.cases.0
    ∙ ap (option_map (λ (character : ℕ). (character, c.in_ok-behind.behind.now))) (sym c.in_err-character.ensures)))

pub returns : goal.returns
returns c =
    sym (name_is c.args.bytes.now c.split_before.result.0.now c.split_before.result.1.now c.in_ok-behind.behind.now c.in_ok-behind.field-0-0.now
    c.split_before.ensures c.in_ok-behind.ensures.cases.0
    ∙ ap (option_map (λ (character : ℕ). (character, c.in_ok-behind.behind.now))) (sym c.in_ok-character.ensures))
