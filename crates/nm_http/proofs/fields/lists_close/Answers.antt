use Rattle.std.proofs.Common.{◌≡◌, ◌∙◌, ◌<◌, ℕ, Bool, length, refl, sym, ap, arith}
use Rattle.std.specs.Prelude.{◌==◌}
use Rattle.std.specs.List.{position_or_len}
use Rattle.std.proofs.lemmas.Bool.Decides.{nat_tests}
use Rattle.nm_http.specs.Fields.{is_close, lists_close}
use Rattle.nm_http.proofs.Parts.{any_later, any_passes, none_passes}
use Rattle.nm_http.proofs.fields.lists_close.Goals as goal

abbrev is_comma : ℕ → Bool
is_comma byte = byte == 44

pub parts-init : goal.parts-init
unfolding lists_close
parts-init c = refl

pub returns-then-is_close : goal.returns-then-is_close
returns-then-is_close c =
    sym (any_passes is_close is_comma c.parts.rest.now (ap is_close (sym c.before-in-parts.ensures) ∙ sym c.if-is_close.ensures))
    ∙ c.parts.invariant

pub returns-then-length_before-rest : goal.returns-then-length_before-rest
returns-then-length_before-rest c =
    let whole : position_or_len is_comma c.parts.rest.now ≡ length c.parts.rest.now = grind (arith, nat_tests, c.length_before.ensures.length, c.if-length_before-rest.true) in
    sym (none_passes is_close is_comma c.parts.rest.now (ap is_close (sym c.before-in-parts.ensures) ∙ sym c.if-is_close.ensures) whole)
    ∙ c.parts.invariant

pub parts-preserved : goal.parts-preserved
parts-preserved c =
    let within : position_or_len is_comma c.parts.rest.now < length c.parts.rest.now = grind (arith, nat_tests, c.length_before.ensures.length, c.length_before.ensures.within, c.if-length_before-rest.false) in
    rw c.behind-rest.ensures (any_later is_close is_comma c.parts.rest.now within (ap is_close (sym c.before-in-parts.ensures) ∙ sym c.if-is_close.ensures))
    ∙ c.parts.invariant
