use Rattle.std.proofs.Common.{◌∙◌, ◌++◌, sym, ap}
use Rattle.nm_gen.proofs.Parts.{no_substations, substation_more}
use Rattle.nm_gen.specs.Models.{substation}
use Rattle.nm_gen.proofs.models.substations.Goals as goal

pub loop-number-init : goal.loop-number-init
loop-number-init c = c.new-statements.ensures.items ∙ sym no_substations

pub loop-number-preserved : goal.loop-number-preserved
loop-number-preserved c =
    c.in_ok-append_substation.ensures ∙ ap (λ list. list ++ substation c.loop-number.number) c.loop-number.invariant ∙ sym (substation_more c.loop-number.number)
