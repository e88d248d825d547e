use Rattle.std.proofs.Common.{◌∙◌, ap, sym}
use Rattle.nm_text.specs.Utf8.{place_after}
use Rattle.nm_text.specs.declared.character.Place.{Place}
use Rattle.nm_text.proofs.Places.{singles_stay_between}
use Rattle.nm_text.proofs.TextsAgain.{is_between_says}
use Rattle.nm_text.proofs.character.Place.after_chunk.Goals as goal

pub returns-then-are_single : goal.returns-then-are_single
returns-then-are_single c =
    let between = is_between_says c.args.self (sym c.is_whole.ensures ∙ c.if-is_whole.true) in
    let singles = sym c.are_single.ensures ∙ c.if-are_single.true in
    sym (ap (λ (place : Place). place_after place c.args.chunk.now) between ∙ singles_stay_between c.args.chunk.now singles)
