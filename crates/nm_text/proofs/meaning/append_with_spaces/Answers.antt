use Rattle.std.proofs.Common.{◌≡◌, ◌∙◌, sym, false, rules}
use Rattle.std.specs.List.{list_any}
use Rattle.nm_text.specs.Meaning.{is_other_white}
use Rattle.nm_text.proofs.Spaces.{none_is_white}
use Rattle.nm_text.proofs.meaning.append_with_spaces.Goals as goal

pub returns-else-has_other_white : goal.returns-else-has_other_white
returns-else-has_other_white c =
    let none : list_any is_other_white c.args.bytes.now ≡ false = sym c.has_other_white.ensures ∙ c.if-has_other_white.false in
    rw (none_is_white c.args.bytes.now none) (search rules)
