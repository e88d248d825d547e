use Rattle.std.proofs.Common.{◌∙◌, ◌++◌, refl, ap, arith, codes}
use Rattle.nm_statement.specs.Literal.{is_literal}
use Rattle.nm_gen.proofs.Names.{name_is_literal}
use Rattle.nm_gen.proofs.terms.other_name.Goals as goal

pub of_text-requires : goal.of_text-requires
of_text-requires c =
    ap is_literal (c.of_list.ensures ∙ c.in_ok-push.ensures.items ∙ ap (λ text. text ++ codes "r") c.in_ok-name.ensures)
    ∙ name_is_literal 83 c.args.number (codes "r") refl refl (omega arith) (omega (arith, c.ranges.number.fits))
