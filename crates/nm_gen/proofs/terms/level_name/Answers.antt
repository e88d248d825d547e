use Rattle.std.proofs.Common.{◌∙◌, refl, ap, arith}
use Rattle.nm_statement.specs.Literal.{is_literal}
use Rattle.nm_gen.proofs.Names.{numbered_is_literal}
use Rattle.nm_gen.proofs.terms.level_name.Goals as goal

pub of_text-requires : goal.of_text-requires
of_text-requires c = ap is_literal (c.of_list.ensures ∙ c.in_ok-name.ensures) ∙ numbered_is_literal 86 c.args.number refl (omega (arith, c.ranges.number.fits))
