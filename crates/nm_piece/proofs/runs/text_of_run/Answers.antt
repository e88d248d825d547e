use Rattle.std.proofs.Common.{◌∙◌, sym, ap}
use Rattle.std.specs.Option.{option_map}
use Rattle.std.specs.Prelude.{is_some}
use Rattle.nm_piece.specs.declared.piece.Piece.TheVariants.{Text}
use Rattle.nm_text.specs.Meaning.{run_text}
use Rattle.nm_piece.proofs.Meant.{is_there, run_is}
use Rattle.nm_piece.proofs.runs.text_of_run.Goals as goal

pub invariant_of-result : goal.invariant_of-result
invariant_of-result c = ap is_some (sym (run_is c.args.spelling.now c.requires)) ∙ c.requires

pub returns : goal.returns
returns c = sym (ap (option_map Text) (run_is c.args.spelling.now c.requires ∙ is_there (run_text c.args.spelling.now) (ap is_some (sym (run_is c.args.spelling.now c.requires)) ∙ c.requires)))
