use Rattle.std.proofs.Common.{◌≡◌, ◌∙◌, ℕ, List, Option, Some, None, Err, refl, sym, eqb, cond}
use Rattle.nm_piece.specs.declared.piece.Piece.{Piece}
use Rattle.nm_piece.specs.declared.piece.Piece.TheVariants.{Text}
use Rattle.std.specs.Option.{option_map}
use Rattle.std.specs.Prelude.{Bool, is_some, true, false}
use Rattle.nm_piece.specs.Reading.{Read, found}
use Rattle.nm_piece.specs.declared.unread.Unread.TheVariants.{Unfinished, NoPiece}
use Rattle.nm_piece.specs.Run.{begins_run, run_at, run_of, text_of_run}
use Rattle.nm_piece.proofs.Splits.{cut_is, segment_open, segment_shut}
use Rattle.nm_piece.proofs.runs.run.Goals as goal

err_if : (b : Bool) → ◌≡◌ {A = Read Piece} (Err (cond b Unfinished NoPiece)) (cond b (Err Unfinished) (Err NoPiece))
err_if true = refl
err_if false = refl

nothing : (o : Option (List ℕ)) (rest : List ℕ) → is_some o ≡ false → found (option_map Text o) rest ≡ Err NoPiece
nothing None rest e = refl
nothing (Some x) rest e = absurd cc

pub returns-then-is_empty : goal.returns-then-is_empty
unfolding run_at
returns-then-is_empty c =
    let cut = cut_is 60 c.args.bytes.now c.split_before.result.0.now c.split_before.result.1.now c.split_before.ensures in
    rw (c.unfinished_if.ensures, c.begins_run.ensures)
    (err_if (begins_run c.split_before.result.0.now)
    ∙ sym (segment_open (λ byte. eqb byte 60) text_of_run begins_run c.args.bytes.now c.split_before.result.0.now c.split_before.result.1.now cut.before_is cut.from_is (sym c.is_empty.ensures ∙ c.if-is_empty.true)))

pub returns-then-is_run : goal.returns-then-is_run
unfolding run_at
returns-then-is_run c =
    let cut = cut_is 60 c.args.bytes.now c.split_before.result.0.now c.split_before.result.1.now c.split_before.ensures in
    sym (segment_shut (λ byte. eqb byte 60) text_of_run begins_run c.args.bytes.now c.split_before.result.0.now c.split_before.result.1.now cut.before_is cut.from_is (sym c.is_empty.ensures ∙ c.if-is_empty.false)
    ∙ rw (← c.text_of_run.ensures) refl)

pub returns-else-is_run : goal.returns-else-is_run
unfolding run_at
returns-else-is_run c =
    let cut = cut_is 60 c.args.bytes.now c.split_before.result.0.now c.split_before.result.1.now c.split_before.ensures in
    sym (segment_shut (λ byte. eqb byte 60) text_of_run begins_run c.args.bytes.now c.split_before.result.0.now c.split_before.result.1.now cut.before_is cut.from_is (sym c.is_empty.ensures ∙ c.if-is_empty.false)
    ∙ nothing (run_of c.split_before.result.0.now) c.split_before.result.1.now (sym c.if-is_run.ensures))
