use Rattle.std.proofs.Common.{length, ◌∙◌, sym, ap, arith, length-drop}
use Rattle.std.proofs.lemmas.Result.{err_from_is_err_and}
use Rattle.nm_piece.specs.Cutting.{mark_length}
use Rattle.nm_piece.specs.Token.{piece_of}
use Rattle.nm_reader.proofs.Rests.{behind_shorter, due_on, due_whole, end_due, error_due}
use Rattle.nm_reader.proofs.SoundPieces.{read_sound}
use Rattle.nm_reader.proofs.reading.read_pieces.Goals as goal

pub pieces-init : goal.pieces-init
pieces-init c = record {
  within = omega (arith, ap length c.behind_mark-rest.ensures, length-drop (mark_length c.args.input.now) c.args.input.now);
  due = due_whole c.args.last c.args.input.now c.behind_mark-rest.result.now c.new-reader.result c.new-reader.ensures c.behind_mark-rest.ensures;
}

pub take_at-requires : goal.take_at-requires
take_at-requires c = read_sound c.args.last c.pieces.rest.now (piece_of c.in-Ok.token) c.in-Ok.behind.now (sym c.in-Ok.ensures)

pub returns-in_err-take_at-in-Ok : goal.returns-in_err-take_at-in-Ok
returns-in_err-take_at-in-Ok c =
    let p = err_from_is_err_and c.from_residual.result c.from_residual.ensures.1 in
    rw (p.1, p.2) (error_due c.args.last (length c.args.input.now) c.pieces.rest.now (piece_of c.in-Ok.token) c.in-Ok.behind.now c.pieces.reader _ _ c.pieces.invariant.within (sym c.in-Ok.ensures) c.pieces.invariant.due c.in_err-take_at-in-Ok.ensures)

pub pieces-smaller : goal.pieces-smaller
pieces-smaller c = behind_shorter c.args.last c.pieces.rest.now (piece_of c.in-Ok.token) c.in-Ok.behind.now (sym c.in-Ok.ensures)

pub pieces-preserved : goal.pieces-preserved
pieces-preserved c = record {
  within = omega (arith, behind_shorter c.args.last c.pieces.rest.now (piece_of c.in-Ok.token) c.in-Ok.behind.now (sym c.in-Ok.ensures), c.pieces.invariant.within);
  due = due_on c.args.last (length c.args.input.now) c.pieces.rest.now (piece_of c.in-Ok.token) c.in-Ok.behind.now c.pieces.reader c.take_at.new.reader c.pieces.invariant.within (sym c.in-Ok.ensures) c.in_ok-take_at-in-Ok.ensures ∙ c.pieces.invariant.due;
}

pub returns-in-Err : goal.returns-in-Err
returns-in-Err c =
    end_due c.args.last (length c.args.input.now) c.pieces.rest.now c.in-Err.unread c.pieces.reader c.finish.result _ (sym c.in-Err.ensures) c.pieces.invariant.due c.finish.ensures
