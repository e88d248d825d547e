use Rattle.std.proofs.Common.{◌≡◌, ◌∙◌, ◌<◌, ℕ, List, [], length, drop, Err, refl, sym}
use Rattle.std.proofs.Math.Seq.{drop-cons}
use Rattle.std.proofs.lemmas.Result.{err_from_is_err_and}
use Rattle.nm_piece.specs.Reading.{literal_at}
use Rattle.nm_piece.specs.declared.unread.Unread.TheVariants.{Unfinished}
use Rattle.nm_piece.proofs.reading.literal.Goals as goal

short : (text rest : List ℕ) (place : ℕ) → place < length text → rest ≡ [] → literal_at (drop place text) rest ≡ Err Unfinished
short text rest place lt e = rw (drop-cons text place 0 lt, e) refl

pub returns-in_err-byte : goal.returns-in_err-byte
returns-in_err-byte c =
    let p = err_from_is_err_and c.from_residual.result c.from_residual.ensures.1 in
    rw (p.1, p.2, c.in_err-byte.ensures.1)
    (sym (c.loop-wanted.invariant ∙ short c.args.text.now c.loop-wanted.rest.now c.loop-wanted.wanted-index c.loop-wanted-test.true c.in_err-byte.ensures.0))
