use Rattle.std.proofs.Common.{length, ap, sym, arith, length-append}
use Rattle.nm_piece.specs.Token.{piece_of}
use Rattle.nm_piece.proofs.Pieces.{piece_found}
use Rattle.nm_piece.proofs.owned.next.Goals as goal

pub overflow_sub-result : goal.overflow_sub-result
overflow_sub-result c =
    let spelt = piece_found c.args.bytes.now c.args.last (piece_of c.in-Ok.token) c.in-Ok.rest.now (sym c.in-Ok.ensures) in
    omega (arith, ap length spelt.whole, length-append spelt.front c.in-Ok.rest.now)
