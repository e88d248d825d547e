use Rattle.std.proofs.Common.{◌∙◌, arith}
use Rattle.nm_text.proofs.Places.{one_byte_more}
use Rattle.nm_text.proofs.character.Place.after_each.Goals as goal

pub loop-byte-preserved : goal.loop-byte-preserved
loop-byte-preserved c =
    c.after_byte-place.ensures
    ∙ one_byte_more c.loop-byte.place c.args.self c.args.bytes.now c.loop-byte.byte-index (omega arith) c.loop-byte.invariant
