use Rattle.std.proofs.Common.{arith}
use Rattle.nm_ident.specs.Name.{continues_name}
use Rattle.nm_piece.proofs.Splits.{cut_in_chunk, cut_in_rest, passed_further}
use Rattle.nm_piece.proofs.naming.name_length.Goals as goal

pub returns-then-length-lt-CHUNK-clause-before : goal.returns-then-length-lt-CHUNK-clause-before
returns-then-length-lt-CHUNK-clause-before c =
    let said = c.length_in-length.ensures in
    (cut_in_chunk continues_name c.args.bytes.now c.chunks.rest.now c.split_at.result.0.now 8 c.length_in-length.result c.chunks.invariant c.split_at.ensures.front (omega arith) c.if-length-lt-CHUNK.true said.all said.ends).before_is

pub returns-then-length-lt-CHUNK-clause-from : goal.returns-then-length-lt-CHUNK-clause-from
returns-then-length-lt-CHUNK-clause-from c =
    let said = c.length_in-length.ensures in
    (cut_in_chunk continues_name c.args.bytes.now c.chunks.rest.now c.split_at.result.0.now 8 c.length_in-length.result c.chunks.invariant c.split_at.ensures.front (omega arith) c.if-length-lt-CHUNK.true said.all said.ends).from_is

pub chunks-preserved : goal.chunks-preserved
chunks-preserved c =
    passed_further continues_name c.args.bytes.now c.chunks.rest.now c.split_at.result.0.now c.split_at.result.1.now 8 c.length_in-length.result c.chunks.invariant c.split_at.ensures.front c.split_at.ensures.back (omega arith) c.length_in-length.ensures.all

pub returns-clause-before : goal.returns-clause-before
returns-clause-before c =
    let said = c.length_in.ensures in
    (cut_in_rest continues_name c.args.bytes.now c.chunks.rest.now c.length_in.result c.chunks.invariant said.within said.all said.ends).before_is

pub returns-clause-from : goal.returns-clause-from
returns-clause-from c =
    let said = c.length_in.ensures in
    (cut_in_rest continues_name c.args.bytes.now c.chunks.rest.now c.length_in.result c.chunks.invariant said.within said.all said.ends).from_is
