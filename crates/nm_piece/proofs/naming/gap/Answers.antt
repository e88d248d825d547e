use Rattle.std.proofs.Common.{◌∙◌, sym, true}
use Rattle.std.specs.Prelude.{Some}
use Rattle.nm_text.specs.White.{is_white_space}
use Rattle.nm_piece.specs.Name.{ends_white}
use Rattle.nm_piece.proofs.Splits.{gap_found, segment_open}
use Rattle.nm_piece.proofs.naming.gap.Goals as goal

pub returns-then-is_empty : goal.returns-then-is_empty
returns-then-is_empty c =
    sym (segment_open ends_white (λ white. Some (is_white_space white)) (λ white. true) c.args.bytes.now c.split_at.result.0.now c.split_at.result.1.now
    (c.white_length.ensures.before ∙ sym c.split_at.ensures.front) (c.white_length.ensures.from ∙ sym c.split_at.ensures.back) (sym c.is_empty.ensures ∙ c.if-is_empty.true))

pub returns-else-is_empty : goal.returns-else-is_empty
returns-else-is_empty c =
    rw c.is_empty-else-is_empty.ensures
    (sym (gap_found c.args.bytes.now c.split_at.result.0.now c.split_at.result.1.now
    (c.white_length.ensures.before ∙ sym c.split_at.ensures.front) (c.white_length.ensures.from ∙ sym c.split_at.ensures.back) (sym c.is_empty.ensures ∙ c.if-is_empty.false)))
