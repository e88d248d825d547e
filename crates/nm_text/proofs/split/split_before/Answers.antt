use Rattle.std.proofs.Common.{◌∙◌, ap, take, drop}
use Rattle.std.specs.Prelude.{◌==◌, not}
use Rattle.std.proofs.lemmas.List.Sums.{prefix_len-le-length}
use Rattle.nm_text.proofs.Splits.{split_at_place}
use Rattle.nm_text.proofs.split.split_before.Goals as goal

pub split_at-requires : goal.split_at-requires
split_at-requires c = rw c.length_before.ensures (prefix_len-le-length (λ other. not (other == c.args.byte)) c.args.bytes.now)

pub returns : goal.returns
returns c =
    split_at_place c.args.byte c.args.bytes.now c.split_at.result.0.now c.split_at.result.1.now
    (c.split_at.ensures.front ∙ ap (λ n. take n c.args.bytes.now) c.length_before.ensures)
    (c.split_at.ensures.back ∙ ap (λ n. drop n c.args.bytes.now) c.length_before.ensures)
