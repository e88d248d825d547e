use Rattle.std.proofs.Common.{ℕ, length, sym}
use Rattle.std.proofs.lemmas.List.Sums.{prefix_len-le-length}
use Rattle.std.specs.List.{position_or_len}
use Rattle.std.specs.Prelude.{◌==◌, not}
use Rattle.nm_http.proofs.Words.{all_before}
use Rattle.nm_http.proofs.segments.length_before.Goals as goal

pub returns-in-None-clause-length : goal.returns-in-None-clause-length
returns-in-None-clause-length c =
    let is_mark = λ (byte : ℕ). byte == c.args.mark in
    all_before (position_or_len is_mark c.args.bytes.now) (length c.args.bytes.now) (sym c.in-None.ensures)
    (prefix_len-le-length (λ other. not (other == c.args.mark)) c.args.bytes.now)
