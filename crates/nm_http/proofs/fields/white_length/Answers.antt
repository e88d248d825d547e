use Rattle.std.proofs.Common.{length, sym}
use Rattle.std.specs.List.{position_or_len}
use Rattle.std.specs.Prelude.{not}
use Rattle.std.proofs.lemmas.List.Sums.{prefix_len-le-length}
use Rattle.nm_http.specs.Fields.{is_no_white}
use Rattle.nm_http.proofs.Words.{all_before}
use Rattle.nm_http.proofs.fields.white_length.Goals as goal

pub returns-in-None-clause-length : goal.returns-in-None-clause-length
returns-in-None-clause-length c =
    all_before (position_or_len is_no_white c.args.bytes.now) (length c.args.bytes.now) (sym c.in-None.ensures)
    (prefix_len-le-length (λ byte. not (is_no_white byte)) c.args.bytes.now)
