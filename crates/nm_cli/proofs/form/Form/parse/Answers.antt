use Rattle.std.proofs.Common.{◌≡◌, ◌≤◌, ◌<◌, arith, ap, length, map, string_bytes}
use Rattle.std.proofs.lemmas.List.{length-map}
use Rattle.nm_cli.proofs.Forms.{many_words, two_words}
use Rattle.nm_cli.proofs.form.Form.parse.Goals as goal

pub returns-in_default-2-clause-form : goal.returns-in_default-2-clause-form
returns-in_default-2-clause-form c =
    let same : length c.as_slice.result.now ≡ length c.args.words.now.items = ap length c.as_slice.ensures.value in
    two_words (map string_bytes c.args.words.now.items)
    (omega (arith, same, length-map c.args.words.now.items string_bytes, c.in_default.len_at_least))
    (omega (arith, same, length-map c.args.words.now.items string_bytes, c.in_default.len_below))

pub returns-in_default-3-clause-form : goal.returns-in_default-3-clause-form
returns-in_default-3-clause-form c =
    let same : length c.as_slice.result.now ≡ length c.args.words.now.items = ap length c.as_slice.ensures.value in
    many_words (map string_bytes c.args.words.now.items)
    (omega (arith, same, length-map c.args.words.now.items string_bytes, c.in_default.len_at_least))
