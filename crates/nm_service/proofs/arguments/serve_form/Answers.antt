use Rattle.std.proofs.Common.{ap, arith, length, map, string_bytes, sym}
use Rattle.std.proofs.lemmas.List.{length-map}
use Rattle.nm_service.proofs.NoForm.{too_few, too_many}
use Rattle.nm_service.proofs.arguments.serve_form.Goals as goal

pub returns-in_default : goal.returns-in_default
returns-in_default c =
    let words = c.args.words.now.items in
    sym (too_few (map string_bytes words) (omega (arith, length-map words string_bytes, ap length c.as_slice.ensures.value, c.in_default.len_below)))

pub returns-in_default-2 : goal.returns-in_default-2
returns-in_default-2 c =
    let words = c.args.words.now.items in
    sym (too_many (map string_bytes words) (omega (arith, length-map words string_bytes, ap length c.as_slice.ensures.value, c.in_default.len_at_least)))
