use Rattle.std.proofs.Common.{Some, sym, ap, ◌∙◌}
use Rattle.std.specs.Int.{w128, from_be_bytes}
use Rattle.std.specs.Option.{option_map}
use Rattle.nm_ident.proofs.UuidTexts.{uuid_of-other_length, uuid_of-parsed, uuid_of-not_parsed}
use Rattle.nm_ident.proofs.uuid_text.model_id.Goals as goal

pub returns-then-text-ne-TEXT_LENGTH : goal.returns-then-text-ne-TEXT_LENGTH
returns-then-text-ne-TEXT_LENGTH c = sym (uuid_of-other_length c.args.text.now c.if-text-ne-TEXT_LENGTH.true)

pub returns-in-Ok : goal.returns-in-Ok
returns-in-Ok c =
    ap Some c.as_u128.ensures ∙ ap (option_map (from_be_bytes w128)) c.in-Ok.ensures.bytes
    ∙ sym (uuid_of-parsed c.args.text.now c.if-text-ne-TEXT_LENGTH.false)

pub returns-in-Err : goal.returns-in-Err
returns-in-Err c =
    uuid_of-not_parsed c.args.text.now c.if-text-ne-TEXT_LENGTH.false (λ read. let fails = c.in-Err.ensures.ok.1 read in cc)
