use Rattle.std.proofs.Common.{refl}
use Rattle.nm_ident.specs.UuidText.{uuid_text}
use Rattle.nm_ident.proofs.UuidTexts.{length-uuid_text}
use Rattle.nm_ident.proofs.uuid_text.id_text.Goals as goal

pub copy_from_slice-requires : goal.copy_from_slice-requires
unfolding uuid_text
copy_from_slice-requires c =
    rw (c.as_bytes.ensures.value, c.encode_lower-written.ensures.text, c.hyphenated.ensures, c.from_u128.ensures, length-uuid_text c.args.id) refl

pub returns : goal.returns
unfolding uuid_text
returns c =
    rw (c.copy_from_slice.ensures.after, c.as_bytes.ensures.value, c.encode_lower-written.ensures.text, c.hyphenated.ensures, c.from_u128.ensures) refl
