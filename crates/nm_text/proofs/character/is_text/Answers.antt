use Rattle.std.proofs.Common.{◌∙◌, ap, sym}
use Rattle.nm_text.specs.Utf8.{is_whole}
use Rattle.nm_text.proofs.Utf8Texts.{texts_by_bytes}
use Rattle.nm_text.proofs.character.is_text.Goals as goal

pub returns : goal.returns
returns c = c.is_whole.ensures ∙ ap is_whole c.after.ensures ∙ sym (texts_by_bytes c.args.bytes.now)
