use Rattle.std.proofs.Common.{refl}
use Rattle.nm_http.specs.Reply.{phrase_of}
use Rattle.nm_rows_values.proofs.heads.a_reply_has_its_lines_in_order.Goals as goal

pub reply_text-requires : goal.reply_text-requires
unfolding phrase_of
reply_text-requires c d = refl
