use Rattle.std.proofs.Common.{◌≡◌, Bool, true, false, refl}
use Rattle.std.proofs.lemmas.Str.{IsUtf8-from_is_utf8, is_utf8-from_IsUtf8}
use Rattle.nm_http.proofs.router.text_of.Goals as goal

fails : (b : Bool) → (b ≡ true → ⊥) → b ≡ false
fails true refused = absurd (refused refl)
fails false refused = refl

pub returns-in-Ok : goal.returns-in-Ok
returns-in-Ok c = (is_utf8-from_IsUtf8 c.args.bytes.now c.in-Ok.ensures.cases.1, c.in-Ok.ensures.cases.0)

pub returns-in-Err : goal.returns-in-Err
returns-in-Err c = fails _ (λ holds. c.in-Err.ensures.cases.0 (IsUtf8-from_is_utf8 c.args.bytes.now holds))
