use Rattle.std.proofs.Common.{◌≡◌, Bool, true, false, length, refl, sym, arith}
use Rattle.std.proofs.lemmas.List.Sums.{position_or_len_is}
use Rattle.std.specs.Prelude.{◌==◌}
use Rattle.nm_text.proofs.split.length_before.Goals as goal

fails : (b : Bool) → (b ≡ true → ⊥) → b ≡ false
fails true refused = absurd (refused refl)
fails false refused = refl

pub returns-in-Some : goal.returns-in-Some
returns-in-Some c =
    let first = c.in-Some.ensures in
    sym (position_or_len_is (λ other. other == c.args.byte) c.args.bytes.now c.in-Some.place 0 (omega (arith, first.0.high))
    (λ k below. fails _ (first.0.before k (omega arith) below))
    (λ within. first.1))

pub returns-in-None : goal.returns-in-None
returns-in-None c =
    sym (position_or_len_is (λ other. other == c.args.byte) c.args.bytes.now (length c.args.bytes.now) 0 (omega arith)
    (λ k below. fails _ (c.in-None.ensures k (omega arith) below))
    (λ within. absurd (omega arith)))
