-- The reply to a command that is accepted or refused.
use Rattle.std.proofs.Common.{◌≡◌, ◌≢◌, ◌∙◌, ℕ, List, Result, Ok, Err, IfOk, OnOk, refl, sym, ap}
use Rattle.nm_terms.specs.Due.{OrWant}
use Rattle.nm_version.specs.Kept.{Kept}
use Rattle.nm_version.specs.Refusal.{wants_memory}
use Rattle.nm_version.specs.declared.refusal.Refusal.{Refusal}
use Rattle.nm_version.specs.declared.refusal.Refusal.TheVariants as refusal
use Rattle.nm_session.specs.Reply.{refused_reply}
use Rattle.nm_session.specs.Turn.{Turn, committed}
use Rattle.nm_session.specs.declared.state.State.TheVariants.{Store}

due_refusal : {claim : Type 0} (given : Refusal) → given ≢ refusal.NoMemory → OrWant (wants_memory given) claim → claim
due_refusal refusal.NoMemory said h = absurd (said refl)
due_refusal refusal.Kind said h = h
due_refusal (refusal.Unknown id) said h = h
due_refusal (refusal.NotSuperseding id) said h = h
due_refusal (refusal.InUse id) said h = h
due_refusal (refusal.Limit limit) said h = h
due_refusal (refusal.Step day model cause) said h = h

-- a refused command changes nothing, and is answered with the refusal that is due
pub refused_turn : {V E : Type 0} (items : V → List ℕ) (kept : Kept) (due : Result Kept Refusal) (given : Refusal) (r : Result V E)
    → OrWant (wants_memory given) (due ≡ Err given) → IfOk r (λ out. items out ≡ refused_reply given) → OnOk r (given ≢ refusal.NoMemory)
    → IfOk r (λ out. (items out ≡ (committed kept due).reply) × (Store kept ≡ (committed kept due).state))
refused_turn items kept due given (Ok out) is text said =
    let turn = ap (committed kept) (due_refusal given said is) in
    (text ∙ sym (ap (λ (t : Turn). t.reply) turn), sym (ap (λ (t : Turn). t.state) turn))
refused_turn items kept due given (Err e) is text said = tt
