use Rattle.std.proofs.Common.{◌≡◌, ◌∙◌, ℕ, ◌+◌, ◌<◌, ◌+ℤ◌, pos, w64, FitsSigned, to_z, of_z, int_cmp, refl, sym, arith}
use Rattle.std.proofs.lemmas.Cmp.{int_cmp_total, tied_itself}
use Rattle.std.proofs.lemmas.Int.{to_z-of_z, to_z_pos}
use Rattle.jiff_core.proofs.SignedLemmas.{signed_arith}
use Rattle.nm_day.proofs.Orders.{day_order_tells_apart}
use Rattle.nm_day.specs.Day.{number_of}
use Rattle.nm_gen.proofs.CountedDays.{day_is_after}
use Rattle.nm_gen.specs.Days as spec
use Rattle.nm_gen.proofs.days.day_after.Goals as goal

-- the number that the code counts to
number_is : (days : ℕ) → days < spec.days_to_draw → to_z w64 (of_z w64 (pos 20819 +ℤ to_z w64 days)) ≡ pos (20819 + days)
number_is days small =
    let fits : FitsSigned w64 (pos (20819 + days)) = omega (arith, signed_arith) in
    (λ i. to_z w64 (of_z w64 (pos 20819 +ℤ to_z_pos w64 days (omega arith) i))) ∙ to_z-of_z w64 (pos (20819 + days)) fits

pub unreachable-requires : goal.unreachable-requires
unreachable-requires c =
    let after = day_is_after c.args.days c.requires in
    c.in-None.ensures.none refl (spec.day_after c.args.days) after.is (after.number ∙ sym (number_is c.args.days c.requires))

pub returns : goal.returns
returns c =
    let after = day_is_after c.args.days c.requires in
    let same : number_of c.in-Some.day ≡ number_of (spec.day_after c.args.days) = c.in-Some.ensures.day ∙ number_is c.args.days c.requires ∙ sym after.number in
    let level = (λ i. int_cmp (same i) (number_of (spec.day_after c.args.days))) ∙ tied_itself int_cmp_total (number_of (spec.day_after c.args.days)) in
    day_order_tells_apart c.in-Some.day (spec.day_after c.args.days) c.in-Some.ensures.valid after.is level
