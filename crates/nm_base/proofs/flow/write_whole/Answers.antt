use Rattle.std.proofs.Common.{ℕ, ◌∙◌, arith, length-take, length-drop}
use Rattle.nm_base.proofs.Pieces.{Appends-more}
use Rattle.nm_base.proofs.flow.write_whole.Goals as goal

pub loop-at-preserved : goal.loop-at-preserved
loop-at-preserved g c =
    let before = c.loop-at.invariant in
    let call = c.in_ok-at.ensures in
    record {
      within = omega (arith, length-take {A = ℕ}, length-drop {A = ℕ}, call.within);
      appended = Appends-more _ _ _ _ c.loop-at.at _ before.appended call.bytes;
      steady = call.counted.stays ∙ before.steady;
      beside_stays = call.beside_stays ∙ before.beside_stays;
    }
