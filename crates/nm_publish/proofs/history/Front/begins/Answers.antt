use Rattle.std.proofs.Common.{◌≤◌, ap, sym, ◌∙◌, subst, length, List}
use mathlib.Core.List.{IsPrefix}
use Rattle.nm_publish.specs.declared.piece.Piece.{Piece}
use Rattle.nm_publish.proofs.Fronts.{shorter_front}
use Rattle.nm_publish.proofs.history.Front.begins.Goals as goal

pub returns : goal.returns
returns c shorter =
    let both = c.learn.new.self.log in
    let mine : IsPrefix c.self.inside.seen.log both = subst (λ (l : List Piece). IsPrefix l both) (ap (λ s. s.log) c.again-both.ensures) c.learn.ensures.2 in
    let less : length c.self.inside.seen.log ≤ length c.other.inside.seen.log = rw (ap (λ h. h.pieces) c.self.view_is, ap (λ h. h.pieces) c.other.view_is) shorter in
    rw (← c.self.view_is, ← c.other.view_is) (record {
      same = ap (λ h. h.book) c.other.view_is ∙ (c.requires ∙ sym (ap (λ h. h.book) c.self.view_is));
      begins = shorter_front c.self.inside.seen.log c.other.inside.seen.log both mine c.learn.ensures.3 less;
    })
