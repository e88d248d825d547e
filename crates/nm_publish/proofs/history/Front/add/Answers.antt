use Rattle.std.proofs.Common.{sym, ◌∙◌, ap}
use Rattle.nm_publish.proofs.Adding.{add_moves}
use Rattle.nm_publish.proofs.history.Front.add.Goals as goal

pub compare_exchange-found-requires : goal.compare_exchange-found-requires
compare_exchange-found-requires c =
    let word = c.requires in
    let offer = c.plain-offer.ensures in
    let pen = c.no_pen-pen.ensures in
    let book = ap (λ h. h.book) c.self.view_is in (
      ap (λ w. w.tracked) word,
      book ∙ sym (ap (λ w. w.book) word),
      pen.0 ∙ (book ∙ sym (ap (λ w. w.book) word)),
      offer.0,
      rw (ap (λ w. w.key) word, pen.1, offer.1, offer.3) (add_moves c.self.inside.seen.log _ c.self.inside.commits c.self.invariant),
    )
