use Rattle.std.proofs.Common.{◌≡◌, ◌∙◌, ◌++◌, ap, sym, subst}
use Rattle.nm_timeline.specs.Timeline.{IsInOrder, with_entries, without_keys}
use Rattle.nm_timeline.proofs.Places.{order_with, order_without}
use Rattle.nm_timeline.proofs.timeline.Timeline.edited.Goals as goal

pub invariant_of-result : goal.invariant_of-result
invariant_of-result c =
    let kept = without_keys c.args.remove.now c.self.inside.entries.items in
    let left : c.append_without.new.kept.items ≡ kept =
    c.in_ok-append_without.ensures
    ∙ ap (λ xs. xs ++ without_keys c.args.remove.now c.deref.result.now) c.in_ok-entries.ensures.items
    ∙ ap (without_keys c.args.remove.now) c.deref.ensures.value
    in
    subst IsInOrder (sym (c.in_ok-add_entries.ensures ∙ ap (λ xs. with_entries xs c.args.add.now) left))
    (order_with kept c.args.add.now (order_without c.args.remove.now c.self.inside.entries.items c.self.invariant))
