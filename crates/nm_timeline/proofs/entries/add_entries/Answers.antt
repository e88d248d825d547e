use Rattle.std.proofs.Common.{◌≡◌, ◌∙◌, ◌+◌, ◌∷◌, drop, length, ap, sym, subst, arith}
use Rattle.std.proofs.lemmas.List.{drop_more}
use Rattle.std.proofs.lemmas.List.Sums.{prefix_len-le-length}
use Rattle.std.specs.Ordering.{is_lt}
use Rattle.std.specs.BTreeSet.{insert_key}
use Rattle.std.specs.List.{prefix_len}
use Rattle.nm_day.specs.Key.{key_cmp}
use Rattle.nm_timeline.specs.Timeline.{CanAdd, entry_cmp, with_entries}
use Rattle.nm_timeline.proofs.Places.{first_free, others_can, put_entry}
use Rattle.nm_timeline.proofs.entries.add_entries.Goals as goal

pub insert-requires : goal.insert-requires
insert-requires c =
    omega (arith, c.count_before-place.ensures, c.deref.ensures.len, prefix_len-le-length (λ e. is_lt (key_cmp e.0 c.entry-item.result.0)) c.deref.result.now, ap length c.deref.ensures.value)

pub loop-entry-preserved : goal.loop-entry-preserved
loop-entry-preserved c =
    let entries = c.loop-entry.entries.items in
    let e = c.entry-item.result in
    let others = drop (c.loop-entry.entry-index + 1) c.args.added.now in
    let next : drop c.loop-entry.entry-index c.args.added.now ≡ e ∷ others =
    drop_more c.args.added.now c.loop-entry.entry-index e (omega arith) ∙ ap (λ x. x ∷ others) (sym c.entry-item.is) in
    let can : CanAdd entries (e ∷ others) = subst (CanAdd entries) next c.loop-entry.invariant.can in
    let put : c.insert.new.self.items ≡ insert_key entry_cmp entries e =
    c.in_ok-insert.ensures.items
    ∙ put_entry entries e c.count_before-place.result (first_free entries e others can)
    (subst (λ xs. c.count_before-place.result ≡ prefix_len (λ other. is_lt (key_cmp other.0 e.0)) xs) c.deref.ensures.value c.count_before-place.ensures)
    in
    record {
      can = subst (λ xs. CanAdd xs others) (sym put) (others_can entries e others can);
      whole = ap (λ xs. with_entries xs others) put ∙ ap (with_entries entries) (sym next) ∙ c.loop-entry.invariant.whole;
    }
