-- The touched timelines, edited, are those of the base and the edited steps.
use Rattle.std.proofs.Common.{◌≡◌, ◌∙◌, List, [], ◌∷◌, ◌++◌, Bool, true, false, ◌||◌, cond, map, Option, None, Some, Ok, Err, refl, sym, ap, subst}
use Rattle.nm_check.proofs.CanAdds.{can_add}
use Rattle.nm_check.proofs.Edits.{edited_steps_are_steps, only_touched_timelines_break, other_timelines_stay, timelines_are_edited}
use Rattle.nm_check.proofs.FirstBreak.{first_break_is_the_least}
use Rattle.nm_check.proofs.Lookups.{same_values}
use Rattle.nm_check.proofs.Presence.{or_none}
use Rattle.nm_check.proofs.Values.{has-touched_by, kept, rising-timelines_of, timeline-timelines_of, value-edited_from, value-timelines_of}
use Rattle.nm_check.specs.Breaks.{IsUnbroken, first_of, first_statement_break, least_break, statement_breaks}
use Rattle.nm_check.specs.Edit.{CanEdit, edited_steps, keys_naming}
use Rattle.nm_check.specs.Kept.{AreKept, AreTimelinesOf, CanEditTimelines, due_after, unless_broken}
use Rattle.nm_check.specs.Timelines.{breaks_about, entries_of, first_breaks_of, is_named_in, timeline_of, timelines_of}
use Rattle.nm_check.specs.Touched.{CanEditAt, edited_at, edited_from, least_from, least_with, timeline_at, touched_by}
use Rattle.nm_check.specs.declared.breaks.Break.{Break}
use Rattle.nm_check.specs.declared.breaks.EditError.TheVariants as edit_error
use Rattle.nm_day.specs.declared.key.Key.{Key}
use Rattle.nm_stage.specs.Project.{PlainStep}
use Rattle.nm_statement.proofs.Orders.{statement_cmp-equal, statement_cmp-total}
use Rattle.nm_statement.specs.Order.{statement_cmp}
use Rattle.nm_statement.specs.declared.statement.Statement.{Statement}
use Rattle.nm_timeline.specs.Timeline.{CanAdd, PlainTimeline, edited_of, first_break_of, without_keys}
use Rattle.nm_timeline.specs.declared.part.Part.{Part}
use Rattle.nm_tree.specs.Pairs.{IsRising, value_at}

none_first : (bs : List Break) → first_of bs ≡ None → bs ≡ []
none_first [] e = refl
none_first (b ∷ bs) e = absurd (let wrong = e in cc)

-- of whatever base and steps kept timelines are, nothing of these breaks
pub unbroken_of_kept : (timelines : List (Statement × PlainTimeline)) (base : List Statement) (steps : List PlainStep)
    → AreKept timelines → AreTimelinesOf base steps timelines → IsUnbroken base steps
unbroken_of_kept timelines base steps kept those =
    none_first (statement_breaks base steps)
    (first_break_is_the_least base steps those.are
    ∙ ap (λ ts. least_break (first_breaks_of ts)) (sym those.timelines_are ∙ kept.those.timelines_are)
    ∙ sym (first_break_is_the_least kept.base kept.steps kept.those.are)
    ∙ ap first_of kept.unbroken)

-- where timelines can be edited, so can the one of each statement
pub can_edit_at : (remove add : List PlainStep) (timelines : List (Statement × PlainTimeline)) → CanEditTimelines remove add timelines
    → (s : Statement) → CanEditAt remove add timelines s
can_edit_at remove add timelines can s =
    let same : timeline_at timelines s ≡ timeline_of can.base can.steps s = ap (λ ts. timeline_at ts s) can.those.timelines_are ∙ timeline-timelines_of can.base can.steps s in
    subst (λ (t : PlainTimeline). CanAdd (without_keys (keys_naming remove s) t.entries) (entries_of add s)) (sym same) (can_add s remove add can.steps can.those.are can.can)

module _ (remove add : List PlainStep) (base : List Statement) (steps : List PlainStep) (old : List (Statement × PlainTimeline))
    (those : AreTimelinesOf base steps old) (can : CanEdit remove add steps) where
  abbrev after : Statement → PlainTimeline
  after s = timeline_of base (edited_steps remove add steps) s

  edited_is : (s : Statement) → edited_at remove add old s ≡ after s
  edited_is s =
      ap (λ ts. edited_of (timeline_at ts s) (keys_naming remove s) (entries_of add s)) those.timelines_are
      ∙ ap (λ t. edited_of t (keys_naming remove s) (entries_of add s)) (timeline-timelines_of base steps s)
      ∙ sym (timelines_are_edited base remove add steps s those.are can)

  value_after : (s : Statement) → value_at statement_cmp s (edited_from remove add old old (touched_by remove add)) ≡ kept (after s)
  value_after s =
      value-edited_from remove add old old (touched_by remove add) s
      ∙ ap (λ b. cond b (kept (edited_at remove add old s)) (value_at statement_cmp s old)) (has-touched_by remove add s)
      ∙ by (is_named_in remove s || is_named_in add s) refl
    where
      by : (n : Bool) → (is_named_in remove s || is_named_in add s) ≡ n → cond n (kept (edited_at remove add old s)) (value_at statement_cmp s old) ≡ kept (after s)
      by true e = ap kept (edited_is s)
      by false e =
          let parts = or_none (is_named_in remove s) (is_named_in add s) e in
          ap (value_at statement_cmp s) those.timelines_are ∙ value-timelines_of base steps s
          ∙ ap kept (sym (other_timelines_stay base remove add steps s those.are can parts.0 parts.1))

  pub edited_are : (timelines : List (Statement × PlainTimeline)) → IsRising statement_cmp timelines
      → timelines ≡ edited_from remove add old old (touched_by remove add) → timelines ≡ timelines_of base (edited_steps remove add steps)
  edited_are timelines rising e =
      same_values statement_cmp-total statement_cmp-equal timelines (timelines_of base (edited_steps remove add steps)) rising (rising-timelines_of base (edited_steps remove add steps))
      (λ s. ap (value_at statement_cmp s) e ∙ value_after s ∙ sym (value-timelines_of base (edited_steps remove add steps) s))

  least_is : (ss : List Statement) → least_from remove add old None ss ≡ least_break (first_breaks_of (map (λ s. (s, after s)) ss))
  least_is [] = refl
  least_is (s ∷ ss) =
      (λ i. least_with s (first_break_of (edited_is s i)) (least_is ss i)) ∙ by (first_break_of (after s))
    where
      by : (found : Option (Key × Part)) → least_with s found (least_break (first_breaks_of (map (λ x. (x, after x)) ss)))
          ≡ least_break (breaks_about s found ++ first_breaks_of (map (λ x. (x, after x)) ss))
      by None = refl
      by (Some at) = refl

  pub least_is_first : AreKept old → least_from remove add old None (touched_by remove add) ≡ first_statement_break base (edited_steps remove add steps)
  least_is_first kept =
      least_is (touched_by remove add)
      ∙ sym (only_touched_timelines_break base remove add steps (touched_by remove add) those.are can (unbroken_of_kept old base steps kept those)
      (λ s e. has-touched_by remove add s ∙ e))

  -- without a break the edited ones are kept
  pub kept_after : AreKept old → (timelines : List (Statement × PlainTimeline)) → IsRising statement_cmp timelines
      → timelines ≡ edited_from remove add old old (touched_by remove add) → least_from remove add old None (touched_by remove add) ≡ None → AreKept timelines
  kept_after kept timelines rising e least = record {
    base = base;
    steps = edited_steps remove add steps;
    those = record {
      rising = those.rising;
      are = edited_steps_are_steps remove add steps those.are can;
      timelines_are = edited_are timelines rising e;
    };
    unbroken = none_first (statement_breaks base (edited_steps remove add steps)) (sym (least_is_first kept) ∙ least);
  }

  -- what is due of the edit: the edited timelines, or else the least break
  pub due_ok : AreKept old → (timelines : List (Statement × PlainTimeline)) → IsRising statement_cmp timelines
      → timelines ≡ edited_from remove add old old (touched_by remove add) → least_from remove add old None (touched_by remove add) ≡ None
      → due_after base remove add steps ≡ Ok timelines
  due_ok kept timelines rising e least =
      λ i. unless_broken ((sym (least_is_first kept) ∙ least) i) (sym (edited_are timelines rising e) i)

  pub due_break : AreKept old → (found : Break) → least_from remove add old None (touched_by remove add) ≡ Some found
      → due_after base remove add steps ≡ Err (edit_error.Break found)
  due_break kept found least =
      ap (λ first. unless_broken first (timelines_of base (edited_steps remove add steps))) (sym (least_is_first kept) ∙ least)
