-- Steps that can be filed, moved and withdrawn.
use Rattle.std.proofs.Common.{◌≡◌, ◌∙◌, take, List, [], ◌∷◌, Contains, Bool, false, ◌||◌, not, cond, Option, None, Some, Result, Ok, Err, IfOk, Ordering, refl, sym, ap, subst, arith}
use Rattle.std.proofs.lemmas.Cmp.{tied_itself}
use Rattle.std.specs.BTreeSet.{insert_key}
use Rattle.std.specs.List.{IsDistinct}
use Rattle.std.specs.List.Sorted.{IsStrictlySortedBy}
use Rattle.std.specs.Ordering.{eq_by_cmp, is_eq, match_ordering}
use Rattle.std.specs.declared.cmp.Ordering.TheVariants.{Less, Equal, Greater}
use Rattle.nm_check.proofs.Edits.{edited_steps_are_steps}
use Rattle.nm_check.specs.Breaks.{first_statement_break}
use Rattle.nm_check.specs.Edit.{CanEdit, edited_steps, is_step_taken}
use Rattle.nm_check.specs.EditError.{wants_memory}
use Rattle.nm_rows_values.specs.Edits.{IsOne, IsPair}
use Rattle.nm_check.specs.Kept.{AreTimelinesOf, CanEditTimelines, due_after, unless_broken}
use Rattle.nm_check.specs.Replay.{HasSets, step_cmp}
use Rattle.nm_check.specs.Timelines.{timelines_of}
use Rattle.nm_check.specs.declared.breaks.Break.{Break}
use Rattle.nm_check.specs.declared.breaks.EditError.{EditError}
use Rattle.nm_day.proofs.Orders.{key_cmp-total}
use Rattle.nm_stage.specs.Project.{PlainStep}
use Rattle.nm_statement.specs.Set.{IsRising}
use Rattle.nm_statement.specs.declared.statement.Statement.{Statement}
use Rattle.nm_terms.specs.Due.{IsDue}
use Rattle.nm_timeline.specs.Timeline.{PlainTimeline}

pub can_file_one : (first : PlainStep) → HasSets first → CanEdit [] (first ∷ []) []
unfolding IsDistinct
can_file_one first sets = record { removed = tt; apart = (tt, tt); free = (refl, tt); sets = (sets, tt) }

pub can_file_two : (first second : PlainStep) → HasSets first → HasSets second → eq_by_cmp step_cmp first second ≡ false → CanEdit [] (first ∷ second ∷ []) []
unfolding IsDistinct
can_file_two first second s t apart = record { removed = tt; apart = ((apart, tt), (tt, tt)); free = (refl, (refl, tt)); sets = (s, (t, tt)) }

pub can_withdraw_one : (first : PlainStep) → CanEdit (first ∷ []) [] (first ∷ [])
unfolding IsDistinct
can_withdraw_one first = record { removed = ((0, omega arith, refl), tt); apart = tt; free = tt; sets = tt }

pub can_move_one : (first later : PlainStep) → HasSets later → CanEdit (first ∷ []) (later ∷ []) (first ∷ [])
unfolding IsDistinct
can_move_one first later sets = record {
  removed = ((0, omega arith, refl), tt);
  apart = (tt, tt);
  free = ((λ i. is_step_taken (cond (not (is_eq (tied_itself key_cmp-total first.key i) || false)) (first ∷ []) []) later), tt);
  sets = (sets, tt);
}

or_nothing : (b : Bool) → b ≡ false → (b || false) ≡ false
or_nothing b e = ap (λ c. c || false) e

pub can_file_second : (first second : PlainStep) → HasSets second → eq_by_cmp step_cmp second first ≡ false → CanEdit [] (second ∷ []) (first ∷ [])
unfolding IsDistinct
can_file_second first second sets apart = record {
  removed = tt;
  apart = (tt, tt);
  free = (or_nothing (eq_by_cmp step_cmp second first) apart, tt);
  sets = (sets, tt);
}

pub can_withdraw_first : (first second : PlainStep) → CanEdit (first ∷ []) [] (insert_key step_cmp (first ∷ []) second)
unfolding IsDistinct
can_withdraw_first first second = record { removed = (by (step_cmp second first), tt); apart = tt; free = tt; sets = tt }
  where
    by : (r : Ordering) → Contains (match_ordering r (second ∷ first ∷ []) (first ∷ []) (first ∷ second ∷ [])) first
    by Less = (1, omega arith, refl)
    by Equal = (0, omega arith, refl)
    by Greater = (0, omega arith, refl)

-- ---- what an edit gives

ok_is : (first : Option Break) (due given : List (Statement × PlainTimeline)) → unless_broken first due ≡ Ok given → given ≡ due
ok_is None due given e = let same = e in cc
ok_is (Some found) due given e = absurd (let wrong = e in cc)

pub those_after : (res : Result (List (Statement × PlainTimeline)) EditError) (base : List Statement) (remove add steps : List PlainStep) (old : List (Statement × PlainTimeline))
    → AreTimelinesOf base steps old → CanEdit remove add steps → IsDue wants_memory res (due_after base remove add steps)
    → IfOk res (λ timelines. AreTimelinesOf base (edited_steps remove add steps) timelines)
those_after (Ok given) base remove add steps old those can due = record {
  rising = those.rising;
  are = edited_steps_are_steps remove add steps those.are can;
  timelines_are = ok_is (first_statement_break base (edited_steps remove add steps)) (timelines_of base (edited_steps remove add steps)) given due;
}
those_after (Err error) base remove add steps old those can due = tt

pub those_of_base : (base : List Statement) (timelines : List (Statement × PlainTimeline)) → IsRising base → timelines ≡ timelines_of base [] → AreTimelinesOf base [] timelines
unfolding IsStrictlySortedBy
those_of_base base timelines rising e = record { rising = rising; are = record { order = tt; sets = tt }; timelines_are = e }

-- ---- one step, and two

pub file_one : (steps : List PlainStep) → IsOne steps → CanEdit [] steps []
file_one steps one = subst (λ l. CanEdit [] l []) (sym one.are) (can_file_one one.first one.sets)

pub file_pair : (steps : List PlainStep) → IsPair steps → CanEdit [] steps []
file_pair steps two = subst (λ l. CanEdit [] l []) (sym two.are) (can_file_two two.first two.second two.first_sets two.second_sets two.apart)

module _ (base : List Statement) (timelines : List (Statement × PlainTimeline)) where
  pub withdraw_one : (steps : List PlainStep) → IsOne steps → AreTimelinesOf base (edited_steps [] steps []) timelines → CanEditTimelines steps [] timelines
  withdraw_one steps one those = record {
    base = base;
    steps = one.first ∷ [];
    those = subst (λ l. AreTimelinesOf base (edited_steps [] l []) timelines) one.are those;
    can = subst (λ l. CanEdit l [] (one.first ∷ [])) (sym one.are) (can_withdraw_one one.first);
  }

  pub move_one : (steps later : List PlainStep) → IsOne steps → IsOne later → AreTimelinesOf base (edited_steps [] steps []) timelines → CanEditTimelines steps later timelines
  move_one steps later one other those = record {
    base = base;
    steps = one.first ∷ [];
    those = subst (λ l. AreTimelinesOf base (edited_steps [] l []) timelines) one.are those;
    can =
        subst (λ l. CanEdit l later (one.first ∷ [])) (sym one.are)
        (subst (λ l. CanEdit (one.first ∷ []) l (one.first ∷ [])) (sym other.are) (can_move_one one.first other.first other.sets));
  }

  pub withdraw_first : (steps taken : List PlainStep) → taken ≡ take 1 steps → IsPair steps → AreTimelinesOf base (edited_steps [] steps []) timelines → CanEditTimelines taken [] timelines
  withdraw_first steps taken e two those = record {
    base = base;
    steps = insert_key step_cmp (two.first ∷ []) two.second;
    those = subst (λ l. AreTimelinesOf base (edited_steps [] l []) timelines) two.are those;
    can = subst (λ l. CanEdit l [] (insert_key step_cmp (two.first ∷ []) two.second)) (sym (e ∙ ap (take 1) two.are)) (can_withdraw_first two.first two.second);
  }
