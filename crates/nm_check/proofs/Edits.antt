-- What an edit of steps makes of the timelines.
use Rattle.std.proofs.Common.{◌≡◌, ◌∙◌, ◌<◌, ℕ, zero, suc, List, [], ◌∷◌, length, get_or, Contains, Bool, true, false, ◌||◌, not, cond, map, None, Some, Ordering, refl, sym, ap, subst, arith}
use Rattle.std.proofs.lemmas.List.Kept.{IsStrictlySortedBy-filter}
use Rattle.std.proofs.lemmas.Cmp.{on_total}
use Rattle.std.specs.BTreeSet.{insert_key}
use Rattle.std.specs.Cmp.{IsTotalOrder}
use Rattle.std.specs.List.{AllByRecursion, IsDistinct, filter, find}
use Rattle.std.specs.List.Sorted.{IsStrictlySortedBy}
use Rattle.std.specs.Option.{option_map}
use Rattle.std.specs.Ordering.{eq_by_cmp, is_eq, match_ordering, ordering_reverse}
use Rattle.std.specs.declared.cmp.Ordering.TheVariants.{Less, Equal, Greater}
use Rattle.nm_check.proofs.About.{break_of, breaks_about_one, is_break_of}
use Rattle.nm_check.proofs.FirstBreak.{first_of_some}
use Rattle.nm_check.proofs.Named.{no_entries}
use Rattle.nm_check.proofs.Presence.{or_none}
use Rattle.nm_check.proofs.Rising.{all_filter, all_map, same_itself}
use Rattle.nm_check.specs.Breaks.{IsUnbroken, statement_breaks}
use Rattle.nm_check.specs.Edit.{CanEdit, edited_steps, is_step_taken, keys_naming, keys_of, with_steps, without_steps}
use Rattle.nm_check.specs.Laws.{EditedStepsAreSteps, OnlyTouchedTimelinesBreak, OtherTimelinesStay, TimelinesAreEdited}
use Rattle.nm_check.specs.Replay.{AreSteps, HasSets, step_cmp}
use Rattle.nm_check.specs.Timelines.{entries_of, entry_of, is_named, is_named_in, timeline_of}
use Rattle.nm_check.specs.declared.breaks.Break.{Break}
use Rattle.nm_day.proofs.Orders.{key_cmp-total}
use Rattle.nm_day.specs.Key.{key_cmp}
use Rattle.nm_day.specs.declared.key.Key.{Key}
use Rattle.nm_ident.proofs.Rising.{all_weaker, has-insert_key, rising-insert_key}
use Rattle.nm_stage.specs.Project.{PlainStep}
use Rattle.nm_statement.specs.Set.{has}
use Rattle.nm_statement.specs.declared.statement.Statement.{Statement}
use Rattle.nm_timeline.proofs.Places.{flips}
use Rattle.nm_timeline.specs.Timeline.{edited_of, entry_cmp, first_break_of, has_key, with_entries, without_keys}
use Rattle.nm_timeline.specs.declared.mark.Mark.{Mark}

pub step_cmp-total : IsTotalOrder step_cmp
step_cmp-total = on_total (λ (step : PlainStep). step.key) key_cmp-total

-- ---- insertion

module _ {K : Type 0} (R : K → K → Ordering) where
  -- an item below all is put first
  put_first : (xs : List K) (k : K) → AllByRecursion (λ x. R k x ≡ Less) xs → insert_key R xs k ≡ k ∷ xs
  put_first [] k a = refl
  put_first (x ∷ xs) k a = λ i. match_ordering (a.0 i) (k ∷ x ∷ xs) (x ∷ xs) (x ∷ insert_key R xs k)

  all_put : (P : K → Type 0) (xs : List K) (k : K) → P k → AllByRecursion P xs → AllByRecursion P (insert_key R xs k)
  all_put P [] k p a = (p, tt)
  all_put P (x ∷ xs) k p a = by (all_put P xs k p a.1) (R k x)
    where
      by : AllByRecursion P (insert_key R xs k) → (r : Ordering) → AllByRecursion P (match_ordering r (k ∷ x ∷ xs) (x ∷ xs) (x ∷ insert_key R xs k))
      by h Less = (p, a)
      by h Equal = a
      by h Greater = (a.0, h)

-- ---- the steps that are left

with_sets : (add steps : List PlainStep) → AllByRecursion HasSets steps → AllByRecursion HasSets add → AllByRecursion HasSets (with_steps steps add)
with_sets [] steps a b = a
with_sets (step ∷ add) steps a b = with_sets add (insert_key step_cmp steps step) (all_put step_cmp HasSets steps step b.0 a) b.1

with_order : (add steps : List PlainStep) → IsStrictlySortedBy step_cmp steps → IsStrictlySortedBy step_cmp (with_steps steps add)
with_order [] steps order = order
with_order (step ∷ add) steps order = with_order add (insert_key step_cmp steps step) (rising-insert_key step_cmp-total steps step order)

kept_order : (remove steps : List PlainStep) → IsStrictlySortedBy step_cmp steps → IsStrictlySortedBy step_cmp (without_steps remove steps)
kept_order remove steps order = IsStrictlySortedBy-filter step_cmp (λ step. not (has_key (keys_of remove) step.key)) steps order

pub edited_steps_are_steps : EditedStepsAreSteps
edited_steps_are_steps remove add steps are can = record {
  order = with_order add (without_steps remove steps) (kept_order remove steps are.order);
  sets = with_sets add (without_steps remove steps) (all_filter HasSets (λ step. not (has_key (keys_of remove) step.key)) steps are.sets) can.sets;
}

-- the one is the other, where they are at one key
abbrev IsOwn : PlainStep → PlainStep → Type 0
IsOwn x r = eq_by_cmp key_cmp r.key x.key ≡ true → r ≡ x

-- ---- entries of the steps that are left

module _ (s : Statement) where
  abbrev names : PlainStep → Bool
  names step = is_named step.change s

  -- an entry stands before those of steps before which its step stands
  entries_above : (step : PlainStep) (steps : List PlainStep) → AllByRecursion (λ x. step_cmp step x ≡ Less) steps
      → AllByRecursion (λ e. entry_cmp (entry_of s step) e ≡ Less) (entries_of steps s)
  entries_above step steps a =
      all_map (λ e. entry_cmp (entry_of s step) e ≡ Less) (entry_of s) (filter names steps) (all_filter (λ x. step_cmp step x ≡ Less) names steps a)

  -- a step that is put in puts in its entry, where it names the statement
  put_in : (step : PlainStep) (steps : List PlainStep) → IsStrictlySortedBy step_cmp steps → is_step_taken steps step ≡ false
      → entries_of (insert_key step_cmp steps step) s ≡ cond (names step) (insert_key entry_cmp (entries_of steps s) (entry_of s step)) (entries_of steps s)
  unfolding IsStrictlySortedBy
  put_in step [] order free = by (names step)
    where
      by : (n : Bool) → map (entry_of s) (cond n (step ∷ []) []) ≡ cond n (entry_of s step ∷ []) []
      by true = refl
      by false = refl
  put_in step (x ∷ xs) order free =
      let parts = or_none (eq_by_cmp step_cmp step x) (is_step_taken xs step) free in
      by (put_in step xs order.1 parts.1) (step_cmp step x) refl parts.0
    where
      first : step_cmp step x ≡ Less → (n : Bool) → map (entry_of s) (cond n (step ∷ filter names (x ∷ xs)) (filter names (x ∷ xs)))
          ≡ cond n (insert_key entry_cmp (entries_of (x ∷ xs) s) (entry_of s step)) (entries_of (x ∷ xs) s)
      first e true =
          sym (put_first entry_cmp (entries_of (x ∷ xs) s) (entry_of s step)
          (entries_above step (x ∷ xs) (e, all_weaker (λ y. step_cmp x y ≡ Less) (λ y. step_cmp step y ≡ Less) (λ y. step_cmp-total.trans step x y e) xs order.0)))
      first e false = refl

      behind : step_cmp step x ≡ Greater → (n m : Bool) → entries_of (insert_key step_cmp xs step) s ≡ cond n (insert_key entry_cmp (entries_of xs s) (entry_of s step)) (entries_of xs s)
          → map (entry_of s) (cond m (x ∷ filter names (insert_key step_cmp xs step)) (filter names (insert_key step_cmp xs step)))
          ≡ cond n (insert_key entry_cmp (map (entry_of s) (cond m (x ∷ filter names xs) (filter names xs))) (entry_of s step)) (map (entry_of s) (cond m (x ∷ filter names xs) (filter names xs)))
      behind e true true h =
          ap (λ l. entry_of s x ∷ l) h
          ∙ (λ i. match_ordering (sym e i) (entry_of s step ∷ entry_of s x ∷ entries_of xs s) (entry_of s x ∷ entries_of xs s) (entry_of s x ∷ insert_key entry_cmp (entries_of xs s) (entry_of s step)))
      behind e true false h = h
      behind e false true h = ap (λ l. entry_of s x ∷ l) h
      behind e false false h = h

      by : entries_of (insert_key step_cmp xs step) s ≡ cond (names step) (insert_key entry_cmp (entries_of xs s) (entry_of s step)) (entries_of xs s)
          → (r : Ordering) → step_cmp step x ≡ r → is_eq r ≡ false
          → entries_of (match_ordering r (step ∷ x ∷ xs) (x ∷ xs) (x ∷ insert_key step_cmp xs step)) s
          ≡ cond (names step) (insert_key entry_cmp (entries_of (x ∷ xs) s) (entry_of s step)) (entries_of (x ∷ xs) s)
      by h Less e f = first e (names step)
      by h Equal e f = absurd (let wrong = f in cc)
      by h Greater e f = behind e (names step) (names x) h

  -- once one was put in, the others are still free
  still_free : (steps : List PlainStep) (step : PlainStep) (add : List PlainStep) → AllByRecursion (λ y. eq_by_cmp step_cmp step y ≡ false) add
      → AllByRecursion (λ y. is_step_taken steps y ≡ false) add → AllByRecursion (λ y. is_step_taken (insert_key step_cmp steps step) y ≡ false) add
  still_free steps step [] a b = tt
  still_free steps step (y ∷ ys) a b =
      (has-insert_key step_cmp-total steps step y ∙ (λ i. (flips step_cmp-total y step ∙ a.0) i || b.0 i), still_free steps step ys a.1 b.1)

  entries_with : (add steps : List PlainStep) → IsStrictlySortedBy step_cmp steps → IsDistinct (eq_by_cmp step_cmp) add
      → AllByRecursion (λ step. is_step_taken steps step ≡ false) add → entries_of (with_steps steps add) s ≡ with_entries (entries_of steps s) (entries_of add s)
  unfolding IsDistinct
  entries_with [] steps order apart free = refl
  entries_with (step ∷ add) steps order apart free =
      entries_with add (insert_key step_cmp steps step) (rising-insert_key step_cmp-total steps step order) apart.1 (still_free steps step add apart.0 free.1)
      ∙ ap (λ es. with_entries es (entries_of add s)) (put_in step steps order free.0)
      ∙ by (names step)
    where
      by : (n : Bool) → with_entries (cond n (insert_key entry_cmp (entries_of steps s) (entry_of s step)) (entries_of steps s)) (entries_of add s)
          ≡ with_entries (entries_of steps s) (map (entry_of s) (cond n (step ∷ filter names add) (filter names add)))
      by true = refl
      by false = refl

  -- ---- the entries that are taken away

  -- where the keys that are taken away are, for each step that names the statement, those of steps that name it
  entries_left : (keys naming : List Key) (steps : List PlainStep) → AllByRecursion (λ x. names x ≡ true → has_key keys x.key ≡ has_key naming x.key) steps
      → entries_of (filter (λ step. not (has_key keys step.key)) steps) s ≡ without_keys naming (entries_of steps s)
  entries_left keys naming [] a = refl
  entries_left keys naming (x ∷ xs) a = by (entries_left keys naming xs a.1) (has_key keys x.key) refl (names x) refl
    where
      by : entries_of (filter (λ step. not (has_key keys step.key)) xs) s ≡ without_keys naming (entries_of xs s) → (b : Bool) → has_key keys x.key ≡ b → (n : Bool) → names x ≡ n
          → entries_of (cond (not b) (x ∷ filter (λ step. not (has_key keys step.key)) xs) (filter (λ step. not (has_key keys step.key)) xs)) s
          ≡ without_keys naming (map (entry_of s) (cond n (x ∷ filter names xs) (filter names xs)))
      by h true e true f =
          let gone : has_key naming x.key ≡ true = sym (a.0 f) ∙ e in
          h ∙ (λ i. cond (not (sym gone i)) (entry_of s x ∷ without_keys naming (entries_of xs s)) (without_keys naming (entries_of xs s)))
      by h true e false f = h
      by h false e true f =
          let stays : has_key naming x.key ≡ false = sym (a.0 f) ∙ e in
          (λ i. map (entry_of s) (cond (f i) (x ∷ filter names (filter (λ step. not (has_key keys step.key)) xs)) (filter names (filter (λ step. not (has_key keys step.key)) xs))))
          ∙ ap (λ l. entry_of s x ∷ l) h
          ∙ (λ i. cond (not (sym stays i)) (entry_of s x ∷ without_keys naming (entries_of xs s)) (without_keys naming (entries_of xs s)))
      by h false e false f =
          (λ i. map (entry_of s) (cond (f i) (x ∷ filter names (filter (λ step. not (has_key keys step.key)) xs)) (filter names (filter (λ step. not (has_key keys step.key)) xs))))
          ∙ h

  same_keys : (x : PlainStep) (remove : List PlainStep) → AllByRecursion (IsOwn x) remove → names x ≡ true
      → has_key (keys_of remove) x.key ≡ has_key (keys_naming remove s) x.key
  same_keys x [] own named = refl
  same_keys x (r ∷ rs) own named = by (same_keys x rs own.1 named) (names r) refl (eq_by_cmp key_cmp r.key x.key) refl
    where
      by : has_key (keys_of rs) x.key ≡ has_key (keys_naming rs s) x.key → (n : Bool) → names r ≡ n → (t : Bool) → eq_by_cmp key_cmp r.key x.key ≡ t
          → (eq_by_cmp key_cmp r.key x.key || has_key (keys_of rs) x.key) ≡ has_key (map (λ e. e.0) (map (entry_of s) (cond n (r ∷ filter names rs) (filter names rs)))) x.key
      by h true e t f = ap (λ b. eq_by_cmp key_cmp r.key x.key || b) h
      by h false e true f = absurd (let wrong : true ≡ false = sym named ∙ ap names (sym (own.0 f)) ∙ e in cc)
      by h false e false f = (λ i. f i || h i)

own_step : (steps : List PlainStep) (r : PlainStep) → IsStrictlySortedBy step_cmp steps → Contains steps r → AllByRecursion (λ x. IsOwn x r) steps
unfolding IsStrictlySortedBy
own_step [] r order c = tt
own_step (y ∷ ys) r order (zero, within, at) =
    (λ tie. sym at, all_weaker (λ x. step_cmp y x ≡ Less) (λ x. IsOwn x r) (λ x e tie. absurd (let wrong : true ≡ false = sym tie ∙ ap (λ (z : PlainStep). eq_by_cmp step_cmp z x) (sym at) ∙ ap is_eq e in cc)) ys order.0)
own_step (y ∷ ys) r order (suc n, within, at) =
    let inside : n < length ys = omega arith in
    let later = own_step ys r order.1 (n, inside, at) in
    let above : step_cmp y r ≡ Less = at_place ys n r inside at order.0 in
    (λ tie. absurd (let wrong : true ≡ false = sym tie ∙ ap is_eq (step_cmp-total.antisymm r y ∙ ap ordering_reverse above) in cc), later)
  where
    at_place : (xs : List PlainStep) (k : ℕ) (z : PlainStep) → k < length xs → get_or xs k z ≡ z → AllByRecursion (λ x. step_cmp y x ≡ Less) xs → step_cmp y z ≡ Less
    at_place [] k z h e a = absurd (omega arith)
    at_place (x ∷ xs) zero z h e a = subst (λ w. step_cmp y w ≡ Less) e a.0
    at_place (x ∷ xs) (suc k) z h e a = at_place xs k z (omega arith) e a.1

-- of each step, which of those to take away are at its key
own_steps : (steps remove : List PlainStep) → AllByRecursion (λ r. AllByRecursion (λ x. IsOwn x r) steps) remove → AllByRecursion (λ x. AllByRecursion (IsOwn x) remove) steps
own_steps [] remove a = tt
own_steps (x ∷ xs) remove a = (
  all_weaker (λ r. AllByRecursion (λ y. IsOwn y r) (x ∷ xs)) (IsOwn x) (λ r h. h.0) remove a,
  own_steps xs remove (all_weaker (λ r. AllByRecursion (λ y. IsOwn y r) (x ∷ xs)) (λ r. AllByRecursion (λ y. IsOwn y r) xs) (λ r h. h.1) remove a),
)

-- the entries of the steps that are left are those at other keys than the ones of the steps taken away
pub entries_without : (remove add steps : List PlainStep) (s : Statement) → AreSteps steps → CanEdit remove add steps
    → entries_of (without_steps remove steps) s ≡ without_keys (keys_naming remove s) (entries_of steps s)
entries_without remove add steps s are can =
    let owned = own_steps steps remove (all_weaker (Contains steps) (λ r. AllByRecursion (λ x. IsOwn x r) steps) (λ r. own_step steps r are.order) remove can.removed) in
    entries_left s (keys_of remove) (keys_naming remove s) steps
    (all_weaker (λ x. AllByRecursion (IsOwn x) remove) (λ x. is_named x.change s ≡ true → has_key (keys_of remove) x.key ≡ has_key (keys_naming remove s) x.key) (λ x own. same_keys s x remove own) steps owned)

pub timelines_are_edited : TimelinesAreEdited
timelines_are_edited base remove add steps s are can =
    let whole : entries_of (edited_steps remove add steps) s ≡ with_entries (without_keys (keys_naming remove s) (entries_of steps s)) (entries_of add s) =
    entries_with s add (without_steps remove steps) (kept_order remove steps are.order) can.apart can.free
    ∙ ap (λ es. with_entries es (entries_of add s)) (entries_without remove add steps s are can)
    in
    λ i. record { base = has base s; entries = whole i }

-- without a key all entries stay
pub all_stay : (entries : List (Key × Mark)) → without_keys [] entries ≡ entries
all_stay [] = refl
all_stay (e ∷ es) = ap (λ l. e ∷ l) (all_stay es)

pub other_timelines_stay : OtherTimelinesStay
other_timelines_stay base remove add steps s are can removed added =
    timelines_are_edited base remove add steps s are can
    ∙ (λ i. edited_of (timeline_of base steps s) (map (λ e. e.0) (no_entries remove s removed i)) (no_entries add s added i))
    ∙ (λ i. record { base = has base s; entries = all_stay (entries_of steps s) i })

-- ---- breaks after an edit

-- an item of a list is found by its kind
found_some : (s : Statement) (bs : List Break) → find (is_break_of s) bs ≡ None → AllByRecursion (λ b. is_break_of s b ≡ false) bs
found_some s [] e = tt
found_some s (b ∷ bs) e = by (found_some s bs) (is_break_of s b) refl e
  where
    by : (find (is_break_of s) bs ≡ None → AllByRecursion (λ c. is_break_of s c ≡ false) bs) → (t : Bool) → is_break_of s b ≡ t → cond t (Some b) (find (is_break_of s) bs) ≡ None
        → AllByRecursion (λ c. is_break_of s c ≡ false) (b ∷ bs)
    by later true f g = absurd (let wrong = g in cc)
    by later false f g = (f, later g)

-- a statement about which nothing breaks before does not break after, where its timeline stays
module _ (base : List Statement) (remove add steps : List PlainStep) (touched : List Statement) (are : AreSteps steps) (can : CanEdit remove add steps)
    (unbroken : IsUnbroken base steps)
    (named : (statement : Statement) → (is_named_in remove statement || is_named_in add statement) ≡ true → has touched statement ≡ true) where
  abbrev after : List Break
  after = statement_breaks base (edited_steps remove add steps)

  none_about : (s : Statement) → (is_named_in remove s || is_named_in add s) ≡ false → find (is_break_of s) after ≡ None
  none_about s e =
      let parts = or_none (is_named_in remove s) (is_named_in add s) e in
      breaks_about_one s (edited_steps remove add steps) base
      ∙ ap (λ t. option_map (break_of s) (first_break_of t)) (other_timelines_stay base remove add steps s are can parts.0 parts.1)
      ∙ sym (breaks_about_one s steps base)
      ∙ ap (find (is_break_of s)) unbroken

  -- so each break is about a touched statement
  about_touched : (bs : List Break) → ((s : Statement) → (is_named_in remove s || is_named_in add s) ≡ false → AllByRecursion (λ b. is_break_of s b ≡ false) bs)
      → AllByRecursion (λ b. has touched b.statement ≡ true) bs
  about_touched [] none = tt
  about_touched (b ∷ bs) none = (by (is_named_in remove b.statement || is_named_in add b.statement) refl, about_touched bs (λ s e. (none s e).1))
    where
      by : (n : Bool) → (is_named_in remove b.statement || is_named_in add b.statement) ≡ n → has touched b.statement ≡ true
      by true e = named b.statement e
      by false e = absurd (let wrong : true ≡ false = sym (same_itself b.statement) ∙ (none b.statement e).0 in cc)

  pub only_touched : AllByRecursion (λ b. has touched b.statement ≡ true) after
  only_touched = about_touched after (λ s e. found_some s after (none_about s e))

pub only_touched_timelines_break : OnlyTouchedTimelinesBreak
only_touched_timelines_break base remove add steps touched are can unbroken named =
    first_of_some base (edited_steps remove add steps) touched (edited_steps_are_steps remove add steps are can)
    (only_touched base remove add steps touched are can unbroken named)
