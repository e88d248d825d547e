-- The statements that a base or steps name, and those of a day among them.
use Rattle.std.proofs.Common.{◌≡◌, ◌∙◌, ℕ, List, [], ◌∷◌, ◌++◌, Bool, true, false, ◌&&◌, ◌||◌, cond, map, refl, sym, ap}
use Rattle.std.proofs.lemmas.List.Folds.{list_any-append}
use Rattle.std.proofs.lemmas.List.Kept.{IsStrictlySortedBy-filter}
use Rattle.std.proofs.lemmas.Map.Views.{any-filter_same, tells_apart}
use Rattle.std.specs.List.{filter}
use Rattle.nm_check.proofs.Presence.{or_none, presence_is_by_timelines}
use Rattle.nm_check.specs.Laws.{BaseIsOfTimelines, StatementsAreOfTimelines}
use Rattle.nm_check.specs.Replay.{after_changes, changes_of, in_service, set_after, statements_at}
use Rattle.nm_check.specs.Timelines.{entries_of, entry_of, is_named, is_named_in, named_by, named_by_steps, names_of, timeline_of}
use Rattle.nm_stage.specs.Project.{PlainStep}
use Rattle.nm_statement.proofs.Orders.{statement_cmp-equal}
use Rattle.nm_statement.proofs.Sets.{has-set_of, members_make_sets, rising-set_of}
use Rattle.nm_statement.specs.Order.{statement_cmp}
use Rattle.nm_statement.specs.Set.{IsRising, has, is_same, minus_of}
use Rattle.nm_statement.specs.declared.set.Change.{Change}
use Rattle.nm_statement.specs.declared.statement.Statement.{Statement}
use Rattle.nm_timeline.specs.Timeline.{PlainTimeline, is_by, present_after, present_at}

-- ---- what is named

or_assoc : (a b c : Bool) → ((a || b) || c) ≡ (a || (b || c))
or_assoc true b c = refl
or_assoc false b c = refl

has-names_of : (change : Change) (s : Statement) → has (names_of change) s ≡ is_named change s
has-names_of change s =
    list_any-append (is_same s) (change.pre ++ change.rev) change.fwd
    ∙ ap (λ b. b || has change.fwd s) (list_any-append (is_same s) change.pre change.rev)
    ∙ or_assoc (has change.pre s) (has change.rev s) (has change.fwd s)

pub has-named_by_steps : (steps : List PlainStep) (s : Statement) → has (named_by_steps steps) s ≡ is_named_in steps s
has-named_by_steps [] s = refl
has-named_by_steps (step ∷ steps) s =
    list_any-append (is_same s) (names_of step.change) (named_by_steps steps)
    ∙ (λ i. has-names_of step.change s i || has-named_by_steps steps s i)

pub has-named_by : (base : List Statement) (steps : List PlainStep) (s : Statement) → has (named_by base steps) s ≡ (has base s || is_named_in steps s)
has-named_by base steps s =
    has-set_of (base ++ named_by_steps steps) s
    ∙ list_any-append (is_same s) base (named_by_steps steps)
    ∙ ap (λ b. has base s || b) (has-named_by_steps steps s)

-- of a statement that no step names there are no entries
pub no_entries : (steps : List PlainStep) (s : Statement) → is_named_in steps s ≡ false → entries_of steps s ≡ []
no_entries [] s e = refl
no_entries (step ∷ steps) s e =
    let parts = or_none (is_named step.change s) (is_named_in steps s) e in
    (λ i. map (entry_of s) (cond (parts.0 i) (step ∷ filter (λ one. is_named one.change s) steps) (filter (λ one. is_named one.change s) steps)))
    ∙ no_entries steps s parts.1

-- ---- the statements of a day

pub rising-after_changes : (changes : List Change) (set : List Statement) → IsRising set → IsRising (after_changes set changes)
rising-after_changes [] set rising = rising
rising-after_changes (change ∷ changes) set rising =
    rising-after_changes changes (set_after set change) (rising-set_of (minus_of set change.rev ++ change.fwd))

-- what is told of pairs of statements and what each gives
module _ {T : Type 0} (test : T → Bool) (given : Statement → T) where
  of_pairs : (ss : List Statement) → map (λ (p : Statement × T). p.0) (filter (λ p. test p.1) (map (λ s. (s, given s)) ss)) ≡ filter (λ s. test (given s)) ss
  of_pairs [] = refl
  of_pairs (s ∷ ss) = by (of_pairs ss) (test (given s))
    where
      by : map (λ (p : Statement × T). p.0) (filter (λ p. test p.1) (map (λ x. (x, given x)) ss)) ≡ filter (λ x. test (given x)) ss → (b : Bool)
          → map (λ (p : Statement × T). p.0) (cond b ((s, given s) ∷ filter (λ p. test p.1) (map (λ x. (x, given x)) ss)) (filter (λ p. test p.1) (map (λ x. (x, given x)) ss)))
          ≡ cond b (s ∷ filter (λ x. test (given x)) ss) (filter (λ x. test (given x)) ss)
      by h true = ap (λ l. s ∷ l) h
      by h false = h

and_true : (p : Bool) → (p && true) ≡ p
and_true true = refl
and_true false = refl

and_false : (p : Bool) → (p && false) ≡ false
and_false true = refl
and_false false = refl

module _ (base : List Statement) (steps : List PlainStep) (day : List ℕ) where
  abbrev present : Statement → Bool
  present s = present_at (timeline_of base steps s) day

  -- what is present is named
  present_and_named : (s : Statement) → (present s && has (named_by base steps) s) ≡ present s
  present_and_named s = ap (λ b. present s && b) (has-named_by base steps s) ∙ by (has base s) (is_named_in steps s) refl refl
    where
      by : (b n : Bool) → has base s ≡ b → is_named_in steps s ≡ n → (present s && (b || n)) ≡ present s
      by true n e f = and_true (present s)
      by false true e f = and_true (present s)
      by false false e f =
          let absent : present s ≡ false = λ i. present_after (e i) (filter (is_by day) (no_entries steps s f i)) in
          and_false (present s) ∙ sym absent

  has-present : (s : Statement) → has (filter present (named_by base steps)) s ≡ present s
  has-present s =
      any-filter_same (is_same s) present (present s) (λ y same. ap present (sym (tells_apart statement_cmp-equal s y same))) (named_by base steps)
      ∙ present_and_named s

-- ---- the base

module _ (base : List Statement) (steps : List PlainStep) where
  -- what the base has is named
  base_and_named : (s : Statement) → (has base s && has (named_by base steps) s) ≡ has base s
  base_and_named s = ap (λ b. has base s && b) (has-named_by base steps s) ∙ by (has base s) (is_named_in steps s)
    where
      by : (b n : Bool) → (b && (b || n)) ≡ b
      by true n = refl
      by false n = refl

  has-based : (s : Statement) → has (filter (has base) (named_by base steps)) s ≡ has base s
  has-based s =
      any-filter_same (is_same s) (has base) (has base s) (λ y same. ap (has base) (sym (tells_apart statement_cmp-equal s y same))) (named_by base steps)
      ∙ base_and_named s

pub base_is_of_timelines : BaseIsOfTimelines
base_is_of_timelines base steps rising =
    of_pairs (λ (t : PlainTimeline). t.base) (timeline_of base steps) (named_by base steps)
    ∙ sym
    (members_make_sets base (filter (has base) (named_by base steps)) rising
    (IsStrictlySortedBy-filter statement_cmp (has base) (named_by base steps) (rising-set_of (base ++ named_by_steps steps)))
    (λ s. sym (has-based base steps s)))

pub statements_are_of_timelines : StatementsAreOfTimelines
statements_are_of_timelines base steps day rising =
    members_make_sets (statements_at base steps day) (filter (present base steps day) (named_by base steps))
    (rising-after_changes (changes_of (in_service steps day)) base rising)
    (IsStrictlySortedBy-filter statement_cmp (present base steps day) (named_by base steps) (rising-set_of (base ++ named_by_steps steps)))
    (λ s. presence_is_by_timelines base steps day s ∙ sym (has-present base steps day s))
    ∙ sym (of_pairs (λ (t : PlainTimeline). present_at t day) (timeline_of base steps) (named_by base steps))
