-- The first break of a replay about one statement is the first break of its timeline.
use Rattle.std.proofs.Common.{◌≡◌, ◌∙◌, List, [], ◌∷◌, ◌++◌, Bool, true, false, ◌&&◌, ◌||◌, not, cond, map, Option, None, Some, refl, sym, ap}
use Rattle.std.proofs.lemmas.List.Folds.{find-append}
use Rattle.std.proofs.lemmas.Map.Views.{tells_apart}
use Rattle.std.specs.List.{filter, find}
use Rattle.std.specs.Option.{option_or, option_map}
use Rattle.nm_check.proofs.Presence.{has-set_after, mark, stays, unmarked}
use Rattle.nm_check.specs.Breaks.{break_at, breaks_at, statement_breaks}
use Rattle.nm_check.specs.Replay.{set_after}
use Rattle.nm_check.specs.Timelines.{entries_of, entry_of, is_named, mark_of}
use Rattle.nm_check.specs.declared.breaks.Break.{Break}
use Rattle.nm_day.specs.declared.key.Key.{Key}
use Rattle.nm_stage.specs.Project.{PlainStep}
use Rattle.nm_statement.proofs.Orders.{statement_cmp-equal}
use Rattle.nm_statement.specs.Set.{has, is_same}
use Rattle.nm_statement.specs.declared.statement.Statement.{Statement}
use Rattle.nm_timeline.specs.Timeline.{break_or, first_break_from, first_part, marked, part_break}
use Rattle.nm_timeline.specs.declared.part.Part.{Part}
use Rattle.nm_timeline.specs.declared.part.Part.TheVariants.{Precondition, Reverse, Forward}

-- whether a break is about the statement
abbrev pub is_break_of : Statement → Break → Bool
is_break_of s b = is_same s b.statement

abbrev pub break_of : Statement → Key × Part → Break
break_of s at = break_at at.0 at.1 s

-- ---- one part

abbrev where_so : Bool → Break → Option Break
where_so b x = cond b (Some x) None

part_about : (s : Statement) (key : Key) (part : Part) (test : Statement → Bool) (xs : List Statement)
    → find (is_break_of s) (map (break_at key part) (filter test xs)) ≡ where_so (test s && has xs s) (break_at key part s)
part_about s key part test [] = by (test s)
  where
    by : (t : Bool) → None ≡ where_so (t && false) (break_at key part s)
    by true = refl
    by false = refl
part_about s key part test (x ∷ xs) = by (part_about s key part test xs) (is_same s x) refl (test x) refl
  where
    by : find (is_break_of s) (map (break_at key part) (filter test xs)) ≡ where_so (test s && has xs s) (break_at key part s)
        → (b : Bool) → is_same s x ≡ b → (t : Bool) → test x ≡ t
        → find (is_break_of s) (map (break_at key part) (cond t (x ∷ filter test xs) (filter test xs))) ≡ where_so (test s && (b || has xs s)) (break_at key part s)
    by h true e true f =
        let same : x ≡ s = sym (tells_apart statement_cmp-equal s x e) in
        (λ i. cond (e i) (Some (break_at key part (same i))) (find (is_break_of s) (map (break_at key part) (filter test xs))))
        ∙ (λ i. where_so ((sym f ∙ ap test same) i && true) (break_at key part s))
    by h true e false f =
        let same : x ≡ s = sym (tells_apart statement_cmp-equal s x e) in
        let fails : test s ≡ false = sym (ap test same) ∙ f in
        h ∙ (λ i. where_so (fails i && has xs s) (break_at key part s)) ∙ (λ i. where_so (sym fails i && true) (break_at key part s))
    by h false e true f = (λ i. cond (e i) (Some (break_at key part x)) (find (is_break_of s) (map (break_at key part) (filter test xs)))) ∙ h
    by h false e false f = h

-- ---- one step

parts_about : (present pre rev fwd : Bool) (key : Key) (s : Statement)
    → option_or (option_or (where_so (not present && pre) (break_at key Precondition s)) (where_so (not present && rev) (break_at key Reverse s))) (where_so (present && fwd) (break_at key Forward s))
    ≡ option_map (λ part. break_at key part s) (first_part present pre rev fwd)
parts_about true pre rev true key s = refl
parts_about true pre rev false key s = refl
parts_about false true rev fwd key s = refl
parts_about false false true fwd key s = refl
parts_about false false false fwd key s = refl

step_about : (set : List Statement) (step : PlainStep) (s : Statement)
    → find (is_break_of s) (breaks_at set step) ≡ option_map (λ part. break_at step.key part s) (part_break (has set s) (mark_of step.change s))
step_about set step s =
    let lacks = λ (x : Statement). not (has set x) in
    let pre = map (break_at step.key Precondition) (filter lacks step.change.pre) in
    let rev = map (break_at step.key Reverse) (filter lacks step.change.rev) in
    let fwd = map (break_at step.key Forward) (filter (has set) step.change.fwd) in
    find-append (is_break_of s) (pre ++ rev) fwd
    ∙ ap (λ o. option_or o (find (is_break_of s) fwd)) (find-append (is_break_of s) pre rev)
    ∙ (λ i. option_or (option_or (part_about s step.key Precondition lacks step.change.pre i) (part_about s step.key Reverse lacks step.change.rev i)) (part_about s step.key Forward (has set) step.change.fwd i))
    ∙ parts_about (has set s) (has step.change.pre s) (has step.change.rev s) (has step.change.fwd s) step.key s

-- ---- all steps

nothing_breaks : (present : Bool) → part_break present (mark false false false) ≡ None
nothing_breaks true = refl
nothing_breaks false = refl

or_later : (s : Statement) (key : Key) (part : Option Part) (later : Option (Key × Part))
    → option_or (option_map (λ p. break_at key p s) part) (option_map (break_of s) later) ≡ option_map (break_of s) (break_or key part later)
or_later s key None later = refl
or_later s key (Some part) later = refl

pub breaks_about_one : (s : Statement) (steps : List PlainStep) (set : List Statement)
    → find (is_break_of s) (statement_breaks set steps) ≡ option_map (break_of s) (first_break_from (has set s) (entries_of steps s))
breaks_about_one s [] set = refl
breaks_about_one s (step ∷ steps) set =
    find-append (is_break_of s) (breaks_at set step) (statement_breaks (set_after set step.change) steps)
    ∙ (λ i. option_or (step_about set step s i) (breaks_about_one s steps (set_after set step.change) i))
    ∙ (λ i. option_or (option_map (λ part. break_at step.key part s) (part_break (has set s) (mark_of step.change s))) (option_map (break_of s) (first_break_from (has-set_after set step.change s i) (entries_of steps s))))
    ∙ or_later s step.key (part_break (has set s) (mark_of step.change s)) (first_break_from (marked (has set s) (mark_of step.change s)) (entries_of steps s))
    ∙ ap (option_map (break_of s)) (by (is_named step.change s) refl)
  where
    by : (n : Bool) → is_named step.change s ≡ n
        → break_or step.key (part_break (has set s) (mark_of step.change s)) (first_break_from (marked (has set s) (mark_of step.change s)) (entries_of steps s))
        ≡ first_break_from (has set s) (map (entry_of s) (cond n (step ∷ filter (λ one. is_named one.change s) steps) (filter (λ one. is_named one.change s) steps)))
    by true e = refl
    by false e =
        (λ i. break_or step.key (part_break (has set s) (unmarked step.change s e i)) (first_break_from (marked (has set s) (unmarked step.change s e i)) (entries_of steps s)))
        ∙ (λ i. break_or step.key (nothing_breaks (has set s) i) (first_break_from (stays (has set s) i) (entries_of steps s)))
