-- One touched statement more: what is due of those before it, and what they cost.
use Rattle.std.proofs.Common.{◌≡◌, ◌∙◌, ℕ, suc, ◌+◌, ◌*◌, ◌≤◌, List, [], ◌∷◌, ◌++◌, length, Option, refl, sym, ap, arith}
use Rattle.std.proofs.lemmas.List.{length-append, map-append}
use Rattle.std.proofs.Math.Nat.{suc-mul}
use Rattle.std.specs.Borrow.{Bor}
use Rattle.nm_check.proofs.Ticks.{one_more, unit_of, with_length}
use Rattle.nm_check.specs.Touched.{edited_at, edited_from, least_from, least_with, with_timeline}
use Rattle.nm_check.specs.declared.breaks.Break.{Break}
use Rattle.nm_stage.specs.Project.{PlainStep}
use Rattle.nm_statement.specs.declared.statement.Statement.{Statement}
use Rattle.nm_timeline.specs.Timeline.{PlainTimeline, first_break_of}
use Rattle.nm_tree.specs.Depth.{depth_of}
use Rattle.nm_tree.specs.Span.{values_of}

values_popped : (ys xs : List (Bor Statement)) (x : Bor Statement) → ys ≡ xs ++ x ∷ [] → values_of ys ≡ values_of xs ++ x.now ∷ []
values_popped ys xs x e = ap values_of e ∙ map-append (λ y. y.now) xs (x ∷ [])

module _ (remove add : List PlainStep) (old : List (Statement × PlainTimeline)) where
  tree_last : (timelines : List (Statement × PlainTimeline)) (ss : List Statement) (s : Statement)
      → edited_from remove add old timelines (ss ++ s ∷ []) ≡ edited_from remove add old (with_timeline s (edited_at remove add old s) timelines) ss
  tree_last timelines [] s = refl
  tree_last timelines (x ∷ xs) s = ap (with_timeline x (edited_at remove add old x)) (tree_last timelines xs s)

  least_last : (least : Option Break) (ss : List Statement) (s : Statement)
      → least_from remove add old least (ss ++ s ∷ []) ≡ least_from remove add old (least_with s (first_break_of (edited_at remove add old s)) least) ss
  least_last least [] s = refl
  least_last least (x ∷ xs) s = ap (least_with x (first_break_of (edited_at remove add old x))) (least_last least xs s)

  pub tree_turn : (ys xs : List (Bor Statement)) (x : Bor Statement) (now next due : List (Statement × PlainTimeline)) → ys ≡ xs ++ x ∷ []
      → next ≡ with_timeline x.now (edited_at remove add old x.now) now → edited_from remove add old now (values_of ys) ≡ due → edited_from remove add old next (values_of xs) ≡ due
  tree_turn ys xs x now next due e f h =
      ap (λ t. edited_from remove add old t (values_of xs)) f ∙ sym (tree_last now (values_of xs) x.now)
      ∙ ap (edited_from remove add old now) (sym (values_popped ys xs x e)) ∙ h

  pub least_turn : (ys xs : List (Bor Statement)) (x : Bor Statement) (now next due : Option Break) → ys ≡ xs ++ x ∷ []
      → next ≡ least_with x.now (first_break_of (edited_at remove add old x.now)) now → least_from remove add old now (values_of ys) ≡ due → least_from remove add old next (values_of xs) ≡ due
  least_turn ys xs x now next due e f h =
      ap (λ t. least_from remove add old t (values_of xs)) f ∙ sym (least_last now (values_of xs) x.now)
      ∙ ap (least_from remove add old now) (sym (values_popped ys xs x e)) ∙ h

one_popped : (ys xs : List (Bor Statement)) (x : Bor Statement) → ys ≡ xs ++ x ∷ [] → length (values_of ys) ≡ length (values_of xs) + 1
one_popped ys xs x e = ap length (values_popped ys xs x e) ∙ length-append (values_of xs) (x.now ∷ [])

pub few_turn : (ys xs : List (Bor Statement)) (x : Bor Statement) (now next : List (Statement × PlainTimeline)) (timeline : PlainTimeline) (most : ℕ) → ys ≡ xs ++ x ∷ []
    → next ≡ with_timeline x.now timeline now → length now + length (values_of ys) ≤ most → length next + length (values_of xs) ≤ most
few_turn ys xs x now next timeline most e f h =
    let popped = one_popped ys xs x e in
    let more : length next ≤ length now + 1 = rw f (with_length x.now timeline now) in
    omega (arith, popped, more, h)

pub steps_turn : (ys xs : List (Bor Statement)) (x : Bor Statement) (now next old n most top : ℕ) → ys ≡ xs ++ x ∷ []
    → next ≤ now + (depth_of old + (3 * depth_of n + 8)) → old ≤ most → n ≤ most
    → now + length (values_of ys) * unit_of most ≤ top → next + length (values_of xs) * unit_of most ≤ top
steps_turn ys xs x now next old n most top e cost few low h =
    let popped = one_popped ys xs x e in
    let one : next ≤ now + unit_of most = one_more now next old n most cost few low in
    let more : length (values_of ys) ≡ suc (length (values_of xs)) = omega (arith, popped) in
    let product : length (values_of ys) * unit_of most ≡ length (values_of xs) * unit_of most + unit_of most =
    ap (λ m. m * unit_of most) more ∙ suc-mul (length (values_of xs)) (unit_of most)
    in
    omega (arith, one, product, h)
