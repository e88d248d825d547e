-- The orders of the types are the defined ones, so that what the tree says by `cmp` is said by these.
use Rattle.std.proofs.Common.{◌≡◌, ◌∙◌, List, true, false, if◌then◌else◌, IfOk, Result, Ok, Err, Ordering, refl, sym, ap, subst}
use Rattle.nm_statement.proofs.Orders.{derived-statement_cmp}
use Rattle.nm_statement.specs.Order.{statement_cmp}
use Rattle.nm_statement.specs.contracts.statement.StatementOrd.TheImpl as statement_ord
use Rattle.nm_statement.specs.declared.statement.Statement.{Statement}
use Rattle.nm_timeline.specs.Part.{part_cmp}
use Rattle.nm_timeline.specs.contracts.part.PartOrd.TheImpl as part_ord
use Rattle.nm_timeline.specs.declared.part.Part.{Part}
use Rattle.nm_timeline.specs.declared.part.Part.TheVariants.{Precondition, Reverse, Forward}
use Rattle.nm_timeline.specs.Timeline.{PlainTimeline}
use Rattle.nm_check.specs.Touched.{is_blank, with_timeline}
use Rattle.nm_tree.specs.Pairs.{IsRising, with_pair, without}

pub derived-part_cmp : (x y : Part) → part_ord.ghosts.cmp x y ≡ part_cmp x y
derived-part_cmp Precondition Precondition = refl
derived-part_cmp Precondition Reverse = refl
derived-part_cmp Precondition Forward = refl
derived-part_cmp Reverse Precondition = refl
derived-part_cmp Reverse Reverse = refl
derived-part_cmp Reverse Forward = refl
derived-part_cmp Forward Precondition = refl
derived-part_cmp Forward Reverse = refl
derived-part_cmp Forward Forward = refl

pub same_cmp : statement_ord.ghosts.cmp ≡ statement_cmp
same_cmp = λ i x y. derived-statement_cmp x y i

pub rising_from_derived : {V : Type 0} (ps : List (Statement × V)) → IsRising statement_ord.ghosts.cmp ps → IsRising statement_cmp ps
rising_from_derived {V} ps r = subst (λ (cmp : Statement → Statement → Ordering). IsRising cmp ps) same_cmp r

pub rising_derived : {V : Type 0} (ps : List (Statement × V)) → IsRising statement_cmp ps → IsRising statement_ord.ghosts.cmp ps
rising_derived {V} ps r = subst (λ (cmp : Statement → Statement → Ordering). IsRising cmp ps) (sym same_cmp) r

module _ {E : Type 0} (after : Result (List (Statement × PlainTimeline)) E) (s : Statement) (timeline : PlainTimeline) (timelines : List (Statement × PlainTimeline)) where
  pub removed_is : is_blank timeline ≡ true → IfOk after (λ ts. ts ≡ without statement_ord.ghosts.cmp s timelines) → IfOk after (λ ts. ts ≡ with_timeline s timeline timelines)
  removed_is blank h = by after h
    where
      by : (r : Result (List (Statement × PlainTimeline)) E) → IfOk r (λ ts. ts ≡ without statement_ord.ghosts.cmp s timelines) → IfOk r (λ ts. ts ≡ with_timeline s timeline timelines)
      by (Ok ts) e =
          e ∙ ap (λ (cmp : Statement → Statement → Ordering). without cmp s timelines) same_cmp
          ∙ (λ i. if sym blank i then without statement_cmp s timelines else with_pair statement_cmp (s, timeline) timelines)
      by (Err error) e = tt

  pub inserted_is : (key : Statement) → key ≡ s → is_blank timeline ≡ false → IfOk after (λ ts. ts ≡ with_pair statement_ord.ghosts.cmp (key, timeline) timelines) → IfOk after (λ ts. ts ≡ with_timeline s timeline timelines)
  inserted_is key same blank h = by after h
    where
      by : (r : Result (List (Statement × PlainTimeline)) E) → IfOk r (λ ts. ts ≡ with_pair statement_ord.ghosts.cmp (key, timeline) timelines) → IfOk r (λ ts. ts ≡ with_timeline s timeline timelines)
      by (Ok ts) e =
          e ∙ ap (λ (cmp : Statement → Statement → Ordering). with_pair cmp (key, timeline) timelines) same_cmp ∙ ap (λ k. with_pair statement_cmp (k, timeline) timelines) same
          ∙ (λ i. if sym blank i then without statement_cmp s timelines else with_pair statement_cmp (s, timeline) timelines)
      by (Err error) e = tt
