-- The order of projects as one comes and another goes.
use Rattle.std.proofs.Common.{◌≡◌, ◌∙◌, ℕ, List, [], ◌∷◌, Bool, true, false, cond, Ordering, nat_cmp, refl, sym, ap, subst}
use Rattle.std.specs.BTreeSet.{replace_key}
use Rattle.std.proofs.lemmas.Cmp.{nat_cmp_total}
use Rattle.std.specs.Cmp.{IsTotalOrder, ranked}
use Rattle.std.specs.List.{AllByRecursion, IsDistinct, filter}
use Rattle.std.specs.List.Sorted.{IsStrictlySortedBy}
use Rattle.std.specs.Ordering.{eq_by_cmp, is_eq, is_gt, match_ordering, ordering_reverse}
use Rattle.std.specs.declared.cmp.Ordering.TheVariants.{Less, Equal, Greater}
use Rattle.nm_ident.proofs.Rising.{all_weaker, rising-rising_of}
use Rattle.nm_stage.proofs.Lives.{first_above, first_at, other, tests_at, tests_before}
use Rattle.nm_stage.proofs.Orders.{distinct, not_level, project_cmp-total}
use Rattle.nm_stage.proofs.Sorting.{sorted_is}
use Rattle.nm_stage.specs.Live.{filing_cmp, with_project, without_filing}
use Rattle.nm_stage.specs.Project.{PlainProject}
use Rattle.nm_stage.specs.Sorted.{placed_by, sorted_by}
use Rattle.nm_stage.specs.Steps.{in_order, project_cmp}

module _ {K : Type 0} {R : K → K → Ordering} (o : IsTotalOrder R) where
  -- an item stands behind the first where it is above it, and else before it
  behind_first : (k y : K) (zs : List K) → is_gt (R k y) ≡ true → placed_by R (y ∷ zs) k ≡ y ∷ placed_by R zs k
  behind_first k y zs e = ap (λ b. cond b (y ∷ placed_by R zs k) (k ∷ y ∷ zs)) e

  before_first : (k y : K) (zs : List K) → is_gt (R k y) ≡ false → placed_by R (y ∷ zs) k ≡ k ∷ y ∷ zs
  before_first k y zs e = ap (λ b. cond b (y ∷ placed_by R zs k) (k ∷ y ∷ zs)) e

  above_it : (x y : K) → R x y ≡ Less → is_gt (R y x) ≡ true
  above_it x y e = ap is_gt (o.antisymm y x ∙ ap ordering_reverse e)

  not_above : (x y : K) → R x y ≡ Less → is_gt (R x y) ≡ false
  not_above x y e = ap is_gt e

  is_below : (x y : K) → is_gt (R y x) ≡ true → R x y ≡ Less
  is_below x y e = o.antisymm x y ∙ ap ordering_reverse (greater (R y x) e)
    where
      greater : (r : Ordering) → is_gt r ≡ true → r ≡ Greater
      greater Less f = absurd (let wrong = f in cc)
      greater Equal f = absurd (let wrong = f in cc)
      greater Greater f = refl

  -- each of two items comes to its own place, whichever comes first
  commute : (p x : K) → R p x ≡ Less → (ys : List K) → placed_by R (placed_by R ys p) x ≡ placed_by R (placed_by R ys x) p
  commute p x e [] = behind_first x p [] (above_it p x e) ∙ sym (before_first p x [] (not_above p x e))
  commute p x e (y ∷ ys) = by (is_gt (R p y)) refl (is_gt (R x y)) refl (commute p x e ys)
    where
      by : (gp : Bool) → is_gt (R p y) ≡ gp → (gx : Bool) → is_gt (R x y) ≡ gx → placed_by R (placed_by R ys p) x ≡ placed_by R (placed_by R ys x) p
          → placed_by R (cond gp (y ∷ placed_by R ys p) (p ∷ y ∷ ys)) x ≡ placed_by R (cond gx (y ∷ placed_by R ys x) (x ∷ y ∷ ys)) p
      by true f true g h = behind_first x y (placed_by R ys p) g ∙ ap (λ l. y ∷ l) h ∙ sym (behind_first p y (placed_by R ys x) f)
      by true f false g h =
          absurd (let high : is_gt (R x y) ≡ true = above_it y x (o.trans y p x (is_below y p f) e) in let wrong : true ≡ false = sym high ∙ g in cc)
      by false f true g h =
          behind_first x p (y ∷ ys) (above_it p x e) ∙ ap (λ l. p ∷ l) (behind_first x y ys g) ∙ sym (before_first p y (placed_by R ys x) f)
      by false f false g h =
          behind_first x p (y ∷ ys) (above_it p x e) ∙ ap (λ l. p ∷ l) (before_first x y ys g) ∙ sym (before_first p x (y ∷ ys) (not_above p x e))

  -- ---- what a choice leaves

  -- an item that stands before all items of a list
  put_first : (k : K) (ys : List K) → AllByRecursion (λ y. R k y ≡ Less) ys → placed_by R ys k ≡ k ∷ ys
  put_first k [] a = refl
  put_first k (y ∷ ys) a = before_first k y ys (not_above k y a.0)

  all_chosen : (P : K → Type 0) (test : K → Bool) (xs : List K) → AllByRecursion P xs → AllByRecursion P (filter test xs)
  all_chosen P test [] a = tt
  all_chosen P test (x ∷ xs) a = by (all_chosen P test xs a.1) (test x)
    where
      by : AllByRecursion P (filter test xs) → (b : Bool) → AllByRecursion P (cond b (x ∷ filter test xs) (filter test xs))
      by h true = (a.0, h)
      by h false = h

  -- an item that is chosen comes to its place among the chosen, where it is level with none
  chosen_placed : (test : K → Bool) (k : K) → test k ≡ true → (ys : List K) → IsStrictlySortedBy R ys → AllByRecursion (λ y. eq_by_cmp R k y ≡ false) ys
      → filter test (placed_by R ys k) ≡ placed_by R (filter test ys) k
  unfolding IsStrictlySortedBy
  chosen_placed test k e [] s d = ap (λ b. cond b (k ∷ []) []) e
  chosen_placed test k e (y ∷ ys) s d = by (R k y) refl d.0 (test y) (chosen_placed test k e ys s.1 d.1)
    where
      first : R k y ≡ Less → filter test (k ∷ y ∷ ys) ≡ placed_by R (filter test (y ∷ ys)) k
      first f =
          ap (λ b. cond b (k ∷ filter test (y ∷ ys)) (filter test (y ∷ ys))) e
          ∙ sym (put_first k (filter test (y ∷ ys)) (all_chosen (λ z. R k z ≡ Less) test (y ∷ ys) (f, all_weaker (λ z. R y z ≡ Less) (λ z. R k z ≡ Less) (λ z. o.trans k y z f) ys s.0)))

      later : is_gt (R k y) ≡ true → (t : Bool) → filter test (placed_by R ys k) ≡ placed_by R (filter test ys) k
          → cond t (y ∷ filter test (placed_by R ys k)) (filter test (placed_by R ys k)) ≡ placed_by R (cond t (y ∷ filter test ys) (filter test ys)) k
      later g true h = ap (λ l. y ∷ l) h ∙ sym (behind_first k y (filter test ys) g)
      later g false h = h

      by : (r : Ordering) → R k y ≡ r → is_eq r ≡ false → (t : Bool) → filter test (placed_by R ys k) ≡ placed_by R (filter test ys) k
          → filter test (cond (is_gt r) (y ∷ placed_by R ys k) (k ∷ y ∷ ys)) ≡ placed_by R (filter test (y ∷ ys)) k
      by Less f g t h = first f
      by Equal f g t h = absurd (let wrong = g in cc)
      by Greater f g t h = later (ap is_gt f) (test y) h

  -- an item that is not chosen leaves no trace
  passed_over : (test : K → Bool) (k : K) → test k ≡ false → (ys : List K) → filter test (placed_by R ys k) ≡ filter test ys
  passed_over test k e [] = ap (λ b. cond b (k ∷ []) []) e
  passed_over test k e (y ∷ ys) = by (is_gt (R k y)) (passed_over test k e ys)
    where
      by : (gt : Bool) → filter test (placed_by R ys k) ≡ filter test ys → filter test (cond gt (y ∷ placed_by R ys k) (k ∷ y ∷ ys)) ≡ filter test (y ∷ ys)
      by true h = ap (λ l. cond (test y) (y ∷ l) l) h
      by false h = ap (λ b. cond b (k ∷ filter test (y ∷ ys)) (filter test (y ∷ ys))) e

  rising_in_order : (xs : List K) → IsDistinct (eq_by_cmp R) xs → IsStrictlySortedBy R (sorted_by R xs)
  rising_in_order xs d = subst (IsStrictlySortedBy R) (sym (sorted_is o xs d)) (rising-rising_of o xs)

  none_level : (k : K) (xs : List K) → AllByRecursion (λ x. eq_by_cmp R k x ≡ false) xs → AllByRecursion (λ x. eq_by_cmp R k x ≡ false) (sorted_by R xs)
  none_level k [] a = tt
  none_level k (x ∷ xs) a = all_placed (sorted_by R xs) (none_level k xs a.1)
    where
      all_placed : (ys : List K) → AllByRecursion (λ y. eq_by_cmp R k y ≡ false) ys → AllByRecursion (λ y. eq_by_cmp R k y ≡ false) (placed_by R ys x)
      all_placed [] b = (a.0, tt)
      all_placed (y ∷ ys) b = by (is_gt (R x y)) (all_placed ys b.1)
        where
          by : (gt : Bool) → AllByRecursion (λ z. eq_by_cmp R k z ≡ false) (placed_by R ys x) → AllByRecursion (λ z. eq_by_cmp R k z ≡ false) (cond gt (y ∷ placed_by R ys x) (x ∷ y ∷ ys))
          by true h = (b.0, h)
          by false h = (a.0, b)

  -- a choice of a list in order is the choice in order
  chosen_in_order : (test : K → Bool) (xs : List K) → IsDistinct (eq_by_cmp R) xs → sorted_by R (filter test xs) ≡ filter test (sorted_by R xs)
  unfolding IsDistinct
  chosen_in_order test [] d = refl
  chosen_in_order test (x ∷ xs) d = by (test x) refl (chosen_in_order test xs d.1)
    where
      by : (t : Bool) → test x ≡ t → sorted_by R (filter test xs) ≡ filter test (sorted_by R xs) → sorted_by R (cond t (x ∷ filter test xs) (filter test xs)) ≡ filter test (placed_by R (sorted_by R xs) x)
      by true e h = ap (λ l. placed_by R l x) h ∙ sym (chosen_placed test x e (sorted_by R xs) (rising_in_order xs d.1) (none_level x xs d.0))
      by false e h = h ∙ sym (passed_over test x e (sorted_by R xs))

-- ---- the live projects

pub without_in_order : (filing : ℕ) (live : List PlainProject) → IsStrictlySortedBy filing_cmp live → in_order (without_filing filing live) ≡ without_filing filing (in_order live)
without_in_order filing live s = chosen_in_order project_cmp-total (other filing) live (distinct live s)

-- projects of different filings are placed whichever comes first
placed_by_filing : (p x : PlainProject) → nat_cmp p.filing x.filing ≡ Greater → (ys : List PlainProject)
    → placed_by project_cmp (placed_by project_cmp ys p) x ≡ placed_by project_cmp (placed_by project_cmp ys x) p
placed_by_filing p x e ys = by (project_cmp p x) refl
  where
    apart : eq_by_cmp project_cmp x p ≡ false
    apart = not_level x p (nat_cmp_total.antisymm x.filing p.filing ∙ ap ordering_reverse e)

    by : (r : Ordering) → project_cmp p x ≡ r → placed_by project_cmp (placed_by project_cmp ys p) x ≡ placed_by project_cmp (placed_by project_cmp ys x) p
    by Less f = commute project_cmp-total p x f ys
    by Equal f = absurd (let wrong : false ≡ true = sym apart ∙ ap is_eq (project_cmp-total.antisymm x p ∙ ap ordering_reverse f) in cc)
    by Greater f = sym (commute project_cmp-total x p (project_cmp-total.antisymm x p ∙ ap ordering_reverse f) ys)

-- a project at its place among others
abbrev placed : PlainProject → List PlainProject → List PlainProject
placed p others = placed_by project_cmp (in_order others) p

-- a project comes to its place among those of the other filing numbers
pub with_in_order : (p : PlainProject) (live : List PlainProject) → IsStrictlySortedBy filing_cmp live
    → in_order (with_project p live) ≡ placed_by project_cmp (in_order (without_filing p.filing live)) p
unfolding IsStrictlySortedBy
with_in_order p [] s = refl
with_in_order p (x ∷ xs) s = by (nat_cmp p.filing x.filing) refl (with_in_order p xs s.1)
  where
    by : (r : Ordering) → nat_cmp p.filing x.filing ≡ r → in_order (with_project p xs) ≡ placed p (without_filing p.filing xs)
        → in_order (match_ordering r (p ∷ x ∷ xs) (p ∷ xs) (x ∷ replace_key filing_cmp xs p)) ≡ placed p (without_filing p.filing (x ∷ xs))
    by Less e h = ap (placed p) (sym (first_above p.filing x xs s.0 (ranked p.filing x.filing Less (sym e))).all_other)
    by Equal e h =
        let same = ranked p.filing x.filing Equal (sym e) in
        ap (placed p) (sym ((tests_at p.filing x xs same).2 ∙ (first_at p.filing x xs s.0 same).all_other))
    by Greater e h =
        ap (λ l. placed_by project_cmp l x) h
        ∙ placed_by_filing p x e (in_order (without_filing p.filing xs))
        ∙ ap (placed p) (sym (tests_before p.filing x xs (ranked p.filing x.filing Greater (sym e))).2)
