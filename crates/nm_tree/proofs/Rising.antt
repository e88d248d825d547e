-- Lists that strictly rise: their parts, and the same list grouped otherwise.
use Rattle.std.proofs.Common.{◌≡◌, List, [], ◌∷◌, ◌++◌, sym, ap, ◌∙◌, subst, append_assoc}
use Rattle.std.specs.List.{AllByRecursion}
use Rattle.std.specs.List.Sorted.{IsStrictlySortedBy}
use Rattle.std.specs.declared.cmp.Ordering.{Ordering}
use Rattle.nm_tree.specs.Sight.{Sight, fork_of}

module _ {X : Type 0} where
  pub AllByRecursion-front : (P : X → Type 0) (l m : List X) → AllByRecursion P (l ++ m) → AllByRecursion P l
  AllByRecursion-front P [] m all = tt
  AllByRecursion-front P (x ∷ l) m all = (all.0, AllByRecursion-front P l m all.1)

  -- a part of a list, on the left of a middle that stands in brackets or on its right
  pub regroup : (x : List X) (j : X) (y : List X) (k : X) (z : List X) → (x ++ j ∷ y) ++ k ∷ z ≡ x ++ j ∷ (y ++ k ∷ z)
  regroup x j y k z = append_assoc x (j ∷ y) (k ∷ z)

  pub regroup_double : (x : List X) (j : X) (u : List X) (i : X) (v : List X) (k : X) (z : List X) → x ++ j ∷ ((u ++ i ∷ v) ++ k ∷ z) ≡ (x ++ j ∷ u) ++ i ∷ (v ++ k ∷ z)
  regroup_double x j u i v k z = ap (λ t. x ++ j ∷ t) (regroup u i v k z) ∙ sym (regroup x j u i (v ++ k ∷ z))

  module _ (cmp : X → X → Ordering) where
    pub rising_front : (l m : List X) → IsStrictlySortedBy cmp (l ++ m) → IsStrictlySortedBy cmp l
    unfolding IsStrictlySortedBy
    rising_front [] m s = tt
    rising_front (x ∷ l) m s = (AllByRecursion-front _ l m s.0, rising_front l m s.1)

    pub rising_back : (l m : List X) → IsStrictlySortedBy cmp (l ++ m) → IsStrictlySortedBy cmp m
    unfolding IsStrictlySortedBy
    rising_back [] m s = s
    rising_back (x ∷ l) m s = rising_back l m s.1

    pub rising_behind : (l : List X) (k : X) (r : List X) → IsStrictlySortedBy cmp (l ++ k ∷ r) → IsStrictlySortedBy cmp r
    unfolding IsStrictlySortedBy
    rising_behind [] k r s = s.1
    rising_behind (x ∷ l) k r s = rising_behind l k r s.1

    pub rising_inner_right : (x : List X) (j : X) (y : List X) (k : X) (z : List X) → IsStrictlySortedBy cmp ((x ++ j ∷ y) ++ k ∷ z) → IsStrictlySortedBy cmp (y ++ k ∷ z)
    rising_inner_right x j y k z s = rising_behind x j (y ++ k ∷ z) (subst (IsStrictlySortedBy cmp) (regroup x j y k z) s)

    pub rising_inner_left : (x : List X) (j : X) (y : List X) (k : X) (z : List X) → IsStrictlySortedBy cmp (x ++ j ∷ (y ++ k ∷ z)) → IsStrictlySortedBy cmp (x ++ j ∷ y)
    rising_inner_left x j y k z s = rising_front (x ++ j ∷ y) (k ∷ z) (subst (IsStrictlySortedBy cmp) (sym (regroup x j y k z)) s)

-- the pairs stay the same where the pair at the top of the right side comes to the top
pub rotated_left : {K V : Type 0} (b below right left inner outer : Sight K V) (pair top : K × V) → b ≡ fork_of below top outer → below ≡ fork_of left pair inner → right ≡ fork_of inner top outer → b.pairs ≡ left.pairs ++ pair ∷ right.pairs
rotated_left b below right left inner outer pair top b_is below_is right_is =
    ap (λ x. x.pairs) b_is ∙ ap (λ x. x.pairs ++ top ∷ outer.pairs) below_is ∙ regroup left.pairs pair inner.pairs top outer.pairs ∙ ap (λ x. left.pairs ++ pair ∷ x.pairs) (sym right_is)
