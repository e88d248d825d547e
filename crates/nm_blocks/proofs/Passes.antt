-- A turn of a pass over the blocks, and its end.
use Rattle.std.proofs.Common.{◌≡◌, List, [], ◌++◌, ap, sym, ◌∙◌, subst, append_assoc, append-nil, ⊎_elim, ◌⊎◌}
use Rattle.std.specs.Cmp.{IsTotalOrder}
use Rattle.std.specs.List.Sorted.{IsStrictlySortedBy}
use Rattle.std.specs.declared.cmp.Ordering.{Ordering}
use Rattle.nm_blocks.specs.Blocks.{joined}
use Rattle.nm_blocks.specs.Cut.{IsCut, IsGroup}
use Rattle.nm_blocks.specs.Items.{item_cmp, IsRising, with_all, without, without_all}
use Rattle.nm_blocks.proofs.Around.{with_all-none, without-before, without-behind, without_all-none}
use Rattle.nm_blocks.proofs.Cuts.{group_with, group_without, joined_parts}
use Rattle.nm_blocks.proofs.Lists.{rising_back, rising_front}

-- both parts of keys that rise
pub keys_rise : {K : Type 0} (cmp : K → K → Ordering) (ks those others : List K) → ks ≡ those ++ others → IsStrictlySortedBy cmp ks → IsStrictlySortedBy cmp those × IsStrictlySortedBy cmp others
keys_rise cmp ks those others split s = let both : IsStrictlySortedBy cmp (those ++ others) = subst (IsStrictlySortedBy cmp) split s in (rising_front cmp those others both, rising_back cmp those others both)

module _ {T K : Type 0} (key : T → K) {cmp : K → K → Ordering} (o : IsTotalOrder cmp) where
  -- what was made is before, then the block as it is changed, and the rest is due behind it
  passed : (made before changed rest more most whole : List T) (new : List T) → more ≡ made ++ before → most ≡ more ++ new → new ≡ changed → whole ≡ (before ++ changed) ++ rest → most ++ rest ≡ made ++ whole
  passed made before changed rest more most whole new more_is most_is new_is whole_is =
      ap (λ xs. xs ++ rest) (most_is ∙ (λ j. more_is j ++ new_is j) ∙ append_assoc made before changed) ∙ append_assoc made (before ++ changed) rest ∙ ap (λ xs. made ++ xs) (sym whole_is)

  pub with_pass : (ys : List T) (lists before : List (List T)) (block : List T) (behind : List (List T)) (those others : List T) → IsGroup key cmp key ys lists before block behind those others → IsRising key cmp ys
      → (made more most new : List T) → more ≡ made ++ joined before → most ≡ more ++ new → new ≡ with_all key cmp those block
      → most ++ with_all key cmp others (joined behind) ≡ made ++ with_all key cmp ys (joined lists)
  with_pass ys lists before block behind those others group s made more most new more_is most_is new_is =
      passed made (joined before) (with_all key cmp those block) (with_all key cmp others (joined behind)) more most (with_all key cmp ys (joined lists)) new more_is most_is new_is (group_with key o ys lists before block behind those others group s)

  pub without_pass : (ks : List K) (lists before : List (List T)) (block : List T) (behind : List (List T)) (those others : List K) → IsGroup key cmp (λ k. k) ks lists before block behind those others
      → (made more most new : List T) → more ≡ made ++ joined before → most ≡ more ++ new → new ≡ without_all key cmp those block
      → most ++ without_all key cmp others (joined behind) ≡ made ++ without_all key cmp ks (joined lists)
  without_pass ks lists before block behind those others group made more most new more_is most_is new_is =
      passed made (joined before) (without_all key cmp those block) (without_all key cmp others (joined behind)) more most (without_all key cmp ks (joined lists)) new more_is most_is new_is (group_without key o ks lists before block behind those others group)

  -- what is left of the changes is in order
  pub those_rise : (ys those others : List T) → ys ≡ those ++ others → IsRising key cmp ys → IsRising key cmp those
  those_rise ys those others split s = rising_front (item_cmp key cmp) those others (subst (IsRising key cmp) split s)

  pub others_rise : (ys those others : List T) → ys ≡ those ++ others → IsRising key cmp ys → IsRising key cmp others
  others_rise ys those others split s = rising_back (item_cmp key cmp) those others (subst (IsRising key cmp) split s)

  -- no change or no block is left
  pub with_end : (ys : List T) (lists : List (List T)) → (ys ≡ []) ⊎ (lists ≡ []) → IsRising key cmp ys → (made more most new : List T) → more ≡ made ++ joined lists → most ≡ more ++ new → new ≡ ys → most ≡ made ++ with_all key cmp ys (joined lists)
  with_end ys lists none s made more most new more_is most_is new_is =
      most_is ∙ (λ j. more_is j ++ new_is j) ∙ append_assoc made (joined lists) ys ∙ ap (λ xs. made ++ xs) (⊎_elim no_change no_block none)
    where
      no_change : ys ≡ [] → joined lists ++ ys ≡ with_all key cmp ys (joined lists)
      no_change e = ap (λ zs. joined lists ++ zs) e ∙ append-nil (joined lists) ∙ sym (ap (λ zs. with_all key cmp zs (joined lists)) e)

      no_block : lists ≡ [] → joined lists ++ ys ≡ with_all key cmp ys (joined lists)
      no_block e = ap (λ ls. joined ls ++ ys) e ∙ sym (with_all-none key o ys s) ∙ sym (ap (λ ls. with_all key cmp ys (joined ls)) e)

  pub without_end : (ks : List K) (lists : List (List T)) → (ks ≡ []) ⊎ (lists ≡ []) → joined lists ≡ without_all key cmp ks (joined lists)
  without_end ks lists none = ⊎_elim (λ e. sym (ap (λ js. without_all key cmp js (joined lists)) e)) (λ e. ap joined e ∙ sym (without_all-none key o ks) ∙ sym (ap (λ ls. without_all key cmp ks (joined ls)) e)) none

  -- the list without one key, by its cut
  pub without_cut : (k : K) (lists before : List (List T)) (block : List T) (behind : List (List T)) → IsCut key cmp k lists before block behind → (made more most new : List T) → made ≡ joined before → more ≡ made ++ new → new ≡ without key cmp k block
      → most ≡ more ++ joined behind → most ≡ without key cmp k (joined lists)
  without_cut k lists before block behind cut made more most new made_is more_is new_is most_is =
      most_is
      ∙ ap (λ xs. xs ++ joined behind) (more_is ∙ (λ j. made_is j ++ new_is j))
      ∙ append_assoc (joined before) (without key cmp k block) (joined behind)
      ∙ ap (λ xs. joined before ++ xs) (sym (without-before key o k block (joined behind) cut.above))
      ∙ sym (without-behind key o k (joined before) (block ++ joined behind) cut.below)
      ∙ ap (without key cmp k) (sym (joined_parts lists before block behind cut.parts))
