-- A turn of the loop over the changes of one list.
use Rattle.std.proofs.Common.{◌≡◌, ◌<◌, ◌+◌, ℕ, List, [], ◌∷◌, ◌++◌, ap, sym, ◌∙◌, subst, length, take, drop, get_or, append_assoc}
use Rattle.std.proofs.lemmas.List.{drop_more, take-append-drop}
use Rattle.std.specs.Cmp.{IsTotalOrder}
use Rattle.std.specs.List.Sorted.{IsStrictlySortedBy}
use Rattle.std.specs.declared.cmp.Ordering.{Ordering}
use Rattle.nm_blocks.specs.Items.{item_cmp, IsRising, items_below, items_above, with_all, without_all}
use Rattle.nm_blocks.proofs.Around.{kept_one, merged_one}
use Rattle.nm_blocks.proofs.Lists.{rising_back}

dropped : {X : Type 0} (cmp : X → X → Ordering) (xs : List X) (i : ℕ) (x : X) → i < length xs → x ≡ get_or xs i x → drop i xs ≡ x ∷ drop (i + 1) xs
dropped cmp xs i x within is = drop_more xs i x within ∙ ap (λ y. y ∷ drop (i + 1) xs) (sym is)

rising_dropped : {X : Type 0} (cmp : X → X → Ordering) (xs : List X) (i : ℕ) → IsStrictlySortedBy cmp xs → IsStrictlySortedBy cmp (drop i xs)
rising_dropped cmp xs i s = rising_back cmp (take i xs) (drop i xs) (subst (IsStrictlySortedBy cmp) (sym (take-append-drop i xs)) s)

module _ {T K : Type 0} (key : T → K) {cmp : K → K → Ordering} (o : IsTotalOrder cmp) where
  pub merge_turn : (added : List T) (i : ℕ) (x y : T) (rest below above made more most : List T) → i < length added → x ≡ get_or added i x → IsRising key cmp added
      → below ≡ items_below key cmp (key x) rest → above ≡ items_above key cmp (key x) rest → more ≡ made ++ below → most ≡ more ++ y ∷ [] → y ≡ x
      → most ++ with_all key cmp (drop (i + 1) added) above ≡ made ++ with_all key cmp (drop i added) rest
  merge_turn added i x y rest below above made more most within is s low high more_is most_is same =
      let others = drop (i + 1) added in
      let back = dropped (item_cmp key cmp) added i x within is in
      let left : most ≡ (made ++ items_below key cmp (key x) rest) ++ x ∷ [] = most_is ∙ (λ j. (more_is ∙ ap (λ xs. made ++ xs) low) j ++ same j ∷ []) in
      (λ j. left j ++ with_all key cmp others (high j))
      ∙ ap (λ xs. xs ++ with_all key cmp others (items_above key cmp (key x) rest)) (append_assoc made (items_below key cmp (key x) rest) (x ∷ []))
      ∙ append_assoc made (items_below key cmp (key x) rest ++ x ∷ []) (with_all key cmp others (items_above key cmp (key x) rest))
      ∙ ap (λ xs. made ++ xs) (sym (merged_one key o x others rest (subst (IsRising key cmp) back (rising_dropped (item_cmp key cmp) added i s))) ∙ ap (λ ys. with_all key cmp ys rest) (sym back))

  pub keep_turn : (keys : List K) (i : ℕ) (k : K) (rest below above made more : List T) → i < length keys → k ≡ get_or keys i k → IsStrictlySortedBy cmp keys → IsRising key cmp rest
      → below ≡ items_below key cmp k rest → above ≡ items_above key cmp k rest → more ≡ made ++ below
      → more ++ without_all key cmp (drop (i + 1) keys) above ≡ made ++ without_all key cmp (drop i keys) rest
  keep_turn keys i k rest below above made more within is s rising low high more_is =
      let others = drop (i + 1) keys in
      let back = dropped cmp keys i k within is in
      (λ j. (more_is ∙ ap (λ xs. made ++ xs) low) j ++ without_all key cmp others (high j))
      ∙ append_assoc made (items_below key cmp k rest) (without_all key cmp others (items_above key cmp k rest))
      ∙ ap (λ xs. made ++ xs) (sym (kept_one key o k others rest (subst (IsStrictlySortedBy cmp) back (rising_dropped cmp keys i s)) rising) ∙ ap (λ ks. without_all key cmp ks rest) (sym back))
