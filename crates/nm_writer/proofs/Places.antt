-- Places in lists that strictly rise.
use Rattle.std.proofs.Common.{◌≡◌, ℕ, zero, suc, ◌<◌, ◌≤◌, length, get_or, arith, List, [], ◌∷◌, Ordering, sym, ◌∙◌, ap, refl, insert}
use Rattle.std.specs.declared.cmp.Ordering.TheVariants.{Less, Equal, Greater}
use Rattle.std.specs.Ordering.{match_ordering, ordering_reverse}
use Rattle.std.specs.Cmp.{IsTotalOrder}
use Rattle.std.specs.List.{AllWithin}
use Rattle.std.specs.List.Sorted.{IsStrictlySortedBy}
use Rattle.std.specs.BTreeSet.{insert_key}
use Rattle.std.proofs.lemmas.Cmp.{alike_right, tied_back}
use Rattle.std.proofs.lemmas.List.Elements.{All-from_recursion}
use Rattle.nm_ident.proofs.Rising.{turned}

module _ {K : Type 0} {R : K → K → Ordering} (o : IsTotalOrder R) where
  pub turned_back : (k x : K) → R x k ≡ Less → R k x ≡ Greater
  turned_back k x e = o.antisymm k x ∙ ap ordering_reverse e

  -- the empty list rises
  pub rising-nil : IsStrictlySortedBy R []
  unfolding IsStrictlySortedBy
  rising-nil = tt

  -- an item goes behind those below it and in front of those above it
  pub insert-is : (xs : List K) (k : K) (i : ℕ) → i ≤ length xs → AllWithin (λ x. R x k ≡ Less) xs 0 i → AllWithin (λ x. R x k ≡ Greater) xs i (length xs)
      → insert xs i k ≡ insert_key R xs k
  insert-is [] k zero within below above = refl
  insert-is [] k (suc i) within below above = absurd (omega arith)
  insert-is (x ∷ xs) k zero within below above =
      ap (λ (r : Ordering). match_ordering r (k ∷ x ∷ xs) (x ∷ xs) (x ∷ insert_key R xs k)) (sym (turned o x k (above 0 x (omega arith) (omega arith))))
  insert-is (x ∷ xs) k (suc i) within below above =
      ap (λ (ys : List K). x ∷ ys) (insert-is xs k i (omega arith) (λ j d low high. below (suc j) d (omega arith) (omega arith)) (λ j d low high. above (suc j) d (omega arith) (omega arith)))
      ∙ ap (λ (r : Ordering). match_ordering r (k ∷ x ∷ xs) (x ∷ xs) (x ∷ insert_key R xs k)) (sym (turned_back k x (below 0 x (omega arith) (omega arith))))

  -- an item that is there is not added
  pub insert-there : (xs : List K) (k : K) (i : ℕ) (d : K) → i < length xs → R (get_or xs i d) k ≡ Equal → IsStrictlySortedBy R xs → insert_key R xs k ≡ xs
  unfolding IsStrictlySortedBy
  insert-there [] k i d within tie s = absurd (omega arith)
  insert-there (x ∷ xs) k zero d within tie s =
      ap (λ (r : Ordering). match_ordering r (k ∷ x ∷ xs) (x ∷ xs) (x ∷ insert_key R xs k)) (tied_back o x k tie)
  insert-there (x ∷ xs) k (suc i) d within tie s =
      let below : R x k ≡ Less = sym (alike_right o (get_or xs i d) k x tie) ∙ All-from_recursion (λ y. R x y ≡ Less) xs s.0 i d (omega arith) in
      ap (λ (r : Ordering). match_ordering r (k ∷ x ∷ xs) (x ∷ xs) (x ∷ insert_key R xs k)) (turned_back k x below)
      ∙ ap (λ (ys : List K). x ∷ ys) (insert-there xs k i d (omega arith) tie s.1)
