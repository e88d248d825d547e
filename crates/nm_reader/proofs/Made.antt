-- Lists of texts, sorted and without repeats.
use Rattle.std.proofs.Common.{◌≡◌, ◌∙◌, ℕ, List, [], Bool, IsPermutation, nat_eq, ap}
use Rattle.std.specs.Cmp.Lexicographic.{nat_list_cmp_total, pointwise, texts_ties}
use Rattle.std.specs.List.{dedup}
use Rattle.std.specs.List.Retain.{DiffersFromLast, IsFiltered}
use Rattle.std.specs.List.Sorted.{IsSorted}
use Rattle.std.proofs.lemmas.List.Filters.{dedup_is}
use Rattle.nm_ident.proofs.Orders.{text_cmp-equal}
use Rattle.nm_ident.proofs.Rising.{rising_by-sorted}
use Rattle.nm_ident.specs.Order.{text_cmp}
use Rattle.nm_ident.specs.Rising.{rising_by}

pub texts_made_of : (xs ys zs : List (List ℕ)) → IsPermutation xs ys → IsSorted text_cmp ys → IsFiltered (DiffersFromLast (pointwise nat_eq)) [] ys zs → zs ≡ rising_by text_cmp xs
texts_made_of xs ys zs moved sorted kept =
    dedup_is (pointwise nat_eq) ys zs kept
    ∙ ap (λ (same : List ℕ → List ℕ → Bool). dedup same ys) (λ i x y. texts_ties x y i)
    ∙ rising_by-sorted nat_list_cmp_total text_cmp-equal xs ys moved sorted
