-- Lists of model ids, sorted and without repeats.
use Rattle.std.proofs.Common.{◌≡◌, ◌∙◌, ℕ, suc, ◌^◌, ◌<◌, ◌∷◌, get_or, List, [], Bool, true, IsPermutation, refl, ap, eqb}
use Rattle.std.specs.Ordering.{nat_cmp}
use Rattle.std.specs.Cmp.{unsigned_ties}
use Rattle.std.specs.List.{dedup, list_all}
use Rattle.nm_model.specs.Sound.{is_model_id}
use Rattle.std.proofs.lemmas.Bool.{lt-ltb}
use Rattle.std.specs.List.Retain.{DiffersFromLast, IsFiltered}
use Rattle.std.specs.List.Sorted.{IsSorted}
use Rattle.std.proofs.lemmas.Cmp.{nat_cmp_total}
use Rattle.std.proofs.lemmas.List.Filters.{dedup_is}
use Rattle.nm_ident.proofs.Orders.{nat_cmp-equal}
use Rattle.nm_ident.proofs.Rising.{rising_by-sorted}
use Rattle.nm_model.specs.Header.{rising_ids}

pub made_of : (xs ys zs : List ℕ) → IsPermutation xs ys → IsSorted nat_cmp ys → IsFiltered (DiffersFromLast eqb) [] ys zs → zs ≡ rising_ids xs
made_of xs ys zs moved sorted kept =
    dedup_is eqb ys zs kept
    ∙ ap (λ (same : ℕ → ℕ → Bool). dedup same ys) (λ i x y. unsigned_ties x y i)
    ∙ rising_by-sorted nat_cmp_total nat_cmp-equal xs ys moved sorted

-- the numbers of a type of 128 bits
pub all_ids : (ids : List ℕ) → ((k : ℕ) → get_or ids k 0 < 2 ^ 128) → list_all is_model_id ids ≡ true
all_ids [] fits = refl
all_ids (id ∷ ids) fits = rw (lt-ltb id (2 ^ 128) (fits 0)) (all_ids ids (λ k. fits (suc k)))
