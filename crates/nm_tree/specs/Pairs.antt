-- Lists of pairs whose keys strictly rise, and what a change leaves of them.
use Rattle.std.specs.Prelude.{List, ◌∷◌, ◌++◌, Option, not}
use Rattle.std.specs.List.{filter}
use Rattle.std.specs.List.Sorted.{IsStrictlySortedBy}
use Rattle.std.specs.Map.{lookup}
use Rattle.std.specs.Ordering.{is_eq, is_gt, is_lt}
use Rattle.std.specs.declared.cmp.Ordering.{Ordering}

module _ {K V : Type 0} (cmp : K → K → Ordering) where
  -- pairs in the order of their keys
  abbrev pub pair_cmp : K × V → K × V → Ordering
  pair_cmp p q = cmp p.0 q.0

  -- each key is below those after it
  abbrev pub IsRising : List (K × V) → Type 0
  IsRising pairs = IsStrictlySortedBy pair_cmp pairs

  -- the pairs whose keys are below the key
  abbrev pub pairs_below : K → List (K × V) → List (K × V)
  pairs_below key = filter (λ p. is_gt (cmp key p.0))

  -- the pairs whose keys are above the key
  abbrev pub pairs_above : K → List (K × V) → List (K × V)
  pairs_above key = filter (λ p. is_lt (cmp key p.0))

  -- the value at the key
  abbrev pub value_at : K → List (K × V) → Option V
  value_at key = lookup (λ k. is_eq (cmp key k))

  -- the pairs with this one at its place, where it takes that of a pair with an equal key
  abbrev pub with_pair : K × V → List (K × V) → List (K × V)
  with_pair pair pairs = pairs_below pair.0 pairs ++ pair ∷ pairs_above pair.0 pairs

  -- the pairs with another key
  abbrev pub without : K → List (K × V) → List (K × V)
  without key = filter (λ p. not (is_eq (cmp key p.0)))

  -- the pairs whose keys are not below the key
  abbrev pub pairs_from : K → List (K × V) → List (K × V)
  pairs_from key = filter (λ p. not (is_lt (cmp p.0 key)))
