-- A stretch of the keys, given by where a key lies beside it, and the pairs that lie in it.
use Rattle.std.specs.Prelude.{◌≡◌, ◌≤◌, List, Option, None, Some, map, not}
use Rattle.nm_tree.specs.Pairs.{pairs_from}
use Rattle.std.proofs.Common.{arith, refl, sym, ◌∙◌}
use Rattle.std.proofs.lemmas.Cmp.{alike_right}
use Rattle.std.specs.Borrow.{Bor}
use Rattle.std.specs.Cmp.{IsTotalOrder}
use Rattle.std.specs.List.{filter}
use Rattle.std.specs.Ordering.{is_eq, is_gt, is_lt, ordering_index}
use Rattle.std.specs.declared.cmp.Ordering.{Ordering}
use Rattle.std.specs.declared.cmp.Ordering.TheVariants.{Less, Equal, Greater}

-- a greater key never lies lower
abbrev pub IsMonotone : {K : Type 0} → (K → K → Ordering) → (K → Ordering) → Type 0
IsMonotone {K} cmp place = (x y : K) → cmp x y ≡ Less → ordering_index (place x) ≤ ordering_index (place y)

module _ {K V : Type 0} (place : K → Ordering) where
  -- the pairs that lie in the span
  abbrev pub pairs_within : List (K × V) → List (K × V)
  pairs_within = filter (λ p. is_eq (place p.0))

  -- the pairs that do not lie below it
  abbrev pub pairs_not_below : List (K × V) → List (K × V)
  pairs_not_below = filter (λ p. not (is_lt (place p.0)))

  -- the pairs that do not lie above it
  abbrev pub pairs_not_above : List (K × V) → List (K × V)
  pairs_not_above = filter (λ p. not (is_gt (place p.0)))

-- the pairs whose keys are not below the key, or all where there is none
abbrev pub walked_from : {K V : Type 0} → (K → K → Ordering) → Option (Bor K) → List (K × V) → List (K × V)
walked_from cmp None pairs = pairs
walked_from cmp (Some key) pairs = pairs_from cmp key.now pairs

-- the pairs that are referred to
abbrev pub values_of : {X : Type 0} → List (Bor X) → List X
values_of = map (λ x. x.now)

-- a key as the beginning of a span: where others lie beside it
abbrev pub place_at : {K : Type 0} → (K → K → Ordering) → K → K → Ordering
place_at cmp key k = cmp k key

key_rises_by : {K : Type 0} {cmp : K → K → Ordering} → IsTotalOrder cmp → (key x y : K) → cmp x y ≡ Less → (r : Ordering) → cmp y key ≡ r → ordering_index (cmp x key) ≤ ordering_index r
key_rises_by o key x y less Less e = let same = o.trans x y key less e in rw same (omega arith)
key_rises_by o key x y less Equal e = let same = sym (alike_right o y key x e) ∙ less in rw same (omega arith)
key_rises_by {K} {cmp} o key x y less Greater e = index_most (cmp x key)
  where
    index_most : (r : Ordering) → ordering_index r ≤ 2
    index_most Less = omega arith
    index_most Equal = omega arith
    index_most Greater = omega arith

pub key_rises : {K : Type 0} {cmp : K → K → Ordering} → IsTotalOrder cmp → (key : K) → IsMonotone cmp (place_at cmp key)
key_rises o key x y less = key_rises_by o key x y less _ refl
