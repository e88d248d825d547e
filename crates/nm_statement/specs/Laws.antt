-- What the definitions of sets keep to.
use Rattle.std.specs.Prelude.{◌≡◌, List, ◌&&◌, ◌||◌, ◌↔◌, not, true, Contains, IsPermutation}
use Rattle.std.specs.Cmp.{IsTotalOrder}
use Rattle.std.specs.declared.cmp.Ordering.TheVariants.{Equal}
use Rattle.nm_statement.specs.Order.{statement_cmp}
use Rattle.nm_statement.specs.Set.{IsRising, has, set_of, minus_of, union_of}
use Rattle.nm_statement.specs.declared.statement.Statement.{Statement}

-- of two statements one stands first, or they stand level; what stands before stands before all that follows
abbrev pub OrderIsTotal : Type 0
OrderIsTotal = IsTotalOrder statement_cmp

-- only equal statements stand level
abbrev pub OrderTellsApart : Type 0
OrderTellsApart = (x y : Statement) → statement_cmp x y ≡ Equal → x ≡ y

-- a list has a statement exactly where the statement stands in it
abbrev pub HasIsContains : Type 0
HasIsContains = (xs : List Statement) (x : Statement) → (has xs x ≡ true) ↔ Contains xs x

-- what a set, a union and a difference have
pub record SetsHave : Type 0 where
  pub set : (xs : List Statement) (x : Statement) → has (set_of xs) x ≡ has xs x
  pub union : (xs ys : List Statement) (x : Statement) → has (union_of xs ys) x ≡ (has xs x || has ys x)
  pub minus : (xs ys : List Statement) (x : Statement) → has (minus_of xs ys) x ≡ (has xs x && not (has ys x))

-- a set and a union rise, and so does what is left of a rising list
pub record SetsRise : Type 0 where
  pub set : (xs : List Statement) → IsRising (set_of xs)
  pub union : (xs ys : List Statement) → IsRising (union_of xs ys)
  pub minus : (xs ys : List Statement) → IsRising xs → IsRising (minus_of xs ys)

-- rising lists with the same members are equal
abbrev pub SameMembers : Type 0
SameMembers = (xs ys : List Statement) → IsRising xs → IsRising ys → ((x : Statement) → has xs x ≡ has ys x) → xs ≡ ys

-- a set depends on the members alone, so that a rising list is the set of each list with its members
pub record SetsOfMembers : Type 0 where
  pub alike : (xs ys : List Statement) → ((x : Statement) → has xs x ≡ has ys x) → set_of xs ≡ set_of ys
  pub rising : (xs : List Statement) → IsRising xs → set_of xs ≡ xs
  pub members : (xs ys : List Statement) → IsRising xs → ((x : Statement) → has xs x ≡ has ys x) → set_of ys ≡ xs
  pub permuted : (xs ys : List Statement) → IsRising xs → IsPermutation xs ys → set_of ys ≡ xs
