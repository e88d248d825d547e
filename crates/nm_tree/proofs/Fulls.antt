-- Branches that are as low as they can be.
use Rattle.std.proofs.Common.{◌≡◌, ℕ, ◌+◌, ◌*◌, ◌^◌, ◌<◌, ◌≤◌, max, ◌∷◌, length, inl, inr, arith, length-append}
use Rattle.std.proofs.Math.Nat.{max-eq_left, max-eq_right}
use Rattle.std.proofs.Math.Pow.{pow_mono}
use Rattle.std.proofs.lemmas.Bool.{cases_lt}
use Rattle.nm_tree.specs.Sight.{Sight, DifferByAtMost, IsFull, fork_of}
use Rattle.nm_tree.proofs.Heights.{power_of_next}

power_of_second : (h : ℕ) → 2 ^ (h + 1 + 1) ≡ 4 * 2 ^ h
power_of_second h = omega (arith, power_of_next h, power_of_next (h + 1))

not_higher : (a b h k : ℕ) → 2 ^ h ≤ max 1 (2 * a) → b < 2 ^ k → a ≤ b + 1 → h ≤ k + 1
not_higher a b h k needed enough near =
    elim (cases_lt (k + 1) h) [
      | inl more ↦ let tall : 2 ^ (k + 1 + 1) ≤ 2 ^ h = pow_mono (omega arith) in absurd (omega (arith, power_of_second k))
      | inr less ↦ less
    ]

module _ {K V : Type 0} (left : Sight K V) (pair : K × V) (right : Sight K V) (full_left : IsFull left) (full_right : IsFull right) (low : length left.pairs ≤ length right.pairs) (near : length right.pairs ≤ length left.pairs + 1) where
  pub full_sides : DifferByAtMost 1 left right
  full_sides = (
    not_higher (length left.pairs) (length right.pairs) left.height right.height full_left.needed full_right.enough (omega arith),
    not_higher (length right.pairs) (length left.pairs) right.height left.height full_right.needed full_left.enough near,
  )

  power_of_higher : (2 ^ left.height ≤ 2 ^ max left.height right.height) × (2 ^ right.height ≤ 2 ^ max left.height right.height) × (2 ^ max left.height right.height ≤ length left.pairs + length right.pairs + 1)
  power_of_higher =
      elim (cases_lt left.height right.height) [
        | inl less ↦ let below : left.height ≤ right.height = omega arith in let e = full_right.needed in rw (max-eq_right below) (pow_mono below, omega arith, omega arith)
        | inr more ↦ let e = full_left.needed in rw (max-eq_left more) (omega arith, pow_mono more, omega arith)
      ]

  pub IsFull-fork_of : IsFull (fork_of left pair right)
  IsFull-fork_of =
      let e = power_of_higher in
      let next = power_of_next (max left.height right.height) in
      record {
        enough = omega (arith, e.0, e.1, full_left.enough, full_right.enough, length-append left.pairs (pair ∷ right.pairs));
        needed = omega (arith, e.2, length-append left.pairs (pair ∷ right.pairs));
      }
