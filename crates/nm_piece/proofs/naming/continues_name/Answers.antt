-- The table is held against the definition at each of the 256 bytes, by computing.
use Rattle.std.proofs.Common.{◌≡◌, ℕ, zero, suc, ◌<◌, Bool, true, false, ◌&&◌, not, nat_eq, get_or, List, refl, arith, inl, inr}
use Rattle.std.specs.Bool.{beq}
use Rattle.std.proofs.lemmas.Bool.{cases_eq}
use Rattle.nm_ident.specs.Name.{continues_name}
use Rattle.nm_piece.specs.declared.naming.TheConstants.{NAME_BYTES}
use Rattle.nm_piece.proofs.naming.continues_name.Goals as goal

-- the two tests agree below n
agree_below : (ℕ → Bool) → (ℕ → Bool) → ℕ → Bool
agree_below f g zero = true
agree_below f g (suc n) = beq (f n) (g n) && agree_below f g n

both_of : (x y rest : Bool) → (beq x y && rest) ≡ true → (x ≡ y) × (rest ≡ true)
both_of true true rest e = (refl, e)
both_of true false rest e = cc
both_of false true rest e = cc
both_of false false rest e = (refl, e)

agree_at : (f g : ℕ → Bool) (n : ℕ) → agree_below f g n ≡ true → (byte : ℕ) → byte < n → f byte ≡ g byte
unfolding agree_below
agree_at f g zero e byte lt = absurd (omega arith)
agree_at f g (suc n) e byte lt =
    let both = both_of (f n) (g n) (agree_below f g n) e in
    elim (cases_eq byte n) [ inl same ↦ rw same both.0 | inr other ↦ agree_at f g n both.1 byte (omega arith) ]

from_table : (table : List ℕ) (byte : ℕ) → byte < 256 → agree_below (λ k. not (nat_eq (get_or table k 0) 44)) continues_name 256 ≡ true
    → not (nat_eq (get_or table byte 0) 44) ≡ continues_name byte
from_table table byte lt e = agree_at _ _ 256 e byte lt

pub returns : goal.returns
unfolding agree_below
returns c = from_table NAME_BYTES c.args.byte (omega arith) refl
