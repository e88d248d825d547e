-- A text that is cut at each mark, from its first one on.
use Rattle.std.proofs.Common.{◌≡◌, ◌∙◌, ◌<◌, ◌≤◌, ℕ, Bool, true, false, List, refl, sym, ap, arith, length, take}
use Rattle.std.specs.Prelude.{◌||◌, nat_lt, not}
use Rattle.std.proofs.Math.Seq.{take-length}
use Rattle.std.proofs.lemmas.Bool.Decides.{nat_tests}
use Rattle.std.specs.List.{after_first, before_first, list_any, position_or_len, slice_split}
use Rattle.std.proofs.lemmas.List.Splits.{slice_split_first, slice_split_none}
use Rattle.std.proofs.lemmas.List.Sums.{fails_before_first, prefix_len-le-length}

below : (n m : ℕ) → nat_lt n m ≡ true → n < m
below n m is = grind (arith, nat_tests)

level : (n m : ℕ) → n ≤ m → nat_lt n m ≡ false → n ≡ m
level n m within is = grind (arith, nat_tests)

-- a text without the mark is what stands before it
whole : (mark : ℕ → Bool) (text : List ℕ) → position_or_len mark text ≡ length text → before_first mark text ≡ text
whole mark text none = ap (λ count. take count text) none ∙ take-length text

-- the text before the first mark is one part, and what stands behind it the others
pub any_later : (test : List ℕ → Bool) (mark : ℕ → Bool) (text : List ℕ) → position_or_len mark text < length text
    → test (before_first mark text) ≡ false → list_any test (slice_split mark (after_first mark text)) ≡ list_any test (slice_split mark text)
any_later test mark text within out = rw (slice_split_first mark text 0 within, out) refl

pub any_first : (test : List ℕ → Bool) (mark : ℕ → Bool) (text : List ℕ) → position_or_len mark text < length text
    → test (before_first mark text) ≡ true → list_any test (slice_split mark text) ≡ true
any_first test mark text within passes = rw (slice_split_first mark text 0 within, passes) refl

-- a text without the mark is the one part
pub any_alone : (test : List ℕ → Bool) (mark : ℕ → Bool) (text : List ℕ) → position_or_len mark text ≡ length text
    → list_any test (slice_split mark text) ≡ (test text || false)
any_alone test mark text none =
    rw (slice_split_none mark text (λ k one within. fails_before_first mark text k one (omega arith))) refl

-- where the text before the first mark passes, a part does
pub any_passes : (test : List ℕ → Bool) (mark : ℕ → Bool) (text : List ℕ) → test (before_first mark text) ≡ true
    → list_any test (slice_split mark text) ≡ true
any_passes test mark text passes = by (nat_lt (position_or_len mark text) (length text)) refl
  where
    by : (within : Bool) → nat_lt (position_or_len mark text) (length text) ≡ within → list_any test (slice_split mark text) ≡ true
    by true is = any_first test mark text (below _ _ is) passes
    by false is =
        let none = level _ _ (prefix_len-le-length (λ byte. not (mark byte)) text) is in
        any_alone test mark text none ∙ ap (λ passes. passes || false) (ap test (sym (whole mark text none)) ∙ passes)

-- where it does not, and is the whole text, none does
pub none_passes : (test : List ℕ → Bool) (mark : ℕ → Bool) (text : List ℕ) → test (before_first mark text) ≡ false
    → position_or_len mark text ≡ length text → list_any test (slice_split mark text) ≡ false
none_passes test mark text out none =
    any_alone test mark text none ∙ ap (λ passes. passes || false) (ap test (sym (whole mark text none)) ∙ out)
