-- Ends of lines, where bytes are cut before a CR.
use Rattle.std.proofs.Common.{◌≡◌, ◌∙◌, ℕ, suc, ◌+◌, ◌<◌, ◌≤◌, Bool, true, false, not, List, [], ◌∷◌, ◌++◌, length, refl, sym, ap, arith, append_assoc, append-nil, length-append, if◌then◌else◌}
use Rattle.std.specs.Prelude.{◌==◌}
use Rattle.nm_text.specs.LineEnds.{line_end_before, normal_lines}
use Rattle.std.proofs.lemmas.Bool.{and_parts, eqb-true}
use Rattle.nm_text.specs.Split.{IsSplitBefore, begins_or_ends, lacks}

-- bytes without CR are read as they are
pub lines_behind_plain : (plain rest : List ℕ) → lacks 13 plain ≡ true → normal_lines (plain ++ rest) ≡ plain ++ normal_lines rest
lines_behind_plain [] rest none = refl
lines_behind_plain (byte ∷ plain) rest none =
    let parts = and_parts (not (byte == 13)) (lacks 13 plain) none in
    by (byte == 13) parts.0 (lines_behind_plain plain rest parts.1)
  where
    by : (return : Bool) → not return ≡ true → normal_lines (plain ++ rest) ≡ plain ++ normal_lines rest
        → (if return then line_end_before (plain ++ rest) else byte ∷ []) ++ normal_lines (plain ++ rest) ≡ byte ∷ (plain ++ normal_lines rest)
    by true other same = cc
    by false other same = ap (λ (bytes : List ℕ). byte ∷ bytes) same

-- what is read of bytes that were cut before a CR
lines_of_split : (bytes before behind : List ℕ) → IsSplitBefore 13 bytes before behind → normal_lines bytes ≡ before ++ normal_lines behind
lines_of_split bytes before behind split =
    ap normal_lines (sym split.joined) ∙ lines_behind_plain before behind split.lacked

-- no CR is left
pub no_end_is_left : (out rest before behind whole : List ℕ) → IsSplitBefore 13 rest before behind → length behind ≡ 0
    → out ++ normal_lines rest ≡ whole → out ++ before ≡ whole
no_end_is_left out rest before [] whole split none invariant =
    ap (λ (bytes : List ℕ). out ++ bytes) (sym (lines_of_split rest before [] split ∙ append-nil before)) ∙ invariant
no_end_is_left out rest before (byte ∷ behind) whole split none invariant = cc

-- one end of a line more
pub one_end_more : (out rest before behind after shorter whole : List ℕ) (first : ℕ) → IsSplitBefore 13 rest before behind → behind ≡ first ∷ after
    → normal_lines (13 ∷ after) ≡ 10 ∷ normal_lines shorter → out ++ normal_lines rest ≡ whole
    → ((out ++ before) ++ 10 ∷ []) ++ normal_lines shorter ≡ whole
one_end_more out rest before behind after shorter whole first split is read invariant =
    let begins : (first == 13) ≡ true = ap (begins_or_ends 13) (sym is) ∙ split.begins in
    let return : first ≡ 13 = eqb-true first 13 begins in
    let same : normal_lines rest ≡ before ++ 10 ∷ normal_lines shorter =
    lines_of_split rest before behind split ∙ ap (λ (bytes : List ℕ). before ++ normal_lines bytes) is ∙ ap (λ (byte : ℕ). before ++ normal_lines (byte ∷ after)) return ∙ ap (λ (bytes : List ℕ). before ++ bytes) read in
    simp append_assoc (ap (λ (bytes : List ℕ). out ++ bytes) (sym same) ∙ invariant)

-- and what is left is shorter
pub less_is_left : (rest before behind after shorter : List ℕ) (first : ℕ) → IsSplitBefore 13 rest before behind → behind ≡ first ∷ after
    → length shorter ≤ length after → length shorter < length rest
less_is_left rest before behind after shorter first split is short =
    let total : length before + length behind ≡ length rest = sym (length-append before behind) ∙ ap length split.joined in
    let one : length behind ≡ suc (length after) = ap length is in
    omega arith
