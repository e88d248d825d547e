-- Lines that were put together are cut again where they were.
use Rattle.std.proofs.Common.{◌≡◌, ◌∙◌, ℕ, Bool, true, false, List, [], ◌∷◌, ◌++◌, refl, ap, arith}
use Rattle.std.specs.Prelude.{◌==◌, ◌&&◌, not, if◌then◌else◌}
use Rattle.std.specs.List.{list_all}
use Rattle.std.proofs.lemmas.Bool.Decides.{nat_tests}
use Rattle.std.proofs.lemmas.List.Folds.{list_all-append}
use Rattle.httparse.specs.Grammar.{LineEnd, crlf, lf, print_end, print_blank}
use Rattle.nm_http.specs.Lines.{Line, is_empty, lines_of, with_byte}
use Rattle.nm_http.specs.Head.{before, behind, blank_ends, from_start}

-- ---- tests

pub both : (a b : Bool) → (a && b) ≡ true → (a ≡ true) × (b ≡ true)
both true b holds = (refl, holds)
both false b holds = cc

pub fails : (a : Bool) → not a ≡ true → a ≡ false
fails true holds = cc
fails false holds = refl

pub otherwise : {X : Type 0} (test : Bool) (x y : X) → test ≡ false → (if test then x else y) ≡ y
otherwise true x y out = cc
otherwise false x y out = refl

pub equal_from_test : (a b : ℕ) → (a == b) ≡ true → a ≡ b
equal_from_test a b holds = grind (arith, nat_tests)

-- a byte that passes is another than one that does not
pub differs : (test : ℕ → Bool) (mark byte : ℕ) → test mark ≡ false → test byte ≡ true → not (byte == mark) ≡ true
differs test mark byte out holds = by (byte == mark) refl
  where
    by : (same : Bool) → (byte == mark) ≡ same → not same ≡ true
    by false is = refl
    by true is = let equal = ap test (equal_from_test byte mark is) in cc

pub all_pass : (test other : ℕ → Bool) → ((byte : ℕ) → test byte ≡ true → other byte ≡ true)
    → (bytes : List ℕ) → list_all test bytes ≡ true → list_all other bytes ≡ true
all_pass test other passes [] all = refl
all_pass test other passes (byte ∷ bytes) all =
    let parts = both (test byte) (list_all test bytes) all in
    rw (passes byte parts.0) (all_pass test other passes bytes parts.1)

pub all_joined : (test : ℕ → Bool) (first second : List ℕ) → list_all test first ≡ true → list_all test second ≡ true
    → list_all test (first ++ second) ≡ true
all_joined test first second one two = list_all-append test first second ∙ rw one two

-- ---- cuts

abbrev pub is_other : ℕ → ℕ → Bool
is_other mark byte = not (byte == mark)

pub cut_before : (mark : ℕ) (first second : List ℕ) → list_all (is_other mark) first ≡ true
    → before mark (first ++ mark ∷ second) ≡ first
cut_before mark [] second all = rw (same_byte mark) refl
  where
    same_byte : (n : ℕ) → (n == n) ≡ true
    same_byte n = grind (arith, nat_tests)
cut_before mark (byte ∷ first) second all =
    let parts = both (is_other mark byte) (list_all (is_other mark) first) all in
    otherwise (byte == mark) [] (byte ∷ before mark (first ++ mark ∷ second)) (fails (byte == mark) parts.0)
    ∙ ap (λ text. byte ∷ text) (cut_before mark first second parts.1)

pub cut_behind : (mark : ℕ) (first second : List ℕ) → list_all (is_other mark) first ≡ true
    → behind mark (first ++ mark ∷ second) ≡ second
cut_behind mark [] second all = rw (same_byte mark) refl
  where
    same_byte : (n : ℕ) → (n == n) ≡ true
    same_byte n = grind (arith, nat_tests)
cut_behind mark (byte ∷ first) second all =
    let parts = both (is_other mark byte) (list_all (is_other mark) first) all in
    otherwise (byte == mark) (first ++ mark ∷ second) (behind mark (first ++ mark ∷ second)) (fails (byte == mark) parts.0)
    ∙ cut_behind mark first second parts.1

-- ---- lines

-- a byte that ends no line
abbrev pub is_plain : ℕ → Bool
is_plain byte = not (byte == 10) && not (byte == 13)

in_front : (byte : ℕ) (text : List ℕ) (end : LineEnd) → (byte == 13) ≡ false
    → with_byte byte text end ≡ record { text = byte ∷ text; end = end }
in_front byte (first ∷ text) end out = refl
in_front byte [] crlf out = refl
in_front byte [] lf out = otherwise (byte == 13) _ _ out

-- a line is the first one of itself and what stands behind it
pub line_read : (text : List ℕ) (end : LineEnd) (rest : List ℕ) → list_all is_plain text ≡ true
    → lines_of (text ++ (print_end end ++ rest)) ≡ (record { text = text; end = end }) ∷ lines_of rest
line_read [] crlf rest all = refl
line_read [] lf rest all = refl
line_read (byte ∷ text) end rest all =
    let parts = both (is_plain byte) (list_all is_plain text) all in
    let byte_parts = both (not (byte == 10)) (not (byte == 13)) parts.0 in
    otherwise (byte == 10) _ _ (fails (byte == 10) byte_parts.0)
    ∙ rw (line_read text end rest parts.1) (ap (λ line. line ∷ lines_of rest) (in_front byte text end (fails (byte == 13) byte_parts.1)))

-- empty lines in front are told apart from the line behind them
pub blank_read : (ends : List LineEnd) (rest : List ℕ) (line : Line) (lines : List Line)
    → lines_of rest ≡ line ∷ lines → is_empty line.text ≡ false
    → (blank_ends (lines_of (print_blank ends ++ rest)) ≡ ends) × (from_start (lines_of (print_blank ends ++ rest)) ≡ line ∷ lines)
blank_read [] rest line lines is some = (rw is (otherwise (is_empty line.text) _ _ some), rw is (otherwise (is_empty line.text) _ _ some))
blank_read (crlf ∷ ends) rest line lines is some =
    let others = blank_read ends rest line lines is some in (ap (λ all. crlf ∷ all) others.0, others.1)
blank_read (lf ∷ ends) rest line lines is some =
    let others = blank_read ends rest line lines is some in (ap (λ all. lf ∷ all) others.0, others.1)
