-- Which bytes the name of a reference can hold.
use Rattle.std.proofs.Common.{◌≡◌, ◌∙◌, ℕ, Bool, true, false, not, ◌&&◌, List, [], ◌∷◌, None, Some, refl, sym, ap, subst, if◌then◌else◌, nat_le}
use Rattle.std.specs.Prelude.{◌==◌, codes, option_and_then}
use Rattle.std.specs.Char.{is_digit}
use Rattle.std.specs.List.{list_all}
use Rattle.std.specs.Str.Parse.{digits_value}
use Rattle.std.proofs.lemmas.Bool.{and_parts, eqb-true}
use Rattle.nm_terms.specs.Bytes.{same_text}
use Rattle.nm_text.specs.Reference.{are_digits, by_number, character_of, numbered, predefined, referred}
use Rattle.nm_text.specs.Split.{lacks}

-- a byte that is in no name and is no digit
pub record IsForeign (byte : ℕ) : Type 0 where
  pub hash : lacks byte (codes "#") ≡ true
  pub x : lacks byte (codes "x") ≡ true
  pub lt : lacks byte (codes "lt") ≡ true
  pub gt : lacks byte (codes "gt") ≡ true
  pub amp : lacks byte (codes "amp") ≡ true
  pub quot : lacks byte (codes "quot") ≡ true
  pub apos : lacks byte (codes "apos") ≡ true
  pub decimal : is_digit byte 10 ≡ false
  pub hexadecimal : is_digit byte 16 ≡ false

pub ampersand_is_foreign : IsForeign 38
ampersand_is_foreign = record { hash = refl; x = refl; lt = refl; gt = refl; amp = refl; quot = refl; apos = refl; decimal = refl; hexadecimal = refl }

pub tab_is_foreign : IsForeign 9
tab_is_foreign = record { hash = refl; x = refl; lt = refl; gt = refl; amp = refl; quot = refl; apos = refl; decimal = refl; hexadecimal = refl }

pub space_is_foreign : IsForeign 32
space_is_foreign = record { hash = refl; x = refl; lt = refl; gt = refl; amp = refl; quot = refl; apos = refl; decimal = refl; hexadecimal = refl }

pub line_feed_is_foreign : IsForeign 10
line_feed_is_foreign = record { hash = refl; x = refl; lt = refl; gt = refl; amp = refl; quot = refl; apos = refl; decimal = refl; hexadecimal = refl }

pub return_is_foreign : IsForeign 13
return_is_foreign = record { hash = refl; x = refl; lt = refl; gt = refl; amp = refl; quot = refl; apos = refl; decimal = refl; hexadecimal = refl }

-- the same bytes
pub same_is : (xs ys : List ℕ) → same_text xs ys ≡ true → xs ≡ ys
same_is [] [] same = refl
same_is [] (y ∷ ys) same = cc
same_is (x ∷ xs) [] same = cc
same_is (x ∷ xs) (y ∷ ys) same =
    let parts = and_parts (x == y) (same_text xs ys) same in
    ap (λ (byte : ℕ). byte ∷ xs) (eqb-true x y parts.0) ∙ ap (λ (bytes : List ℕ). y ∷ bytes) (same_is xs ys parts.1)

lacks_as : (byte : ℕ) (name known : List ℕ) → same_text name known ≡ true → lacks byte known ≡ true → lacks byte name ≡ true
lacks_as byte name known same none = subst (λ (bytes : List ℕ). lacks byte bytes ≡ true) (sym (same_is name known same)) none

apart : (test : ℕ → Bool) (byte other : ℕ) → test byte ≡ false → test other ≡ true → not (other == byte) ≡ true
apart test byte other fails passes = by (other == byte) refl
  where
    by : (same : Bool) → (other == byte) ≡ same → not same ≡ true
    by true same = let e : other ≡ byte = eqb-true other byte same in let f : test other ≡ test byte = ap test e in cc
    by false same = refl

lacks_among : (test : ℕ → Bool) (byte : ℕ) (bytes : List ℕ) → test byte ≡ false → list_all test bytes ≡ true → lacks byte bytes ≡ true
lacks_among test byte [] fails all = refl
lacks_among test byte (other ∷ bytes) fails all =
    let parts = and_parts (test other) (list_all test bytes) all in
    rw (apart test byte other fails parts.0, lacks_among test byte bytes fails parts.1) refl

digits_lack : (radix byte : ℕ) (digits : List ℕ) (character : ℕ) → is_digit byte radix ≡ false → numbered radix digits ≡ Some character → lacks byte digits ≡ true
digits_lack radix byte [] character foreign is = cc
digits_lack radix byte (digit ∷ digits) character foreign is = by (are_digits radix (digit ∷ digits)) refl is
  where
    by : (all : Bool) → are_digits radix (digit ∷ digits) ≡ all → option_and_then character_of (if all && nat_le (digits_value radix (digit ∷ digits)) 0x10FFFF then Some (digits_value radix (digit ∷ digits)) else None) ≡ Some character → lacks byte (digit ∷ digits) ≡ true
    by true all is = lacks_among (λ (digit : ℕ). is_digit digit radix) byte (digit ∷ digits) foreign all
    by false all is = cc

predefined_lacks : (byte : ℕ) (name : List ℕ) (character : ℕ) → IsForeign byte → predefined name ≡ Some character → lacks byte name ≡ true
predefined_lacks byte name character foreign is =
    by (same_text name (codes "lt")) (same_text name (codes "gt")) (same_text name (codes "amp")) (same_text name (codes "quot")) (same_text name (codes "apos")) refl refl refl refl refl is
  where
    by : (lt gt amp quot apos : Bool) → same_text name (codes "lt") ≡ lt → same_text name (codes "gt") ≡ gt → same_text name (codes "amp") ≡ amp → same_text name (codes "quot") ≡ quot → same_text name (codes "apos") ≡ apos
        → (if lt then Some 60 else if gt then Some 62 else if amp then Some 38 else if quot then Some 34 else if apos then Some 39 else None) ≡ Some character → lacks byte name ≡ true
    by true gt amp quot apos l g a q p is = lacks_as byte name (codes "lt") l foreign.lt
    by false true amp quot apos l g a q p is = lacks_as byte name (codes "gt") g foreign.gt
    by false false true quot apos l g a q p is = lacks_as byte name (codes "amp") a foreign.amp
    by false false false true apos l g a q p is = lacks_as byte name (codes "quot") q foreign.quot
    by false false false false true l g a q p is = lacks_as byte name (codes "apos") p foreign.apos
    by false false false false false l g a q p is = cc

number_lacks : (byte : ℕ) (name : List ℕ) (character : ℕ) → IsForeign byte → by_number name ≡ Some character → lacks byte name ≡ true
number_lacks byte [] character foreign is = refl
number_lacks byte (mark ∷ digits) character foreign is = by (mark == 120) refl is
  where
    by : (x : Bool) → (mark == 120) ≡ x → (if x then numbered 16 digits else numbered 10 (mark ∷ digits)) ≡ Some character → lacks byte (mark ∷ digits) ≡ true
    by true x is = rw (eqb-true mark 120 x, (and_parts (not (120 == byte)) true foreign.x).0, digits_lack 16 byte digits character foreign.hexadecimal is) refl
    by false x is = digits_lack 10 byte (mark ∷ digits) character foreign.decimal is

-- no name of a reference holds it
pub referred_lacks : (byte : ℕ) (name : List ℕ) (character : ℕ) → IsForeign byte → referred name ≡ Some character → lacks byte name ≡ true
unfolding referred
referred_lacks byte [] character foreign is = refl
referred_lacks byte (mark ∷ name) character foreign is = by (mark == 35) refl is
  where
    by : (hash : Bool) → (mark == 35) ≡ hash → (if hash then by_number name else predefined (mark ∷ name)) ≡ Some character → lacks byte (mark ∷ name) ≡ true
    by true hash is = rw (eqb-true mark 35 hash, (and_parts (not (35 == byte)) true foreign.hash).0, number_lacks byte name character foreign is) refl
    by false hash is = predefined_lacks byte (mark ∷ name) character foreign is
