-- The names of references that have begun, and what they can go on with.
use Rattle.std.proofs.Common.{◌≡◌, ◌<◌, ◌≤◌, ℕ, true, false, not, eqb, leb, ◌⊎◌, List, [], ◌∷◌, ◌++◌, codes, Option, Some, None, refl, sym, ap, ◌∙◌, append_assoc, arith, inl, inr}
use Rattle.std.specs.Prelude.{is_some}
use Rattle.std.specs.Char.{digit_value, is_digit}
use Rattle.std.specs.List.{list_all}
use Rattle.std.proofs.lemmas.Bool.{cases_lt, and_from, and_parts, both_ways, eq-eqb, le-leb, le-ltb, leb-true, lt-ltb, ne_eqb, not-true}
use Rattle.nm_terms.specs.Bytes.{is_between}
use Rattle.nm_text.specs.Reference.{begins_name, referred}
use Rattle.nm_text.specs.Split.{lacks}
use Rattle.nm_text.proofs.Fronts.{front_of_name, name_goes_on}
use Rattle.nm_text.proofs.ReferenceNames.{IsForeign, referred_lacks}

pub some_of : {X : Type 0} (o : Option X) → is_some o ≡ true → (x : X) × (o ≡ Some x)
some_of None e = absurd cc
some_of (Some x) e = (x, refl)

-- a front of what begins a name begins one
pub begins_name_before : (name more : List ℕ) → begins_name (name ++ more) ≡ true → begins_name name ≡ true
begins_name_before name more e =
    let g = name_goes_on (name ++ more) e in
    front_of_name name (more ++ g.0) g.1 (ap referred (sym (append_assoc name more g.0)) ∙ g.2)

-- ---- which bytes the name of a reference can hold

-- bytes of a word in a range do not hold one outside it
words_lack : (byte : ℕ) → (byte < 35) ⊎ (122 < byte) → (word : List ℕ) → list_all (is_between 35 122) word ≡ true → lacks byte word ≡ true
words_lack byte out [] e = refl
words_lack byte out (b ∷ word) e =
    let p = and_parts (is_between 35 122 b) (list_all (is_between 35 122) word) e in
    let q = and_parts (leb 35 b) (leb b 122) p.0 in
    and_from (not (eqb b byte)) (lacks byte word) (ap not (ne_eqb b byte (λ f. apart out b f (leb-true 35 b q.0) (leb-true b 122 q.1)))) (words_lack byte out word p.1)
  where
    apart : (byte < 35) ⊎ (122 < byte) → (b : ℕ) → b ≡ byte → 35 ≤ b → b ≤ 122 → ⊥
    apart (inl lt) b f low high = omega arith
    apart (inr lt) b f low high = omega arith

no_digit : (radix byte : ℕ) → radix ≤ 16 → (byte < 35) ⊎ (122 < byte) → is_digit byte radix ≡ false
no_digit radix byte le out = le-ltb (digit_value byte) radix (large out)
  where
    large : (byte < 35) ⊎ (122 < byte) → radix ≤ digit_value byte
    large (inl lt) = rw (lt-ltb byte 48 (omega arith)) (omega arith)
    large (inr lt) = rw (le-ltb byte 48 (omega arith), le-ltb byte 58 (omega arith), le-ltb byte 65 (omega arith), le-ltb byte 91 (omega arith), le-ltb byte 97 (omega arith), le-ltb byte 123 (omega arith)) (omega arith)

outside : (byte : ℕ) → (byte < 35) ⊎ (122 < byte) → IsForeign byte
outside byte out = record {
  hash = words_lack byte out (codes "#") refl;
  x = words_lack byte out (codes "x") refl;
  lt = words_lack byte out (codes "lt") refl;
  gt = words_lack byte out (codes "gt") refl;
  amp = words_lack byte out (codes "amp") refl;
  quot = words_lack byte out (codes "quot") refl;
  apos = words_lack byte out (codes "apos") refl;
  decimal = no_digit 10 byte (omega arith) out;
  hexadecimal = no_digit 16 byte (omega arith) out;
}

-- what lacks all bytes outside a range lies in it
all_within : (bytes : List ℕ) → ((byte : ℕ) → (byte < 35) ⊎ (122 < byte) → lacks byte bytes ≡ true) → list_all (is_between 35 122) bytes ≡ true
all_within [] h = refl
all_within (b ∷ bytes) h =
    and_from (is_between 35 122 b) (list_all (is_between 35 122) bytes) (here (cases_lt b 35) (cases_lt 122 b))
    (all_within bytes (λ byte out. (and_parts (not (eqb b byte)) (lacks byte bytes) (h byte out)).1))
  where
    not_here : (b < 35) ⊎ (122 < b) → ⊥
    not_here out = both_ways (eqb b b) (not-true (eqb b b) (and_parts (not (eqb b b)) (lacks b bytes) (h b out)).0) (eq-eqb b b refl)

    here : (b < 35) ⊎ (35 ≤ b) → (122 < b) ⊎ (b ≤ 122) → is_between 35 122 b ≡ true
    here (inl low) r = absurd (not_here (inl low))
    here (inr low) (inl high) = absurd (not_here (inr high))
    here (inr low) (inr high) = and_from (leb 35 b) (leb b 122) (le-leb 35 b low) (le-leb b 122 high)

-- the bytes that such names hold: visible ASCII, without `&`, `'`, `;`, `<`, `>` and `]`
pub record NameBytes (bytes : List ℕ) : Type 0 where
  pub visible : list_all (is_between 35 122) bytes ≡ true
  pub no_ampersand : lacks 38 bytes ≡ true
  pub no_single_quote : lacks 39 bytes ≡ true
  pub no_semicolon : lacks 59 bytes ≡ true
  pub no_tag : lacks 60 bytes ≡ true
  pub no_tag_end : lacks 62 bytes ≡ true
  pub no_bracket : lacks 93 bytes ≡ true

pub name_bytes : (name : List ℕ) (character : ℕ) → referred name ≡ Some character → NameBytes name
name_bytes name character r = record {
  visible = all_within name (λ byte out. referred_lacks byte name character (outside byte out) r);
  no_ampersand = referred_lacks 38 name character (record { hash = refl; x = refl; lt = refl; gt = refl; amp = refl; quot = refl; apos = refl; decimal = refl; hexadecimal = refl }) r;
  no_single_quote = referred_lacks 39 name character (record { hash = refl; x = refl; lt = refl; gt = refl; amp = refl; quot = refl; apos = refl; decimal = refl; hexadecimal = refl }) r;
  no_semicolon = referred_lacks 59 name character (record { hash = refl; x = refl; lt = refl; gt = refl; amp = refl; quot = refl; apos = refl; decimal = refl; hexadecimal = refl }) r;
  no_tag = referred_lacks 60 name character (record { hash = refl; x = refl; lt = refl; gt = refl; amp = refl; quot = refl; apos = refl; decimal = refl; hexadecimal = refl }) r;
  no_tag_end = referred_lacks 62 name character (record { hash = refl; x = refl; lt = refl; gt = refl; amp = refl; quot = refl; apos = refl; decimal = refl; hexadecimal = refl }) r;
  no_bracket = referred_lacks 93 name character (record { hash = refl; x = refl; lt = refl; gt = refl; amp = refl; quot = refl; apos = refl; decimal = refl; hexadecimal = refl }) r;
}
