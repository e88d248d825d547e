-- How texts and names of references begin.
use Rattle.std.proofs.Common.{◌≡◌, ◌∙◌, ℕ, ◌+◌, ◌*◌, ◌<◌, ◌≤◌, Bool, true, false, ◌&&◌, ◌||◌, List, [], ◌∷◌, ◌++◌, length, take, drop, None, Some, is_some, refl, sym, ap, subst, arith, append_assoc, append-nil, nat_eq, nat_le, nat_lt, if◌then◌else◌}
use Rattle.std.specs.Prelude.{◌==◌, codes, option_and_then}
use Rattle.std.specs.Char.{is_digit}
use Rattle.std.specs.List.{starts_with}
use Rattle.std.specs.Str.Parse.{digits_value}
use Rattle.std.proofs.Math.Bool.{or-true}
use Rattle.std.proofs.Math.Seq.{take-append_seam}
use Rattle.std.proofs.lemmas.Bool.{and_parts, eq-eqb, le-leb, leb-true, ltb-false, ltb-true}
use Rattle.std.proofs.lemmas.Int.Digits.{digits_value_push}
use Rattle.std.proofs.lemmas.List.{take-append-drop}
use Rattle.std.proofs.lemmas.List.Folds.{list_all-append}
use Rattle.std.proofs.lemmas.Str.Parse.{digits_value-take-le}
use Rattle.nm_terms.specs.Bytes.{same_text}
use Rattle.nm_text.specs.Characters.{is_character, is_text}
use Rattle.nm_text.specs.Reference.{are_digits, begins_by_number, begins_name, begins_numbered, begins_predefined, by_number, character_of, number_of, numbered, predefined, referred}
use Rattle.nm_text.specs.Utf8.{begins_text, is_open, is_whole, place_after}
use Rattle.nm_text.specs.declared.character.Place.{Place}
use Rattle.nm_text.specs.declared.character.Place.TheVariants.{Between, Last, LastTwo, LastThree, AfterE0, AfterED, AfterEF, AfterEFBF, AfterF0, AfterF4, Wrong}
use Rattle.nm_text.proofs.ReferenceNames.{same_is}
use Rattle.nm_text.proofs.TextsAgain.{is_between_says, wrong_stays}
use Rattle.nm_text.proofs.Utf8Texts.{character_below, high_character, low_character, place_after_two, texts_by_bytes}

-- ---- texts

-- bytes that end the character that has begun
abbrev completion : Place → List ℕ
completion Between = []
completion Last = 0x80 ∷ []
completion LastTwo = 0x80 ∷ 0x80 ∷ []
completion LastThree = 0x80 ∷ 0x80 ∷ 0x80 ∷ []
completion AfterE0 = 0xA0 ∷ 0x80 ∷ []
completion AfterED = 0x80 ∷ 0x80 ∷ []
completion AfterEF = 0x80 ∷ 0x80 ∷ []
completion AfterEFBF = 0x80 ∷ []
completion AfterF0 = 0x90 ∷ 0x80 ∷ 0x80 ∷ []
completion AfterF4 = 0x80 ∷ 0x80 ∷ 0x80 ∷ []
completion Wrong = []

completes : (place : Place) → is_open place ≡ true → place_after place (completion place) ≡ Between
completes Between goes = refl
completes Last goes = refl
completes LastTwo goes = refl
completes LastThree goes = refl
completes AfterE0 goes = refl
completes AfterED goes = refl
completes AfterEF goes = refl
completes AfterEFBF goes = refl
completes AfterF0 goes = refl
completes AfterF4 goes = refl
completes Wrong goes = cc

opens : (place : Place) (more : List ℕ) → place_after place more ≡ Between → is_open place ≡ true
opens Between more whole = refl
opens Last more whole = refl
opens LastTwo more whole = refl
opens LastThree more whole = refl
opens AfterE0 more whole = refl
opens AfterED more whole = refl
opens AfterEF more whole = refl
opens AfterEFBF more whole = refl
opens AfterF0 more whole = refl
opens AfterF4 more whole = refl
opens Wrong more whole = let e : Wrong ≡ Between = sym (wrong_stays more) ∙ whole in cc

-- a text begins so, and this text does
pub text_goes_on : (bytes : List ℕ) → begins_text bytes ≡ true → (more : List ℕ) × (is_text (bytes ++ more) ≡ true)
text_goes_on bytes goes =
    let place = place_after Between bytes in (
      completion place,
      texts_by_bytes (bytes ++ completion place) ∙ ap is_whole (place_after_two Between bytes (completion place) ∙ completes place goes),
    )

pub front_of_text : (bytes more : List ℕ) → is_text (bytes ++ more) ≡ true → begins_text bytes ≡ true
front_of_text bytes more is =
    opens (place_after Between bytes) more
    (sym (place_after_two Between bytes more) ∙ is_between_says (place_after Between (bytes ++ more)) (sym (texts_by_bytes (bytes ++ more)) ∙ is))

-- ---- names of references

same_as_itself : (bytes : List ℕ) → same_text bytes bytes ≡ true
same_as_itself [] = refl
same_as_itself (byte ∷ bytes) = rw (eq-eqb byte byte refl, same_as_itself bytes) refl

front_of_known : (known name more : List ℕ) → name ++ more ≡ known → starts_with nat_eq known name ≡ true
front_of_known known name more is = rw (← is, take-append_seam name more) (same_as_itself name)

known_goes_on : (known name : List ℕ) → starts_with nat_eq known name ≡ true → name ++ drop (length name) known ≡ known
known_goes_on known name starts =
    ap (λ (bytes : List ℕ). bytes ++ drop (length name) known) (same_is name (take (length name) known) starts) ∙ take-append-drop (length name) known

-- what a name can become
abbrev GoesOn : List ℕ → Type 0
GoesOn name = (more : List ℕ) × (character : ℕ) × (referred (name ++ more) ≡ Some character)

by_known : (known name : List ℕ) (character : ℕ) → referred known ≡ Some character → starts_with nat_eq known name ≡ true → GoesOn name
by_known known name character is starts = (drop (length name) known, character, ap referred (known_goes_on known name starts) ∙ is)

predefined_goes_on : (name : List ℕ) → begins_predefined name ≡ true → GoesOn name
unfolding referred
predefined_goes_on name begins =
    by (starts_with nat_eq (codes "lt") name) (starts_with nat_eq (codes "gt") name) (starts_with nat_eq (codes "amp") name) (starts_with nat_eq (codes "quot") name) (starts_with nat_eq (codes "apos") name) refl refl refl refl refl begins
  where
    by : (lt gt amp quot apos : Bool) → starts_with nat_eq (codes "lt") name ≡ lt → starts_with nat_eq (codes "gt") name ≡ gt → starts_with nat_eq (codes "amp") name ≡ amp → starts_with nat_eq (codes "quot") name ≡ quot → starts_with nat_eq (codes "apos") name ≡ apos
        → (lt || gt || amp || quot || apos) ≡ true → GoesOn name
    by true gt amp quot apos l g a q p is = by_known (codes "lt") name 60 refl l
    by false true amp quot apos l g a q p is = by_known (codes "gt") name 62 refl g
    by false false true quot apos l g a q p is = by_known (codes "amp") name 38 refl a
    by false false false true apos l g a q p is = by_known (codes "quot") name 34 refl q
    by false false false false true l g a q p is = by_known (codes "apos") name 39 refl p
    by false false false false false l g a q p is = cc

-- ---- numbers of references

-- digits of a character's number
finished : (radix : ℕ) (digits : List ℕ) → are_digits radix digits ≡ true → is_character (digits_value radix digits) ≡ true → numbered radix digits ≡ Some (digits_value radix digits)
finished radix [] all is = cc
finished radix (digit ∷ digits) all is =
    rw (all, le-leb (digits_value radix (digit ∷ digits)) 0x10FFFF (character_below (digits_value radix (digit ∷ digits)) is), is) refl

-- digits of a number that can become a character's
data Kind (number : ℕ) : Type 0 where
  zero : number ≡ 0 → Kind number
  control : 1 ≤ number → number < 0x20 → Kind number
  low : 0x20 ≤ number → number < 0xD800 → Kind number
  middle : 0xD800 ≤ number → number ≤ 0xFFFF → Kind number
  high : 0x10000 ≤ number → number ≤ 0x10FFFF → Kind number

kind_of : (number : ℕ) → number ≤ 0x10FFFF → Kind number
kind_of number below = by (nat_lt number 1) (nat_lt number 0x20) (nat_lt number 0xD800) (nat_lt number 0x10000) refl refl refl refl
  where
    by : (z c l m : Bool) → nat_lt number 1 ≡ z → nat_lt number 0x20 ≡ c → nat_lt number 0xD800 ≡ l → nat_lt number 0x10000 ≡ m → Kind number
    by true c l m z_is c_is l_is m_is = let h = ltb-true number 1 z_is in zero (omega arith)
    by false true l m z_is c_is l_is m_is = let h = ltb-true number 0x20 c_is in let k = ltb-false number 1 z_is in control (omega arith) (omega arith)
    by false false true m z_is c_is l_is m_is = let h = ltb-true number 0xD800 l_is in let k = ltb-false number 0x20 c_is in low (omega arith) (omega arith)
    by false false false true z_is c_is l_is m_is = let h = ltb-true number 0x10000 m_is in let k = ltb-false number 0xD800 l_is in middle (omega arith) (omega arith)
    by false false false false z_is c_is l_is m_is = let k = ltb-false number 0x10000 m_is in high k below

abbrev NumberGoesOn : ℕ → List ℕ → Type 0
NumberGoesOn radix digits = (more : List ℕ) × (character : ℕ) × (numbered radix (digits ++ more) ≡ Some character)

more_digits : (radix : ℕ) (digits more : List ℕ) → are_digits radix digits ≡ true → are_digits radix more ≡ true → are_digits radix (digits ++ more) ≡ true
more_digits radix digits more all others = list_all-append (λ (digit : ℕ). is_digit digit radix) digits more ∙ rw (all, others) refl

one_zero : (radix : ℕ) (digits : List ℕ) → digits_value radix (digits ++ 48 ∷ []) ≡ digits_value radix digits * radix + 0
one_zero radix digits = digits_value_push radix digits 48

two_zeros : (radix : ℕ) (digits : List ℕ) → digits_value radix (digits ++ 48 ∷ 48 ∷ []) ≡ (digits_value radix digits * radix + 0) * radix + 0
two_zeros radix digits =
    ap (digits_value radix) (sym (append_assoc digits (48 ∷ []) (48 ∷ []))) ∙ digits_value_push radix (digits ++ 48 ∷ []) 48 ∙ ap (λ (number : ℕ). number * radix + 0) (one_zero radix digits)

nine : (radix : ℕ) (digits : List ℕ) → digits_value radix (digits ++ 57 ∷ []) ≡ digits_value radix digits * radix + 9
nine radix digits = digits_value_push radix digits 57

-- with these digits behind them they are a character's number
with_digits : (radix : ℕ) (digits more : List ℕ) → are_digits radix digits ≡ true → are_digits radix more ≡ true → is_character (digits_value radix (digits ++ more)) ≡ true → NumberGoesOn radix digits
with_digits radix digits more all others is = (more, digits_value radix (digits ++ more), finished radix (digits ++ more) (more_digits radix digits more all others) is)

with_none : (radix : ℕ) (digits : List ℕ) → are_digits radix digits ≡ true → is_character (digits_value radix digits) ≡ true → NumberGoesOn radix digits
with_none radix digits all is = with_digits radix digits [] all refl (ap (λ (digits : List ℕ). is_character (digits_value radix digits)) (append-nil digits) ∙ is)

decimal_goes_on : (digits : List ℕ) → are_digits 10 digits ≡ true → digits_value 10 digits ≤ 0x10FFFF → NumberGoesOn 10 digits
decimal_goes_on digits all below = elim (kind_of (digits_value 10 digits) below) as (λ kind. NumberGoesOn 10 digits) [
  | zero is ↦ let value : digits_value 10 (digits ++ 57 ∷ []) ≡ 9 = nine 10 digits ∙ omega arith in with_digits 10 digits (57 ∷ []) all refl (ap is_character value)
  | control above lower ↦ with_digits 10 digits (48 ∷ 48 ∷ []) all refl (rw (two_zeros 10 digits) (low_character ((digits_value 10 digits * 10 + 0) * 10 + 0) (omega arith) (omega arith)))
  | low above lower ↦ with_none 10 digits all (low_character (digits_value 10 digits) (omega arith) (omega arith))
  | middle above lower ↦ with_digits 10 digits (48 ∷ []) all refl (rw (one_zero 10 digits) (high_character (digits_value 10 digits * 10 + 0) (omega arith) (omega arith)))
  | high above lower ↦ with_none 10 digits all (high_character (digits_value 10 digits) above lower)
]

hexadecimal_goes_on : (digits : List ℕ) → are_digits 16 digits ≡ true → digits_value 16 digits ≤ 0x10FFFF → NumberGoesOn 16 digits
hexadecimal_goes_on digits all below = elim (kind_of (digits_value 16 digits) below) as (λ kind. NumberGoesOn 16 digits) [
  | zero is ↦ let value : digits_value 16 (digits ++ 57 ∷ []) ≡ 9 = nine 16 digits ∙ omega arith in with_digits 16 digits (57 ∷ []) all refl (ap is_character value)
  | control above lower ↦ with_digits 16 digits (48 ∷ 48 ∷ []) all refl (rw (two_zeros 16 digits) (low_character ((digits_value 16 digits * 16 + 0) * 16 + 0) (omega arith) (omega arith)))
  | low above lower ↦ with_none 16 digits all (low_character (digits_value 16 digits) (omega arith) (omega arith))
  | middle above lower ↦ with_digits 16 digits (48 ∷ []) all refl (rw (one_zero 16 digits) (high_character (digits_value 16 digits * 16 + 0) (omega arith) (omega arith)))
  | high above lower ↦ with_none 16 digits all (high_character (digits_value 16 digits) above lower)
]

number_says : (radix : ℕ) (digits : List ℕ) → begins_numbered radix digits ≡ true → (are_digits radix digits ≡ true) × (digits_value radix digits ≤ 0x10FFFF)
number_says radix digits begins = by (are_digits radix digits) (nat_le (digits_value radix digits) 0x10FFFF) refl refl begins
  where
    by : (a b : Bool) → are_digits radix digits ≡ a → nat_le (digits_value radix digits) 0x10FFFF ≡ b → is_some (if a && b then Some (digits_value radix digits) else None) ≡ true
        → (are_digits radix digits ≡ true) × (digits_value radix digits ≤ 0x10FFFF)
    by true true a_is b_is is = (a_is, leb-true (digits_value radix digits) 0x10FFFF b_is)
    by true false a_is b_is is = cc
    by false b a_is b_is is = cc

abbrev ByNumberGoesOn : List ℕ → Type 0
ByNumberGoesOn name = (more : List ℕ) × (character : ℕ) × (by_number (name ++ more) ≡ Some character)

by_number_goes_on : (name : List ℕ) → begins_by_number name ≡ true → ByNumberGoesOn name
by_number_goes_on [] begins = (57 ∷ [], 9, refl)
by_number_goes_on (mark ∷ digits) begins = by (mark == 120) refl begins
  where
    by : (x : Bool) → (mark == 120) ≡ x → (if x then begins_numbered 16 digits else begins_numbered 10 (mark ∷ digits)) ≡ true → ByNumberGoesOn (mark ∷ digits)
    by true x begins =
        let says = number_says 16 digits begins in
        let one = hexadecimal_goes_on digits says.0 says.1 in
        (one.0, one.1, rw x one.2)
    by false x begins =
        let says = number_says 10 (mark ∷ digits) begins in
        let one = decimal_goes_on (mark ∷ digits) says.0 says.1 in
        (one.0, one.1, rw x one.2)

-- a name that begins so can become a reference's
pub name_goes_on : (name : List ℕ) → begins_name name ≡ true → GoesOn name
unfolding referred begins_name
name_goes_on [] begins = predefined_goes_on [] refl
name_goes_on (mark ∷ name) begins = by (mark == 35) refl begins
  where
    by : (hash : Bool) → (mark == 35) ≡ hash → (if hash then begins_by_number name else begins_predefined (mark ∷ name)) ≡ true → GoesOn (mark ∷ name)
    by true hash begins = let one = by_number_goes_on name begins in (one.0, one.1, rw hash one.2)
    by false hash begins = predefined_goes_on (mark ∷ name) begins

-- ---- and a reference's name begins so

first_digits : (radix : ℕ) (digits more : List ℕ) → are_digits radix (digits ++ more) ≡ true → are_digits radix digits ≡ true
first_digits radix digits more all =
    (and_parts (are_digits radix digits) (are_digits radix more) (sym (list_all-append (λ (digit : ℕ). is_digit digit radix) digits more) ∙ all)).0

first_value : (radix : ℕ) (digits more : List ℕ) → 1 ≤ radix → digits_value radix digits ≤ digits_value radix (digits ++ more)
first_value radix digits more some =
    subst (λ (front : List ℕ). digits_value radix front ≤ digits_value radix (digits ++ more)) (take-append_seam digits more) (digits_value-take-le radix (digits ++ more) (length digits) some)

front_of_number : (radix : ℕ) (digits more : List ℕ) (character : ℕ) → 1 ≤ radix → numbered radix (digits ++ more) ≡ Some character → begins_numbered radix digits ≡ true
front_of_number radix digits more character some is = by (are_digits radix (digits ++ more)) (nat_le (digits_value radix (digits ++ more)) 0x10FFFF) refl refl (of_any (digits ++ more) is)
  where
    of_any : (digits : List ℕ) → numbered radix digits ≡ Some character → option_and_then character_of (number_of radix digits) ≡ Some character
    of_any [] is = cc
    of_any (digit ∷ digits) is = is

    by : (a b : Bool) → are_digits radix (digits ++ more) ≡ a → nat_le (digits_value radix (digits ++ more)) 0x10FFFF ≡ b
        → option_and_then character_of (if a && b then Some (digits_value radix (digits ++ more)) else None) ≡ Some character → begins_numbered radix digits ≡ true
    by true true a_is b_is is =
        let whole = leb-true (digits_value radix (digits ++ more)) 0x10FFFF b_is in
        let front = first_value radix digits more some in
        let below : digits_value radix digits ≤ 0x10FFFF = omega arith in
        rw (first_digits radix digits more a_is, le-leb (digits_value radix digits) 0x10FFFF below) refl
    by true false a_is b_is is = cc
    by false b a_is b_is is = cc

front_by_number : (name more : List ℕ) (character : ℕ) → by_number (name ++ more) ≡ Some character → begins_by_number name ≡ true
front_by_number [] more character is = refl
front_by_number (mark ∷ digits) more character is = by (mark == 120) is
  where
    by : (x : Bool) → (if x then numbered 16 (digits ++ more) else numbered 10 (mark ∷ (digits ++ more))) ≡ Some character → (if x then begins_numbered 16 digits else begins_numbered 10 (mark ∷ digits)) ≡ true
    by true is = front_of_number 16 digits more character (omega arith) is
    by false is = front_of_number 10 (mark ∷ digits) more character (omega arith) is

or_known : (a b : Bool) → b ≡ true → (a || b) ≡ true
or_known a b is = rw is (or-true a)

front_of_predefined : (name more : List ℕ) (character : ℕ) → predefined (name ++ more) ≡ Some character → begins_predefined name ≡ true
front_of_predefined name more character is =
    by (same_text (name ++ more) (codes "lt")) (same_text (name ++ more) (codes "gt")) (same_text (name ++ more) (codes "amp")) (same_text (name ++ more) (codes "quot")) (same_text (name ++ more) (codes "apos")) refl refl refl refl refl is
  where
    begins : (known : List ℕ) → same_text (name ++ more) known ≡ true → starts_with nat_eq known name ≡ true
    begins known same = front_of_known known name more (same_is (name ++ more) known same)

    by : (lt gt amp quot apos : Bool) → same_text (name ++ more) (codes "lt") ≡ lt → same_text (name ++ more) (codes "gt") ≡ gt → same_text (name ++ more) (codes "amp") ≡ amp → same_text (name ++ more) (codes "quot") ≡ quot → same_text (name ++ more) (codes "apos") ≡ apos
        → (if lt then Some 60 else if gt then Some 62 else if amp then Some 38 else if quot then Some 34 else if apos then Some 39 else None) ≡ Some character → begins_predefined name ≡ true
    by true gt amp quot apos l g a q p is = rw (begins (codes "lt") l) refl
    by false true amp quot apos l g a q p is = rw (begins (codes "gt") g) (simp or-true refl)
    by false false true quot apos l g a q p is = rw (begins (codes "amp") a) (simp or-true refl)
    by false false false true apos l g a q p is = rw (begins (codes "quot") q) (simp or-true refl)
    by false false false false true l g a q p is = rw (begins (codes "apos") p) (simp or-true refl)
    by false false false false false l g a q p is = cc

pub front_of_name : (name more : List ℕ) (character : ℕ) → referred (name ++ more) ≡ Some character → begins_name name ≡ true
unfolding referred begins_name
front_of_name [] more character is = refl
front_of_name (mark ∷ name) more character is = by (mark == 35) is
  where
    by : (hash : Bool) → (if hash then by_number (name ++ more) else predefined (mark ∷ (name ++ more))) ≡ Some character → (if hash then begins_by_number name else begins_predefined (mark ∷ name)) ≡ true
    by true is = front_by_number name more character is
    by false is = front_of_predefined (mark ∷ name) more character is
