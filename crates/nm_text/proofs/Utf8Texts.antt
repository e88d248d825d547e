-- Texts of XML byte by byte are texts of its characters.
use Rattle.std.proofs.Common.{◌≡◌, ◌≢◌, ◌∙◌, ℕ, ◌+◌, ◌-◌, ◌*◌, ◌/◌, ◌%◌, ◌<◌, ◌≤◌, Bool, true, false, ◌||◌, List, [], ◌∷◌, ◌++◌, refl, sym, ap, subst, arith, append_assoc, nat_le, nat_lt, encode_utf8, inl, inr, ◌⊎◌, if◌then◌else◌}
use Rattle.std.specs.Prelude.{◌==◌, encode_utf8_all}
use Rattle.std.specs.List.{list_all}
use Rattle.std.proofs.lemmas.Bool.{and_parts, eqb-false, eqb-true, le-leb, leb-true, lt-ltb, ltb-false, ltb-true}
use Rattle.std.proofs.lemmas.Str.{IsUtf8-from_is_utf8, chars_from_encodes, encode_ascii, encodes-chars, is_utf8-from_IsUtf8}
use Rattle.std.proofs.Math.Bool.{or-true}
use Rattle.nm_terms.specs.Bytes.{is_between}
use Rattle.nm_text.specs.Characters.{is_character, is_text}
use Rattle.nm_text.specs.Utf8.{is_whole, place_after, place_after_byte, place_after_first, place_if, spells_text}
use Rattle.nm_text.specs.declared.character.Place.{Place}
use Rattle.nm_text.specs.declared.character.Place.TheVariants.{Between, Last, LastTwo, LastThree, AfterE0, AfterED, AfterEF, AfterEFBF, AfterF0, AfterF4, Wrong}
use Rattle.std.specs.Str.{IsUtf8, chars, is_utf8}
use lib.Utf8.{encode, low_scalar, scalar, scalars}

-- ---- from bytes to characters

-- the bytes of one character
record IsEncoded (bytes : List ℕ) : Type 0 where
  pub character : ℕ
  pub is : is_character character ≡ true
  pub spelt : encode_utf8 character ≡ bytes

-- with any such byte behind them the bytes go on so
abbrev GoesOn : ℕ → ℕ → (List ℕ → Type 0) → List ℕ → Type 0
GoesOn low high P bytes = (byte : ℕ) → low ≤ byte → byte ≤ high → P (bytes ++ byte ∷ [])

abbrev OneMore : List ℕ → Type 0
OneMore = GoesOn 0x80 0xBF IsEncoded

abbrev TwoMore : List ℕ → Type 0
TwoMore = GoesOn 0x80 0xBF OneMore

-- what the bytes of a character so far can become
abbrev Pending : Place → List ℕ → Type 0
Pending Between bytes = IsEncoded bytes
Pending Last bytes = OneMore bytes
Pending LastTwo bytes = TwoMore bytes
Pending LastThree bytes = GoesOn 0x80 0xBF TwoMore bytes
Pending AfterE0 bytes = GoesOn 0xA0 0xBF OneMore bytes
Pending AfterED bytes = GoesOn 0x80 0x9F OneMore bytes
Pending AfterEF bytes = GoesOn 0x80 0xBE OneMore bytes × GoesOn 0xBF 0xBF (GoesOn 0x80 0xBD IsEncoded) bytes
Pending AfterEFBF bytes = GoesOn 0x80 0xBD IsEncoded bytes
Pending AfterF0 bytes = GoesOn 0x90 0xBF TwoMore bytes
Pending AfterF4 bytes = GoesOn 0x80 0x8F TwoMore bytes
Pending Wrong bytes = Unit {0}

between_says : (low high byte : ℕ) → is_between low high byte ≡ true → (low ≤ byte) × (byte ≤ high)
between_says low high byte is =
    let parts = and_parts (nat_le low byte) (nat_le byte high) is in
    (leb-true low byte parts.0, leb-true byte high parts.1)

-- one byte more
goes_on : (low high : ℕ) (next : Place) (P : List ℕ → Type 0) (bytes : List ℕ) (byte : ℕ) → ((bytes : List ℕ) → P bytes → Pending next bytes) → GoesOn low high P bytes
    → Pending (place_if low high next byte) (bytes ++ byte ∷ [])
goes_on low high next P bytes byte gives on = by (is_between low high byte) refl
  where
    by : (inside : Bool) → is_between low high byte ≡ inside → Pending (if inside then next else Wrong) (bytes ++ byte ∷ [])
    by true is = let bounds = between_says low high byte is in gives (bytes ++ byte ∷ []) (on byte bounds.0 bounds.1)
    by false is = tt

pending_after : (place : Place) (bytes : List ℕ) (byte : ℕ) → place ≢ Between → Pending place bytes → Pending (place_after_byte place byte) (bytes ++ byte ∷ [])
pending_after Between bytes byte apart pending = absurd (apart refl)
pending_after Last bytes byte apart pending = goes_on 0x80 0xBF Between IsEncoded bytes byte (λ bytes p. p) pending
pending_after LastTwo bytes byte apart pending = goes_on 0x80 0xBF Last OneMore bytes byte (λ bytes p. p) pending
pending_after LastThree bytes byte apart pending = goes_on 0x80 0xBF LastTwo TwoMore bytes byte (λ bytes p. p) pending
pending_after AfterE0 bytes byte apart pending = goes_on 0xA0 0xBF Last OneMore bytes byte (λ bytes p. p) pending
pending_after AfterED bytes byte apart pending = goes_on 0x80 0x9F Last OneMore bytes byte (λ bytes p. p) pending
pending_after AfterEF bytes byte apart pending = by (byte == 0xBF) refl
  where
    by : (last : Bool) → (byte == 0xBF) ≡ last → Pending (if last then AfterEFBF else place_if 0x80 0xBE Last byte) (bytes ++ byte ∷ [])
    by true is = let same = eqb-true byte 0xBF is in pending.1 byte (omega arith) (omega arith)
    by false is = goes_on 0x80 0xBE Last OneMore bytes byte (λ bytes p. p) pending.0
pending_after AfterEFBF bytes byte apart pending = goes_on 0x80 0xBD Between IsEncoded bytes byte (λ bytes p. p) pending
pending_after AfterF0 bytes byte apart pending = goes_on 0x90 0xBF LastTwo TwoMore bytes byte (λ bytes p. p) pending
pending_after AfterF4 bytes byte apart pending = goes_on 0x80 0x8F LastTwo TwoMore bytes byte (λ bytes p. p) pending
pending_after Wrong bytes byte apart pending = tt

-- ---- characters, by their number

between_true : (low high number : ℕ) → low ≤ number → number ≤ high → is_between low high number ≡ true
between_true low high number above below = rw (le-leb low number above, le-leb number high below) refl

pub low_character : (number : ℕ) → 0x20 ≤ number → number ≤ 0xD7FF → is_character number ≡ true
low_character number above below = rw (between_true 0x20 0xD7FF number above below) (simp or-true refl)

pub middle_character : (number : ℕ) → 0xE000 ≤ number → number ≤ 0xFFFD → is_character number ≡ true
middle_character number above below = rw (between_true 0xE000 0xFFFD number above below) (simp or-true refl)

pub high_character : (number : ℕ) → 0x10000 ≤ number → number ≤ 0x10FFFF → is_character number ≡ true
high_character number above below = rw (between_true 0x10000 0x10FFFF number above below) (simp or-true refl)

le-not_lt : (a b : ℕ) → b ≤ a → nat_lt a b ≡ false
le-not_lt a b above = by (nat_lt a b) refl
  where
    by : (below : Bool) → nat_lt a b ≡ below → below ≡ false
    by true is = absurd (omega (arith, ltb-true a b is))
    by false is = refl

encode_two : (first second : ℕ) → 2 ≤ first → first < 32 → second < 64 → encode_utf8 (first * 64 + second) ≡ (192 + first) ∷ (128 + second) ∷ []
unfolding encode
encode_two first second above below low =
    let n = first * 64 + second in
    let one : n / 64 ≡ first = omega arith in
    let two : n % 64 ≡ second = omega arith in
    rw (le-not_lt n 128 (omega arith), lt-ltb n 2048 (omega arith), one, two) refl

encode_three : (first second third : ℕ) → first < 16 → second < 64 → third < 64 → 2048 ≤ (first * 64 + second) * 64 + third
    → encode_utf8 ((first * 64 + second) * 64 + third) ≡ (224 + first) ∷ (128 + second) ∷ (128 + third) ∷ []
unfolding encode
encode_three first second third below low lower above =
    let n = (first * 64 + second) * 64 + third in
    let one : n / 4096 ≡ first = omega arith in
    let two : (n / 64) % 64 ≡ second = omega arith in
    let three : n % 64 ≡ third = omega arith in
    rw (le-not_lt n 128 (omega arith), le-not_lt n 2048 above, lt-ltb n 65536 (omega arith), one, two, three) refl

encode_four : (first second third fourth : ℕ) → first < 8 → second < 64 → third < 64 → fourth < 64 → 65536 ≤ ((first * 64 + second) * 64 + third) * 64 + fourth
    → encode_utf8 (((first * 64 + second) * 64 + third) * 64 + fourth) ≡ (240 + first) ∷ (128 + second) ∷ (128 + third) ∷ (128 + fourth) ∷ []
unfolding encode
encode_four first second third fourth below low lower lowest above =
    let n = ((first * 64 + second) * 64 + third) * 64 + fourth in
    let one : n / 262144 ≡ first = omega arith in
    let two : (n / 4096) % 64 ≡ second = omega arith in
    let three : (n / 64) % 64 ≡ third = omega arith in
    let four : n % 64 ≡ fourth = omega arith in
    rw (le-not_lt n 128 (omega arith), le-not_lt n 2048 (omega arith), le-not_lt n 65536 above, one, two, three, four) refl

-- ---- the first byte of a character

encoded_one : (byte : ℕ) → ((byte == 0x9) || (byte == 0xA) || (byte == 0xD) || is_between 0x20 0x7F byte) ≡ true → IsEncoded (byte ∷ [])
encoded_one byte is = by (byte == 0x9) (byte == 0xA) (byte == 0xD) (is_between 0x20 0x7F byte) refl refl refl refl is
  where
    low : byte < 128 → is_character byte ≡ true → IsEncoded (byte ∷ [])
    low below is = record { character = byte; is = is; spelt = encode_ascii byte below }

    known : (number : ℕ) → number < 128 → is_character number ≡ true → (byte == number) ≡ true → IsEncoded (byte ∷ [])
    known number below is same = let e : byte ≡ number = eqb-true byte number same in low (omega arith) (ap is_character e ∙ is)

    by : (tab feed return other : Bool) → (byte == 0x9) ≡ tab → (byte == 0xA) ≡ feed → (byte == 0xD) ≡ return → is_between 0x20 0x7F byte ≡ other
        → (tab || feed || return || other) ≡ true → IsEncoded (byte ∷ [])
    by true feed return other t f r o is = known 0x9 (omega arith) refl t
    by false true return other t f r o is = known 0xA (omega arith) refl f
    by false false true other t f r o is = known 0xD (omega arith) refl r
    by false false false true t f r o is = let bounds = between_says 0x20 0x7F byte o in low (omega arith) (low_character byte (omega arith) (omega arith))
    by false false false false t f r o is = cc

encoded_two : (b c : ℕ) → 0xC2 ≤ b → b ≤ 0xDF → 0x80 ≤ c → c ≤ 0xBF → IsEncoded (b ∷ c ∷ [])
encoded_two b c b_low b_high c_low c_high =
    let first : (192 + (b - 192)) ≡ b = omega arith in
    let second : (128 + (c - 128)) ≡ c = omega arith in
    record {
      character = (b - 192) * 64 + (c - 128);
      is = low_character ((b - 192) * 64 + (c - 128)) (omega arith) (omega arith);
      spelt = encode_two (b - 192) (c - 128) (omega arith) (omega arith) (omega arith) ∙ rw (first, second) refl;
    }

abbrev number_of_three : ℕ → ℕ → ℕ → ℕ
number_of_three b c d = ((b - 224) * 64 + (c - 128)) * 64 + (d - 128)

encoded_three : (b c d : ℕ) → 0xE0 ≤ b → b ≤ 0xEF → 0x80 ≤ c → c ≤ 0xBF → 0x80 ≤ d → d ≤ 0xBF → 2048 ≤ number_of_three b c d → is_character (number_of_three b c d) ≡ true
    → IsEncoded (b ∷ c ∷ d ∷ [])
encoded_three b c d b_low b_high c_low c_high d_low d_high above is =
    let first : (224 + (b - 224)) ≡ b = omega arith in
    let second : (128 + (c - 128)) ≡ c = omega arith in
    let third : (128 + (d - 128)) ≡ d = omega arith in
    record {
      character = number_of_three b c d;
      is = is;
      spelt = encode_three (b - 224) (c - 128) (d - 128) (omega arith) (omega arith) (omega arith) above ∙ rw (first, second, third) refl;
    }

abbrev number_of_four : ℕ → ℕ → ℕ → ℕ → ℕ
number_of_four b c d e = (((b - 240) * 64 + (c - 128)) * 64 + (d - 128)) * 64 + (e - 128)

encoded_four : (b c d e : ℕ) → 0xF0 ≤ b → b ≤ 0xF4 → 0x80 ≤ c → c ≤ 0xBF → 0x80 ≤ d → d ≤ 0xBF → 0x80 ≤ e → e ≤ 0xBF → 65536 ≤ number_of_four b c d e → number_of_four b c d e ≤ 0x10FFFF
    → IsEncoded (b ∷ c ∷ d ∷ e ∷ [])
encoded_four b c d e b_low b_high c_low c_high d_low d_high e_low e_high above below =
    let first : (240 + (b - 240)) ≡ b = omega arith in
    let second : (128 + (c - 128)) ≡ c = omega arith in
    let third : (128 + (d - 128)) ≡ d = omega arith in
    let fourth : (128 + (e - 128)) ≡ e = omega arith in
    record {
      character = number_of_four b c d e;
      is = high_character (number_of_four b c d e) above below;
      spelt = encode_four (b - 240) (c - 128) (d - 128) (e - 128) (omega arith) (omega arith) (omega arith) (omega arith) above ∙ rw (first, second, third, fourth) refl;
    }

two_more : (b : ℕ) → 0xE1 ≤ b → b ≤ 0xEE → b ≢ 0xED → TwoMore (b ∷ [])
two_more b low high apart c c_low c_high d d_low d_high =
    encoded_three b c d (omega arith) (omega arith) c_low c_high d_low d_high (omega arith) (by (nat_lt b 0xED) refl)
  where
    by : (below : Bool) → nat_lt b 0xED ≡ below → is_character (number_of_three b c d) ≡ true
    by true is = let h = ltb-true b 0xED is in low_character (number_of_three b c d) (omega arith) (omega arith)
    by false is = let h = ltb-false b 0xED is in middle_character (number_of_three b c d) (omega arith) (omega arith)

pending_first : (byte : ℕ) → Pending (place_after_first byte) (byte ∷ [])
pending_first b =
    by ((b == 0x9) || (b == 0xA) || (b == 0xD) || is_between 0x20 0x7F b) (is_between 0xC2 0xDF b) (b == 0xE0) (b == 0xED) (b == 0xEF) (is_between 0xE1 0xEE b) (b == 0xF0) (is_between 0xF1 0xF3 b) (b == 0xF4)
    refl refl refl refl refl refl refl refl refl
  where
    by : (one two e0 ed ef three f0 four f4 : Bool) → ((b == 0x9) || (b == 0xA) || (b == 0xD) || is_between 0x20 0x7F b) ≡ one → is_between 0xC2 0xDF b ≡ two
        → (b == 0xE0) ≡ e0 → (b == 0xED) ≡ ed → (b == 0xEF) ≡ ef → is_between 0xE1 0xEE b ≡ three → (b == 0xF0) ≡ f0 → is_between 0xF1 0xF3 b ≡ four → (b == 0xF4) ≡ f4
        → Pending (if one then Between else if two then Last else if e0 then AfterE0 else if ed then AfterED else if ef then AfterEF else if three then LastTwo else if f0 then AfterF0 else if four then LastThree else if f4 then AfterF4 else Wrong) (b ∷ [])
    by true two e0 ed ef three f0 four f4 o t e d f h z l m = encoded_one b o
    by false true e0 ed ef three f0 four f4 o t e d f h z l m = let bounds = between_says 0xC2 0xDF b t in λ c low high. encoded_two b c bounds.0 bounds.1 low high
    by false false true ed ef three f0 four f4 o t e d f h z l m =
        let is = eqb-true b 0xE0 e in
        λ c c_low c_high d d_low d_high. encoded_three b c d (omega arith) (omega arith) (omega arith) c_high d_low d_high (omega arith) (low_character (number_of_three b c d) (omega arith) (omega arith))
    by false false false true ef three f0 four f4 o t e d f h z l m =
        let is = eqb-true b 0xED d in
        λ c c_low c_high d d_low d_high. encoded_three b c d (omega arith) (omega arith) (omega arith) (omega arith) d_low d_high (omega arith) (low_character (number_of_three b c d) (omega arith) (omega arith))
    by false false false false true three f0 four f4 o t e d f h z l m =
        let is = eqb-true b 0xEF f in (
          λ c c_low c_high d d_low d_high. encoded_three b c d (omega arith) (omega arith) (omega arith) (omega arith) d_low d_high (omega arith) (middle_character (number_of_three b c d) (omega arith) (omega arith)),
          λ c c_low c_high d d_low d_high. encoded_three b c d (omega arith) (omega arith) (omega arith) (omega arith) d_low (omega arith) (omega arith) (middle_character (number_of_three b c d) (omega arith) (omega arith)),
        )
    by false false false false false true f0 four f4 o t e d f h z l m =
        let bounds = between_says 0xE1 0xEE b h in two_more b bounds.0 bounds.1 (eqb-false b 0xED d)
    by false false false false false false true four f4 o t e d f h z l m =
        let is = eqb-true b 0xF0 z in
        λ c c_low c_high d d_low d_high e e_low e_high. encoded_four b c d e (omega arith) (omega arith) (omega arith) c_high d_low d_high e_low e_high (omega arith) (omega arith)
    by false false false false false false false true f4 o t e d f h z l m =
        let bounds = between_says 0xF1 0xF3 b l in
        λ c c_low c_high d d_low d_high e e_low e_high. encoded_four b c d e (omega arith) (omega arith) c_low c_high d_low d_high e_low e_high (omega arith) (omega arith)
    by false false false false false false false false true o t e d f h z l m =
        let is = eqb-true b 0xF4 m in
        λ c c_low c_high d d_low d_high e e_low e_high. encoded_four b c d e (omega arith) (omega arith) c_low (omega arith) d_low d_high e_low e_high (omega arith) (omega arith)
    by false false false false false false false false false o t e d f h z l m = tt

-- ---- all characters of a text

record IsSpelt (bytes : List ℕ) : Type 0 where
  pub characters : List ℕ
  pub are : list_all is_character characters ≡ true
  pub spelt : encode_utf8_all characters ≡ bytes

-- between two characters nothing has come, and else what is pending
abbrev HasCome : Place → List ℕ → Type 0
HasCome Between bytes = bytes ≡ []
HasCome place bytes = Pending place bytes

pending_next : (place : Place) (so_far : List ℕ) (byte : ℕ) → HasCome place so_far → Pending (place_after_byte place byte) (so_far ++ byte ∷ [])
pending_next Between so_far byte none = subst (λ (bytes : List ℕ). Pending (place_after_first byte) (bytes ++ byte ∷ [])) (sym none) (pending_first byte)
pending_next Last so_far byte come = pending_after Last so_far byte (λ same. cc) come
pending_next LastTwo so_far byte come = pending_after LastTwo so_far byte (λ same. cc) come
pending_next LastThree so_far byte come = pending_after LastThree so_far byte (λ same. cc) come
pending_next AfterE0 so_far byte come = pending_after AfterE0 so_far byte (λ same. cc) come
pending_next AfterED so_far byte come = pending_after AfterED so_far byte (λ same. cc) come
pending_next AfterEF so_far byte come = pending_after AfterEF so_far byte (λ same. cc) come
pending_next AfterEFBF so_far byte come = pending_after AfterEFBF so_far byte (λ same. cc) come
pending_next AfterF0 so_far byte come = pending_after AfterF0 so_far byte (λ same. cc) come
pending_next AfterF4 so_far byte come = pending_after AfterF4 so_far byte (λ same. cc) come
pending_next Wrong so_far byte come = tt

one_more : (front bytes : List ℕ) → IsEncoded front → IsSpelt bytes → IsSpelt (front ++ bytes)
one_more front bytes one others = record {
  characters = one.character ∷ others.characters;
  are = rw (one.is, others.are) refl;
  spelt = ap (λ (front : List ℕ). front ++ encode_utf8_all others.characters) one.spelt ∙ ap (λ (bytes : List ℕ). front ++ bytes) others.spelt;
}

spelt_at_end : (place : Place) (so_far : List ℕ) → HasCome place so_far → is_whole place ≡ true → IsSpelt (so_far ++ [])
spelt_at_end Between so_far none whole = subst (λ (bytes : List ℕ). IsSpelt (bytes ++ [])) (sym none) (record { characters = []; are = refl; spelt = refl })
spelt_at_end Last so_far come whole = cc
spelt_at_end LastTwo so_far come whole = cc
spelt_at_end LastThree so_far come whole = cc
spelt_at_end AfterE0 so_far come whole = cc
spelt_at_end AfterED so_far come whole = cc
spelt_at_end AfterEF so_far come whole = cc
spelt_at_end AfterEFBF so_far come whole = cc
spelt_at_end AfterF0 so_far come whole = cc
spelt_at_end AfterF4 so_far come whole = cc
spelt_at_end Wrong so_far come whole = cc

spelt_by_bytes : (bytes : List ℕ) (place : Place) (so_far : List ℕ) → HasCome place so_far → is_whole (place_after place bytes) ≡ true → IsSpelt (so_far ++ bytes)
spelt_by_bytes [] place so_far come whole = spelt_at_end place so_far come whole
spelt_by_bytes (byte ∷ bytes) place so_far come whole =
    subst IsSpelt (append_assoc so_far (byte ∷ []) bytes)
    (by (place_after_byte place byte) (pending_next place so_far byte come) whole (spelt_by_bytes bytes))
  where
    by : (next : Place) → Pending next (so_far ++ byte ∷ []) → is_whole (place_after next bytes) ≡ true
        → ((place : Place) (so_far : List ℕ) → HasCome place so_far → is_whole (place_after place bytes) ≡ true → IsSpelt (so_far ++ bytes)) → IsSpelt ((so_far ++ byte ∷ []) ++ bytes)
    by Between pending whole others = one_more (so_far ++ byte ∷ []) bytes pending (others Between [] refl whole)
    by Last pending whole others = others Last (so_far ++ byte ∷ []) pending whole
    by LastTwo pending whole others = others LastTwo (so_far ++ byte ∷ []) pending whole
    by LastThree pending whole others = others LastThree (so_far ++ byte ∷ []) pending whole
    by AfterE0 pending whole others = others AfterE0 (so_far ++ byte ∷ []) pending whole
    by AfterED pending whole others = others AfterED (so_far ++ byte ∷ []) pending whole
    by AfterEF pending whole others = others AfterEF (so_far ++ byte ∷ []) pending whole
    by AfterEFBF pending whole others = others AfterEFBF (so_far ++ byte ∷ []) pending whole
    by AfterF0 pending whole others = others AfterF0 (so_far ++ byte ∷ []) pending whole
    by AfterF4 pending whole others = others AfterF4 (so_far ++ byte ∷ []) pending whole
    by Wrong pending whole others = others Wrong (so_far ++ byte ∷ []) pending whole

-- ---- from characters to bytes

equal_false : (a b : ℕ) → a ≢ b → (a == b) ≡ false
equal_false a b apart = by (a == b) refl
  where
    by : (same : Bool) → (a == b) ≡ same → same ≡ false
    by true is = absurd (apart (eqb-true a b is))
    by false is = refl

not_between : (low high number : ℕ) → (number < low) ⊎ (high < number) → is_between low high number ≡ false
not_between low high number outside = by (is_between low high number) refl outside
  where
    by : (inside : Bool) → is_between low high number ≡ inside → (number < low) ⊎ (high < number) → inside ≡ false
    by true is (inl below) = let bounds = between_says low high number is in absurd (omega arith)
    by true is (inr above) = let bounds = between_says low high number is in absurd (omega arith)
    by false is outside = refl

no_single : (byte : ℕ) → 0x80 ≤ byte → ((byte == 0x9) || (byte == 0xA) || (byte == 0xD) || is_between 0x20 0x7F byte) ≡ false
no_single byte above =
    let tab : byte ≢ 0x9 = λ is. omega arith in
    let feed : byte ≢ 0xA = λ is. omega arith in
    let return : byte ≢ 0xD = λ is. omega arith in
    rw (equal_false byte 0x9 tab, equal_false byte 0xA feed, equal_false byte 0xD return, not_between 0x20 0x7F byte (inr (omega arith))) refl

begins_two : (byte : ℕ) → 0xC2 ≤ byte → byte ≤ 0xDF → place_after_first byte ≡ Last
begins_two byte above below = rw (no_single byte (omega arith), between_true 0xC2 0xDF byte above below) refl

begins_three : (byte : ℕ) → 0xE1 ≤ byte → byte ≤ 0xEE → byte ≢ 0xED → place_after_first byte ≡ LastTwo
begins_three byte above below apart =
    let e0 : byte ≢ 0xE0 = λ is. omega arith in
    let ef : byte ≢ 0xEF = λ is. omega arith in
    rw (no_single byte (omega arith), not_between 0xC2 0xDF byte (inr (omega arith)), equal_false byte 0xE0 e0, equal_false byte 0xED apart, equal_false byte 0xEF ef, between_true 0xE1 0xEE byte above below) refl

begins_four : (byte : ℕ) → 0xF1 ≤ byte → byte ≤ 0xF3 → place_after_first byte ≡ LastThree
begins_four byte above below =
    let e0 : byte ≢ 0xE0 = λ is. omega arith in
    let ed : byte ≢ 0xED = λ is. omega arith in
    let ef : byte ≢ 0xEF = λ is. omega arith in
    let f0 : byte ≢ 0xF0 = λ is. omega arith in
    rw (
      no_single byte (omega arith),
      not_between 0xC2 0xDF byte (inr (omega arith)),
      equal_false byte 0xE0 e0,
      equal_false byte 0xED ed,
      equal_false byte 0xEF ef,
      not_between 0xE1 0xEE byte (inr (omega arith)),
      equal_false byte 0xF0 f0,
      between_true 0xF1 0xF3 byte above below,
    ) refl

-- what a character is, by ranges of its number
data Range (number : ℕ) : Type 0 where
  single : ((number == 0x9) || (number == 0xA) || (number == 0xD) || is_between 0x20 0x7F number) ≡ true → number < 0x80 → Range number
  low : 0x80 ≤ number → number ≤ 0xD7FF → Range number
  middle : 0xE000 ≤ number → number ≤ 0xFFFD → Range number
  high : 0x10000 ≤ number → number ≤ 0x10FFFF → Range number

range_of : (number : ℕ) → is_character number ≡ true → Range number
range_of number is = by (number == 0x9) (number == 0xA) (number == 0xD) (is_between 0x20 0xD7FF number) (is_between 0xE000 0xFFFD number) (is_between 0x10000 0x10FFFF number) refl refl refl refl refl refl is
  where
    below : (nat_lt number 0x80 ≡ true) ⊎ (nat_lt number 0x80 ≡ false)
    below = by_bool (nat_lt number 0x80) refl
      where
        by_bool : (b : Bool) → nat_lt number 0x80 ≡ b → (nat_lt number 0x80 ≡ true) ⊎ (nat_lt number 0x80 ≡ false)
        by_bool true is = inl is
        by_bool false is = inr is

    by : (tab feed return a b c : Bool) → (number == 0x9) ≡ tab → (number == 0xA) ≡ feed → (number == 0xD) ≡ return → is_between 0x20 0xD7FF number ≡ a → is_between 0xE000 0xFFFD number ≡ b → is_between 0x10000 0x10FFFF number ≡ c
        → (tab || feed || return || a || b || c) ≡ true → Range number
    by true feed return a b c t f r x y z is = let e = eqb-true number 0x9 t in single (rw t refl) (omega arith)
    by false true return a b c t f r x y z is = let e = eqb-true number 0xA f in single (rw (t, f) refl) (omega arith)
    by false false true a b c t f r x y z is = let e = eqb-true number 0xD r in single (rw (t, f, r) refl) (omega arith)
    by false false false true b c t f r x y z is = let bounds = between_says 0x20 0xD7FF number x in
        elim below as (λ h. Range number) [
          | inl h ↦ let l = ltb-true number 0x80 h in single (rw (t, f, r) (between_true 0x20 0x7F number bounds.0 (omega arith))) l
          | inr h ↦ let l = ltb-false number 0x80 h in low l bounds.1
        ]
    by false false false false true c t f r x y z is = let bounds = between_says 0xE000 0xFFFD number y in middle bounds.0 bounds.1
    by false false false false false true t f r x y z is = let bounds = between_says 0x10000 0x10FFFF number z in high bounds.0 bounds.1
    by false false false false false false t f r x y z is = cc

pub character_below : (number : ℕ) → is_character number ≡ true → number ≤ 0x10FFFF
character_below number is = elim (range_of number is) as (λ range. number ≤ 0x10FFFF) [
  | single one below ↦ omega arith
  | low above below ↦ omega arith
  | middle above below ↦ omega arith
  | high above below ↦ below
]

-- ---- the bytes of a character

end_is : (byte : ℕ) → 0x80 ≤ byte → byte ≤ 0xBF → place_after Last (byte ∷ []) ≡ Between
end_is byte above below = rw (between_true 0x80 0xBF byte above below) refl

two_are : (c d : ℕ) → 0x80 ≤ c → c ≤ 0xBF → 0x80 ≤ d → d ≤ 0xBF → place_after LastTwo (c ∷ d ∷ []) ≡ Between
two_are c d c_low c_high d_low d_high = rw (between_true 0x80 0xBF c c_low c_high) (end_is d d_low d_high)

single_byte : (c : ℕ) → ((c == 0x9) || (c == 0xA) || (c == 0xD) || is_between 0x20 0x7F c) ≡ true → c < 0x80 → place_after Between (encode_utf8 c) ≡ Between
single_byte c is below = rw (encode_ascii c below, is) refl

two_bytes : (c : ℕ) → 0x80 ≤ c → c < 0x800 → place_after Between (encode_utf8 c) ≡ Between
unfolding encode
two_bytes c above below =
    rw (le-not_lt c 128 above, lt-ltb c 2048 below, begins_two (192 + c / 64) (omega arith) (omega arith)) (end_is (128 + c % 64) (omega arith) (omega arith))

-- the three bytes of a number
three_of : (c : ℕ) → 0x800 ≤ c → c < 0x10000 → encode_utf8 c ≡ (224 + c / 4096) ∷ (128 + (c / 64) % 64) ∷ (128 + c % 64) ∷ []
unfolding encode
three_of c above below = rw (le-not_lt c 128 (omega arith), le-not_lt c 2048 above, lt-ltb c 65536 below) refl

four_of : (c : ℕ) → 0x10000 ≤ c → encode_utf8 c ≡ (240 + c / 262144) ∷ (128 + (c / 4096) % 64) ∷ (128 + (c / 64) % 64) ∷ (128 + c % 64) ∷ []
unfolding encode
four_of c above = rw (le-not_lt c 128 (omega arith), le-not_lt c 2048 (omega arith), le-not_lt c 65536 above) refl

three_bytes : (b c d : ℕ) → 0xE0 ≤ b → b ≤ 0xEF → 0x80 ≤ c → c ≤ 0xBF → 0x80 ≤ d → d ≤ 0xBF → (b ≡ 0xE0 → 0xA0 ≤ c) → (b ≡ 0xED → c ≤ 0x9F) → (b ≡ 0xEF → c ≡ 0xBF → d ≤ 0xBD)
    → place_after Between (b ∷ c ∷ d ∷ []) ≡ Between
three_bytes b c d b_low b_high c_low c_high d_low d_high at_e0 at_ed at_ef = by (b == 0xE0) (b == 0xED) (b == 0xEF) refl refl refl
  where
    by : (e0 ed ef : Bool) → (b == 0xE0) ≡ e0 → (b == 0xED) ≡ ed → (b == 0xEF) ≡ ef → place_after (place_after_first b) (c ∷ d ∷ []) ≡ Between
    by true ed ef z y x = let is = eqb-true b 0xE0 z in
        rw (ap place_after_first is, between_true 0xA0 0xBF c (at_e0 is) c_high) (end_is d d_low d_high)
    by false true ef z y x = let is = eqb-true b 0xED y in
        rw (ap place_after_first is, between_true 0x80 0x9F c c_low (at_ed is)) (end_is d d_low d_high)
    by false false true z y x = let is = eqb-true b 0xEF x in
        rw (ap place_after_first is) (last (c == 0xBF) refl is)
      where
        last : (bf : Bool) → (c == 0xBF) ≡ bf → b ≡ 0xEF → place_after (if bf then AfterEFBF else place_if 0x80 0xBE Last c) (d ∷ []) ≡ Between
        last true is at = rw (between_true 0x80 0xBD d d_low (at_ef at (eqb-true c 0xBF is))) refl
        last false is at = let apart = eqb-false c 0xBF is in rw (between_true 0x80 0xBE c c_low (omega arith)) (end_is d d_low d_high)
    by false false false z y x =
        let no_e0 = eqb-false b 0xE0 z in
        let no_ef = eqb-false b 0xEF x in
        rw (begins_three b (omega arith) (omega arith) (eqb-false b 0xED y)) (two_are c d c_low c_high d_low d_high)

four_bytes : (b c d e : ℕ) → 0xF0 ≤ b → b ≤ 0xF4 → 0x80 ≤ c → c ≤ 0xBF → 0x80 ≤ d → d ≤ 0xBF → 0x80 ≤ e → e ≤ 0xBF → (b ≡ 0xF0 → 0x90 ≤ c) → (b ≡ 0xF4 → c ≤ 0x8F)
    → place_after Between (b ∷ c ∷ d ∷ e ∷ []) ≡ Between
four_bytes b c d e b_low b_high c_low c_high d_low d_high e_low e_high at_f0 at_f4 = by (b == 0xF0) (b == 0xF4) refl refl
  where
    by : (f0 f4 : Bool) → (b == 0xF0) ≡ f0 → (b == 0xF4) ≡ f4 → place_after (place_after_first b) (c ∷ d ∷ e ∷ []) ≡ Between
    by true f4 z y = let is = eqb-true b 0xF0 z in
        rw (ap place_after_first is, between_true 0x90 0xBF c (at_f0 is) c_high) (two_are d e d_low d_high e_low e_high)
    by false true z y = let is = eqb-true b 0xF4 y in
        rw (ap place_after_first is, between_true 0x80 0x8F c c_low (at_f4 is)) (two_are d e d_low d_high e_low e_high)
    by false false z y =
        let no_f0 = eqb-false b 0xF0 z in
        let no_f4 = eqb-false b 0xF4 y in
        rw (begins_four b (omega arith) (omega arith), between_true 0x80 0xBF c c_low c_high) (two_are d e d_low d_high e_low e_high)

-- a character is spelt by the bytes of one
pub character_is_whole : (c : ℕ) → is_character c ≡ true → place_after Between (encode_utf8 c) ≡ Between
character_is_whole c is = elim (range_of c is) as (λ range. place_after Between (encode_utf8 c) ≡ Between) [
  | single one below ↦ single_byte c one below
  | low above below ↦ by_size (nat_lt c 0x800) refl above below
  | middle above below ↦ rw (three_of c (omega arith) (omega arith))
      (three_bytes (224 + c / 4096) (128 + (c / 64) % 64) (128 + c % 64) (omega arith) (omega arith) (omega arith) (omega arith) (omega arith) (omega arith) (λ at. omega arith) (λ at. omega arith) (λ at at_last. omega arith))
  | high above below ↦ rw (four_of c above)
      (four_bytes (240 + c / 262144) (128 + (c / 4096) % 64) (128 + (c / 64) % 64) (128 + c % 64) (omega arith) (omega arith) (omega arith) (omega arith) (omega arith) (omega arith) (omega arith) (omega arith) (λ at. omega arith) (λ at. omega arith))
]
  where
    by_size : (short : Bool) → nat_lt c 0x800 ≡ short → 0x80 ≤ c → c ≤ 0xD7FF → place_after Between (encode_utf8 c) ≡ Between
    by_size true s above below = two_bytes c above (ltb-true c 0x800 s)
    by_size false s above below = let wide = ltb-false c 0x800 s in
        rw (three_of c wide (omega arith))
        (three_bytes (224 + c / 4096) (128 + (c / 64) % 64) (128 + c % 64) (omega arith) (omega arith) (omega arith) (omega arith) (omega arith) (omega arith) (λ at. omega arith) (λ at. omega arith) (λ at at_last. omega arith))

-- what follows on what
pub place_after_two : (place : Place) (front back : List ℕ) → place_after place (front ++ back) ≡ place_after (place_after place front) back
place_after_two place [] back = refl
place_after_two place (byte ∷ front) back = place_after_two (place_after_byte place byte) front back

pub characters_are_whole : (characters : List ℕ) → list_all is_character characters ≡ true → place_after Between (encode_utf8_all characters) ≡ Between
characters_are_whole [] are = refl
characters_are_whole (c ∷ characters) are =
    let parts = and_parts (is_character c) (list_all is_character characters) are in
    place_after_two Between (encode_utf8 c) (encode_utf8_all characters)
    ∙ ap (λ (place : Place). place_after place (encode_utf8_all characters)) (character_is_whole c parts.0)
    ∙ characters_are_whole characters parts.1

-- ---- both

scalar_character : (c : ℕ) → is_character c ≡ true → scalar c ≡ true
scalar_character c is = elim (range_of c is) as (λ range. scalar c ≡ true) [
  | single one below ↦ low_scalar c (omega arith)
  | low above below ↦ low_scalar c (omega arith)
  | middle above below ↦ above_surrogates above (omega arith)
  | high above below ↦ above_surrogates (omega arith) below
]
  where
    above_surrogates : 0xE000 ≤ c → c ≤ 0x10FFFF → scalar c ≡ true
    above_surrogates above below = rw (le-not_lt c 55296 (omega arith), le-leb 57344 c above, lt-ltb c 1114112 (omega arith)) refl

scalar_characters : (characters : List ℕ) → list_all is_character characters ≡ true → scalars characters ≡ true
scalar_characters [] are = refl
scalar_characters (c ∷ characters) are =
    let parts = and_parts (is_character c) (list_all is_character characters) are in
    rw (scalar_character c parts.0, scalar_characters characters parts.1) refl

text_says : (bytes : List ℕ) → is_text bytes ≡ true → spells_text bytes ≡ true
text_says bytes is =
    let parts = and_parts (is_utf8 bytes) (list_all is_character (chars bytes)) is in
    let whole : place_after Between bytes ≡ Between =
    ap (place_after Between) (sym (encodes-chars bytes (IsUtf8-from_is_utf8 bytes parts.0))) ∙ characters_are_whole (chars bytes) parts.1 in
    ap is_whole whole

bytes_say : (bytes : List ℕ) → spells_text bytes ≡ true → is_text bytes ≡ true
bytes_say bytes is =
    let one = spelt_by_bytes bytes Between [] refl is in
    let utf8 : IsUtf8 bytes = (one.characters, (scalar_characters one.characters one.are, one.spelt)) in
    let same : chars bytes ≡ one.characters = sym (chars_from_encodes one.characters bytes utf8 one.spelt) in
    rw (is_utf8-from_IsUtf8 bytes utf8, same, one.are) refl

pub texts_by_bytes : (bytes : List ℕ) → is_text bytes ≡ spells_text bytes
texts_by_bytes bytes = alike (is_text bytes) (spells_text bytes) (text_says bytes) (bytes_say bytes)
  where
    alike : (a b : Bool) → (a ≡ true → b ≡ true) → (b ≡ true → a ≡ true) → a ≡ b
    alike true b to from = sym (to refl)
    alike false true to from = from refl
    alike false false to from = refl
