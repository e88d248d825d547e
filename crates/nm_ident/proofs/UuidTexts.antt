-- The text of a UUID and its number: what is read, and that what is written reads back.
use Rattle.std.proofs.Common.{◌≡◌, ◌≢◌, ℕ, zero, suc, ◌+◌, ◌*◌, ◌^◌, ◌<◌, ◌==◌, List, [], ◌∷◌, length, All, Bool, true, false, if◌then◌else◌, Option, None, Some, inl, arith, refl, sym, ap, subst, slice_index, ◌&&◌, ◌∙◌}
use Rattle.std.proofs.lemmas.Bool.Decides.{nat_tests}
use Rattle.std.proofs.lemmas.List.Elements.{All-nil, All-cons}
use Rattle.std.proofs.lemmas.List.Folds.{list_all-append}
use Rattle.std.specs.Int.{w128, byte_at, bytes_high_first, to_be_bytes, from_be_bytes}
use Rattle.std.specs.List.{list_all}
use Rattle.std.specs.Option.{option_map}
use Rattle.uuid.proofs.OrderLemmas.{from_be_bytes-to_be_bytes_16}
use Rattle.uuid.proofs.RoundTrips.{parses_hyphenated}
use Rattle.uuid.proofs.TextLemmas.{by_index_at, by_index_length, nibble_small}
use Rattle.uuid.specs.Text.{by_index, lower, hex_digit, nibble, digit_place, is_hyphen_place, hyphenated_text, parsed, is_hex_digit, value_of, byte_of_digits, digits_of, has_hyphens}
use Rattle.nm_ident.specs.Laws.{UuidTextsReadBack}
use Rattle.nm_ident.specs.UuidText.{uuid_of, uuid_text, is_uuid_byte}

-- a text of another length is none
pub uuid_of-other_length : (text : List ℕ) → length text ≢ 36 → uuid_of text ≡ None
unfolding uuid_of
uuid_of-other_length text other =
    let differs : (length text == 36) ≡ false = grind (arith, nat_tests) in
    rw differs refl

-- a text of 36 bytes is read as `uuid` reads any text
pub uuid_of-parsed : (text : List ℕ) → length text ≡ 36 → uuid_of text ≡ option_map (from_be_bytes w128) (parsed text)
unfolding uuid_of
uuid_of-parsed text long = rw long refl

none_parsed : (value : Option (List ℕ)) → ((bytes : List ℕ) × (value ≡ Some bytes) → ⊥) → None ≡ option_map (from_be_bytes w128) value
none_parsed None refused = refl
none_parsed (Some bytes) refused = absurd (refused (bytes, refl))

pub uuid_of-not_parsed : (text : List ℕ) → length text ≡ 36 → ((bytes : List ℕ) × (parsed text ≡ Some bytes) → ⊥) → None ≡ uuid_of text
uuid_of-not_parsed text long refused = none_parsed (parsed text) refused ∙ sym (uuid_of-parsed text long)

byte_at-small : (i n : ℕ) → byte_at i n < 256
byte_at-small zero n = omega arith
byte_at-small (suc i) n = omega arith

bytes_high_first-small : (k n : ℕ) → All (λ b. b < 256) (bytes_high_first k n)
bytes_high_first-small zero n = All-nil (λ b. b < 256)
bytes_high_first-small (suc k) n =
    All-cons (λ b. b < 256) (byte_at k n) (bytes_high_first k n) (byte_at-small k n) (bytes_high_first-small k n)

pub length-uuid_text : (id : ℕ) → length (uuid_text id) ≡ 36
unfolding uuid_text
length-uuid_text id = by_index_length 36 _

-- what is written reads back
pub uuid_of-uuid_text : (id : ℕ) → id < 2 ^ 128 → uuid_of (uuid_text id) ≡ Some id
unfolding uuid_text
uuid_of-uuid_text id fits =
    let bytes : List ℕ = to_be_bytes w128 id in
    let read : Some bytes ≡ parsed (hyphenated_text lower bytes) =
    parses_hyphenated lower bytes (inl refl) refl (bytes_high_first-small 16 id) in
    uuid_of-parsed (hyphenated_text lower bytes) (by_index_length 36 _) ∙ ap (option_map (from_be_bytes w128)) (sym read) ∙ ap Some (from_be_bytes-to_be_bytes_16 id fits)

list_all-by_index : (test : ℕ → Bool) (n : ℕ) (f : ℕ → ℕ) → ((k : ℕ) → k < n → test (f k) ≡ true) → list_all test (by_index n f) ≡ true
unfolding by_index
list_all-by_index test zero f each = refl
list_all-by_index test (suc n) f each =
    rw (list_all-append test (by_index n f) (f n ∷ []), list_all-by_index test n f (λ k within. each k (omega arith)), each n (omega arith)) refl

hex_digit-is_uuid_byte : (d : ℕ) → d < 16 → is_uuid_byte (hex_digit lower d) ≡ true
hex_digit-is_uuid_byte d small = grind (arith, nat_tests)

either_is_uuid_byte : (b : Bool) (x y : ℕ) → is_uuid_byte x ≡ true → is_uuid_byte y ≡ true → is_uuid_byte (if b then x else y) ≡ true
either_is_uuid_byte true x y first second = first
either_is_uuid_byte false x y first second = second

-- hex digits in lower case and `-` alone
pub uuid_text-all_uuid_bytes : (id : ℕ) → list_all is_uuid_byte (uuid_text id) ≡ true
unfolding uuid_text
uuid_text-all_uuid_bytes id =
    let bytes : List ℕ = to_be_bytes w128 id in
    list_all-by_index is_uuid_byte 36 (λ k. if is_hyphen_place k then 45 else hex_digit lower (nibble bytes (digit_place k)))
    (λ k within. either_is_uuid_byte (is_hyphen_place k) 45 (hex_digit lower (nibble bytes (digit_place k))) refl
    (hex_digit-is_uuid_byte (nibble bytes (digit_place k)) (nibble_small bytes (digit_place k))))

sixteen_bytes-fit : (b0 b1 b2 b3 b4 b5 b6 b7 b8 b9 b10 b11 b12 b13 b14 b15 : ℕ) → b0 < 256 → b1 < 256 → b2 < 256 → b3 < 256 → b4 < 256 → b5 < 256 → b6 < 256 → b7 < 256 → b8 < 256 → b9 < 256 → b10 < 256 → b11 < 256 → b12 < 256 → b13 < 256 → b14 < 256 → b15 < 256
    → b0 * 256 ^ 15 + b1 * 256 ^ 14 + b2 * 256 ^ 13 + b3 * 256 ^ 12 + b4 * 256 ^ 11 + b5 * 256 ^ 10 + b6 * 256 ^ 9 + b7 * 256 ^ 8 + b8 * 256 ^ 7 + b9 * 256 ^ 6 + b10 * 256 ^ 5 + b11 * 256 ^ 4 + b12 * 256 ^ 3 + b13 * 256 ^ 2 + b14 * 256 ^ 1 + b15 < 2 ^ 128
sixteen_bytes-fit b0 b1 b2 b3 b4 b5 b6 b7 b8 b9 b10 b11 b12 b13 b14 b15 h0 h1 h2 h3 h4 h5 h6 h7 h8 h9 h10 h11 h12 h13 h14 h15 = omega arith

from_be_bytes-fits : (bytes : List ℕ) → ((i : ℕ) → i < 16 → slice_index bytes i < 256) → from_be_bytes w128 bytes < 2 ^ 128
from_be_bytes-fits bytes small =
    sixteen_bytes-fit (slice_index bytes 0) (slice_index bytes 1) (slice_index bytes 2) (slice_index bytes 3) (slice_index bytes 4) (slice_index bytes 5) (slice_index bytes 6) (slice_index bytes 7) (slice_index bytes 8) (slice_index bytes 9) (slice_index bytes 10) (slice_index bytes 11) (slice_index bytes 12) (slice_index bytes 13) (slice_index bytes 14) (slice_index bytes 15)
    (small 0 (omega arith)) (small 1 (omega arith)) (small 2 (omega arith)) (small 3 (omega arith)) (small 4 (omega arith)) (small 5 (omega arith)) (small 6 (omega arith)) (small 7 (omega arith)) (small 8 (omega arith)) (small 9 (omega arith)) (small 10 (omega arith)) (small 11 (omega arith)) (small 12 (omega arith)) (small 13 (omega arith)) (small 14 (omega arith)) (small 15 (omega arith))

-- a place past the end reads as 0, whose value is 0
digit_value-small : (digits : List ℕ) (k : ℕ) → list_all is_hex_digit digits ≡ true → value_of (slice_index digits k) < 16
digit_value-small [] k hex = omega arith
digit_value-small (digit ∷ digits) zero hex =
    let first : is_hex_digit digit ≡ true = grind arith in
    value-small digit first
  where
    value-small : (digit : ℕ) → is_hex_digit digit ≡ true → value_of digit < 16
    value-small digit hex = grind (arith, nat_tests)
digit_value-small (digit ∷ digits) (suc k) hex = digit_value-small digits k (grind arith)

byte_of_digits-small : (digits : List ℕ) → list_all is_hex_digit digits ≡ true → (k : ℕ) → byte_of_digits digits k < 256
byte_of_digits-small digits hex k =
    omega (arith, digit_value-small digits (2 * k) hex, digit_value-small digits (2 * k + 1) hex)

digits-fit : (digits : List ℕ) → list_all is_hex_digit digits ≡ true → from_be_bytes w128 (by_index 16 (byte_of_digits digits)) < 2 ^ 128
digits-fit digits hex =
    from_be_bytes-fits (by_index 16 (byte_of_digits digits))
    (λ i within. rw (by_index_at 16 (byte_of_digits digits) i 0 within) (byte_of_digits-small digits hex i))

-- a number that is read through three tests was read of the bytes behind them
read_through : (value : List ℕ → ℕ) (first second long hex : Bool) (bytes : List ℕ) (id : ℕ)
    → (if first then option_map value (if second then (if long && hex then Some bytes else None) else None) else None) ≡ Some id
    → (hex ≡ true) × (value bytes ≡ id)
read_through value true true true true bytes id read = (refl, cc)
read_through value true true true false bytes id read = absurd (let differ = read in cc)
read_through value true true false hex bytes id read = absurd (let differ = read in cc)
read_through value true false long hex bytes id read = absurd (let differ = read in cc)
read_through value false second long hex bytes id read = absurd (let differ = read in cc)

-- what is read has 128 bits
pub uuid_of-fits : (text : List ℕ) (id : ℕ) → uuid_of text ≡ Some id → id < 2 ^ 128
unfolding uuid_of
uuid_of-fits text id read =
    let digits : List ℕ = digits_of text in
    let through = read_through (from_be_bytes w128) (length text == 36) ((length text == 36) && has_hyphens text) (length digits == 32) (list_all is_hex_digit digits) (by_index 16 (byte_of_digits digits)) id read in
    let fits : from_be_bytes w128 (by_index 16 (byte_of_digits digits)) < 2 ^ 128 = digits-fit digits through.0 in
    subst (λ (n : ℕ). n < 2 ^ 128) through.1 fits

pub uuid_texts_read_back : UuidTextsReadBack
uuid_texts_read_back = record { read = uuid_of-uuid_text; size = length-uuid_text; bytes = uuid_text-all_uuid_bytes }
