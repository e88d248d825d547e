-- The lines of a log, read as the commands that they say.
use Rattle.std.proofs.Common.{◌≡◌, ◌∙◌, ℕ, zero, suc, ◌+◌, ◌^◌, ◌/◌, ◌%◌, ◌<◌, ◌≤◌, ◌==◌, List, [], ◌∷◌, ◌++◌, length, take, drop, get_or, Bool, true, false, ◌&&◌, ◌||◌, nat_lt, nat_le, if◌then◌else◌, None, Some, Ok, Err, IsTrue, codes, refl, sym, ap, arith, append_assoc}
use Rattle.std.proofs.lemmas.Bool.Decides.{nat_tests}
use Rattle.std.proofs.lemmas.Fmt.{decimal_digit, decimal_is_IsNumeral, first_decimal, length-decimal-le}
use Rattle.std.proofs.lemmas.List.{drop_at, length-append, take_at}
use Rattle.std.proofs.lemmas.List.Folds.{list_all-append}
use Rattle.std.proofs.lemmas.Str.Parse.{digit_from_value}
use Rattle.std.specs.Char.{digit_value, is_ascii_digit}
use Rattle.std.specs.Fmt.{decimal}
use Rattle.std.specs.List.{list_all, position, starts_with}
use Rattle.std.specs.Option.{option_map}
use Rattle.std.specs.Prelude.{nat_eq}
use Rattle.std.specs.Result.{result_ok}
use Rattle.std.specs.Str.Parse.{AllDigits, digits_value}
use Rattle.nm_day.proofs.Dates.{are_digits, both_so, is_spelt-facts}
use Rattle.nm_day.specs.Calendar.{is_civil, is_spelt, month_day_of, month_of, text_of, year_of}
use Rattle.nm_day.specs.Day.{day_of, is_day}
use Rattle.nm_ident.proofs.Idents.{list_all-weaker}
use Rattle.nm_ident.proofs.UuidTexts.{length-uuid_text, uuid_of-uuid_text, uuid_text-all_uuid_bytes}
use Rattle.nm_ident.specs.UuidText.{is_uuid_byte, uuid_of, uuid_text}
use Rattle.nm_model.specs.Limits.{longest_document}
use Rattle.nm_session.proofs.LineFeeds.{each-none}
use Rattle.nm_session.specs.Limits.{longest_line}
use Rattle.nm_session.specs.Stream.{is_line_feed}
use Rattle.nm_session.specs.Digits.{has_leading_zero}
use Rattle.nm_session.specs.Word.{dated_line, day_before_space, id_before_space, length_of, project_line, with_both, word_of}
use Rattle.nm_session.specs.PlainWord.{PlainWord, Base, End, File, Redate, Revise, Withdraw}

-- ---- bytes that end no line

abbrev pub is_plain : ℕ → Bool
is_plain byte = nat_lt 10 byte

abbrev ArePlain : List ℕ → Type 0
ArePlain bytes = list_all is_plain bytes ≡ true

both_plain : (xs ys : List ℕ) → ArePlain xs → ArePlain ys → ArePlain (xs ++ ys)
both_plain xs ys x y = list_all-append is_plain xs ys ∙ (λ i. x i && y i)

plain_at : (xs : List ℕ) (k : ℕ) → ArePlain xs → k < length xs → is_line_feed (get_or xs k 0) ≡ false
plain_at [] k plain within = absurd (omega arith)
plain_at (x ∷ xs) zero plain within = here x (both_so (is_plain x) (list_all is_plain xs) plain).0
  where
    here : (x : ℕ) → is_plain x ≡ true → is_line_feed x ≡ false
    here x h = grind (arith, nat_tests)
plain_at (x ∷ xs) (suc k) plain within = plain_at xs k (both_so (is_plain x) (list_all is_plain xs) plain).1 (omega arith)

no_line_feed : (xs : List ℕ) → ArePlain xs → position is_line_feed xs ≡ None
no_line_feed xs plain = each-none is_line_feed xs (λ k within. plain_at xs k plain within)

-- ---- numbers

digits_pass : (ds : List ℕ) → AllDigits 10 ds → list_all is_ascii_digit ds ≡ true
digits_pass [] a = refl
digits_pass (d ∷ ds) a = λ i. here d a.0 i && digits_pass ds a.1 i
  where
    here : (d : ℕ) → digit_value d < 10 → is_ascii_digit d ≡ true
    here d small = let range = digit_from_value d small in grind (arith, nat_tests)

digit-plain : (d : ℕ) → is_ascii_digit d ≡ true → is_plain d ≡ true
digit-plain d h = grind (arith, nat_tests)

-- the text of a number that a document's length can be
record IsLength (n : ℕ) : Type 0 where
  read : length_of (decimal n) ≡ Some n
  plain : ArePlain (decimal n)
  short : length (decimal n) ≤ 8

no_leading_zero : (n : ℕ) → n < 2 ^ 64 → has_leading_zero (decimal n) ≡ false
no_leading_zero zero small = ap has_leading_zero (decimal_digit 0 (omega arith))
no_leading_zero (suc n) small = by (get_or (decimal (suc n)) 0 0) (nat_lt 1 (length (decimal (suc n)))) (first_decimal (suc n) (omega arith) small)
  where
    by : (first : ℕ) (more : Bool) → 48 < first → ((first == 48) && more) ≡ false
    by first more h = let other : (first == 48) ≡ false = grind (arith, nat_tests) in ap (λ b. b && more) other

length_is : (n value : ℕ) (empty zeroed spelt small : Bool) → empty ≡ false → zeroed ≡ false → spelt ≡ true → small ≡ true → value ≡ n
    → (if empty || zeroed then None else (if spelt && small then Some value else None)) ≡ Some n
length_is n value empty zeroed spelt small e z s m v = λ i. if e i || z i then None else (if s i && m i then Some (v i) else None)

lengths : (n : ℕ) → n ≤ longest_document → IsLength n
unfolding length_of
lengths n most =
    let small : n < 2 ^ 64 = omega arith in
    let numeral = decimal_is_IsNumeral n small in
    let pass = digits_pass (decimal n) numeral.0.1 in
    record {
      read = length_is n (digits_value 10 (decimal n)) _ _ _ _ (some (length (decimal n)) numeral.0.0) (no_leading_zero n small) pass (fits (digits_value 10 (decimal n)) (omega (arith, numeral.1))) numeral.1;
      plain = list_all-weaker is_ascii_digit is_plain digit-plain (decimal n) pass;
      short = length-decimal-le 8 n (omega arith) (omega arith) small;
    }
  where
    some : (size : ℕ) → 0 < size → (size == 0) ≡ false
    some size h = grind (arith, nat_tests)

    fits : (value : ℕ) → value ≤ longest_document → nat_le value longest_document ≡ true
    fits value h = grind (arith, nat_tests)

-- ---- days

record IsDayText (day : List ℕ) : Type 0 where
  read : day_of day ≡ Ok day
  plain : ArePlain day
  size : length day ≡ 10

text_of-plain : (year month day : ℕ) → ArePlain (text_of year month day)
text_of-plain year month day =
    λ i. pass (year / 100 / 10) i && (pass (year / 100 % 10) i && (pass (year % 100 / 10) i && (pass (year % 100 % 10) i
    && (pass (month / 10) i && (pass (month % 10) i && (pass (day / 10) i && (pass (day % 10) i && true)))))))
  where
    pass : (n : ℕ) → is_plain (48 + n) ≡ true
    pass n = grind (arith, nat_tests)

days : (day : List ℕ) → IsTrue (is_day day) → IsDayText day
unfolding is_day
days day h =
    let parts = both_so (is_spelt day) (is_civil (year_of day) (month_of day) (month_day_of day)) h in
    let spelt = is_spelt-facts day parts.0 in
    record {
      read = ap (λ b. if b then Ok day else Err (record {})) h;
      plain = ap (list_all is_plain) (sym (are_digits day spelt).again) ∙ text_of-plain (year_of day) (month_of day) (month_day_of day);
      size = spelt.size;
    }

-- ---- ids

id-plain : (id : ℕ) → ArePlain (uuid_text id)
id-plain id = list_all-weaker is_uuid_byte is_plain here (uuid_text id) (uuid_text-all_uuid_bytes id)
  where
    here : (byte : ℕ) → is_uuid_byte byte ≡ true → is_plain byte ≡ true
    here byte h = grind (arith, nat_tests)

-- ---- lines

-- a line that says a command
pub record SaysWord (line : List ℕ) (word : PlainWord) : Type 0 where
  pub read : word_of line ≡ Some word
  pub short : length line ≤ longest_line
  pub whole : position is_line_feed line ≡ None

-- what stands behind a text and a space
behind_text : (text rest : List ℕ) (count : ℕ) → length text ≡ count → drop count (text ++ codes " " ++ rest) ≡ 32 ∷ rest
behind_text text rest count size = ap (drop count) (append_assoc text (codes " ") rest) ∙ drop_at text (32 ∷ rest) count size

text_before : (text rest : List ℕ) (count : ℕ) → length text ≡ count → take count (text ++ codes " " ++ rest) ≡ text
text_before text rest count size = ap (take count) (append_assoc text (codes " ") rest) ∙ take_at text (32 ∷ rest) count size

read_day : (day rest : List ℕ) → IsDayText day → day_before_space (day ++ codes " " ++ rest) ≡ Some day
unfolding day_before_space
read_day day rest d =
    (λ i. if starts_with nat_eq (behind_text day rest 10 d.size i) (codes " ") then result_ok (day_of (text_before day rest 10 d.size i)) else None)
    ∙ ap result_ok d.read

read_id : (id : ℕ) (rest : List ℕ) → id < 2 ^ 128 → id_before_space (uuid_text id ++ codes " " ++ rest) ≡ Some id
unfolding id_before_space
read_id id rest fits =
    (λ i. if starts_with nat_eq (behind_text (uuid_text id) rest 36 (length-uuid_text id) i) (codes " ") then uuid_of (text_before (uuid_text id) rest 36 (length-uuid_text id) i) else None)
    ∙ uuid_of-uuid_text id fits

pub base_line : (n : ℕ) → n ≤ longest_document → SaysWord (codes "base" ++ codes " " ++ decimal n) (Base n)
unfolding word_of
base_line n most =
    let number = lengths n most in
    record {
      read = ap (option_map Base) number.read;
      short = omega (arith, number.short);
      whole = no_line_feed (codes "base " ++ decimal n) (both_plain (codes "base ") (decimal n) refl number.plain);
    }

pub file_line : (day : List ℕ) (n : ℕ) → IsTrue (is_day day) → n ≤ longest_document → SaysWord (codes "file " ++ day ++ codes " " ++ decimal n) (File day n)
unfolding word_of dated_line
file_line day n is most =
    let number = lengths n most in
    let d = days day is in
    record {
      read = (λ i. with_both File (read_day day (decimal n) d i) (length_of (drop 1 (behind_text day (decimal n) 10 d.size i)))) ∙ ap (λ len. with_both File (Some day) len) number.read;
      short = omega (arith, number.short, d.size, length-append (day ++ codes " ") (decimal n), length-append day (codes " "));
      whole = no_line_feed (codes "file " ++ day ++ codes " " ++ decimal n) (both_plain (codes "file " ++ day ++ codes " ") (decimal n) (both_plain (codes "file " ++ day) (codes " ") (both_plain (codes "file ") day refl d.plain) refl) number.plain);
    }

pub revise_line : (id n : ℕ) → id < 2 ^ 128 → n ≤ longest_document → SaysWord (codes "revise " ++ uuid_text id ++ codes " " ++ decimal n) (Revise id n)
unfolding word_of dated_line project_line
revise_line id n fits most =
    let number = lengths n most in
    let size = length-uuid_text id in
    record {
      read = (λ i. with_both Revise (read_id id (decimal n) fits i) (length_of (drop 1 (behind_text (uuid_text id) (decimal n) 36 size i)))) ∙ ap (λ len. with_both Revise (Some id) len) number.read;
      short = omega (arith, number.short, size, length-append (uuid_text id ++ codes " ") (decimal n), length-append (uuid_text id) (codes " "));
      whole = no_line_feed (codes "revise " ++ uuid_text id ++ codes " " ++ decimal n) (both_plain (codes "revise " ++ uuid_text id ++ codes " ") (decimal n) (both_plain (codes "revise " ++ uuid_text id) (codes " ") (both_plain (codes "revise ") (uuid_text id) refl (id-plain id)) refl) number.plain);
    }

pub redate_line : (id : ℕ) (day : List ℕ) → id < 2 ^ 128 → IsTrue (is_day day) → SaysWord (codes "redate " ++ uuid_text id ++ codes " " ++ day) (Redate id day)
unfolding word_of dated_line project_line
redate_line id day fits is =
    let d = days day is in
    let size = length-uuid_text id in
    record {
      read = (λ i. with_both Redate (read_id id day fits i) (result_ok (day_of (drop 1 (behind_text (uuid_text id) day 36 size i))))) ∙ ap (λ read. with_both Redate (Some id) (result_ok read)) d.read;
      short = omega (arith, d.size, size, length-append (uuid_text id ++ codes " ") day, length-append (uuid_text id) (codes " "));
      whole = no_line_feed (codes "redate " ++ uuid_text id ++ codes " " ++ day) (both_plain (codes "redate " ++ uuid_text id ++ codes " ") day (both_plain (codes "redate " ++ uuid_text id) (codes " ") (both_plain (codes "redate ") (uuid_text id) refl (id-plain id)) refl) d.plain);
    }

pub withdraw_line : (id : ℕ) → id < 2 ^ 128 → SaysWord (codes "withdraw " ++ uuid_text id) (Withdraw id)
unfolding word_of dated_line project_line
withdraw_line id fits = record {
  read = ap (option_map Withdraw) (uuid_of-uuid_text id fits);
  short = omega (arith, length-uuid_text id);
  whole = no_line_feed (codes "withdraw " ++ uuid_text id) (both_plain (codes "withdraw ") (uuid_text id) refl (id-plain id));
}

pub end_line : SaysWord (codes "end") End
unfolding word_of
end_line = record { read = refl; short = omega arith; whole = refl }
