-- What the fields of a head say. A field is its name and its value without the white space around it.
use Rattle.std.specs.Prelude.{ℕ, List, Bool, false, ◌&&◌, ◌||◌, ◌==◌, not, codes, length, drop, take, find, nat_lt, nat_le, Option, None, Some, Result, Ok, Err, if◌then◌else◌}
use Rattle.std.specs.Char.{is_ascii_digit}
use Rattle.std.specs.List.{list_all, list_any, position_or_len, slice_split}
use Rattle.std.specs.Str.{str_eq_ignore_ascii_case}
use Rattle.std.specs.Str.Parse.{digits_value}
use Rattle.httparse.specs.Grammar.{is_ows}
use Rattle.nm_http.specs.declared.fields.BadLength.{BadLength}

abbrev pub FieldSaid : Type 0
FieldSaid = List ℕ × List ℕ

-- names are compared without regard to the case of letters (RFC 9110, section 5.1)
unfoldable pub is_named : List ℕ → FieldSaid → Bool
is_named name field = str_eq_ignore_ascii_case field.0 name

abbrev pub has_field : List ℕ → List FieldSaid → Bool
has_field name fields = list_any (is_named name) fields

-- ---- the length of the body (RFC 9112, section 6.2)

-- 1 to 19 decimal digits
abbrev pub is_length : List ℕ → Bool
is_length value = nat_lt 0 (length value) && nat_le (length value) 19 && list_all is_ascii_digit value

unfoldable pub length_of : List ℕ → Option ℕ
length_of value = if is_length value then Some (digits_value 10 value) else None

abbrev pub is_same_length : ℕ → Option ℕ → Bool
is_same_length number None = false
is_same_length number (Some other) = other == number

abbrev pub length_name : List ℕ
length_name = codes "content-length"

-- whether the field gives this length, where it gives one
abbrev pub agrees : ℕ → FieldSaid → Bool
agrees number field = not (is_named length_name field) || is_same_length number (length_of field.1)

abbrev pub by_length : Option ℕ → List FieldSaid → Result (Option ℕ) BadLength
by_length None fields = Err (record {})
by_length (Some number) fields = if list_all (agrees number) fields then Ok (Some number) else Err (record {})

abbrev pub by_first : Option FieldSaid → List FieldSaid → Result (Option ℕ) BadLength
by_first None fields = Ok None
by_first (Some field) fields = by_length (length_of field.1) fields

-- the length that the first `Content-Length` gives, where each gives that one
abbrev pub content_length : List FieldSaid → Result (Option ℕ) BadLength
content_length fields = by_first (find (is_named length_name) fields) fields

-- ---- the end of the connection (RFC 9112, section 9.6)

abbrev pub is_no_white : ℕ → Bool
is_no_white byte = not (is_ows byte)

-- the bytes from the first that is no space and no tab
abbrev pub without_white : List ℕ → List ℕ
without_white bytes = drop (position_or_len is_no_white bytes) bytes

-- `close` in any letter case, with spaces and tabs around it
abbrev pub is_close_word : List ℕ → Bool
is_close_word text = str_eq_ignore_ascii_case (take 5 text) (codes "close") && list_all is_ows (drop 5 text)

unfoldable pub is_close : List ℕ → Bool
is_close part = is_close_word (without_white part)

-- whether a part between commas is `close`
unfoldable pub lists_close : List ℕ → Bool
lists_close value = list_any is_close (slice_split (λ byte. byte == 44) value)

abbrev pub closes : FieldSaid → Bool
closes field = is_named (codes "connection") field && lists_close field.1

-- ---- what the client waits for (RFC 9110, section 10.1.1)

abbrev pub expects : FieldSaid → Bool
expects field = is_named (codes "expect") field && str_eq_ignore_ascii_case field.1 (codes "100-continue")
