-- What a head asks, or the status with which it is refused. The first that applies is answered: 431 for a
-- head that is too large, 400 for bytes that are no head, 501 for a body that is sent in chunks, 400 for a
-- length that is none.
use Rattle.std.specs.Prelude.{ℕ, List, Bool, ◌&&◌, ◌||◌, ◌==◌, not, codes, length, map, nat_lt, nat_eq, Option, None, Some, Result, Ok, Err, if◌then◌else◌}
use Rattle.std.specs.List.{list_any, starts_with}
use Rattle.httparse.specs.Grammar.{RequestHead}
use Rattle.httparse.specs.Spans.{name_and_value}
use Rattle.nm_http.specs.Fields.{FieldSaid, closes, content_length, expects, has_field}
use Rattle.nm_http.specs.Framing.{size_refusal}
use Rattle.nm_http.specs.Head.{head_of}
use Rattle.nm_http.specs.Limits.{most_fields}
use Rattle.nm_http.specs.declared.error.HttpError.{HttpError}
use Rattle.nm_http.specs.declared.error.HttpError.TheVariants.{Status}
use Rattle.nm_http.specs.declared.fields.BadLength.{BadLength}
use Rattle.nm_http.specs.declared.message.Request.{Request}

-- a version, `HTTP/1.` and this digit, and the fields
abbrev pub closes_behind : ℕ → List FieldSaid → Bool
closes_behind minor fields = (minor == 0) || list_any closes fields

abbrev pub expects_word : ℕ → List FieldSaid → Bool
expects_word minor fields = (minor == 1) && list_any expects fields

abbrev pub request_with : Option ℕ → List ℕ → List ℕ → ℕ → List FieldSaid → Request
request_with length method target minor fields = record {
  method = method;
  path = target;
  length = length;
  close = closes_behind minor fields;
  expect = expects_word minor fields;
}

abbrev pub with_length : Result (Option ℕ) BadLength → List ℕ → List ℕ → ℕ → List FieldSaid → Result Request HttpError
with_length (Err error) method target minor fields = Err (Status 400)
with_length (Ok length) method target minor fields = Ok (request_with length method target minor fields)

-- the request of the words of a head and its fields
unfoldable pub request_by : List ℕ → List ℕ → ℕ → List FieldSaid → Result Request HttpError
request_by method target minor fields =
    if has_field (codes "transfer-encoding") fields then Err (Status 501)
    else with_length (content_length fields) method target minor fields

abbrev pub begins_with_slash : List ℕ → Bool
begins_with_slash target = starts_with nat_eq target (codes "/")

abbrev pub by_words : List ℕ → List ℕ → ℕ → List FieldSaid → Result Request HttpError
by_words method target minor fields =
    if nat_lt most_fields (length fields) || not (begins_with_slash target) then Err (Status 400)
    else request_by method target minor fields

abbrev pub by_head : Option RequestHead → Result Request HttpError
by_head None = Err (Status 400)
by_head (Some head) = by_words head.method head.target head.minor (map name_and_value head.fields)

abbrev pub by_size : Option ℕ → List ℕ → Result Request HttpError
by_size (Some status) bytes = Err (Status status)
by_size None bytes = by_head (head_of bytes)

abbrev pub request_of : List ℕ → Result Request HttpError
request_of bytes = by_size (size_refusal bytes) bytes
