-- Worked examples of heads, computed: those of RFC 9112 and RFC 9110, and heads at the edges of the rules.
use Rattle.std.proofs.Common.{◌≡◌, ◌∷◌, ◌++◌, [], ℕ, List, None, Some, Ok, Err, true, false, codes, refl}
use Rattle.std.specs.Str.{chars, is_utf8}
use lib.Utf8.{encode}
use Rattle.httparse.proofs.OnLiterals.{httparse_on_literals}
use Rattle.nm_http.specs.Fields.{FieldSaid, is_close, is_named, length_of, lists_close}
use Rattle.nm_http.specs.Framing.{field_lines, head_length, size_refusal}
use Rattle.nm_http.specs.Head.{head_of}
use Rattle.nm_http.specs.Requests.{request_by, request_of}
use Rattle.nm_http.specs.declared.error.HttpError.TheVariants.{Status}

abbrev crlf : List ℕ
crlf = 13 ∷ 10 ∷ []

-- ---- whole heads

-- RFC 9112, section 3.2.1
origin_form : request_of (codes "GET /where?q=now HTTP/1.1" ++ crlf ++ codes "Host: www.example.org" ++ crlf ++ crlf)
    ≡ Ok (record { method = codes "GET"; path = codes "/where?q=now"; length = None; close = false; expect = false })
unfolding size_refusal head_of request_by is_named httparse_on_literals chars is_utf8 encode
origin_form = refl

-- RFC 9112, sections 3.2.2 to 3.2.4: targets that do not begin with a slash
absolute_form : request_of (codes "GET http://www.example.org/pub/WWW/TheProject.html HTTP/1.1" ++ crlf ++ codes "Host: www.example.org" ++ crlf ++ crlf)
    ≡ Err (Status 400)
unfolding size_refusal head_of httparse_on_literals chars is_utf8 encode
absolute_form = refl

authority_form : request_of (codes "CONNECT www.example.com:80 HTTP/1.1" ++ crlf ++ codes "Host: www.example.com" ++ crlf ++ crlf) ≡ Err (Status 400)
unfolding size_refusal head_of httparse_on_literals chars is_utf8 encode
authority_form = refl

asterisk_form : request_of (codes "OPTIONS * HTTP/1.1" ++ crlf ++ codes "Host: www.example.org:8001" ++ crlf ++ crlf) ≡ Err (Status 400)
unfolding size_refusal head_of httparse_on_literals chars is_utf8 encode
asterisk_form = refl

-- RFC 9110, section 10.1.1
expecting : request_of (codes "PUT /somewhere/fun HTTP/1.1" ++ crlf ++ codes "Host: origin.example.com" ++ crlf ++ codes "Content-Type: video/h264" ++ crlf
    ++ codes "Content-Length: 1234567890987" ++ crlf ++ codes "Expect: 100-continue" ++ crlf ++ crlf)
    ≡ Ok (record { method = codes "PUT"; path = codes "/somewhere/fun"; length = Some 1234567890987; close = false; expect = true })
unfolding size_refusal head_of request_by is_named length_of httparse_on_literals chars is_utf8 encode
expecting = refl

-- RFC 9112, section 6.1
in_chunks : request_of (codes "POST / HTTP/1.1" ++ crlf ++ codes "Transfer-Encoding: gzip, chunked" ++ crlf ++ crlf) ≡ Err (Status 501)
unfolding size_refusal head_of request_by is_named httparse_on_literals chars is_utf8 encode
in_chunks = refl

-- an empty line may stand in front, and a line may end with LF alone
lenient : request_of (crlf ++ codes "GET / HTTP/1.0" ++ 10 ∷ [] ++ codes "Host: a" ++ crlf ++ crlf)
    ≡ Ok (record { method = codes "GET"; path = codes "/"; length = None; close = true; expect = false })
unfolding size_refusal head_of request_by is_named httparse_on_literals chars is_utf8 encode
lenient = refl

-- a head that ends by LF LF before the first CR LF CR LF
ends_sooner : request_of (codes "GET / HTTP/1.1" ++ 10 ∷ 10 ∷ [] ++ codes "Host: a" ++ crlf ++ crlf) ≡ Err (Status 400)
unfolding size_refusal head_of httparse_on_literals chars is_utf8 encode
ends_sooner = refl

no_request : request_of (crlf ++ crlf) ≡ Err (Status 400)
unfolding size_refusal head_of httparse_on_literals chars is_utf8 encode
no_request = refl

-- ---- where a head ends

front : head_length (codes "ab" ++ crlf ++ crlf ++ codes "c") ≡ Some 6
front = refl

line_feeds_alone : head_length (codes "a" ++ 10 ∷ 10 ∷ []) ≡ None
line_feeds_alone = refl

two_fields : field_lines (codes "a" ++ crlf ++ codes "b" ++ crlf ++ codes "c" ++ 10 ∷ [] ++ codes "d" ++ crlf ++ crlf) ≡ 2
two_fields = refl

-- ---- fields

-- an answer to a GET of `/` with these fields
abbrev one_field : List ℕ → List ℕ → List FieldSaid
one_field name value = (name, value) ∷ []

chunked : request_by (codes "POST") (codes "/") 1 (one_field (codes "TRANSFER-encoding") []) ≡ Err (Status 501)
unfolding request_by is_named
chunked = refl

signed_length : request_by (codes "POST") (codes "/") 1 (one_field (codes "Content-Length") (codes "+5")) ≡ Err (Status 400)
unfolding request_by is_named length_of
signed_length = refl

-- RFC 9110, section 8.6, lets a recipient take it
listed_length : request_by (codes "POST") (codes "/") 1 (one_field (codes "Content-Length") (codes "42, 42")) ≡ Err (Status 400)
unfolding request_by is_named length_of
listed_length = refl

no_length : request_by (codes "POST") (codes "/") 1 (one_field (codes "content-length") []) ≡ Err (Status 400)
unfolding request_by is_named length_of
no_length = refl

longest_length : length_of (codes "9999999999999999999") ≡ Some 9999999999999999999
unfolding length_of
longest_length = refl

twenty_digits : length_of (codes "00000000000000000005") ≡ None
unfolding length_of
twenty_digits = refl

lengths_alike : request_by (codes "POST") (codes "/") 1 ((codes "Content-Length", codes "5") ∷ (codes "content-length", codes "05") ∷ [])
    ≡ Ok (record { method = codes "POST"; path = codes "/"; length = Some 5; close = false; expect = false })
unfolding request_by is_named length_of
lengths_alike = refl

lengths_apart : request_by (codes "POST") (codes "/") 1 ((codes "Content-Length", codes "5") ∷ (codes "Content-Length", codes "6") ∷ [])
    ≡ Err (Status 400)
unfolding request_by is_named length_of
lengths_apart = refl

close_listed : lists_close (codes "keep-alive , Close") ≡ true
unfolding lists_close is_close
close_listed = refl

close_within : lists_close (codes "closed, not close") ≡ false
unfolding lists_close is_close
close_within = refl

old_version : request_by (codes "GET") (codes "/") 0 (one_field (codes "Expect") (codes "100-continue"))
    ≡ Ok (record { method = codes "GET"; path = codes "/"; length = None; close = true; expect = false })
unfolding request_by is_named
old_version = refl
