-- What `httparse` says of bytes, and the head that they are.
use Rattle.std.proofs.Common.{◌≡◌, ◌∙◌, ◌<◌, ℕ, true, List, [], ◌++◌, drop, Option, None, Some, Result, Ok, Err, refl, sym, ap, subst, arith, length, append-nil}
use Rattle.std.specs.Prelude.{map, nat_lt, OnErr}
use Rattle.std.proofs.lemmas.Bool.Decides.{nat_tests}
use Rattle.std.proofs.lemmas.List.{length-map}
use Rattle.std.proofs.Math.Seq.{drop-length}
use Rattle.httparse.proofs.GrammarLemmas.{request_unique, ReadsRequest-append}
use Rattle.httparse.specs.Borrowed.{HoldsSomeRequest}
use Rattle.http_header.specs.Token as method
use Rattle.httparse.specs.Grammar.{HasNoRequest, IsToken, ReadsRequest, RequestHead, is_token_byte, print_request}
use Rattle.httparse.specs.Outcome.{IfComplete, OnPartial}
use Rattle.httparse.specs.Spans.{RequestOverflows, name_and_value}
use Rattle.httparse.specs.declared.Error.{Error}
use Rattle.httparse.specs.declared.Status.{Status}
use Rattle.httparse.specs.declared.Status.TheVariants.{Complete, Partial}
use Rattle.httparse.specs.declared.borrowed.Request as parser
use Rattle.nm_http.specs.Head.{head_of}
use Rattle.nm_http.specs.Requests.{by_head}
use Rattle.nm_http.specs.declared.error.HttpError.TheVariants as errors
use Rattle.nm_http.proofs.HeadsFound.{head_found, head_told}

past_room : (n : ℕ) → 64 < n → nat_lt 64 n ≡ true
past_room n past = grind (arith, nat_tests)

-- bytes whose heads all have more fields than there is room for
pub refused_heads : (bytes : List ℕ) → ((head : RequestHead) → ReadsRequest bytes head [] → 64 < length head.fields)
    → by_head (head_of bytes) ≡ Err (errors.Status 400)
refused_heads bytes past = by (head_of bytes) refl
  where
    by : (found : Option RequestHead) → head_of bytes ≡ found → by_head found ≡ Err (errors.Status 400)
    by None is = refl
    by (Some head) is =
        let many : nat_lt 64 (length (map name_and_value head.fields)) ≡ true =
        past_room _ (rw length-map (past head (head_found bytes head is))) in
        rw many refl

-- a head that was found, and that is not all of the bytes
not_whole : (bytes : List ℕ) (count : ℕ) (head : RequestHead) → ReadsRequest bytes head (drop count bytes) → count ≡ length (print_request head)
    → (count ≡ length bytes → ⊥) → (other : RequestHead) → ReadsRequest bytes other [] → ⊥
not_whole bytes count head reads is apart other whole =
    let same = request_unique bytes head other (drop count bytes) [] reads whole in
    let all : bytes ≡ print_request head = reads.1 ∙ ap (λ rest. print_request head ++ rest) same.1 ∙ append-nil (print_request head) in
    apart (is ∙ ap length (sym all))

pub refused_parse : (bytes : List ℕ) (parsed : Result (Status ℕ) Error) (parser : parser.Request)
    → IfComplete parsed (HoldsSomeRequest bytes parser) → OnPartial parsed (HasNoRequest bytes) → OnErr parsed (RequestOverflows 64 bytes)
    → (parsed ≡ Ok (Complete (length bytes)) → ⊥) → by_head (head_of bytes) ≡ Err (errors.Status 400)
refused_parse bytes (Ok (Complete count)) parser complete partial overflows apart =
    refused_heads bytes (λ head whole. absurd (not_whole bytes count complete.0 complete.1.reads complete.1.len_is (λ is. apart (ap (λ n. Ok (Complete n)) is)) head whole))
refused_parse bytes (Ok Partial) parser complete partial overflows apart =
    refused_heads bytes (λ head whole. absurd (partial head [] whole))
refused_parse bytes (Err error) parser complete partial overflows apart =
    refused_heads bytes (λ head whole. overflows [] head [] (ReadsRequest-append bytes head [] [] whole))

-- a head that is all of the bytes
pub whole_head : (bytes : List ℕ) (parser : parser.Request) → (some : HoldsSomeRequest bytes parser (length bytes)) → head_of bytes ≡ Some some.0
whole_head bytes parser some =
    head_told bytes some.0 (subst (λ (rest : List ℕ). ReadsRequest bytes some.0 rest) (drop-length bytes) some.1.reads)

pub complete_is : (parsed : Result (Status ℕ) Error) (P : ℕ → Type 0) (count : ℕ) → IfComplete parsed P → parsed ≡ Ok (Complete count) → P count
complete_is parsed P count holds is = let Q : Result (Status ℕ) Error → Type 0 = λ one. IfComplete one P in subst Q is holds

-- a token of `httparse` is one of `http`
pub token_of : (bytes : List ℕ) → IsToken bytes → method.IsToken bytes
unfolding is_token_byte method.is_token_byte
token_of bytes token = token
