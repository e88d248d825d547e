use Rattle.std.proofs.Common.{◌≡◌, ℕ, List, length, refl, subst}
use Rattle.std.specs.Prelude.{OnErr}
use Rattle.httparse.specs.Borrowed.{HoldsSomeRequest}
use Rattle.httparse.specs.Spans.{RequestOverflows}
use Rattle.nm_terms.specs.Due.{IsDue}
use Rattle.nm_http.specs.Fields.{FieldSaid}
use Rattle.nm_http.specs.HttpError.{wants_memory}
use Rattle.nm_http.specs.Requests.{by_words}
use Rattle.nm_http.proofs.Parsed.{complete_is, refused_parse, token_of, whole_head}
use Rattle.nm_http.proofs.head.read_head.Goals as goal

pub returns-then-not-is_whole : goal.returns-then-not-is_whole
returns-then-not-is_whole c =
    let room : length c.new-head.result.headers.now ≡ 64 = rw c.new-head.ensures.room refl in
    refused_parse c.args.bytes.now c.parse-parsed.result c.parse-parsed.new.self c.parse-parsed.ensures.complete c.parse-parsed.ensures.partial
    (subst (λ (n : ℕ). OnErr c.parse-parsed.result (RequestOverflows n c.args.bytes.now)) room c.parse-parsed.ensures.no_room)
    c.if-not-is_whole.ensures.other

pub returns : goal.returns
returns c =
    let some = complete_is c.parse-parsed.result (HoldsSomeRequest c.args.bytes.now c.parse-parsed.new.self) (length c.args.bytes.now) c.parse-parsed.ensures.complete c.if-not-is_whole.ensures.yes in
    let due = c.request_of_parsed.ensures some.0.method some.0.target some.0.minor some.1.method some.1.path some.1.version (token_of some.0.method some.1.reads.0.method) in
    rw (whole_head c.args.bytes.now c.parse-parsed.new.self some)
    (subst (λ (fields : List FieldSaid). IsDue wants_memory c.request_of_parsed.result (by_words some.0.method some.0.target some.0.minor fields)) some.1.fields due)
