-- What the lines of a head suggest is that head.
use Rattle.std.proofs.Common.{◌≡◌, ◌∙◌, ◌+◌, ◌-◌, ℕ, Bool, true, false, List, [], ◌∷◌, ◌++◌, refl, sym, ap, append_assoc, append-nil, arith}
use Rattle.std.specs.Prelude.{◌&&◌, slice_index}
use Rattle.std.specs.List.{list_all, flat_map}
use Rattle.std.proofs.lemmas.Bool.Decides.{nat_tests}
use Rattle.httparse.proofs.GrammarLemmas.{print_request-append}
use Rattle.httparse.specs.Grammar.{Field, LineEnd, print_blank, print_end, print_field, print_section, print_version, print_request, RequestHead, is_token, is_token_byte, is_uri_byte, is_value_byte}
use Rattle.nm_http.specs.Lines.{Line, is_empty, lines_of}
use Rattle.nm_http.specs.Head.{before, behind, from_start, field_of, fields_of, last_end, suggested, suggested_by, is_field, is_target, is_sound}
use Rattle.nm_http.proofs.LinesRead.{both, otherwise, differs, all_pass, all_joined, is_other, cut_before, cut_behind, is_plain, line_read, blank_read}

-- ---- which bytes stand in which part

pub and_true : (a b : Bool) → a ≡ true → b ≡ true → (a && b) ≡ true
and_true true b one two = two
and_true false b one two = cc

plain : (test : ℕ → Bool) → test 10 ≡ false → test 13 ≡ false → (bytes : List ℕ) → list_all test bytes ≡ true → list_all is_plain bytes ≡ true
plain test feed return bytes all =
    all_pass test is_plain (λ byte holds. and_true _ _ (differs test 10 byte feed holds) (differs test 13 byte return holds)) bytes all

lacking : (test : ℕ → Bool) (mark : ℕ) → test mark ≡ false → (bytes : List ℕ) → list_all test bytes ≡ true → list_all (is_other mark) bytes ≡ true
lacking test mark out bytes all = all_pass test (is_other mark) (λ byte holds. differs test mark byte out holds) bytes all

token_feed : is_token_byte 10 ≡ false
unfolding is_token_byte
token_feed = refl

token_return : is_token_byte 13 ≡ false
unfolding is_token_byte
token_return = refl

token_space : is_token_byte 32 ≡ false
unfolding is_token_byte
token_space = refl

token_colon : is_token_byte 58 ≡ false
unfolding is_token_byte
token_colon = refl

-- ---- fields

not_empty : (first : List ℕ) (byte : ℕ) (second : List ℕ) → is_empty (first ++ byte ∷ second) ≡ false
not_empty [] byte second = refl
not_empty (other ∷ first) byte second = refl

field_text : Field → List ℕ
field_text field = field.name ++ 58 ∷ field.raw

field_plain : (field : Field) → is_field field ≡ true → list_all is_plain (field.name ++ 58 ∷ field.raw) ≡ true
field_plain field holds =
    let parts = both (is_token field.name) (list_all is_value_byte field.raw) holds in
    let name = both _ (list_all is_token_byte field.name) parts.0 in
    all_joined is_plain field.name (58 ∷ field.raw) (plain is_token_byte token_feed token_return field.name name.1)
    (plain is_value_byte refl refl field.raw parts.1)

field_read : (field : Field) → is_field field ≡ true → field_of (record { text = field.name ++ 58 ∷ field.raw; end = field.end }) ≡ field
field_read field holds =
    let parts = both (is_token field.name) (list_all is_value_byte field.raw) holds in
    let name = both _ (list_all is_token_byte field.name) parts.0 in
    let free = lacking is_token_byte 58 token_colon field.name name.1 in
    let one = cut_before 58 field.name field.raw free in
    let two = cut_behind 58 field.name field.raw free in
    λ i. record { name = one i; raw = two i; end = field.end }

-- the lines of a section
pub section_lines : List Field → LineEnd → List Line
section_lines [] last = (record { text = []; end = last }) ∷ []
section_lines (field ∷ fields) last = (record { text = field.name ++ 58 ∷ field.raw; end = field.end }) ∷ section_lines fields last

regroup : (text end fields last : List ℕ) → ((text ++ end) ++ fields) ++ last ≡ text ++ (end ++ (fields ++ last))
regroup text end fields last = simp append_assoc refl

pub section_read : (fields : List Field) (last : LineEnd) → list_all is_field fields ≡ true
    → (fields_of (lines_of (print_section fields last)) ≡ fields) × (last_end (lines_of (print_section fields last)) ≡ last)
section_read [] last all = by last
  where
    by : (end : LineEnd) → (fields_of (lines_of (print_section [] end)) ≡ []) × (last_end (lines_of (print_section [] end)) ≡ end)
    by end = rw (ap lines_of (sym (append-nil (print_end end))) ∙ line_read [] end [] refl) (refl, refl)
section_read (field ∷ fields) last all =
    let parts = both (is_field field) (list_all is_field fields) all in
    let others = section_read fields last parts.1 in
    let text = field.name ++ 58 ∷ field.raw in
    let lines : lines_of (print_section (field ∷ fields) last) ≡ (record { text = text; end = field.end }) ∷ lines_of (print_section fields last) =
    ap lines_of (regroup text (print_end field.end) (flat_map print_field fields) (print_end last))
    ∙ line_read text field.end (print_section fields last) (field_plain field parts.0) in
    rw lines (
      otherwise (is_empty text) _ _ (not_empty field.name 58 field.raw)
          ∙ ap (λ one. one ∷ fields_of (lines_of (print_section fields last))) (field_read field parts.0)
          ∙ ap (λ all. field ∷ all) others.0,
      otherwise (is_empty text) _ _ (not_empty field.name 58 field.raw) ∙ others.1,
    )

-- ---- the request line

abbrev pub request_text : RequestHead → List ℕ
request_text head = head.method ++ 32 ∷ (head.target ++ 32 ∷ print_version head.minor)

digit_plain : (minor : ℕ) → is_plain (48 + minor) ≡ true
digit_plain minor = grind (arith, nat_tests)

version_plain : (minor : ℕ) → list_all is_plain (print_version minor) ≡ true
version_plain minor = and_true (is_plain (48 + minor)) true (digit_plain minor) refl

minor_read : (minor : ℕ) → slice_index (print_version minor) 7 - 48 ≡ minor
minor_read minor = omega arith

regroup_start : (method target version rest : List ℕ)
    → method ++ 32 ∷ (target ++ 32 ∷ (version ++ rest)) ≡ (method ++ 32 ∷ (target ++ 32 ∷ version)) ++ rest
regroup_start method target version rest =
    ap (λ tail. method ++ 32 ∷ tail) (sym (append_assoc target (32 ∷ version) rest))
    ∙ sym (append_assoc method (32 ∷ (target ++ 32 ∷ version)) rest)

-- the bytes of a head, as lines
printed : (head : RequestHead) → print_request head
    ≡ print_blank head.blank ++ (request_text head ++ (print_end head.line_end ++ print_section head.fields head.last))
printed head =
    sym (append-nil (print_request head)) ∙ print_request-append head []
    ∙ ap (λ section. print_blank head.blank ++ (head.method ++ 32 ∷ (head.target ++ 32 ∷ (print_version head.minor ++ (print_end head.line_end ++ section)))))
    (append-nil (print_section head.fields head.last))
    ∙ ap (λ rest. print_blank head.blank ++ rest)
    (regroup_start head.method head.target (print_version head.minor) (print_end head.line_end ++ print_section head.fields head.last))

pub head_read : (head : RequestHead) → is_sound head ≡ true → suggested (lines_of (print_request head)) ≡ head
head_read head holds =
    let front = both _ (list_all is_field head.fields) holds in
    let words = both _ _ front.0 in
    let tokens = both (is_token head.method) (is_target head.target) words.0 in
    let method = both _ (list_all is_token_byte head.method) tokens.0 in
    let target = both _ _ tokens.1 in
    let uri = both _ (list_all is_uri_byte head.target) target.0 in
    let section = section_read head.fields head.last front.1 in
    let text_plain : list_all is_plain (request_text head) ≡ true =
    all_joined is_plain head.method _ (plain is_token_byte token_feed token_return head.method method.1)
    (all_joined is_plain head.target _ (plain is_uri_byte refl refl head.target uri.1) (version_plain head.minor)) in
    let line = line_read (request_text head) head.line_end (print_section head.fields head.last) text_plain in
    let blank = blank_read head.blank _ _ _ line (not_empty head.method 32 (head.target ++ 32 ∷ print_version head.minor)) in
    let no_space = lacking is_token_byte 32 token_space head.method method.1 in
    let rest : behind 32 (request_text head) ≡ head.target ++ 32 ∷ print_version head.minor =
    cut_behind 32 head.method (head.target ++ 32 ∷ print_version head.minor) no_space in
    let first = cut_before 32 head.method (head.target ++ 32 ∷ print_version head.minor) no_space in
    let none = lacking is_uri_byte 32 refl head.target uri.1 in
    let second = ap (before 32) rest ∙ cut_before 32 head.target (print_version head.minor) none in
    let third = ap (λ text. slice_index (behind 32 text) 7 - 48) rest
    ∙ ap (λ text. slice_index text 7 - 48) (cut_behind 32 head.target (print_version head.minor) none)
    ∙ minor_read head.minor in
    ap (λ bytes. suggested (lines_of bytes)) (printed head)
    ∙ ap (λ ends. suggested_by ends (from_start (lines_of (print_blank head.blank ++ (request_text head ++ (print_end head.line_end ++ print_section head.fields head.last)))))) blank.0
    ∙ ap (suggested_by head.blank) blank.1
    ∙ (λ i. record {
      blank = head.blank;
      method = first i;
      target = second i;
      minor = third i;
      line_end = head.line_end;
      fields = section.0 i;
      last = section.1 i;
    })
