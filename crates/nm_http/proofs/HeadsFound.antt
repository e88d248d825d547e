-- A head is found exactly where the grammar of `httparse` has it.
use Rattle.std.proofs.Common.{◌≡◌, ◌∙◌, ◌≤◌, ◌<◌, ℕ, Bool, true, false, List, [], ◌∷◌, None, Some, refl, sym, ap, subst, append-nil, arith, length}
use Rattle.std.specs.Prelude.{nat_lt, nat_le, All, if◌then◌else◌}
use Rattle.std.specs.Cmp.Lexicographic.{bytes_decides, nat_list_eq_equiv}
use Rattle.std.specs.List.{list_all}
use Rattle.std.specs.Str.{is_utf8}
use Rattle.std.proofs.lemmas.Bool.Decides.{nat_tests}
use Rattle.std.proofs.lemmas.List.Sums.{AllPass-from_list_all, list_all-from_AllPass}
use Rattle.std.proofs.lemmas.List.Elements.{All-cons, All-nil}
use Rattle.std.proofs.lemmas.Str.{IsUtf8-from_is_utf8, is_utf8-from_IsUtf8}
use Rattle.httparse.specs.Grammar.{Field, IsField, IsToken, IsRequestHead, ReadsRequest, RequestHead, is_token, is_token_byte, is_uri_byte, is_value_byte, print_request}
use Rattle.nm_terms.specs.Bytes.{same_text}
use Rattle.nm_http.specs.Lines.{lines_of}
use Rattle.nm_http.specs.Head.{head_of, is_field, is_head, is_sound, is_target, suggested}
use Rattle.nm_http.proofs.LinesRead.{both}
use Rattle.nm_http.proofs.HeadsRead.{and_true, head_read}

above_zero : (n : ℕ) → nat_lt 0 n ≡ true → 0 < n
above_zero n holds = grind (arith, nat_tests)

zero_below : (n : ℕ) → 0 < n → nat_lt 0 n ≡ true
zero_below n holds = grind (arith, nat_tests)

at_most_one : (n : ℕ) → nat_le n 1 ≡ true → n ≤ 1
at_most_one n holds = grind (arith, nat_tests)

one_at_most : (n : ℕ) → n ≤ 1 → nat_le n 1 ≡ true
one_at_most n holds = grind (arith, nat_tests)

-- ---- tests and facts

token_is : (bytes : List ℕ) → is_token bytes ≡ true → IsToken bytes
token_is bytes holds =
    let parts = both (nat_lt 0 (length bytes)) (list_all is_token_byte bytes) holds in
    (above_zero (length bytes) parts.0, AllPass-from_list_all is_token_byte bytes parts.1)

token_passes : (bytes : List ℕ) → IsToken bytes → is_token bytes ≡ true
token_passes bytes token =
    and_true (nat_lt 0 (length bytes)) (list_all is_token_byte bytes) (zero_below (length bytes) token.0) (list_all-from_AllPass is_token_byte bytes token.1)

field_is : (field : Field) → is_field field ≡ true → IsField field
field_is field holds =
    let parts = both (is_token field.name) (list_all is_value_byte field.raw) holds in
    record { name = token_is field.name parts.0; raw = AllPass-from_list_all is_value_byte field.raw parts.1 }

field_passes : (field : Field) → IsField field → is_field field ≡ true
field_passes field is =
    and_true (is_token field.name) (list_all is_value_byte field.raw) (token_passes field.name is.name) (list_all-from_AllPass is_value_byte field.raw is.raw)

fields_are : (fields : List Field) → list_all is_field fields ≡ true → All IsField fields
fields_are [] all = All-nil IsField
fields_are (field ∷ fields) all =
    let parts = both (is_field field) (list_all is_field fields) all in
    All-cons IsField field fields (field_is field parts.0) (fields_are fields parts.1)

fields_pass : (fields : List Field) → All IsField fields → list_all is_field fields ≡ true
fields_pass fields all = list_all-from_AllPass is_field fields (λ k one within. field_passes _ (all k one within))

sound_is : (head : RequestHead) → is_sound head ≡ true → IsRequestHead head
sound_is head holds =
    let front = both _ (list_all is_field head.fields) holds in
    let words = both _ (nat_le head.minor 1) front.0 in
    let tokens = both (is_token head.method) (is_target head.target) words.0 in
    let target = both _ (is_utf8 head.target) tokens.1 in
    let uri = both (nat_lt 0 (length head.target)) (list_all is_uri_byte head.target) target.0 in
    record {
      method = token_is head.method tokens.0;
      target = (above_zero (length head.target) uri.0, AllPass-from_list_all is_uri_byte head.target uri.1);
      target_text = IsUtf8-from_is_utf8 head.target target.1;
      minor = at_most_one head.minor words.1;
      fields = fields_are head.fields front.1;
    }

sound_passes : (head : RequestHead) → IsRequestHead head → is_sound head ≡ true
sound_passes head is =
    and_true _ (list_all is_field head.fields)
    (and_true _ (nat_le head.minor 1)
    (and_true (is_token head.method) (is_target head.target) (token_passes head.method is.method)
    (and_true _ (is_utf8 head.target)
    (and_true (nat_lt 0 (length head.target)) (list_all is_uri_byte head.target) (zero_below (length head.target) is.target.0) (list_all-from_AllPass is_uri_byte head.target is.target.1))
    (is_utf8-from_IsUtf8 head.target is.target_text)))
    (one_at_most head.minor is.minor))
    (fields_pass head.fields is.fields)

-- ---- heads

chosen : (test : Bool) (one head : RequestHead) → (if test then Some one else None) ≡ Some head → (test ≡ true) × (one ≡ head)
chosen true one head is = (refl, cc)
chosen false one head is = cc

pub head_found : (bytes : List ℕ) (head : RequestHead) → head_of bytes ≡ Some head → ReadsRequest bytes head []
unfolding head_of
head_found bytes head is =
    let found = chosen (is_head (suggested (lines_of bytes)) bytes) (suggested (lines_of bytes)) head is in
    let holds : is_head head bytes ≡ true = subst (λ (one : RequestHead). is_head one bytes ≡ true) found.1 found.0 in
    let parts = both (is_sound head) (same_text (print_request head) bytes) holds in
    (sound_is head parts.0, sym ((bytes_decides (print_request head) bytes).0 parts.1) ∙ sym (append-nil (print_request head)))

taken : (test : Bool) (one head : RequestHead) → test ≡ true → one ≡ head → (if test then Some one else None) ≡ Some head
taken true one head holds is = ap Some is
taken false one head holds is = cc

pub head_told : (bytes : List ℕ) (head : RequestHead) → ReadsRequest bytes head [] → head_of bytes ≡ Some head
unfolding head_of
head_told bytes head reads =
    let spelt : bytes ≡ print_request head = reads.1 ∙ append-nil (print_request head) in
    let sound = sound_passes head reads.0 in
    let is : suggested (lines_of bytes) ≡ head = ap (λ text. suggested (lines_of text)) spelt ∙ head_read head sound in
    let holds : is_head head bytes ≡ true =
    and_true (is_sound head) (same_text (print_request head) bytes) sound (rw spelt (nat_list_eq_equiv.refl (print_request head))) in
    taken (is_head (suggested (lines_of bytes)) bytes) (suggested (lines_of bytes)) head (rw is holds) is
