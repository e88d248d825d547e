-- What bytes with references stand for, where they are read from the front.
use Rattle.std.proofs.Common.{◌≡◌, ◌∙◌, ℕ, ◌+◌, ◌-◌, ◌<◌, Bool, true, false, not, ◌||◌, List, [], ◌∷◌, ◌++◌, length, map, Option, None, Some, refl, sym, ap, subst, arith, append_assoc, append-nil, length-append, encode_utf8, if◌then◌else◌}
use Rattle.std.specs.Prelude.{◌==◌}
use Rattle.std.specs.Fmt.{option_append}
use Rattle.std.specs.Option.{option_map}
use Rattle.std.proofs.lemmas.Bool.{and_parts, eqb-true}
use Rattle.std.proofs.lemmas.List.{map-append}
use Rattle.std.proofs.lemmas.List.Folds.{list_all-append}
use Rattle.nm_text.specs.LineEnds.{begins_with_line_feed, normal_lines, read_before}
use Rattle.nm_text.specs.Meaning.{meaning_of, prepared, white_as_space, with_spaces}
use Rattle.nm_text.specs.Reference.{first_stray, meant_behind, reference_at, referred, without_references}
use Rattle.nm_text.specs.Split.{IsSplitBefore, begins_or_ends, lacks}
use Rattle.nm_text.specs.White.{is_white}
use Rattle.nm_text.specs.declared.meaning.Form.{Form}
use Rattle.nm_text.specs.declared.meaning.Form.TheVariants.{Plain, Run, Value}
use Rattle.nm_text.proofs.EndsOfLines.{lines_behind_plain}
use Rattle.nm_text.proofs.ReferenceNames.{line_feed_is_foreign, referred_lacks, return_is_foreign, tab_is_foreign}
use Rattle.nm_text.proofs.References.{reference_at_says}
use Rattle.nm_text.proofs.Unread.{stray_means_nothing}
use Rattle.nm_text.proofs.Strays.{IsReadTo, goes_on, later, later_twice, reference_of, strays_behind_plain, strays_behind_reference}

-- ---- texts that may be wanting

append_none : (rest : Option (List ℕ)) → option_append (Some []) rest ≡ rest
append_none None = refl
append_none (Some rest) = refl

pub append_twice : (first second : List ℕ) (rest : Option (List ℕ)) → option_append (Some first) (option_append (Some second) rest) ≡ option_append (Some (first ++ second)) rest
append_twice first second None = refl
append_twice first second (Some rest) = ap Some (sym (append_assoc first second rest))

-- ---- references

-- bytes without `&` stand for themselves
pub meant_behind_plain : (plain rest : List ℕ) → lacks 38 plain ≡ true → without_references (plain ++ rest) ≡ option_append (Some plain) (without_references rest)
meant_behind_plain [] rest none = sym (append_none (without_references rest))
meant_behind_plain (byte ∷ plain) rest none =
    let parts = and_parts (not (byte == 38)) (lacks 38 plain) none in
    by (byte == 38) parts.0 (meant_behind_plain plain rest parts.1)
  where
    by : (ampersand : Bool) → not ampersand ≡ true → without_references (plain ++ rest) ≡ option_append (Some plain) (without_references rest)
        → option_append (if ampersand then Some [] else Some (byte ∷ [])) (meant_behind (if ampersand then Some [] else None) (plain ++ rest)) ≡ option_append (Some (byte ∷ plain)) (without_references rest)
    by true other same = cc
    by false other same = ap (option_append (Some (byte ∷ []))) same ∙ append_twice (byte ∷ []) plain (without_references rest)

meant_behind_name : (came name rest : List ℕ) → lacks 59 name ≡ true
    → meant_behind (Some came) (name ++ 59 ∷ rest) ≡ option_append (option_map encode_utf8 (referred (came ++ name))) (without_references rest)
meant_behind_name came [] rest none = ap (λ (name : List ℕ). option_append (option_map encode_utf8 (referred name)) (without_references rest)) (sym (append-nil came))
meant_behind_name came (byte ∷ name) rest none =
    let parts = and_parts (not (byte == 59)) (lacks 59 name) none in
    by (byte == 59) parts.0 (meant_behind_name (came ++ byte ∷ []) name rest parts.1)
  where
    by : (ends : Bool) → not ends ≡ true
        → meant_behind (Some (came ++ byte ∷ [])) (name ++ 59 ∷ rest) ≡ option_append (option_map encode_utf8 (referred ((came ++ byte ∷ []) ++ name))) (without_references rest)
        → option_append (if ends then option_map encode_utf8 (referred came) else Some []) (meant_behind (if ends then None else Some (came ++ byte ∷ [])) (name ++ 59 ∷ rest))
        ≡ option_append (option_map encode_utf8 (referred (came ++ byte ∷ name))) (without_references rest)
    by true other same = cc
    by false other same = append_none (meant_behind (Some (came ++ byte ∷ [])) (name ++ 59 ∷ rest)) ∙ same
        ∙ ap (λ (name : List ℕ). option_append (option_map encode_utf8 (referred name)) (without_references rest)) (append_assoc came (byte ∷ []) name)

-- a reference stands for its character
pub meant_by_reference : (name rest : List ℕ) (character : ℕ) → lacks 59 name ≡ true → referred name ≡ Some character
    → without_references (reference_of name ++ rest) ≡ option_append (Some (encode_utf8 character)) (without_references rest)
meant_by_reference name rest character ends is =
    append_none (meant_behind (Some []) ((name ++ 59 ∷ []) ++ rest))
    ∙ ap (meant_behind (Some [])) (append_assoc name (59 ∷ []) rest)
    ∙ meant_behind_name [] name rest ends
    ∙ ap (λ (found : Option ℕ). option_append (option_map encode_utf8 found) (without_references rest)) is

-- ---- what is done before references are read

pub lines_of_two : (plain rest : List ℕ) → begins_with_line_feed rest ≡ false → normal_lines (plain ++ rest) ≡ normal_lines plain ++ normal_lines rest
lines_of_two [] rest none = refl
lines_of_two (byte ∷ plain) rest none =
    ap (λ (bytes : List ℕ). read_before byte (plain ++ rest) ++ bytes) (lines_of_two plain rest none)
    ∙ ap (λ (front : List ℕ). front ++ (normal_lines plain ++ normal_lines rest)) (alike plain)
    ∙ sym (append_assoc (read_before byte plain) (normal_lines plain) (normal_lines rest))
  where
    alike : (plain : List ℕ) → read_before byte (plain ++ rest) ≡ read_before byte plain
    alike [] = rw none refl
    alike (next ∷ plain) = refl

pub prepared_of_two : (form : Form) (plain rest : List ℕ) → begins_with_line_feed rest ≡ false → prepared form (plain ++ rest) ≡ prepared form plain ++ prepared form rest
prepared_of_two Plain plain rest none = refl
prepared_of_two Run plain rest none = lines_of_two plain rest none
prepared_of_two Value plain rest none = ap (map white_as_space) (lines_of_two plain rest none) ∙ map-append white_as_space (normal_lines plain) (normal_lines rest)

-- bytes that are neither tab, LF nor CR stay
stays : (byte : ℕ) → not (byte == 9) ≡ true → not (byte == 10) ≡ true → not (byte == 13) ≡ true → white_as_space byte ≡ byte
stays byte no_tab no_feed no_return = by (byte == 0x20) (byte == 0x9) (byte == 0xA) (byte == 0xD) refl no_tab no_feed no_return
  where
    by : (space tab feed return : Bool) → (byte == 0x20) ≡ space → not tab ≡ true → not feed ≡ true → not return ≡ true → (if space || tab || feed || return then 0x20 else byte) ≡ byte
    by true tab feed return is t f r = sym (eqb-true byte 0x20 is)
    by false true feed return is t f r = cc
    by false false true return is t f r = cc
    by false false false true is t f r = cc
    by false false false false is t f r = refl

pub all_stay : (bytes : List ℕ) → lacks 9 bytes ≡ true → lacks 10 bytes ≡ true → lacks 13 bytes ≡ true → map white_as_space bytes ≡ bytes
all_stay [] no_tab no_feed no_return = refl
all_stay (byte ∷ bytes) no_tab no_feed no_return =
    let tab = and_parts (not (byte == 9)) (lacks 9 bytes) no_tab in
    let feed = and_parts (not (byte == 10)) (lacks 10 bytes) no_feed in
    let return = and_parts (not (byte == 13)) (lacks 13 bytes) no_return in
    ap (λ (byte : ℕ). byte ∷ map white_as_space bytes) (stays byte tab.0 feed.0 return.0) ∙ ap (λ (bytes : List ℕ). byte ∷ bytes) (all_stay bytes tab.1 feed.1 return.1)

ends_lack : (byte : ℕ) (name : List ℕ) → not (38 == byte) ≡ true → not (59 == byte) ≡ true → lacks byte name ≡ true → lacks byte (reference_of name) ≡ true
ends_lack byte name no_ampersand no_semicolon none = rw (no_ampersand, list_all-append (λ (other : ℕ). not (other == byte)) name (59 ∷ []), none, no_semicolon) refl

-- a reference stays
pub prepared_reference : (form : Form) (name rest : List ℕ) (character : ℕ) → referred name ≡ Some character
    → prepared form (reference_of name ++ rest) ≡ reference_of name ++ prepared form rest
prepared_reference Plain name rest character is = refl
prepared_reference Run name rest character is = lines_behind_plain (reference_of name) rest (ends_lack 13 name refl refl (referred_lacks 13 name character return_is_foreign is))
prepared_reference Value name rest character is =
    let tab = ends_lack 9 name refl refl (referred_lacks 9 name character tab_is_foreign is) in
    let feed = ends_lack 10 name refl refl (referred_lacks 10 name character line_feed_is_foreign is) in
    let return = ends_lack 13 name refl refl (referred_lacks 13 name character return_is_foreign is) in
    ap (map white_as_space) (lines_behind_plain (reference_of name) rest return)
    ∙ map-append white_as_space (reference_of name) (normal_lines rest)
    ∙ ap (λ (bytes : List ℕ). bytes ++ with_spaces rest) (all_stay (reference_of name) tab feed return)

lines_lack : (plain : List ℕ) → lacks 38 plain ≡ true → lacks 38 (normal_lines plain) ≡ true
lines_lack [] none = refl
lines_lack (byte ∷ plain) none =
    let parts = and_parts (not (byte == 38)) (lacks 38 plain) none in
    list_all-append (λ (other : ℕ). not (other == 38)) (read_before byte plain) (normal_lines plain) ∙ rw (by (byte == 13) (begins_with_line_feed plain) parts.0, lines_lack plain parts.1) refl
  where
    by : (return feed : Bool) → not (byte == 38) ≡ true → lacks 38 (if return then (if feed then [] else 10 ∷ []) else byte ∷ []) ≡ true
    by true true other = refl
    by true false other = refl
    by false feed other = rw other refl

spaces_lack : (bytes : List ℕ) → lacks 38 bytes ≡ true → lacks 38 (map white_as_space bytes) ≡ true
spaces_lack [] none = refl
spaces_lack (byte ∷ bytes) none =
    let parts = and_parts (not (byte == 38)) (lacks 38 bytes) none in
    rw (by (is_white byte) parts.0, spaces_lack bytes parts.1) refl
  where
    by : (white : Bool) → not (byte == 38) ≡ true → not ((if white then 0x20 else byte) == 38) ≡ true
    by true other = refl
    by false other = other

pub prepared_lacks : (form : Form) (plain : List ℕ) → lacks 38 plain ≡ true → lacks 38 (prepared form plain) ≡ true
prepared_lacks Plain plain none = none
prepared_lacks Run plain none = lines_lack plain none
prepared_lacks Value plain none = spaces_lack (normal_lines plain) (lines_lack plain none)

-- ---- both

-- bytes without `&`
pub meaning_behind_plain : (form : Form) (plain rest : List ℕ) → lacks 38 plain ≡ true → begins_with_line_feed rest ≡ false
    → meaning_of form (plain ++ rest) ≡ option_append (Some (prepared form plain)) (meaning_of form rest)
meaning_behind_plain form plain rest none apart =
    ap without_references (prepared_of_two form plain rest apart) ∙ meant_behind_plain (prepared form plain) (prepared form rest) (prepared_lacks form plain none)

-- a reference
pub meaning_behind_reference : (form : Form) (name rest : List ℕ) (character : ℕ) → lacks 59 name ≡ true → referred name ≡ Some character
    → meaning_of form (reference_of name ++ rest) ≡ option_append (Some (encode_utf8 character)) (meaning_of form rest)
meaning_behind_reference form name rest character ends is =
    ap without_references (prepared_reference form name rest character is) ∙ meant_by_reference name (prepared form rest) character ends is

-- ---- the steps of a reading

no_bytes_mean : (form : Form) → meaning_of form [] ≡ Some []
no_bytes_mean Plain = refl
no_bytes_mean Run = refl
no_bytes_mean Value = refl

ampersand_apart : (bytes : List ℕ) → begins_or_ends 38 bytes ≡ true → begins_with_line_feed bytes ≡ false
ampersand_apart [] begins = refl
ampersand_apart (byte ∷ bytes) begins = rw (eqb-true byte 38 begins) refl

of_split : (form : Form) (rest plain reference : List ℕ) → IsSplitBefore 38 rest plain reference → meaning_of form rest ≡ option_append (Some (prepared form plain)) (meaning_of form reference)
of_split form rest plain reference split =
    ap (meaning_of form) (sym split.joined) ∙ meaning_behind_plain form plain reference split.lacked (ampersand_apart reference split.begins)

-- no reference is left
pub all_is_read : (form : Form) (out rest plain reference : List ℕ) (whole : Option (List ℕ)) → IsSplitBefore 38 rest plain reference → length reference ≡ 0
    → option_append (Some out) (meaning_of form rest) ≡ whole → whole ≡ Some (out ++ prepared form plain)
all_is_read form out rest plain [] whole split none so_far =
    sym so_far ∙ ap (option_append (Some out)) (of_split form rest plain [] split) ∙ append_twice out (prepared form plain) (meaning_of form [])
    ∙ ap (option_append (Some (out ++ prepared form plain))) (no_bytes_mean form) ∙ ap Some (append-nil (out ++ prepared form plain))
all_is_read form out rest plain (byte ∷ reference) whole split none so_far = cc

-- the `&`, and the name behind it
ampersand_first : (rest plain reference name : List ℕ) (first : ℕ) → IsSplitBefore 38 rest plain reference → reference ≡ first ∷ name → rest ≡ plain ++ 38 ∷ name
ampersand_first rest plain reference name first split is =
    let begins : (first == 38) ≡ true = ap (begins_or_ends 38) (sym is) ∙ split.begins in
    sym split.joined ∙ ap (λ (bytes : List ℕ). plain ++ bytes) (is ∙ ap (λ (byte : ℕ). byte ∷ name) (eqb-true first 38 begins))

-- no reference stands at the `&`
pub stray_is_first : (bytes rest plain reference name : List ℕ) (first : ℕ) → IsReadTo bytes rest → IsSplitBefore 38 rest plain reference → reference ≡ first ∷ name
    → reference_at name ≡ None → first_stray bytes ≡ Some (length bytes - length reference)
stray_is_first bytes rest plain reference name first so_far split is none =
    let front = ampersand_first rest plain reference name first split is in
    let here : first_stray (38 ∷ name) ≡ Some 0 = rw none refl in
    let stray : first_stray rest ≡ Some (length plain + 0) =
    ap first_stray front ∙ strays_behind_plain plain (38 ∷ name) split.lacked ∙ ap (later (length plain)) here in
    let total : length so_far.read + length rest ≡ length bytes = sym (length-append so_far.read rest) ∙ ap length so_far.joined in
    let parts : length plain + length reference ≡ length rest = sym (length-append plain reference) ∙ ap length split.joined in
    let place : length so_far.read + (length plain + 0) ≡ length bytes - length reference = omega arith in
    so_far.strays ∙ ap (later (length so_far.read)) stray ∙ ap Some place

-- the reference there is read
pub record IsReadOn (form : Form) (bytes rest behind out more : List ℕ) (whole : Option (List ℕ)) : Type 0 where
  pub text : option_append (Some more) (meaning_of form behind) ≡ whole
  pub reads : IsReadTo bytes behind
  pub shorter : length behind < length rest

pub reference_is_read : (form : Form) (out bytes rest plain reference name behind : List ℕ) (first character : ℕ) (whole : Option (List ℕ)) → IsReadTo bytes rest
    → IsSplitBefore 38 rest plain reference → reference ≡ first ∷ name → reference_at name ≡ Some (character, behind)
    → option_append (Some out) (meaning_of form rest) ≡ whole
    → IsReadOn form bytes rest behind out ((out ++ prepared form plain) ++ encode_utf8 character) whole
reference_is_read form out bytes rest plain reference name behind first character whole so_far split is found invariant =
    let one = reference_at_says name behind character found in
    let reading = reference_of one.name in
    let same : reference ≡ reading ++ behind =
    is ∙ ap (λ (byte : ℕ). byte ∷ name) (eqb-true first 38 (ap (begins_or_ends 38) (sym is) ∙ split.begins))
    ∙ ap (λ (bytes : List ℕ). 38 ∷ bytes) (one.whole ∙ sym (append_assoc one.name (59 ∷ []) behind)) in
    let means : meaning_of form reference ≡ option_append (Some (encode_utf8 character)) (meaning_of form behind) =
    ap (meaning_of form) same ∙ meaning_behind_reference form one.name behind character one.ends one.is in
    let text : option_append (Some out) (meaning_of form rest) ≡ option_append (Some ((out ++ prepared form plain) ++ encode_utf8 character)) (meaning_of form behind) =
    ap (option_append (Some out)) (of_split form rest plain reference split) ∙ append_twice out (prepared form plain) (meaning_of form reference)
    ∙ ap (option_append (Some (out ++ prepared form plain))) means ∙ append_twice (out ++ prepared form plain) (encode_utf8 character) (meaning_of form behind) in
    let whole_rest : rest ≡ (plain ++ reading) ++ behind = sym split.joined ∙ ap (λ (bytes : List ℕ). plain ++ bytes) same ∙ sym (append_assoc plain reading behind) in
    let strays : first_stray ((plain ++ reading) ++ behind) ≡ later (length (plain ++ reading)) (first_stray behind) =
    ap first_stray (append_assoc plain reading behind) ∙ strays_behind_plain plain (reading ++ behind) split.lacked
    ∙ ap (later (length plain)) (strays_behind_reference one.name behind character one.ends one.is)
    ∙ later_twice (length plain) (length reading) (first_stray behind) ∙ ap (λ (count : ℕ). later count (first_stray behind)) (sym (length-append plain reading)) in
    let total : length (plain ++ reading) + length behind ≡ length rest = sym (length-append (plain ++ reading) behind) ∙ ap length (sym whole_rest) in
    let parts : length plain + length reading ≡ length (plain ++ reading) = sym (length-append plain reading) in
    let some : 0 < length reading = omega arith in
    record {
      text = sym text ∙ invariant;
      reads = goes_on bytes (plain ++ reading) behind (subst (IsReadTo bytes) whole_rest so_far) strays;
      shorter = omega arith;
    }

appends_none : (front : List ℕ) (text : Option (List ℕ)) → option_append (Some front) text ≡ None → text ≡ None
appends_none front None is = refl
appends_none front (Some text) is = cc

-- no reference stands at the `&`, so the bytes stand for nothing
pub nothing_is_meant : (form : Form) (out initial bytes rest plain reference name : List ℕ) (first : ℕ) → IsSplitBefore 38 rest plain reference → reference ≡ first ∷ name
    → reference_at name ≡ None → option_append (Some out) (meaning_of form rest) ≡ option_append (Some initial) (meaning_of form bytes) → meaning_of form bytes ≡ None
nothing_is_meant form out initial bytes rest plain reference name first split is none so_far =
    let same : reference ≡ 38 ∷ name = is ∙ ap (λ (byte : ℕ). byte ∷ name) (eqb-true first 38 (ap (begins_or_ends 38) (sym is) ∙ split.begins)) in
    let left : meaning_of form rest ≡ None =
    of_split form rest plain reference split ∙ ap (option_append (Some (prepared form plain))) (ap (meaning_of form) same ∙ stray_means_nothing form name none) in
    appends_none initial (meaning_of form bytes) (sym so_far ∙ ap (option_append (Some out)) left)
