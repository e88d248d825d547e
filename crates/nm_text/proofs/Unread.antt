-- Where an `&` begins no reference, the bytes stand for nothing.
use Rattle.std.proofs.Common.{◌≡◌, ◌∙◌, ℕ, Bool, true, false, not, ◌||◌, List, [], ◌∷◌, ◌++◌, map, Option, None, Some, refl, sym, ap, append_assoc, append-nil, encode_utf8, if◌then◌else◌}
use Rattle.std.specs.Prelude.{◌==◌}
use Rattle.std.specs.Fmt.{option_append}
use Rattle.std.specs.Option.{option_map}
use Rattle.std.proofs.lemmas.Bool.{and_parts, eqb-true, not-true, or_parts}
use Rattle.nm_text.specs.LineEnds.{line_end_before, normal_lines}
use Rattle.nm_text.specs.Meaning.{meaning_of, prepared, white_as_space, with_spaces}
use Rattle.nm_text.specs.Reference.{meant_behind, reference_at, referred, without_references}
use Rattle.nm_text.specs.Split.{lacks}
use Rattle.nm_text.specs.White.{is_white}
use Rattle.nm_text.specs.declared.meaning.Form.{Form}
use Rattle.nm_text.specs.declared.meaning.Form.TheVariants.{Plain, Run, Value}
use Rattle.nm_text.proofs.ReferenceNames.{line_feed_is_foreign, referred_lacks, space_is_foreign}
use Rattle.nm_text.proofs.References.{name_before}

-- ---- what is read has a name that ends

-- a name that ends in `;`, and is a reference's with what has come of it
record IsNamed (came bytes : List ℕ) : Type 0 where
  pub name : List ℕ
  pub behind : List ℕ
  pub character : ℕ
  pub whole : bytes ≡ name ++ 59 ∷ behind
  pub ends : lacks 59 name ≡ true
  pub is : referred (came ++ name) ≡ Some character

is_named : (came bytes text : List ℕ) → meant_behind (Some came) bytes ≡ Some text → IsNamed came bytes
is_named came [] text is = cc
is_named came (byte ∷ bytes) text is =
    by (byte == 59) refl (λ (more : List ℕ) (others : List ℕ) (read : meant_behind (Some more) bytes ≡ Some others). is_named more bytes others read) is
  where
    by : (ends : Bool) → (byte == 59) ≡ ends → ((more others : List ℕ) → meant_behind (Some more) bytes ≡ Some others → IsNamed more bytes)
        → option_append (if ends then option_map encode_utf8 (referred came) else Some []) (meant_behind (if ends then None else Some (came ++ byte ∷ [])) bytes) ≡ Some text → IsNamed came (byte ∷ bytes)
    by true ends others is = at_end (referred came) refl is
      where
        at_end : (found : Option ℕ) → referred came ≡ found → option_append (option_map encode_utf8 found) (without_references bytes) ≡ Some text → IsNamed came (byte ∷ bytes)
        at_end None refers is = cc
        at_end (Some character) refers is = record {
          name = [];
          behind = bytes;
          character = character;
          whole = ap (λ (byte : ℕ). byte ∷ bytes) (eqb-true byte 59 ends);
          ends = refl;
          is = ap referred (append-nil came) ∙ refers;
        }
    by false ends others is = go_on (meant_behind (Some (came ++ byte ∷ [])) bytes) refl is
      where
        go_on : (read : Option (List ℕ)) → meant_behind (Some (came ++ byte ∷ [])) bytes ≡ read → option_append (Some []) read ≡ Some text → IsNamed came (byte ∷ bytes)
        go_on None reads is = cc
        go_on (Some more) reads is =
            let one = others (came ++ byte ∷ []) more reads in
            record {
              name = byte ∷ one.name;
              behind = one.behind;
              character = one.character;
              whole = ap (λ (bytes : List ℕ). byte ∷ bytes) one.whole;
              ends = rw (ends, one.ends) refl;
              is = ap referred (sym (append_assoc came (byte ∷ []) one.name)) ∙ one.is;
            }

-- ---- what is done before references are read makes no reference

-- the first byte of what is read, where it is no LF
record IsFirst (bytes : List ℕ) (first : ℕ) (others : List ℕ) : Type 0 where
  pub rest : List ℕ
  pub whole : bytes ≡ first ∷ rest
  pub read : normal_lines rest ≡ others

first_of_lines : (bytes others : List ℕ) (first : ℕ) → (first == 10) ≡ false → normal_lines bytes ≡ first ∷ others → IsFirst bytes first others
first_of_lines [] others first apart is = cc
first_of_lines (byte ∷ bytes) others first apart is = by (byte == 13) bytes refl is
  where
    no_feed : {A : Type 0} → (rest : List ℕ) → 10 ∷ rest ≡ first ∷ others → A
    no_feed rest is = let same : 10 ≡ first = cc in let wrong : true ≡ false = ap (λ (byte : ℕ). byte == 10) same ∙ apart in absurd (cc)

    by : (return : Bool) (bytes : List ℕ) → (byte == 13) ≡ return → (if return then line_end_before bytes else byte ∷ []) ++ normal_lines bytes ≡ first ∷ others → IsFirst (byte ∷ bytes) first others
    by true [] ends is = no_feed [] is
    by true (next ∷ bytes) ends is = at_feed (next == 10) refl is
      where
        at_feed : (feed : Bool) → (next == 10) ≡ feed → (if feed then [] else 10 ∷ []) ++ normal_lines (next ∷ bytes) ≡ first ∷ others → IsFirst (byte ∷ next ∷ bytes) first others
        at_feed true feeds is =
            let same : next ≡ 10 = eqb-true next 10 feeds in
            no_feed (normal_lines bytes) (ap (λ (next : ℕ). normal_lines (next ∷ bytes)) (sym same) ∙ is)
        at_feed false feeds is = no_feed (normal_lines (next ∷ bytes)) is
    by false bytes ends is = record {
      rest = bytes;
      whole = let same : byte ≡ first = cc in ap (λ (byte : ℕ). byte ∷ bytes) same;
      read = cc;
    }

-- the same in each form, where it is no space either
record IsFirstOf (form : Form) (bytes : List ℕ) (first : ℕ) (others : List ℕ) : Type 0 where
  pub rest : List ℕ
  pub whole : bytes ≡ first ∷ rest
  pub read : prepared form rest ≡ others

no_space : {A : Type 0} (first : ℕ) → (first == 32) ≡ false → 32 ≡ first → A
no_space first apart same = let wrong : true ≡ false = ap (λ (byte : ℕ). byte == 32) same ∙ apart in absurd (cc)

first_of_spaces : (bytes others : List ℕ) (first : ℕ) → (first == 32) ≡ false → with_spaces bytes ≡ first ∷ others → IsFirstOf Value bytes first others
first_of_spaces bytes others first apart is = by (normal_lines bytes) refl is
  where
    by : (lines : List ℕ) → normal_lines bytes ≡ lines → map white_as_space lines ≡ first ∷ others → IsFirstOf Value bytes first others
    by [] reads is = cc
    by (byte ∷ lines) reads is = at_white (is_white byte) refl is
      where
        at_white : (white : Bool) → is_white byte ≡ white → (if white then 0x20 else byte) ∷ map white_as_space lines ≡ first ∷ others → IsFirstOf Value bytes first others
        at_white true kind is = no_space first apart (cc)
        at_white false kind is =
            let same : byte ≡ first = cc in
            let no_feed : (byte == 10) ≡ false = (or_parts ((byte == 0x20) || (byte == 0x9)) (byte == 0xA) (or_parts ((byte == 0x20) || (byte == 0x9) || (byte == 0xA)) (byte == 0xD) kind).0).1 in
            let one = first_of_lines bytes lines byte no_feed reads in
            record {
              rest = one.rest;
              whole = one.whole ∙ ap (λ (byte : ℕ). byte ∷ one.rest) same;
              read = ap (map white_as_space) one.read ∙ cc;
            }

first_of : (form : Form) (bytes others : List ℕ) (first : ℕ) → (first == 10) ≡ false → (first == 32) ≡ false → prepared form bytes ≡ first ∷ others → IsFirstOf form bytes first others
first_of Plain bytes others first no_feed no_space is = record { rest = others; whole = is; read = refl }
first_of Run bytes others first no_feed no_space is =
    let one = first_of_lines bytes others first no_feed is in
    record { rest = one.rest; whole = one.whole; read = one.read }
first_of Value bytes others first no_feed no_space is = first_of_spaces bytes others first no_space is

-- a name, and the `;` behind it
name_of : (form : Form) (name behind bytes : List ℕ) → lacks 10 name ≡ true → lacks 32 name ≡ true → prepared form bytes ≡ name ++ 59 ∷ behind
    → (rest : List ℕ) × (bytes ≡ name ++ 59 ∷ rest)
name_of form [] behind bytes no_feed no_space is = let one = first_of form bytes behind 59 refl refl is in (one.rest, one.whole)
name_of form (byte ∷ name) behind bytes no_feed no_space is =
    let feed = and_parts (not (byte == 10)) (lacks 10 name) no_feed in
    let space = and_parts (not (byte == 32)) (lacks 32 name) no_space in
    let one = first_of form bytes (name ++ 59 ∷ behind) byte (not-true (byte == 10) feed.0) (not-true (byte == 32) space.0) is in
    let others = name_of form name behind one.rest feed.1 space.1 one.read in
    (others.0, one.whole ∙ ap (λ (bytes : List ℕ). byte ∷ bytes) others.1)

-- ---- both

ampersand_stays : (form : Form) (bytes : List ℕ) → prepared form (38 ∷ bytes) ≡ 38 ∷ prepared form bytes
ampersand_stays Plain bytes = refl
ampersand_stays Run bytes = refl
ampersand_stays Value bytes = refl

reference_stands : (bytes name rest : List ℕ) (character : ℕ) → bytes ≡ name ++ 59 ∷ rest → lacks 59 name ≡ true → referred name ≡ Some character
    → reference_at bytes ≡ Some (character, rest)
reference_stands bytes name rest character whole ends is = rw (whole, name_before name rest ends, is) refl

-- bytes stand for nothing where their first `&` begins no reference
pub stray_means_nothing : (form : Form) (bytes : List ℕ) → reference_at bytes ≡ None → meaning_of form (38 ∷ bytes) ≡ None
stray_means_nothing form bytes none =
    ap without_references (ampersand_stays form bytes) ∙ by (meant_behind (Some []) (prepared form bytes)) refl
  where
    by : (read : Option (List ℕ)) → meant_behind (Some []) (prepared form bytes) ≡ read → option_append (Some []) read ≡ None
    by None reads = refl
    by (Some text) reads =
        let one = is_named [] (prepared form bytes) text reads in
        let found = name_of form one.name one.behind bytes (referred_lacks 10 one.name one.character line_feed_is_foreign one.is) (referred_lacks 32 one.name one.character space_is_foreign one.is) one.whole in
        let stands : reference_at bytes ≡ Some (one.character, found.0) = reference_stands bytes one.name found.0 one.character found.1 one.ends one.is in
        cc
