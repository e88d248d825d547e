-- A piece is read exactly where one is spelt.
use Rattle.std.proofs.Common.{◌≡◌, ℕ, Bool, true, false, not, cond, eqb, ◌⊎◌, ◌||◌, List, [], ◌∷◌, ◌++◌, map, codes, Option, Some, None, Ok, Err, refl, sym, ap, subst, ◌∙◌, append_assoc, append-nil, inl, inr}
use Rattle.std.specs.Prelude.{nat_eq}
use Rattle.std.specs.List.{list_all, starts_with}
use Rattle.std.specs.Option.{option_map}
use Rattle.std.proofs.lemmas.Bool.{cases_Bool, eqb-true, eq-eqb, ne_eqb, and_parts, and_from, and_left, both_ways}
use Rattle.std.proofs.lemmas.List.Folds.{list_all-append}
use Rattle.nm_terms.specs.Bytes.{same_text}
use Rattle.nm_ident.specs.Name.{begins_name as is_initial, is_name}
use Rattle.nm_text.specs.Characters.{is_text}
use Rattle.nm_text.specs.Mark.{cdata_end, holds, two_dashes}
use Rattle.nm_text.specs.Meaning.{cdata_text, run_text}
use Rattle.nm_text.specs.Split.{lacks}
use Rattle.nm_text.specs.Utf8.{spells_text}
use Rattle.nm_text.specs.White.{is_white, is_white_space}
use Rattle.nm_text.proofs.Utf8Texts.{texts_by_bytes}
use Rattle.nm_piece.specs.declared.piece.Attribute.{Attribute}
use Rattle.nm_piece.specs.declared.piece.Piece.{Piece}
use Rattle.nm_piece.specs.declared.piece.Piece.TheVariants as piece
use Rattle.nm_piece.specs.declared.unread.Unread.TheVariants.{Unfinished, NoPiece, NoMemory}
use Rattle.nm_piece.specs.Mark.{Declaration, Instruction, Target, behind_target, cdata_at, comment_at, instruction_behind, instruction_end, instruction_rest, instruction_text, lower_case, question_at, target_of, text_until}
use Rattle.nm_piece.specs.Name.{begins_name, ends_name, qname_at, qname_text}
use Rattle.nm_piece.specs.Piece.{doctype_at, exclamation_at, inner_piece_at, last_run, markup_at, or_last_run, piece_at, to_the_end}
use Rattle.nm_piece.specs.Reading.{Read, ◌>>=◌, choice, literal_at, segment_at}
use Rattle.nm_piece.specs.Spells.{BeginsWhite, IsFront, IsSpeltAt, IsTagAhead, MayEndBefore, Spells, SpellsAttribute, SpellsAttributes, SpellsCdata, SpellsComment, SpellsInstruction, SpellsRun, SpellsStart, is_reserved, tag_end}
use Rattle.nm_piece.specs.Run.{begins_run, is_some_bytes, run_at, text_of_run}
use Rattle.nm_piece.specs.Start.{start_at}
use Rattle.nm_piece.specs.Tag.{close_at, open_at}
use Rattle.nm_piece.proofs.Marks.{Until, is_until}
use Rattle.nm_piece.proofs.Readings.{Anything, Either, One, Two, Follows, IsReading, Literal, Made, Opens, Segment, Sequence, Takes, if_true, if_false, in_sequence, is_choice, is_literal, is_made, choice_is, is_segment, ok_parts, respelt, segment_follows, segment_open}
use Rattle.nm_text.proofs.Meant.{run_is_meant}
use Rattle.nm_piece.proofs.Ampersands.{references_and}
use Rattle.nm_piece.proofs.Meanings.{no_mark_more}
use Rattle.nm_piece.proofs.Names.{name_inside}
use Rattle.nm_piece.proofs.OpenReferences.{some_of}
use Rattle.nm_piece.proofs.Segments.{is_same, targets}
use Rattle.nm_piece.proofs.Starts.{StartBehind, is_start_at}
use Rattle.nm_piece.proofs.Tags.{CloseBehind, GapAttribute, GapAttributes, More, NoMore, OpenBehind, is_close_at, is_open_at, follows_in, initial_is_not, open_initial, white_ends_name}
use Rattle.nm_piece.proofs.Texts.{text-append}
use Rattle.nm_piece.proofs.Values.{is_run_at, is_that, run_from, run_parts, runs, text_parts, value_from, value_parts}

-- ---- characters

text_is : (bytes : List ℕ) → spells_text bytes ≡ true → is_text bytes ≡ true
text_is bytes e = texts_by_bytes bytes ∙ e

text_from : (bytes : List ℕ) → is_text bytes ≡ true → spells_text bytes ≡ true
text_from bytes e = sym (texts_by_bytes bytes) ∙ e

-- ---- comments

abbrev InComment : List ℕ → List ℕ → Type 0
InComment = Until 45 (45 ∷ []) (45 ∷ []) 45 refl refl refl refl refl

abbrev CommentEnd : List ℕ → Piece → Type 0
CommentEnd = Sequence InComment (λ inside. Made (λ sign. piece.Skip) (Literal (codes ">")))

is_comment_end : IsReading (λ bytes. text_until two_dashes bytes >>= λ inside. literal_at (codes ">") inside.1 >>= λ closing. Ok (piece.Skip, closing.1)) CommentEnd Anything
is_comment_end = in_sequence (text_until two_dashes) (λ inside bytes. literal_at (codes ">") bytes >>= λ closing. Ok (piece.Skip, closing.1)) InComment (λ inside. Made (λ sign. piece.Skip) (Literal (codes ">"))) Anything Anything
    (is_until 45 (45 ∷ []) (45 ∷ []) 45 refl refl refl refl refl) (λ inside. is_made (λ sign. piece.Skip) (is_literal (codes ">") Anything)) (λ inside text rest y s behind. tt)
    (λ inside. record { more = codes ">"; value = piece.Skip; spelt = record { value = tt; spelt = record { text_is = refl }; made_is = refl } })

-- what is spelt with these bytes before it, and is such a piece
pub record Behind (front : List ℕ) (Kind : List ℕ → Type 0) (made : Piece) (text : List ℕ) (found : Piece) : Type 0 where
  pub spelt : Kind (front ++ text)
  pub found_is : found ≡ made

abbrev Comment : List ℕ → Piece → Type 0
Comment = Behind (codes "<!-") SpellsComment piece.Skip

comment_example : Opens CommentEnd []
comment_example = record { more = codes "-->"; value = piece.Skip; spelt = record { first = []; left = codes "--"; right = codes ">"; whole = refl; spelt_left = record { whole = refl; characters = refl; first = refl }; spelt_right = record { value = tt; spelt = record { text_is = refl }; made_is = refl } } }

is_comment_at : IsReading comment_at Comment Anything
unfolding comment_at
is_comment_at = respelt
    (in_sequence (literal_at (codes "-")) (λ sign bytes. text_until two_dashes bytes >>= λ inside. literal_at (codes ">") inside.1 >>= λ closing. Ok (piece.Skip, closing.1)) (Literal (codes "-")) (λ sign. CommentEnd) Anything Anything
    (is_literal (codes "-") Anything) (λ sign. is_comment_end) (λ sign text rest y s behind. tt) (λ sign. comment_example))
    (λ text found s.
    let r = s.spelt_right in
    let u = r.spelt_left in
    record {
      spelt = record {
        inside = r.first;
        whole = ap (λ (t : List ℕ). codes "<!-" ++ t) (s.whole ∙ ap (λ (t : List ℕ). t ++ s.right) s.spelt_left.text_is ∙ ap (λ (t : List ℕ). codes "-" ++ t) (r.whole ∙ ap (λ (t : List ℕ). r.left ++ t) r.spelt_right.spelt.text_is ∙ ap (λ (t : List ℕ). t ++ codes ">") u.whole ∙ append_assoc r.first (codes "--") (codes ">")));
        characters = text_is r.first u.characters;
        no_dashes = u.first;
      };
      found_is = r.spelt_right.made_is;
    })
    (λ text found s. let c = s.spelt in record {
      first = tt;
      left = codes "-";
      right = c.inside ++ codes "-->";
      whole = tail3 text (codes "-" ++ (c.inside ++ codes "-->")) c.whole;
      spelt_left = record { text_is = refl };
      spelt_right = record {
        first = c.inside;
        left = c.inside ++ codes "--";
        right = codes ">";
        whole = sym (append_assoc c.inside (codes "--") (codes ">"));
        spelt_left = record { whole = refl; characters = text_from c.inside c.characters; first = c.no_dashes };
        spelt_right = record { value = tt; spelt = record { text_is = refl }; made_is = s.found_is };
      };
    })
  where
    tail3 : (s t : List ℕ) → 60 ∷ 33 ∷ 45 ∷ s ≡ 60 ∷ 33 ∷ 45 ∷ t → s ≡ t
    tail3 s t e = cc

-- ---- CDATA sections

abbrev InCdata : List ℕ → List ℕ → Type 0
InCdata = Until 93 (93 ∷ 62 ∷ []) (93 ∷ 93 ∷ []) 62 refl refl refl refl refl

abbrev as_text : List ℕ → Piece
as_text inside = piece.Text (cdata_text inside)

pub record Cdata (text : List ℕ) (found : Piece) : Type 0 where
  pub value : List ℕ
  pub spelt : SpellsCdata (codes "<![" ++ text) value
  pub found_is : found ≡ piece.Text value

-- a mark that ends in another byte than those before it stands behind bytes without it as behind bytes without its front
cut_mark : (inside : List ℕ) → holds cdata_end (inside ++ codes "]]") ≡ holds cdata_end inside
cut_mark [] = refl
cut_mark (b ∷ inside) = both (start inside) (cut_mark inside)
  where
    both : {x y z w : Bool} → x ≡ y → z ≡ w → (x || z) ≡ (y || w)
    both p q = cc

    start : (s : List ℕ) → starts_with nat_eq (b ∷ s ++ codes "]]") cdata_end ≡ starts_with nat_eq (b ∷ s) cdata_end
    start [] = refl
    start (c ∷ []) = refl
    start (c ∷ d ∷ s) = refl

cut_end : (inside : List ℕ) → holds (codes "?>") (inside ++ codes "?") ≡ holds (codes "?>") inside
cut_end [] = refl
cut_end (b ∷ inside) = both (start inside) (cut_end inside)
  where
    both : {x y z w : Bool} → x ≡ y → z ≡ w → (x || z) ≡ (y || w)
    both p q = cc

    start : (s : List ℕ) → starts_with nat_eq (b ∷ s ++ codes "?") (codes "?>") ≡ starts_with nat_eq (b ∷ s) (codes "?>")
    start [] = refl
    start (c ∷ s) = refl

is_cdata_at : IsReading cdata_at Cdata Anything
unfolding cdata_at
is_cdata_at = respelt
    (in_sequence (literal_at (codes "CDATA[")) (λ sign bytes. text_until cdata_end bytes >>= λ inside. Ok (as_text inside.0, inside.1)) (Literal (codes "CDATA[")) (λ sign. Made as_text InCdata) Anything Anything
    (is_literal (codes "CDATA[") Anything) (λ sign. is_made as_text (is_until 93 (93 ∷ 62 ∷ []) (93 ∷ 93 ∷ []) 62 refl refl refl refl refl)) (λ sign text rest y s behind. tt)
    (λ sign. record { more = cdata_end; value = as_text []; spelt = record { value = []; spelt = record { whole = refl; characters = refl; first = refl }; made_is = refl } }))
    (λ text found s.
    let r = s.spelt_right in
    record {
      value = cdata_text r.value;
      spelt = record {
        inside = r.value;
        whole = ap (λ (t : List ℕ). codes "<![" ++ t) (s.whole ∙ ap (λ (t : List ℕ). t ++ s.right) s.spelt_left.text_is ∙ ap (λ (t : List ℕ). codes "CDATA[" ++ t) r.spelt.whole);
        characters = text_is r.value r.spelt.characters;
        no_end = sym (cut_mark r.value) ∙ r.spelt.first;
        value = refl;
      };
      found_is = r.made_is;
    })
    (λ text found s. let c = s.spelt in record {
      first = tt;
      left = codes "CDATA[";
      right = c.inside ++ cdata_end;
      whole = tail3 text (codes "CDATA[" ++ (c.inside ++ cdata_end)) c.whole;
      spelt_left = record { text_is = refl };
      spelt_right = record { value = c.inside; spelt = record { whole = refl; characters = text_from c.inside c.characters; first = cut_mark c.inside ∙ c.no_end }; made_is = s.found_is ∙ ap (λ (t : List ℕ). piece.Text t) c.value };
    })
  where
    tail3 : (s t : List ℕ) → 60 ∷ 33 ∷ 91 ∷ s ≡ 60 ∷ 33 ∷ 91 ∷ t → s ≡ t
    tail3 s t e = cc

-- ---- `<!DOCTYPE`

abbrev IsDoctype : List ℕ → Type 0
IsDoctype bytes = bytes ≡ codes "<!DOCTYPE"

abbrev Doctype : List ℕ → Piece → Type 0
Doctype = Behind (codes "<!") IsDoctype piece.Doctype

is_doctype_at : IsReading doctype_at Doctype Anything
unfolding doctype_at
is_doctype_at = respelt (is_made (λ word. piece.Doctype) (is_literal (codes "DOCTYPE") Anything))
    (λ text found s. record { spelt = ap (λ (t : List ℕ). codes "<!" ++ t) s.spelt.text_is; found_is = s.made_is })
    (λ text found s. record { value = tt; spelt = record { text_is = tail2 text (codes "DOCTYPE") s.spelt }; made_is = s.found_is })
  where
    tail2 : (s t : List ℕ) → 60 ∷ 33 ∷ s ≡ 60 ∷ 33 ∷ t → s ≡ t
    tail2 s t e = cc

abbrev Exclamation : List ℕ → Piece → Type 0
Exclamation = Either 45 Comment (Either 91 Cdata Doctype)

doctype_first : (text rest : List ℕ) (found : Piece) → Doctype text found → text ++ rest ≡ 68 ∷ codes "OCTYPE" ++ rest
doctype_first text rest found s = ap (λ (t : List ℕ). t ++ rest) (tail2 text (codes "DOCTYPE") s.spelt)
  where
    tail2 : (s t : List ℕ) → 60 ∷ 33 ∷ s ≡ 60 ∷ 33 ∷ t → s ≡ t
    tail2 s t e = cc

is_exclamation_at : IsReading exclamation_at Exclamation Anything
unfolding exclamation_at
is_exclamation_at = is_choice 45 comment_at (choice 91 cdata_at doctype_at) Comment (Either 91 Cdata Doctype) Anything is_comment_at
    (is_choice 91 cdata_at doctype_at Cdata Doctype Anything is_cdata_at is_doctype_at
    (record { more = codes "CDATA[]]>"; value = piece.Text []; spelt = record { value = []; spelt = record { inside = []; whole = refl; characters = text_is [] refl; no_end = refl; value = refl }; found_is = refl } })
    (λ text rest x s behind. record { byte = 68; bytes = codes "OCTYPE" ++ rest; whole = doctype_first text rest x s; passes = refl }))
    (record { more = codes "--->"; value = piece.Skip; spelt = record { spelt = record { inside = []; whole = refl; characters = text_is [] refl; no_dashes = refl }; found_is = refl } })
    (λ text rest x s behind. apart rest x s)
  where
    apart : (rest : List ℕ) (x : Piece) {text : List ℕ} → Either 91 Cdata Doctype text x → Follows (λ byte. not (eqb byte 45)) (text ++ rest)
    apart rest x (One {text} s) = record { byte = 91; bytes = text ++ rest; whole = refl; passes = refl }
    apart rest x (Two {text} s) = record { byte = 68; bytes = codes "OCTYPE" ++ rest; whole = doctype_first text rest x s; passes = refl }

-- ---- instructions

abbrev InInstruction : List ℕ → List ℕ → Type 0
InInstruction = Until 63 (62 ∷ []) (63 ∷ []) 62 refl refl refl refl refl

-- a white byte and the rest
pub record WhiteRest (text : List ℕ) (found : Piece) : Type 0 where
  pub byte : ℕ
  pub inside : List ℕ
  pub whole : text ≡ byte ∷ inside ++ codes "?>"
  pub white : is_white byte ≡ true
  pub characters : spells_text inside ≡ true
  pub first : holds (codes "?>") (inside ++ codes "?") ≡ false
  pub found_is : found ≡ piece.Skip

is_rest : IsReading instruction_rest (Made (λ inside. piece.Skip) InInstruction) Anything
is_rest = is_made (λ inside. piece.Skip) (is_until 63 (62 ∷ []) (63 ∷ []) 62 refl refl refl refl refl)

white_cases : (byte : ℕ) (bytes : List ℕ) (outcome : Read Piece) → instruction_text (byte ∷ bytes) ≡ outcome → ((is_white byte ≡ true) × (instruction_rest bytes ≡ outcome)) ⊎ ((is_white byte ≡ false) × (Err NoPiece ≡ outcome))
white_cases byte bytes outcome e = elim (cases_Bool (is_white byte)) [
  | inl h ↦ inl (h, sym (if_true (is_white byte) (instruction_rest bytes) (Err NoPiece) h) ∙ e)
  | inr h ↦ inr (h, sym (if_false (is_white byte) (instruction_rest bytes) (Err NoPiece) h) ∙ e)
]

rest_from : (byte : ℕ) (text : List ℕ) (found : Piece) → is_white byte ≡ true → Made (λ inside. piece.Skip) InInstruction text found → WhiteRest (byte ∷ text) found
rest_from byte text found w m = record { byte = byte; inside = m.value; whole = ap (λ (t : List ℕ). byte ∷ t) m.spelt.whole; white = w; characters = m.spelt.characters; first = m.spelt.first; found_is = m.made_is }

is_instruction_text : IsReading instruction_text WhiteRest Anything
is_instruction_text = record { takes = takes; gives = gives; opens = opens; stays = stays; keeps = keeps; pure = pure_one }
  where
    takes : (bytes : List ℕ) (x : Piece) (rest : List ℕ) → instruction_text bytes ≡ Ok (x, rest) → Takes WhiteRest bytes x rest
    takes [] x rest e = absurd cc
    takes (b ∷ bytes) x rest e = elim (white_cases b bytes (Ok (x, rest)) e) [
      | inl h ↦ let t = is_rest.takes bytes x rest h.1 in record { text = b ∷ t.text; whole = ap (λ (s : List ℕ). b ∷ s) t.whole; spelt = rest_from b t.text x h.0 t.spelt }
      | inr h ↦ let f = h.1 in absurd cc
    ]

    gives : (text rest : List ℕ) (x : Piece) → WhiteRest text x → Unit {0} → instruction_text (text ++ rest) ≡ Ok (x, rest)
    gives text rest x s behind =
        ap (λ (t : List ℕ). instruction_text (t ++ rest)) s.whole ∙ if_true (is_white s.byte) (instruction_rest (s.inside ++ codes "?>" ++ rest)) (Err NoPiece) s.white
        ∙ is_rest.gives (s.inside ++ codes "?>") rest x (record { value = s.inside; spelt = record { whole = refl; characters = s.characters; first = s.first }; made_is = s.found_is }) tt

    opens : (bytes : List ℕ) → instruction_text bytes ≡ Err Unfinished → Opens WhiteRest bytes
    opens [] e = record { more = codes " ?>"; value = piece.Skip; spelt = record { byte = 32; inside = []; whole = refl; white = refl; characters = refl; first = refl; found_is = refl } }
    opens (b ∷ bytes) e = elim (white_cases b bytes (Err Unfinished) e) [
      | inl h ↦ let o = is_rest.opens bytes h.1 in record { more = o.more; value = o.value; spelt = rest_from b (bytes ++ o.more) o.value h.0 o.spelt }
      | inr h ↦ let f = h.1 in absurd cc
    ]

    stays : (bytes more : List ℕ) → instruction_text bytes ≡ Err NoPiece → instruction_text (bytes ++ more) ≡ Err NoPiece
    stays [] more e = absurd cc
    stays (b ∷ bytes) more e = elim (white_cases b bytes (Err NoPiece) e) [
      | inl h ↦ if_true (is_white b) (instruction_rest (bytes ++ more)) (Err NoPiece) h.0 ∙ is_rest.stays bytes more h.1
      | inr h ↦ if_false (is_white b) (instruction_rest (bytes ++ more)) (Err NoPiece) h.0
    ]

    keeps : (bytes more : List ℕ) (x : Piece) (rest : List ℕ) → instruction_text bytes ≡ Ok (x, rest) → instruction_text (bytes ++ more) ≡ Ok (x, rest ++ more)
    keeps [] more x rest e = absurd cc
    keeps (b ∷ bytes) more x rest e = elim (white_cases b bytes (Ok (x, rest)) e) [
      | inl h ↦ if_true (is_white b) (instruction_rest (bytes ++ more)) (Err NoPiece) h.0 ∙ is_rest.keeps bytes more x rest h.1
      | inr h ↦ let f = h.1 in absurd cc
    ]

    pure_one : (bytes : List ℕ) → instruction_text bytes ≡ Err NoMemory → ⊥
    pure_one [] e = cc
    pure_one (b ∷ bytes) e = elim (white_cases b bytes (Err NoMemory) e) [
      | inl h ↦ is_rest.pure bytes h.1
      | inr h ↦ let f = h.1 in cc
    ]

-- nothing or white text, and `?>`
pub record InstructionBehind (text : List ℕ) (found : Piece) : Type 0 where
  pub inside : List ℕ
  pub whole : text ≡ inside ++ codes "?>"
  pub white : BeginsWhite inside
  pub characters : is_text inside ≡ true
  pub no_end : holds (codes "?>") inside ≡ false
  pub found_is : found ≡ piece.Skip

white_is_text : (byte : ℕ) → is_white byte ≡ true → spells_text (byte ∷ []) ≡ true
white_is_text byte e = by (eqb byte 0x20) (eqb byte 0x9) (eqb byte 0xA) (eqb byte 0xD) refl refl refl refl e
  where
    at : (n : ℕ) → eqb byte n ≡ true → spells_text (n ∷ []) ≡ true → spells_text (byte ∷ []) ≡ true
    at n h r = ap (λ (b : ℕ). spells_text (b ∷ [])) (eqb-true byte n h) ∙ r

    by : (a b c d : Bool) → eqb byte 0x20 ≡ a → eqb byte 0x9 ≡ b → eqb byte 0xA ≡ c → eqb byte 0xD ≡ d → (a || b || c || d) ≡ true → spells_text (byte ∷ []) ≡ true
    by true b c d p q r s e = at 0x20 p refl
    by false true c d p q r s e = at 0x9 q refl
    by false false true d p q r s e = at 0xA r refl
    by false false false true p q r s e = at 0xD s refl
    by false false false false p q r s e = absurd cc

white_not : (other byte : ℕ) → is_white other ≡ false → is_white byte ≡ true → eqb byte other ≡ false
white_not other byte no_white e = elim (cases_Bool (eqb byte other)) [
  | inl h ↦ absurd (both_ways (is_white byte) (ap is_white (eqb-true byte other h) ∙ no_white) e)
  | inr h ↦ h
]

-- the text of one byte before others
text_cons : (byte : ℕ) (inside : List ℕ) → is_white byte ≡ true → spells_text inside ≡ true → spells_text (byte ∷ inside) ≡ true
text_cons byte inside w t = text-append (byte ∷ []) inside (white_is_text byte w) t

text_uncons : (byte : ℕ) (inside : List ℕ) → is_white byte ≡ true → spells_text (byte ∷ inside) ≡ true → spells_text inside ≡ true
text_uncons byte inside w t = by (eqb byte 0x20) (eqb byte 0x9) (eqb byte 0xA) (eqb byte 0xD) refl refl refl refl w
  where
    at : (n : ℕ) → eqb byte n ≡ true → (spells_text (n ∷ inside) ≡ true → spells_text inside ≡ true) → spells_text inside ≡ true
    at n h f = f (ap (λ (b : ℕ). spells_text (b ∷ inside)) (sym (eqb-true byte n h)) ∙ t)

    by : (a b c d : Bool) → eqb byte 0x20 ≡ a → eqb byte 0x9 ≡ b → eqb byte 0xA ≡ c → eqb byte 0xD ≡ d → (a || b || c || d) ≡ true → spells_text inside ≡ true
    by true b c d p q r s e = at 0x20 p (λ x. x)
    by false true c d p q r s e = at 0x9 q (λ x. x)
    by false false true d p q r s e = at 0xA r (λ x. x)
    by false false false true p q r s e = at 0xD s (λ x. x)
    by false false false false p q r s e = absurd cc

end_cons : (byte : ℕ) (inside : List ℕ) → is_white byte ≡ true → holds (codes "?>") (byte ∷ inside) ≡ holds (codes "?>") inside
end_cons byte inside w = start inside
  where
    both : (x y : Bool) → x ≡ false → (x || y) ≡ y
    both x y e = rw e refl

    start : (s : List ℕ) → holds (codes "?>") (byte ∷ s) ≡ holds (codes "?>") s
    start s = both (starts_with nat_eq (byte ∷ s) (codes "?>")) (holds (codes "?>") s) (and_left (nat_eq 63 byte) _ (flip (white_not 63 byte refl w)))
      where
        flip : eqb byte 63 ≡ false → eqb 63 byte ≡ false
        flip h = ne_eqb 63 byte (λ f. both_ways (eqb byte 63) h (eq-eqb byte 63 (sym f)))

abbrev EndOrRest : List ℕ → Piece → Type 0
EndOrRest = Either 63 (Made (λ sign. piece.Skip) (Literal (codes ">"))) WhiteRest

is_instruction_behind : IsReading instruction_behind InstructionBehind Anything
unfolding instruction_behind
is_instruction_behind = respelt
    (is_choice 63 instruction_end instruction_text (Made (λ sign. piece.Skip) (Literal (codes ">"))) WhiteRest Anything
    (is_made (λ sign. piece.Skip) (is_literal (codes ">") Anything)) is_instruction_text
    (record { more = codes ">"; value = piece.Skip; spelt = record { value = tt; spelt = record { text_is = refl }; made_is = refl } })
    (λ text rest x s behind. record { byte = s.byte; bytes = s.inside ++ codes "?>" ++ rest; whole = ap (λ (t : List ℕ). t ++ rest) s.whole; passes = ap not (white_not 63 s.byte refl s.white) }))
    (λ text found s. to found s)
    from
  where
    to : (found : Piece) {text : List ℕ} → EndOrRest text found → InstructionBehind text found
    to found (One {text} m) = record { inside = []; whole = ap (λ (t : List ℕ). 63 ∷ t) m.spelt.text_is; white = tt; characters = text_is [] refl; no_end = refl; found_is = m.made_is }
    to found (Two {text} m) = record {
      inside = m.byte ∷ m.inside;
      whole = m.whole;
      white = m.white;
      characters = text_is (m.byte ∷ m.inside) (text_cons m.byte m.inside m.white m.characters);
      no_end = end_cons m.byte m.inside m.white ∙ sym (cut_end m.inside) ∙ m.first;
      found_is = m.found_is;
    }

    from : (text : List ℕ) (found : Piece) → InstructionBehind text found → EndOrRest text found
    from text found s = by s.inside s.whole s.white s.characters s.no_end
      where
        by : (inside : List ℕ) → text ≡ inside ++ codes "?>" → BeginsWhite inside → is_text inside ≡ true → holds (codes "?>") inside ≡ false → EndOrRest text found
        by [] w b c n = subst (λ (t : List ℕ). EndOrRest t found) (sym w) (One (record { value = tt; spelt = record { text_is = refl }; made_is = s.found_is }))
        by (byte ∷ inside) w b c n = Two (record { byte = byte; inside = inside; whole = w; white = b; characters = text_uncons byte inside b (text_from (byte ∷ inside) c); first = cut_end inside ∙ sym (end_cons byte inside b) ∙ n; found_is = s.found_is })

-- ---- `<?`

BehindTarget : Target → List ℕ → Piece → Type 0
BehindTarget Declaration = StartBehind
BehindTarget Instruction = InstructionBehind

is_behind_target : (target : Target) → IsReading (behind_target target) (BehindTarget target) Anything
unfolding BehindTarget
is_behind_target Declaration = is_start_at
is_behind_target Instruction = is_instruction_behind

abbrev Question : List ℕ → Piece → Type 0
Question = Sequence (Segment ends_name target_of) BehindTarget

white_ends : (byte : ℕ) → is_white byte ≡ true → ends_name byte ≡ true
white_ends byte e = (and_parts (ends_name byte) (not (eqb byte 58)) (white_ends_name byte e)).0

space_ends : (gap rest : List ℕ) → is_white_space gap ≡ true → Follows ends_name (gap ++ rest)
space_ends [] rest e = absurd cc
space_ends (b ∷ gap) rest e = record { byte = b; bytes = gap ++ rest; whole = refl; passes = white_ends b (and_parts (is_white b) (list_all is_white gap) e).0 }

behind_target_ends : (target : Target) (text rest : List ℕ) (y : Piece) → BehindTarget target text y → Follows ends_name (text ++ rest)
unfolding BehindTarget
behind_target_ends Declaration text rest y s =
    let v = s.version in
    subst (λ (t : List ℕ). Follows ends_name (t ++ rest)) (sym s.whole)
    (subst (λ (t : List ℕ). Follows ends_name (t ++ s.encoding_setting ++ s.standalone_setting ++ s.gap ++ codes "?>" ++ rest)) (sym v.whole)
    (subst (Follows ends_name) (sym (regroup v.gap (codes "version") v.equals v.quoted s.encoding_setting s.standalone_setting s.gap (codes "?>") rest))
    (space_ends v.gap (codes "version" ++ v.equals ++ v.quoted ++ s.encoding_setting ++ s.standalone_setting ++ s.gap ++ codes "?>" ++ rest) v.white)))
  where
    regroup : (a b c d e f g h i : List ℕ) → a ++ b ++ c ++ d ++ e ++ f ++ g ++ h ++ i ≡ a ++ (b ++ c ++ d ++ e ++ f ++ g ++ h ++ i)
    regroup a b c d e f g h i = simp append_assoc refl
behind_target_ends Instruction text rest y s = subst (λ (t : List ℕ). Follows ends_name (t ++ rest)) (sym s.whole) (by s.inside s.white)
  where
    by : (inside : List ℕ) → BeginsWhite inside → Follows ends_name (inside ++ codes "?>" ++ rest)
    by [] w = record { byte = 63; bytes = 62 ∷ rest; whole = refl; passes = refl }
    by (b ∷ inside) w = record { byte = b; bytes = inside ++ codes "?>" ++ rest; whole = refl; passes = white_ends b w }

target_example : (target : Target) → Opens (BehindTarget target) []
unfolding BehindTarget start_at instruction_behind
target_example Declaration = is_start_at.opens [] refl
target_example Instruction = is_instruction_behind.opens [] refl

is_question : IsReading question_at Question Anything
unfolding question_at
is_question = in_sequence (segment_at ends_name target_of begins_name) behind_target (Segment ends_name target_of) BehindTarget (Follows ends_name) Anything
    (is_segment ends_name target_of begins_name targets) is_behind_target (λ target text rest y s behind. behind_target_ends target text rest y s) target_example

-- a declaration, or an instruction
pub data QuestionIs (text : List ℕ) (found : Piece) : Type 0 where
  Declares : (encoding : Option (List ℕ)) → SpellsStart (codes "<?" ++ text) encoding → found ≡ piece.Start encoding → QuestionIs text found
  Instructs : SpellsInstruction (codes "<?" ++ text) → found ≡ piece.Skip → QuestionIs text found

-- what a target says of the name
data Named (bytes : List ℕ) : Target → Type 0 where
  Xml : bytes ≡ codes "xml" → Named bytes Declaration
  Free : is_name bytes ≡ true → is_reserved bytes ≡ false → Named bytes Instruction

named_by : (bytes : List ℕ) (target : Target) → target_of bytes ≡ Some target → Named bytes target
named_by bytes target e = by (same_text bytes (codes "xml")) (same_text (map lower_case bytes) (codes "xml")) (is_name bytes) refl refl refl target e
  where
    by : (a b c : Bool) → same_text bytes (codes "xml") ≡ a → same_text (map lower_case bytes) (codes "xml") ≡ b → is_name bytes ≡ c → (t : Target) → cond a (Some Declaration) (cond b None (cond c (Some Instruction) None)) ≡ Some t → Named bytes t
    by true b c p q r Declaration e = Xml (is_same bytes (codes "xml") p)
    by true b c p q r Instruction e = absurd cc
    by false true c p q r t e = absurd cc
    by false false true p q r Instruction e = Free r q
    by false false true p q r Declaration e = absurd cc
    by false false false p q r t e = absurd cc

to_question : (text : List ℕ) (found : Piece) → Question text found → QuestionIs text found
unfolding BehindTarget
to_question text found s = by s.first (named_by s.left s.first s.spelt_left.value_is) s.spelt_right
  where
    by : (target : Target) → Named s.left target → BehindTarget target s.right found → QuestionIs text found
    by _ (Xml x) b = Declares b.encoding (record {
      version_setting = b.version_setting;
      encoding_setting = b.encoding_setting;
      standalone_setting = b.standalone_setting;
      gap = b.gap;
      whole = ap (λ (t : List ℕ). codes "<?" ++ t) (s.whole ∙ ap (λ (t : List ℕ). t ++ s.right) x) ∙ ap (λ (t : List ℕ). codes "<?xml" ++ t) b.whole ∙ regroup b.version_setting b.encoding_setting b.standalone_setting b.gap;
      version = b.version;
      is_encoding = b.is_encoding;
      standalone = b.standalone;
      white = b.white;
    }) b.start_is
      where
        regroup : (a b c d : List ℕ) → codes "<?xml" ++ (a ++ b ++ c ++ d ++ codes "?>") ≡ codes "<?xml" ++ a ++ b ++ c ++ d ++ codes "?>"
        regroup a b c d = refl
    by _ (Free n f) b = Instructs (record {
      name = s.left;
      inside = b.inside;
      whole = ap (λ (t : List ℕ). codes "<?" ++ t) (s.whole ∙ ap (λ (t : List ℕ). s.left ++ t) b.whole ∙ sym (append_assoc s.left b.inside (codes "?>")));
      named = n;
      free = f;
      white = b.white;
      characters = b.characters;
      no_end = b.no_end;
    }) b.found_is

from_question : (text : List ℕ) (found : Piece) → QuestionIs text found → Question text found
unfolding BehindTarget
from_question text found (Declares encoding s e) = record {
  first = Declaration;
  left = codes "xml";
  right = s.version_setting ++ s.encoding_setting ++ s.standalone_setting ++ s.gap ++ codes "?>";
  whole = tail2 text (codes "xml" ++ (s.version_setting ++ s.encoding_setting ++ s.standalone_setting ++ s.gap ++ codes "?>")) s.whole;
  spelt_left = record { inside = refl; value_is = refl };
  spelt_right = record {
    encoding = encoding;
    version_setting = s.version_setting;
    encoding_setting = s.encoding_setting;
    standalone_setting = s.standalone_setting;
    gap = s.gap;
    whole = refl;
    version = s.version;
    is_encoding = s.is_encoding;
    standalone = s.standalone;
    white = s.white;
    start_is = e;
  };
}
  where
    tail2 : (s t : List ℕ) → 60 ∷ 63 ∷ s ≡ 60 ∷ 63 ∷ t → s ≡ t
    tail2 s t e = cc
from_question text found (Instructs s e) = record {
  first = Instruction;
  left = s.name;
  right = s.inside ++ codes "?>";
  whole = tail2 text (s.name ++ (s.inside ++ codes "?>")) (s.whole ∙ append_assoc (codes "<?" ++ s.name) s.inside (codes "?>"));
  spelt_left = record { inside = name_inside s.name s.named; value_is = value };
  spelt_right = record { inside = s.inside; whole = refl; white = s.white; characters = s.characters; no_end = s.no_end; found_is = e };
}
  where
    tail2 : (s t : List ℕ) → 60 ∷ 63 ∷ s ≡ 60 ∷ 63 ∷ t → s ≡ t
    tail2 s t e = cc

    not_xml : same_text s.name (codes "xml") ≡ false
    not_xml = elim (cases_Bool (same_text s.name (codes "xml"))) [
      | inl h ↦ absurd (both_ways (is_reserved s.name) s.free (ap is_reserved (is_same s.name (codes "xml") h)))
      | inr h ↦ h
    ]

    value : target_of s.name ≡ Some Instruction
    value = if_false (same_text s.name (codes "xml")) (Some Declaration) (cond (is_reserved s.name) None (cond (is_name s.name) (Some Instruction) None)) not_xml
        ∙ if_false (is_reserved s.name) None (cond (is_name s.name) (Some Instruction) None) s.free ∙ if_true (is_name s.name) (Some Instruction) None s.named

is_question_at : IsReading question_at QuestionIs Anything
is_question_at = respelt is_question to_question from_question

-- ---- `<`

abbrev Markup : List ℕ → Piece → Type 0
Markup = Either 47 CloseBehind (Either 33 Exclamation (Either 63 QuestionIs OpenBehind))

is_markup : IsReading markup_at Markup Anything
unfolding markup_at question_at exclamation_at close_at qname_at
is_markup = is_choice 47 close_at (choice 33 exclamation_at (choice 63 question_at open_at)) CloseBehind (Either 33 Exclamation (Either 63 QuestionIs OpenBehind)) Anything
    is_close_at
    (is_choice 33 exclamation_at (choice 63 question_at open_at) Exclamation (Either 63 QuestionIs OpenBehind) Anything is_exclamation_at
    (is_choice 63 question_at open_at QuestionIs OpenBehind Anything is_question_at is_open_at (is_question_at.opens [] refl) (λ text rest x s behind. not_initial 63 refl text rest x s))
    (is_exclamation_at.opens [] refl) (λ text rest x s behind. not_exclamation rest x s))
    (is_close_at.opens [] refl) (λ text rest x s behind. not_slash rest x s)
  where
    not_initial : (other : ℕ) → is_initial other ≡ false → (text rest : List ℕ) (x : Piece) → OpenBehind text x → Follows (λ byte. not (eqb byte other)) (text ++ rest)
    not_initial other no_initial text rest x s = follows_in (λ byte. initial_is_not other byte no_initial) (open_initial text rest x s)

    not_exclamation : (rest : List ℕ) (x : Piece) {text : List ℕ} → Either 63 QuestionIs OpenBehind text x → Follows (λ byte. not (eqb byte 33)) (text ++ rest)
    not_exclamation rest x (One {text} s) = record { byte = 63; bytes = text ++ rest; whole = refl; passes = refl }
    not_exclamation rest x (Two {text} s) = not_initial 33 refl text rest x s

    question_or_open : (rest : List ℕ) (x : Piece) {text : List ℕ} → Either 63 QuestionIs OpenBehind text x → Follows (λ byte. not (eqb byte 47)) (text ++ rest)
    question_or_open rest x (One {text} s) = record { byte = 63; bytes = text ++ rest; whole = refl; passes = refl }
    question_or_open rest x (Two {text} s) = not_initial 47 refl text rest x s

    not_slash : (rest : List ℕ) (x : Piece) {text : List ℕ} → Either 33 Exclamation (Either 63 QuestionIs OpenBehind) text x → Follows (λ byte. not (eqb byte 47)) (text ++ rest)
    not_slash rest x (One {text} s) = record { byte = 33; bytes = text ++ rest; whole = refl; passes = refl }
    not_slash rest x (Two s) = question_or_open rest x s

-- ---- attributes in the words of the specification

to_attributes : {text : List ℕ} {attributes : List Attribute} → GapAttributes text attributes → SpellsAttributes text attributes
to_attributes NoMore = refl
to_attributes (More {first} {others} {attribute} {attributes} a each) = (first, others, refl, one, to_attributes each)
  where
    one : SpellsAttribute first attribute
    one =
        let b = a.is_bare in
        let p = value_parts b.value.inside attribute.value b.value.value_is in
        record {
          gap = a.gap;
          equals = b.equals;
          quoted = b.quoted;
          inside = b.value.inside;
          whole = a.whole ∙ ap (λ (t : List ℕ). a.gap ++ t) b.whole ∙ regroup a.gap (qname_text attribute.name) b.equals b.quoted;
          white = a.white;
          named = b.named;
          is_equals = b.is_equals;
          is_quoted = b.value.is_quoted;
          characters = text_is b.value.inside p.characters;
          no_tag = p.no_tag;
          references = p.references;
          value = p.value_is;
        }
      where
        regroup : (a b c d : List ℕ) → a ++ (b ++ c ++ d) ≡ a ++ b ++ c ++ d
        regroup a b c d = simp append_assoc refl

from_attributes : (attributes : List Attribute) (text : List ℕ) → SpellsAttributes text attributes → GapAttributes text attributes
from_attributes [] text s = subst (λ (t : List ℕ). GapAttributes t []) (sym s) NoMore
from_attributes (attribute ∷ attributes) text s =
    subst (λ (t : List ℕ). GapAttributes t (attribute ∷ attributes)) (sym s.2) (More one (from_attributes attributes s.1 s.4))
  where
    one : GapAttribute s.0 attribute
    one =
        let a = s.3 in
        record {
          gap = a.gap;
          bare = qname_text attribute.name ++ a.equals ++ a.quoted;
          whole = a.whole ∙ regroup a.gap (qname_text attribute.name) a.equals a.quoted;
          white = a.white;
          is_bare = record {
            equals = a.equals;
            quoted = a.quoted;
            whole = refl;
            named = a.named;
            is_equals = a.is_equals;
            value = record { inside = a.inside; is_quoted = a.is_quoted; value_is = value_from a.inside attribute.value (record { characters = text_from a.inside a.characters; no_tag = a.no_tag; references = a.references; value_is = a.value }) };
          };
        }
      where
        regroup : (a b c d : List ℕ) → a ++ b ++ c ++ d ≡ a ++ (b ++ c ++ d)
        regroup a b c d = simp append_assoc refl

-- ---- all markup

spelt_as : (bytes : List ℕ) (found made : Piece) → found ≡ made → Spells bytes made → Spells bytes found
spelt_as bytes found made e s = subst (Spells bytes) (sym e) s

to_exclamation : (found : Piece) {text : List ℕ} → Exclamation text found → Spells (60 ∷ 33 ∷ text) found
to_exclamation found (One {text} s) = spelt_as (60 ∷ 33 ∷ 45 ∷ text) found piece.Skip s.found_is (inl s.spelt)
to_exclamation found (Two s) = second s
  where
    second : {text : List ℕ} → Either 91 Cdata Doctype text found → Spells (60 ∷ 33 ∷ text) found
    second (One {text} s) = spelt_as (60 ∷ 33 ∷ 91 ∷ text) found (piece.Text s.value) s.found_is (inl s.spelt)
    second (Two {text} s) = spelt_as (60 ∷ 33 ∷ text) found piece.Doctype s.found_is s.spelt

to_markup : (found : Piece) {text : List ℕ} → Markup text found → Spells (60 ∷ text) found
to_markup found (One {text} s) = spelt_as (60 ∷ 47 ∷ text) found (piece.Close s.name) s.closed_is (record {
  gap = s.gap;
  whole = ap (λ (t : List ℕ). 60 ∷ 47 ∷ t) s.whole;
  named = s.named;
  white = s.white;
})
to_markup found (Two s) = second s
  where
    third : {text : List ℕ} → Either 63 QuestionIs OpenBehind text found → Spells (60 ∷ text) found
    third (One {text} (Declares encoding s e)) = spelt_as (60 ∷ 63 ∷ text) found (piece.Start encoding) e s
    third (One {text} (Instructs s e)) = spelt_as (60 ∷ 63 ∷ text) found piece.Skip e (inr s)
    third (Two {text} s) = spelt_as (60 ∷ text) found (piece.Open s.name s.inside.attributes s.inside.empty) s.opened_is (record {
      inside = s.is_inside.left;
      gap = s.is_inside.gap;
      whole = ap (λ (t : List ℕ). 60 ∷ t) (s.whole ∙ ap (λ (t : List ℕ). qname_text s.name ++ t) s.is_inside.whole ∙ regroup (qname_text s.name) s.is_inside.left s.is_inside.gap (tag_end s.inside.empty));
      named = s.named;
      each = to_attributes s.is_inside.each;
      white = s.is_inside.white;
    })
      where
        regroup : (a b c d : List ℕ) → a ++ (b ++ (c ++ d)) ≡ a ++ b ++ c ++ d
        regroup a b c d = simp append_assoc refl

    second : {text : List ℕ} → Either 33 Exclamation (Either 63 QuestionIs OpenBehind) text found → Spells (60 ∷ text) found
    second (One {text} s) = to_exclamation found s
    second (Two s) = third s

-- a text and what it begins with
begins_so : (first : ℕ) (text rest : List ℕ) → 60 ∷ text ≡ 60 ∷ first ∷ rest → text ≡ first ∷ rest
begins_so first text rest e = cc

from_markup : (text : List ℕ) (found : Piece) → Spells (60 ∷ text) found → Markup text found
from_markup text (piece.Start encoding) s =
    let rest = codes "xml" ++ s.version_setting ++ s.encoding_setting ++ s.standalone_setting ++ s.gap ++ codes "?>" in
    let w : text ≡ 63 ∷ rest = begins_so 63 text rest s.whole in
    subst (λ (t : List ℕ). Markup t (piece.Start encoding)) (sym w) (Two (Two (One (Declares encoding (subst (λ (t : List ℕ). SpellsStart (60 ∷ t) encoding) w s) refl))))
from_markup text piece.Doctype s =
    let w : text ≡ 33 ∷ codes "DOCTYPE" = begins_so 33 text (codes "DOCTYPE") s in
    subst (λ (t : List ℕ). Markup t piece.Doctype) (sym w) (Two (One (Two (Two (record { spelt = refl; found_is = refl })))))
from_markup text (piece.Open name attributes empty) s = Two (Two (Two (record {
  name = name;
  inside = record { attributes = attributes; empty = empty };
  right = s.inside ++ (s.gap ++ tag_end empty);
  whole = cons_tail text (qname_text name ++ (s.inside ++ (s.gap ++ tag_end empty))) (s.whole ∙ ap (λ (t : List ℕ). 60 ∷ t) (regroup (qname_text name) s.inside s.gap (tag_end empty)));
  named = s.named;
  is_inside = record { left = s.inside; gap = s.gap; whole = refl; each = from_attributes attributes s.inside s.each; white = s.white };
  opened_is = refl;
})))
  where
    regroup : (a b c d : List ℕ) → a ++ b ++ c ++ d ≡ a ++ (b ++ (c ++ d))
    regroup a b c d = simp append_assoc refl

    cons_tail : (s t : List ℕ) → 60 ∷ s ≡ 60 ∷ t → s ≡ t
    cons_tail s t e = cc
from_markup text (piece.Close name) s =
    let rest = qname_text name ++ s.gap ++ codes ">" in
    let w : text ≡ 47 ∷ rest = begins_so 47 text rest s.whole in
    subst (λ (t : List ℕ). Markup t (piece.Close name)) (sym w) (One (record { name = name; gap = s.gap; whole = refl; named = s.named; white = s.white; closed_is = refl }))
from_markup text (piece.Text value) (inl s) =
    let rest = codes "CDATA[" ++ s.inside ++ cdata_end in
    let w : text ≡ 33 ∷ 91 ∷ rest = begins_so 33 text (91 ∷ rest) s.whole in
    subst (λ (t : List ℕ). Markup t (piece.Text value)) (sym w) (Two (One (Two (One (record { value = value; spelt = subst (λ (t : List ℕ). SpellsCdata (60 ∷ t) value) w s; found_is = refl })))))
from_markup text (piece.Text value) (inr s) = let f = s.no_tag in absurd cc
from_markup text piece.Skip (inl s) =
    let rest = codes "-" ++ s.inside ++ codes "-->" in
    let w : text ≡ 33 ∷ 45 ∷ rest = begins_so 33 text (45 ∷ rest) s.whole in
    subst (λ (t : List ℕ). Markup t piece.Skip) (sym w) (Two (One (One (record { spelt = subst (λ (t : List ℕ). SpellsComment (60 ∷ t)) w s; found_is = refl }))))
from_markup text piece.Skip (inr s) =
    let rest = s.name ++ s.inside ++ codes "?>" in
    let w : text ≡ 63 ∷ rest = begins_so 63 text rest s.whole in
    subst (λ (t : List ℕ). Markup t piece.Skip) (sym w) (Two (Two (One (Instructs (subst (λ (t : List ℕ). SpellsInstruction (60 ∷ t)) w s) refl))))

pub is_markup_at : IsReading markup_at (λ text found. Spells (60 ∷ text) found) Anything
is_markup_at = respelt is_markup (λ text found s. to_markup found s) from_markup

-- ---- runs

pub record Run (text : List ℕ) (found : Piece) : Type 0 where
  pub value : List ℕ
  pub spelt : SpellsRun text value
  pub found_is : found ≡ piece.Text value

to_run : (text : List ℕ) (found : Piece) → Segment (is_that 60) text_of_run text found → Run text found
to_run text found s =
    let t = text_parts text found s.value_is in
    let p = run_parts text t.0 t.1 in
    let f = first text p.some in
    record {
      value = t.0;
      spelt = record { first = f.0; others = f.1; whole = f.2; characters = text_is text p.characters; no_tag = s.inside; no_end = p.no_end; references = p.references; value = p.value_is };
      found_is = t.2;
    }
  where
    first : (text : List ℕ) → is_some_bytes text ≡ true → (b : ℕ) × (others : List ℕ) × (text ≡ b ∷ others)
    first [] e = absurd cc
    first (b ∷ text) e = (b, text, refl)

run_value : (text : List ℕ) (found : Piece) → Run text found → text_of_run text ≡ Some found
run_value text found s =
    let r = s.spelt in
    ap (option_map piece.Text) (run_from text s.value (record { some = ap is_some_bytes r.whole; characters = text_from text r.characters; no_end = r.no_end; references = r.references; value_is = r.value })) ∙ ap (λ (p : Piece). Some p) (sym s.found_is)

from_run : (text : List ℕ) (found : Piece) → Run text found → Segment (is_that 60) text_of_run text found
from_run text found s = record { inside = s.spelt.no_tag; value_is = run_value text found s }

pub is_run : IsReading run_at Run (Follows (is_that 60))
is_run = respelt is_run_at to_run from_run

-- what begins with another byte is a run
only_run : (b : ℕ) (text : List ℕ) (found : Piece) → eqb b 60 ≡ false → Spells (b ∷ text) found → Run (b ∷ text) found
only_run b text found h s = by found s
  where
    not_markup : (rest : List ℕ) → b ∷ text ≡ 60 ∷ rest → ⊥
    not_markup rest e = both_ways (eqb b 60) h (eq-eqb b 60 (head e))
      where
        head : b ∷ text ≡ 60 ∷ rest → b ≡ 60
        head e = cc

    by : (found : Piece) → Spells (b ∷ text) found → Run (b ∷ text) found
    by (piece.Start encoding) s = absurd (not_markup (codes "?xml" ++ s.version_setting ++ s.encoding_setting ++ s.standalone_setting ++ s.gap ++ codes "?>") s.whole)
    by piece.Doctype s = absurd (not_markup (codes "!DOCTYPE") s)
    by (piece.Open name attributes empty) s = absurd (not_markup (qname_text name ++ s.inside ++ s.gap ++ tag_end empty) s.whole)
    by (piece.Close name) s = absurd (not_markup (47 ∷ qname_text name ++ s.gap ++ codes ">") s.whole)
    by (piece.Text value) (inl s) = absurd (not_markup (codes "![CDATA[" ++ s.inside ++ cdata_end) s.whole)
    by (piece.Text value) (inr s) = record { value = value; spelt = s; found_is = refl }
    by piece.Skip (inl s) = absurd (not_markup (codes "!--" ++ s.inside ++ codes "-->") s.whole)
    by piece.Skip (inr s) = absurd (not_markup (codes "?" ++ s.name ++ s.inside ++ codes "?>") s.whole)

run_spells : (text : List ℕ) (found : Piece) → Run text found → Spells text found
run_spells text found s = spelt_as text found (piece.Text s.value) s.found_is (inr s.spelt)

-- ---- before the end of the input

first_byte : (bytes : List ℕ) (y : Read Piece) (b : ℕ) → inner_piece_at (b ∷ bytes) ≡ y → ((b ≡ 60) × (markup_at bytes ≡ y)) ⊎ ((eqb b 60 ≡ false) × (run_at (b ∷ bytes) ≡ y))
unfolding inner_piece_at
first_byte bytes y b e = choice_is 60 markup_at run_at b bytes y e

at_tag : (bytes : List ℕ) (y : Read Piece) → markup_at bytes ≡ y → inner_piece_at (60 ∷ bytes) ≡ y
unfolding inner_piece_at
at_tag bytes y e = if_true (eqb 60 60) (markup_at bytes) (run_at (60 ∷ bytes)) refl ∙ e

at_run : (b : ℕ) (bytes : List ℕ) (y : Read Piece) → eqb b 60 ≡ false → run_at (b ∷ bytes) ≡ y → inner_piece_at (b ∷ bytes) ≡ y
unfolding inner_piece_at
at_run b bytes y h e = if_false (eqb b 60) (markup_at bytes) (run_at (b ∷ bytes)) h ∙ e

at_nothing : inner_piece_at [] ≡ Err Unfinished
unfolding inner_piece_at
at_nothing = refl

run_open : (bytes : List ℕ) (found : Piece) → Run bytes found → run_at bytes ≡ Err Unfinished
unfolding run_at
run_open bytes found s = segment_open (is_that 60) text_of_run begins_run runs bytes found s.spelt.no_tag (run_value bytes found s)

run_follows : (bytes : List ℕ) (found : Piece) (rest : List ℕ) → run_at bytes ≡ Ok (found, rest) → Follows (is_that 60) rest
unfolding run_at
run_follows bytes found rest e = segment_follows (is_that 60) text_of_run begins_run runs bytes found rest e

tag_ahead : (rest : List ℕ) → Follows (is_that 60) rest → IsTagAhead rest
tag_ahead rest f = subst IsTagAhead (sym f.whole) (eqb-true f.byte 60 f.passes)

tag_follows : (rest : List ℕ) → IsTagAhead rest → Follows (is_that 60) rest
tag_follows [] t = absurd t
tag_follows (b ∷ rest) t = record { byte = b; bytes = rest; whole = refl; passes = eq-eqb b 60 t }

inner_found : (bytes : List ℕ) (last : Bool) (found : Piece) (rest : List ℕ) → inner_piece_at bytes ≡ Ok (found, rest) → IsSpeltAt bytes last found rest
inner_found [] last found rest e = let n = sym at_nothing ∙ e in absurd cc
inner_found (b ∷ bytes) last found rest e = elim (first_byte bytes (Ok (found, rest)) b e) [
  | inl h ↦ let t = is_markup_at.takes bytes found rest h.1 in
      record { front = b ∷ t.text; whole = ap (λ (s : List ℕ). b ∷ s) t.whole; spelt = subst (λ (k : ℕ). Spells (k ∷ t.text) found) (sym h.0) t.spelt; ends = inl h.0 }
  | inr h ↦ let t = is_run.takes (b ∷ bytes) found rest h.1 in
      let r = t.spelt.spelt in
      record {
        front = t.text;
        whole = t.whole;
        spelt = run_spells t.text found t.spelt;
        ends = subst (λ (s : List ℕ). MayEndBefore s rest last) (sym r.whole) (inr (inl (tag_ahead rest (run_follows (b ∷ bytes) found rest h.1))));
      }
]

-- ---- with the end of the input

last_cases : (bytes : List ℕ) (outcome : Read Piece) → last_run bytes ≡ outcome → (outcome ≡ Err Unfinished) ⊎ ((found : Piece) × (outcome ≡ Ok (found, [])) × (lacks 60 bytes ≡ true) × (text_of_run bytes ≡ Some found))
last_cases bytes outcome e = by (lacks 60 bytes) (text_of_run bytes) refl refl e
  where
    by : (l : Bool) (o : Option Piece) → lacks 60 bytes ≡ l → text_of_run bytes ≡ o → to_the_end (cond l o None) ≡ outcome → (outcome ≡ Err Unfinished) ⊎ ((found : Piece) × (outcome ≡ Ok (found, [])) × (lacks 60 bytes ≡ true) × (text_of_run bytes ≡ Some found))
    by false o p q e = inl (sym e)
    by true None p q e = inl (sym e)
    by true (Some found) p q e = inr (found, sym e, p, q)

-- the cases of a reading with the end
data AtEnd (bytes : List ℕ) (outcome : Read Piece) : Type 0 where
  Before : inner_piece_at bytes ≡ outcome → AtEnd bytes outcome
  Late : inner_piece_at bytes ≡ Err Unfinished → last_run bytes ≡ outcome → AtEnd bytes outcome

at_end_cases : (bytes : List ℕ) (outcome : Read Piece) → or_last_run bytes (inner_piece_at bytes) ≡ outcome → AtEnd bytes outcome
at_end_cases bytes outcome e = by (inner_piece_at bytes) refl e
  where
    by : (seen : Read Piece) → inner_piece_at bytes ≡ seen → or_last_run bytes seen ≡ outcome → AtEnd bytes outcome
    by (Ok read) s e = Before (s ∙ e)
    by (Err Unfinished) s e = Late s e
    by (Err NoPiece) s e = Before (s ∙ e)
    by (Err NoMemory) s e = Before (s ∙ e)

pub piece_found : (bytes : List ℕ) (last : Bool) (found : Piece) (rest : List ℕ) → piece_at bytes last ≡ Ok (found, rest) → IsSpeltAt bytes last found rest
unfolding piece_at
piece_found bytes false found rest e = inner_found bytes false found rest e
piece_found bytes true found rest e = by (at_end_cases bytes (Ok (found, rest)) e)
  where
    late : (run : Piece) → ◌≡◌ {A = Read Piece} (Ok (found, rest)) (Ok (run, [])) → lacks 60 bytes ≡ true → text_of_run bytes ≡ Some run → IsSpeltAt bytes true found rest
    late run q l v =
        let p = ok_parts found run rest [] q in
        let r = to_run bytes run (record { inside = l; value_is = v }) in
        record {
          front = bytes;
          whole = sym (append-nil bytes) ∙ ap (λ (t : List ℕ). bytes ++ t) (sym p.1);
          spelt = subst (Spells bytes) (sym p.0) (run_spells bytes run r);
          ends = subst (λ (t : List ℕ). MayEndBefore t rest true) (sym r.spelt.whole) (inr (inr (p.1, refl)));
        }

    by : AtEnd bytes (Ok (found, rest)) → IsSpeltAt bytes true found rest
    by (Before s) = inner_found bytes true found rest s
    by (Late s l) = elim (last_cases bytes (Ok (found, rest)) l) [
      | inl h ↦ absurd cc
      | inr h ↦ late h.0 h.1 h.2 h.3
    ]

last_is : (bytes : List ℕ) (found : Piece) → lacks 60 bytes ≡ true → text_of_run bytes ≡ Some found → last_run bytes ≡ Ok (found, [])
last_is bytes found l v = ap to_the_end (if_true (lacks 60 bytes) (text_of_run bytes) None l ∙ v)

from_inner : (bytes : List ℕ) (last : Bool) (read : Piece × List ℕ) → inner_piece_at bytes ≡ Ok read → piece_at bytes last ≡ Ok read
unfolding piece_at
from_inner bytes false read e = e
from_inner bytes true read e = ap (or_last_run bytes) e

at_end_is : (bytes : List ℕ) (outcome : Read Piece) → inner_piece_at bytes ≡ Err Unfinished → last_run bytes ≡ outcome → piece_at bytes true ≡ outcome
unfolding piece_at
at_end_is bytes outcome u l = ap (or_last_run bytes) u ∙ l

pub piece_given : (bytes : List ℕ) (last : Bool) (found : Piece) (rest : List ℕ) → IsSpeltAt bytes last found rest → piece_at bytes last ≡ Ok (found, rest)
piece_given bytes last found rest s = by s.front s.whole s.spelt s.ends
  where
    tagged : (b : ℕ) (front : List ℕ) → bytes ≡ b ∷ front ++ rest → Spells (b ∷ front) found → b ≡ 60 → piece_at bytes last ≡ Ok (found, rest)
    tagged b front w p e =
        from_inner bytes last (found, rest) (ap inner_piece_at (w ∙ ap (λ (k : ℕ). k ∷ front ++ rest) e)
        ∙ at_tag (front ++ rest) (Ok (found, rest)) (is_markup_at.gives front rest found (subst (λ (k : ℕ). Spells (k ∷ front) found) e p) tt))

    run : (b : ℕ) (front : List ℕ) → bytes ≡ b ∷ front ++ rest → Run (b ∷ front) found → eqb b 60 ≡ false → (IsTagAhead rest) ⊎ ((rest ≡ []) × (last ≡ true)) → piece_at bytes last ≡ Ok (found, rest)
    run b front w r h (inl t) = from_inner bytes last (found, rest) (ap inner_piece_at w ∙ at_run b (front ++ rest) (Ok (found, rest)) h (is_run.gives (b ∷ front) rest found r (tag_follows rest t)))
    run b front w r h (inr p) = ap (piece_at bytes) p.1 ∙ ended (w ∙ ap (λ (t : List ℕ). b ∷ front ++ t) p.0 ∙ append-nil (b ∷ front))
      where
        ended : bytes ≡ b ∷ front → piece_at bytes true ≡ Ok (found, rest)
        ended e = at_end_is bytes (Ok (found, []))
            (ap inner_piece_at e ∙ at_run b front (Err Unfinished) h (run_open (b ∷ front) found r))
            (ap last_run e ∙ last_is (b ∷ front) found r.spelt.no_tag (run_value (b ∷ front) found r))
            ∙ ap (λ (t : List ℕ). Ok (found, t)) (sym p.0)

    by : (front : List ℕ) → bytes ≡ front ++ rest → Spells front found → MayEndBefore front rest last → piece_at bytes last ≡ Ok (found, rest)
    by [] w p e = absurd e
    by (b ∷ front) w p e = elim (cases_Bool (eqb b 60)) [
      | inl h ↦ tagged b front w p (eqb-true b 60 h)
      | inr h ↦ run b front w (only_run b front found h p) h (ends h e)
    ]
      where
        ends : eqb b 60 ≡ false → MayEndBefore (b ∷ front) rest last → (IsTagAhead rest) ⊎ ((rest ≡ []) × (last ≡ true))
        ends h (inl e) = absurd (both_ways (eqb b 60) h (eq-eqb b 60 e))
        ends h (inr e) = e

-- ---- what is unfinished

-- a run goes on with a letter
longer_run : (text : List ℕ) (found : Piece) → Run text found → (longer : Piece) × Spells (text ++ 97 ∷ []) longer
longer_run text found s =
    let r = s.spelt in
    let more = 97 ∷ [] in
    let c = references_and text more r.references refl in
    let v = some_of (run_text (text ++ more)) (run_is_meant (text ++ more) c) in (
      piece.Text v.0,
      inr (record {
        first = r.first;
        others = r.others ++ more;
        whole = ap (λ (t : List ℕ). t ++ more) r.whole;
        characters = text_is (text ++ more) (text-append text more (text_from text r.characters) refl);
        no_tag = list_all-append (λ b. not (eqb b 60)) text more ∙ and_from (lacks 60 text) true r.no_tag refl;
        no_end = no_mark_more text more r.no_end refl;
        references = c;
        value = v.1;
      }),
    )

front_of : (bytes more : List ℕ) (found : Piece) → Spells (bytes ++ more) found → (more ≡ [] → IsFront bytes) → IsFront bytes
front_of bytes [] found s whole = whole refl
front_of bytes (b ∷ more) found s whole = record { byte = b; more = more; piece = found; spelt = s }

inner_open : (bytes : List ℕ) → inner_piece_at bytes ≡ Err Unfinished → IsFront bytes
inner_open [] e = record { byte = 60; more = codes "!DOCTYPE"; piece = piece.Doctype; spelt = refl }
inner_open (b ∷ bytes) e = elim (first_byte bytes (Err Unfinished) b e) [
  | inl h ↦ tag h.0 h.1 (is_markup_at.opens bytes h.1)
  | inr h ↦ run h.0 (is_run.opens (b ∷ bytes) h.1)
]
  where
    tag : b ≡ 60 → markup_at bytes ≡ Err Unfinished → Opens (λ text found. Spells (60 ∷ text) found) bytes → IsFront (b ∷ bytes)
    tag q u o = front_of (b ∷ bytes) o.more o.value (subst (λ (k : ℕ). Spells (k ∷ bytes ++ o.more) o.value) (sym q) o.spelt) whole
      where
        whole : o.more ≡ [] → IsFront (b ∷ bytes)
        whole n =
            let s : Spells (60 ∷ bytes) o.value = subst (λ (t : List ℕ). Spells (60 ∷ t) o.value) (ap (λ (t : List ℕ). bytes ++ t) n ∙ append-nil bytes) o.spelt in
            let g : markup_at (bytes ++ []) ≡ Ok (o.value, []) = is_markup_at.gives bytes [] o.value s tt in
            let f : ◌≡◌ {A = Read Piece} (Ok (o.value, [])) (Err Unfinished) = sym g ∙ ap markup_at (append-nil bytes) ∙ u in
            absurd cc

    run : eqb b 60 ≡ false → Opens Run (b ∷ bytes) → IsFront (b ∷ bytes)
    run h o = front_of (b ∷ bytes) o.more o.value (run_spells (b ∷ bytes ++ o.more) o.value o.spelt) whole
      where
        whole : o.more ≡ [] → IsFront (b ∷ bytes)
        whole n =
            let l = longer_run (b ∷ bytes) o.value (subst (λ (t : List ℕ). Run t o.value) (ap (λ (t : List ℕ). b ∷ bytes ++ t) n ∙ append-nil (b ∷ bytes)) o.spelt) in
            record { byte = 97; more = []; piece = l.0; spelt = l.1 }

pub piece_open : (bytes : List ℕ) (last : Bool) → piece_at bytes last ≡ Err Unfinished → IsFront bytes
unfolding piece_at
piece_open bytes false e = inner_open bytes e
piece_open bytes true e = by (at_end_cases bytes (Err Unfinished) e)
  where
    by : AtEnd bytes (Err Unfinished) → IsFront bytes
    by (Before s) = inner_open bytes s
    by (Late s l) = inner_open bytes s

-- ---- where no piece can be

-- a spelling is read as a piece, or may go on
never_none : (text : List ℕ) (found : Piece) → Spells text found → inner_piece_at text ≡ Err NoPiece → ⊥
never_none [] found s e = let n : ◌≡◌ {A = Read Piece} (Err Unfinished) (Err NoPiece) = sym at_nothing ∙ e in cc
never_none (b ∷ text) found s e = elim (first_byte text (Err NoPiece) b e) [
  | inl h ↦ tag (is_markup_at.gives text [] found (subst (λ (k : ℕ). Spells (k ∷ text) found) h.0 s) tt) h.1
  | inr h ↦ run (run_open (b ∷ text) found (only_run b text found h.0 s)) h.1
]
  where
    tag : markup_at (text ++ []) ≡ Ok (found, []) → markup_at text ≡ Err NoPiece → ⊥
    tag g e = let f : ◌≡◌ {A = Read Piece} (Ok (found, [])) (Err NoPiece) = sym g ∙ ap markup_at (append-nil text) ∙ e in cc

    run : run_at (b ∷ text) ≡ Err Unfinished → run_at (b ∷ text) ≡ Err NoPiece → ⊥
    run g e = let f : ◌≡◌ {A = Read Piece} (Err Unfinished) (Err NoPiece) = sym g ∙ e in cc

inner_stays : (bytes more : List ℕ) → inner_piece_at bytes ≡ Err NoPiece → inner_piece_at (bytes ++ more) ≡ Err NoPiece
inner_stays [] more e = let n : ◌≡◌ {A = Read Piece} (Err Unfinished) (Err NoPiece) = sym at_nothing ∙ e in absurd cc
inner_stays (b ∷ bytes) more e = elim (first_byte bytes (Err NoPiece) b e) [
  | inl h ↦ ap (λ (k : ℕ). inner_piece_at (k ∷ bytes ++ more)) h.0 ∙ at_tag (bytes ++ more) (Err NoPiece) (is_markup_at.stays bytes more h.1)
  | inr h ↦ at_run b (bytes ++ more) (Err NoPiece) h.0 (is_run.stays (b ∷ bytes) more h.1)
]

pub front_not_none : (bytes : List ℕ) (last : Bool) → IsFront bytes → piece_at bytes last ≡ Err NoPiece → ⊥
unfolding piece_at
front_not_none bytes false f e = never_none (bytes ++ f.byte ∷ f.more) f.piece f.spelt (inner_stays bytes (f.byte ∷ f.more) e)
front_not_none bytes true f e = by (at_end_cases bytes (Err NoPiece) e)
  where
    by : AtEnd bytes (Err NoPiece) → ⊥
    by (Before s) = never_none (bytes ++ f.byte ∷ f.more) f.piece f.spelt (inner_stays bytes (f.byte ∷ f.more) s)
    by (Late s l) = elim (last_cases bytes (Err NoPiece) l) [ inl h ↦ cc | inr h ↦ let q = h.1 in cc ]

inner_pure : (bytes : List ℕ) → inner_piece_at bytes ≡ Err NoMemory → ⊥
inner_pure [] e = let n : ◌≡◌ {A = Read Piece} (Err Unfinished) (Err NoMemory) = sym at_nothing ∙ e in cc
inner_pure (b ∷ bytes) e = elim (first_byte bytes (Err NoMemory) b e) [
  | inl h ↦ is_markup_at.pure bytes h.1
  | inr h ↦ is_run.pure (b ∷ bytes) h.1
]

pub piece_pure : (bytes : List ℕ) (last : Bool) → piece_at bytes last ≡ Err NoMemory → ⊥
unfolding piece_at
piece_pure bytes false e = inner_pure bytes e
piece_pure bytes true e = by (at_end_cases bytes (Err NoMemory) e)
  where
    by : AtEnd bytes (Err NoMemory) → ⊥
    by (Before s) = inner_pure bytes s
    by (Late s l) = elim (last_cases bytes (Err NoMemory) l) [ inl h ↦ cc | inr h ↦ let q = h.1 in cc ]
