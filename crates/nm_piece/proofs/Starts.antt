-- The XML declaration is a reading.
use Rattle.std.proofs.Common.{◌≡◌, ℕ, Bool, true, false, not, eqb, ◌||◌, List, [], ◌∷◌, ◌++◌, codes, Option, Some, None, refl, sym, ap, subst, ◌∙◌, append_assoc, inl, inr}
use Rattle.std.specs.List.{list_all}
use Rattle.std.proofs.lemmas.Bool.{eqb-true, or_cases}
use Rattle.nm_terms.specs.Bytes.{same_text}
use Rattle.nm_text.specs.White.{is_white_space, is_white_text}
use Rattle.nm_piece.specs.declared.piece.Piece.{Piece}
use Rattle.nm_piece.specs.declared.piece.Piece.TheVariants as piece
use Rattle.nm_piece.specs.Name.{ends_white, equals_at, gap_at, space_at, space_of}
use Rattle.nm_piece.specs.Reading.{Read, ◌>>=◌, choice, literal_at}
use Rattle.nm_piece.specs.Spells.{IsEquals, IsQuoted, IsSetting, IsEncodingSetting, IsStandaloneSetting}
use Rattle.nm_piece.specs.Start.{behind_encoding, behind_version, begins_encoding, begins_standalone, begins_version, encoding_at, encoding_of, is_encoding, standalone_at, standalone_of, start_at, start_end, version_at, version_of}
use Rattle.nm_piece.specs.Tag.{behind_white}
use Rattle.nm_piece.specs.Value.{quoted_at}
use Rattle.nm_piece.proofs.Readings.{Anything, Either, One, Two, Follows, IsReading, Literal, Made, Opens, Segment, Sequence, if_true, in_sequence, is_choice, is_literal, is_made, is_segment, respelt}
use Rattle.nm_piece.proofs.Names.{Gap, all_white, gap_from, gap_from_some, gap_some, gap_white, is_equals_at, white_space_text}
use Rattle.nm_piece.proofs.Segments.{chosen, encodings, is_gap_at, is_same, opens_as, standalones, versions}
use Rattle.nm_piece.proofs.Tags.{IfWhite, from_some, if_some, if_white}
use Rattle.nm_piece.proofs.Values.{Quoted, is_quoted_at}

-- ---- a word, `=` and a value in quotes, and what follows

pub record Setting {X : Type 0} (word : List ℕ) (value : List ℕ → Option X) (text : List ℕ) (found : X) : Type 0 where
  pub equals : List ℕ
  pub quoted : List ℕ
  pub whole : text ≡ word ++ equals ++ quoted
  pub is_equals : IsEquals equals
  pub spelt : Quoted value quoted found

module _ {X Y : Type 0} (word : List ℕ) (value : List ℕ → Option X) (quoted : List ℕ → Read X) (next : X → List ℕ → Read Y) (Next : X → List ℕ → Y → Type 0) (Behind : List ℕ → Type 0)
    (is_quoted : IsReading quoted (Quoted value) Anything) (is_next : (x : X) → IsReading (next x) (Next x) Behind) (example : Opens (Quoted value) []) (next_example : (x : X) → Opens (Next x) []) where
  abbrev EqualsSign : List ℕ → Unit {0} → Type 0
  EqualsSign text sign = IsEquals text

  abbrev Valued : List ℕ → Y → Type 0
  Valued = Sequence (Quoted value) Next

  abbrev Equated : List ℕ → Y → Type 0
  Equated = Sequence EqualsSign (λ sign. Valued)

  abbrev Worded : List ℕ → Y → Type 0
  Worded = Sequence (Literal word) (λ tt. Equated)

  quote_not_white : (text rest : List ℕ) (y : Y) → Valued text y → Follows ends_white (text ++ rest)
  quote_not_white text rest y s =
      let q = s.spelt_left.is_quoted in
      record { byte = q.quote; bytes = s.spelt_left.inside ++ q.quote ∷ [] ++ s.right ++ rest; whole = ap (λ (t : List ℕ). t ++ rest) (s.whole ∙ ap (λ (t : List ℕ). t ++ s.right) q.whole); passes = passes q.quote q.is_one }
    where
      passes : (quote : ℕ) → (eqb quote 34 || eqb quote 39) ≡ true → ends_white quote ≡ true
      passes quote e = elim (or_cases (eqb quote 34) (eqb quote 39) e) [
        | inl h ↦ ap ends_white (that quote 34 h)
        | inr h ↦ ap ends_white (that quote 39 h)
      ]
        where
          that : (a b : ℕ) → eqb a b ≡ true → a ≡ b
          that a b h = eqb-true a b h

  is_valued : IsReading (λ bytes. quoted bytes >>= λ x. next x.0 x.1) Valued Behind
  is_valued = in_sequence quoted next (Quoted value) Next Anything Behind is_quoted is_next (λ x text rest y s behind. tt) next_example

  valued_example : Opens Valued []
  valued_example = let n = next_example example.value in record { more = example.more ++ n.more; value = n.value; spelt = record { first = example.value; left = example.more; right = n.more; whole = refl; spelt_left = example.spelt; spelt_right = n.spelt } }

  is_equated : IsReading (λ bytes. equals_at bytes >>= λ sign. quoted sign.1 >>= λ x. next x.0 x.1) Equated Behind
  is_equated = in_sequence equals_at (λ sign bytes. quoted bytes >>= λ x. next x.0 x.1) EqualsSign (λ sign. Valued) (Follows ends_white) Behind is_equals_at (λ sign. is_valued)
      (λ sign text rest y s behind. quote_not_white text rest y s) (λ sign. valued_example)

  equated_example : Opens Equated []
  equated_example = let n = valued_example in record { more = codes "=" ++ n.more; value = n.value; spelt = record { first = tt; left = codes "="; right = n.more; whole = refl; spelt_left = record { left = []; right = []; whole = refl; white_left = refl; white_right = refl }; spelt_right = n.spelt } }

  pub is_setting : IsReading (λ bytes. literal_at word bytes >>= λ w. equals_at w.1 >>= λ sign. quoted sign.1 >>= λ x. next x.0 x.1) (Sequence (Setting word value) Next) Behind
  is_setting = respelt
      (in_sequence (literal_at word) (λ w bytes. equals_at bytes >>= λ sign. quoted sign.1 >>= λ x. next x.0 x.1) (Literal word) (λ w. Equated) Anything Behind (is_literal word Anything) (λ w. is_equated) (λ w text rest y s behind. tt) (λ w. equated_example))
      (λ text y s.
      let e = s.spelt_right in
      let v = e.spelt_right in
      record {
        first = v.first;
        left = word ++ e.left ++ v.left;
        right = v.right;
        whole = s.whole ∙ ap (λ (t : List ℕ). t ++ s.right) s.spelt_left.text_is ∙ ap (λ (t : List ℕ). word ++ t) (e.whole ∙ ap (λ (t : List ℕ). e.left ++ t) v.whole) ∙ regroup word e.left v.left v.right;
        spelt_left = record { equals = e.left; quoted = v.left; whole = refl; is_equals = e.spelt_left; spelt = v.spelt_left };
        spelt_right = v.spelt_right;
      })
      (λ text y s. let l = s.spelt_left in record {
        first = tt;
        left = word;
        right = l.equals ++ (l.quoted ++ s.right);
        whole = s.whole ∙ ap (λ (t : List ℕ). t ++ s.right) l.whole ∙ sym (regroup word l.equals l.quoted s.right);
        spelt_left = record { text_is = refl };
        spelt_right = record {
          first = tt;
          left = l.equals;
          right = l.quoted ++ s.right;
          whole = refl;
          spelt_left = l.is_equals;
          spelt_right = record { first = s.first; left = l.quoted; right = s.right; whole = refl; spelt_left = l.spelt; spelt_right = s.spelt_right };
        };
      })
    where
      regroup : (a b c d : List ℕ) → a ++ (b ++ (c ++ d)) ≡ a ++ b ++ c ++ d
      regroup a b c d = simp append_assoc refl

-- ---- the end

abbrev StartEnd : Option (List ℕ) → List ℕ → Piece → Type 0
StartEnd encoding = Made (λ sign. piece.Start encoding) (Literal (codes ">"))

is_start_end : (encoding : Option (List ℕ)) → IsReading (start_end encoding) (StartEnd encoding) Anything
is_start_end encoding = is_made (λ sign. piece.Start encoding) (is_literal (codes ">") Anything)

end_example : (encoding : Option (List ℕ)) → Opens (StartEnd encoding) []
end_example encoding = record { more = codes ">"; value = piece.Start encoding; spelt = record { value = tt; spelt = record { text_is = refl }; made_is = refl } }

abbrev Marked : Option (List ℕ) → List ℕ → Piece → Type 0
Marked encoding = Sequence (Literal (codes "?")) (λ mark. StartEnd encoding)

is_marked : (encoding : Option (List ℕ)) → IsReading (λ bytes. literal_at (codes "?") bytes >>= λ mark. start_end encoding mark.1) (Marked encoding) Anything
is_marked encoding = in_sequence (literal_at (codes "?")) (λ mark. start_end encoding) (Literal (codes "?")) (λ mark. StartEnd encoding) Anything Anything
    (is_literal (codes "?") Anything) (λ mark. is_start_end encoding) (λ mark text rest y s behind. tt) (λ mark. end_example encoding)

marked_text : (encoding : Option (List ℕ)) (text : List ℕ) (y : Piece) → Marked encoding text y → text ≡ codes "?>"
marked_text encoding text y s = s.whole ∙ ap (λ (t : List ℕ). t ++ s.right) s.spelt_left.text_is ∙ ap (λ (t : List ℕ). codes "?" ++ t) s.spelt_right.spelt.text_is

marked_from : (encoding : Option (List ℕ)) (y : Piece) → y ≡ piece.Start encoding → Marked encoding (codes "?>") y
marked_from encoding y e = record { first = tt; left = codes "?"; right = codes ">"; whole = refl; spelt_left = record { text_is = refl }; spelt_right = record { value = tt; spelt = record { text_is = refl }; made_is = e } }

abbrev GapEnd : Option (List ℕ) → List ℕ → Piece → Type 0
GapEnd encoding = Sequence Gap (λ gap. Marked encoding)

is_gap_end : (encoding : Option (List ℕ)) → IsReading (λ bytes. gap_at bytes >>= λ gap. literal_at (codes "?") gap.1 >>= λ mark. start_end encoding mark.1) (GapEnd encoding) Anything
is_gap_end encoding = in_sequence gap_at (λ gap bytes. literal_at (codes "?") bytes >>= λ mark. start_end encoding mark.1) Gap (λ gap. Marked encoding) (Follows ends_white) Anything
    is_gap_at (λ gap. is_marked encoding)
    (λ gap text rest y s behind. record { byte = 63; bytes = 62 ∷ rest; whole = ap (λ (t : List ℕ). t ++ rest) (marked_text encoding text y s); passes = refl })
    (λ gap. record { more = codes "?>"; value = piece.Start encoding; spelt = marked_from encoding (piece.Start encoding) refl })

gap_end_example : (encoding : Option (List ℕ)) → Opens (GapEnd encoding) []
gap_end_example encoding = record { more = codes "?>"; value = piece.Start encoding; spelt = record { first = false; left = []; right = codes "?>"; whole = refl; spelt_left = record { inside = refl; value_is = refl }; spelt_right = marked_from encoding (piece.Start encoding) refl } }

-- ---- whether the document stands alone

abbrev Standalone : Option (List ℕ) → List ℕ → Piece → Type 0
Standalone encoding = Sequence (Setting (codes "standalone") standalone_of) (λ value. GapEnd encoding)

is_standalone_at : (encoding : Option (List ℕ)) → IsReading (standalone_at encoding) (Standalone encoding) Anything
unfolding standalone_at
is_standalone_at encoding = is_setting (codes "standalone") standalone_of (quoted_at standalone_of begins_standalone) (λ value bytes. gap_at bytes >>= λ gap. literal_at (codes "?") gap.1 >>= λ mark. start_end encoding mark.1) (λ value. GapEnd encoding) Anything
    (is_quoted_at standalone_of begins_standalone refl (standalones 34 refl refl) (standalones 39 refl refl)) (λ value. is_gap_end encoding)
    (record { more = codes "\"no\""; value = tt; spelt = record { inside = codes "no"; is_quoted = record { quote = 34; is_one = refl; whole = refl; unquoted = refl }; value_is = refl } })
    (λ value. gap_end_example encoding)

-- what is left behind the encoding
pub record Tail (encoding : Option (List ℕ)) (text : List ℕ) (start : Piece) : Type 0 where
  pub standalone_setting : List ℕ
  pub gap : List ℕ
  pub whole : text ≡ standalone_setting ++ (gap ++ codes "?>")
  pub standalone : IsStandaloneSetting standalone_setting
  pub white : is_white_text gap ≡ true
  pub start_is : start ≡ piece.Start encoding

abbrev BehindEncoding : Option (List ℕ) → List ℕ → Piece → Type 0
BehindEncoding encoding = Sequence Gap (λ white. Either 63 (StartEnd encoding) (IfWhite white (Standalone encoding)))

-- a setting's word stands before anything else
setting_first : {X : Type 0} (first : ℕ) (word : List ℕ) (value : List ℕ → Option X) (found : X) (text : List ℕ) → Setting (first ∷ word) value text found → (rest : List ℕ) × (text ≡ first ∷ rest)
setting_first first word value found text s = (word ++ s.equals ++ s.quoted, s.whole)

standalone_first : (encoding : Option (List ℕ)) (white : Bool) (text rest : List ℕ) (y : Piece) → IfWhite white (Standalone encoding) text y → (more : List ℕ) × (text ++ rest ≡ 115 ∷ more)
unfolding IfWhite
standalone_first encoding true text rest y s =
    let f = setting_first 115 (codes "tandalone") standalone_of s.first s.left s.spelt_left in
    (f.0 ++ s.right ++ rest, ap (λ (t : List ℕ). t ++ rest) (s.whole ∙ ap (λ (t : List ℕ). t ++ s.right) f.1))
standalone_first encoding false text rest y s = elim s [ ]

follows_first : (test : ℕ → Bool) (first : ℕ) (text : List ℕ) → test first ≡ true → (more : List ℕ) × (text ≡ first ∷ more) → Follows test text
follows_first test first text e p = record { byte = first; bytes = p.0; whole = p.1; passes = e }

is_encoding_end : (encoding : Option (List ℕ)) (white : Bool) → IsReading (choice 63 (start_end encoding) (behind_white white (standalone_at encoding))) (Either 63 (StartEnd encoding) (IfWhite white (Standalone encoding))) Anything
is_encoding_end encoding white = is_choice 63 (start_end encoding) (behind_white white (standalone_at encoding)) (StartEnd encoding) (IfWhite white (Standalone encoding)) Anything
    (is_start_end encoding) (if_white white (standalone_at encoding) (Standalone encoding) (is_standalone_at encoding)) (end_example encoding)
    (λ text rest y s behind. follows_first (λ byte. not (eqb byte 63)) 115 (text ++ rest) refl (standalone_first encoding white text rest y s))

is_behind_encoding : (encoding : Option (List ℕ)) → IsReading (behind_encoding encoding) (BehindEncoding encoding) Anything
unfolding behind_encoding
is_behind_encoding encoding = in_sequence gap_at (λ white. choice 63 (start_end encoding) (behind_white white (standalone_at encoding))) Gap (λ white. Either 63 (StartEnd encoding) (IfWhite white (Standalone encoding))) (Follows ends_white) Anything
    is_gap_at (is_encoding_end encoding) (λ white text rest y s behind. ends_gap white rest y s)
    (λ white. let o = end_example encoding in record { more = 63 ∷ o.more; value = o.value; spelt = One o.spelt })
  where
    ends_gap : (white : Bool) (rest : List ℕ) (y : Piece) {text : List ℕ} → Either 63 (StartEnd encoding) (IfWhite white (Standalone encoding)) text y → Follows ends_white (text ++ rest)
    ends_gap white rest y (One {text} s) = record { byte = 63; bytes = text ++ rest; whole = refl; passes = refl }
    ends_gap white rest y (Two {text} s) = follows_first ends_white 115 (text ++ rest) refl (standalone_first encoding white text rest y s)

is_setting_of : (gap text word value : List ℕ) (equals quoted : List ℕ) → is_white_space gap ≡ true → text ≡ word ++ equals ++ quoted → IsEquals equals → IsQuoted quoted value → IsSetting (gap ++ text) word value
is_setting_of gap text word value equals quoted white whole e q = record {
  gap = gap;
  equals = equals;
  quoted = quoted;
  whole = ap (λ (t : List ℕ). gap ++ t) whole ∙ regroup gap word equals quoted;
  white = white;
  is_equals = e;
  is_quoted = q;
}
  where
    regroup : (a b c d : List ℕ) → a ++ (b ++ c ++ d) ≡ a ++ b ++ c ++ d
    regroup a b c d = simp append_assoc refl

tail_of_standalone : (encoding : Option (List ℕ)) (gap text : List ℕ) (y : Piece) → is_white_space gap ≡ true → Standalone encoding text y → Tail encoding (gap ++ text) y
tail_of_standalone encoding gap text y white s =
    let l = s.spelt_left in
    let r = s.spelt_right in
    let inside_is = or_cases (same_text l.spelt.inside (codes "yes")) (same_text l.spelt.inside (codes "no")) (chosen (same_text l.spelt.inside (codes "yes") || same_text l.spelt.inside (codes "no")) tt s.first l.spelt.value_is).0 in
    record {
      standalone_setting = gap ++ s.left;
      gap = r.left;
      whole = ap (λ (t : List ℕ). gap ++ t) (s.whole ∙ ap (λ (t : List ℕ). s.left ++ t) (r.whole ∙ ap (λ (t : List ℕ). r.left ++ t) (marked_text encoding r.right y r.spelt_right))) ∙ sym (append_assoc gap s.left (r.left ++ codes "?>"));
      standalone = inr (elim inside_is [
        | inl h ↦ inl (setting (codes "yes") (is_same l.spelt.inside (codes "yes") h))
        | inr h ↦ inr (setting (codes "no") (is_same l.spelt.inside (codes "no") h))
      ]);
      white = gap_white r.left r.first r.spelt_left;
      start_is = r.spelt_right.spelt_right.made_is;
    }
  where
    setting : (value : List ℕ) → s.spelt_left.spelt.inside ≡ value → IsSetting (gap ++ s.left) (codes "standalone") value
    setting value e = subst (IsSetting (gap ++ s.left) (codes "standalone")) e (is_setting_of gap s.left (codes "standalone") s.spelt_left.spelt.inside s.spelt_left.equals s.spelt_left.quoted white s.spelt_left.whole s.spelt_left.is_equals s.spelt_left.spelt.is_quoted)

standalone_of_setting : (encoding : Option (List ℕ)) (setting gap value : List ℕ) (y : Piece) → standalone_of value ≡ Some tt → IsSetting setting (codes "standalone") value → is_white_text gap ≡ true → y ≡ piece.Start encoding → (lead text : List ℕ) × (setting ++ (gap ++ codes "?>") ≡ lead ++ text) × (is_white_space lead ≡ true) × Standalone encoding text y
standalone_of_setting encoding setting gap value y v s white start_is = (
  s.gap,
  codes "standalone" ++ s.equals ++ s.quoted ++ (gap ++ codes "?>"),
  ap (λ (t : List ℕ). t ++ (gap ++ codes "?>")) s.whole ∙ regroup s.gap (codes "standalone") s.equals s.quoted (gap ++ codes "?>"),
  s.white,
  record {
    first = tt;
    left = codes "standalone" ++ s.equals ++ s.quoted;
    right = gap ++ codes "?>";
    whole = refl;
    spelt_left = record { equals = s.equals; quoted = s.quoted; whole = refl; is_equals = s.is_equals; spelt = record { inside = value; is_quoted = s.is_quoted; value_is = v } };
    spelt_right = record { first = is_white_space gap; left = gap; right = codes "?>"; whole = refl; spelt_left = gap_from gap white; spelt_right = marked_from encoding y start_is };
  },
)
  where
    regroup : (a b c d e : List ℕ) → a ++ b ++ c ++ d ++ e ≡ a ++ (b ++ c ++ d ++ e)
    regroup a b c d e = simp append_assoc refl

to_tail : (encoding : Option (List ℕ)) (text : List ℕ) (y : Piece) → BehindEncoding encoding text y → Tail encoding text y
to_tail encoding text y s = subst (λ (t : List ℕ). Tail encoding t y) (sym s.whole) (by s.spelt_right)
  where
    by : {right : List ℕ} → Either 63 (StartEnd encoding) (IfWhite s.first (Standalone encoding)) right y → Tail encoding (s.left ++ right) y
    by (One {text} e) = record { standalone_setting = []; gap = s.left; whole = ap (λ (t : List ℕ). s.left ++ 63 ∷ t) e.spelt.text_is; standalone = inl refl; white = gap_white s.left s.first s.spelt_left; start_is = e.made_is }
    by (Two {text} w) =
        let p = if_some s.first (Standalone encoding) text y w in
        tail_of_standalone encoding s.left text y (gap_some s.left (subst (λ (b : Bool). Gap s.left b) p.0 s.spelt_left)) p.1

from_tail : (encoding : Option (List ℕ)) (text : List ℕ) (y : Piece) → Tail encoding text y → BehindEncoding encoding text y
from_tail encoding text y s = by s.standalone
  where
    said : (value : List ℕ) → standalone_of value ≡ Some tt → IsSetting s.standalone_setting (codes "standalone") value → BehindEncoding encoding text y
    said value v i =
        let p = standalone_of_setting encoding s.standalone_setting s.gap value y v i s.white s.start_is in
        record { first = true; left = p.0; right = p.1; whole = s.whole ∙ p.2; spelt_left = gap_from_some p.0 p.3; spelt_right = Two (from_some (Standalone encoding) p.1 y p.4) }

    by : IsStandaloneSetting s.standalone_setting → BehindEncoding encoding text y
    by (inl e) = record {
      first = is_white_space s.gap;
      left = s.gap;
      right = codes "?>";
      whole = s.whole ∙ ap (λ (t : List ℕ). t ++ (s.gap ++ codes "?>")) e;
      spelt_left = gap_from s.gap s.white;
      spelt_right = One (record { value = tt; spelt = record { text_is = refl }; made_is = s.start_is });
    }
    by (inr (inl i)) = said (codes "yes") refl i
    by (inr (inr i)) = said (codes "no") refl i

is_tail : (encoding : Option (List ℕ)) → IsReading (behind_encoding encoding) (Tail encoding) Anything
is_tail encoding = respelt (is_behind_encoding encoding) (to_tail encoding) (from_tail encoding)

tail_example : (encoding : Option (List ℕ)) → Opens (Tail encoding) []
tail_example encoding = record { more = codes "?>"; value = piece.Start encoding; spelt = record { standalone_setting = []; gap = []; whole = refl; standalone = inl refl; white = refl; start_is = refl } }

-- ---- the encoding

abbrev Encoded : List ℕ → Piece → Type 0
Encoded = Sequence (Setting (codes "ncoding") encoding_of) (λ value. Tail (Some value))

is_encoding_at : IsReading encoding_at Encoded Anything
unfolding encoding_at
is_encoding_at = is_setting (codes "ncoding") encoding_of (quoted_at encoding_of begins_encoding) (λ value. behind_encoding (Some value)) (λ value. Tail (Some value)) Anything
    (is_quoted_at encoding_of begins_encoding refl (encodings 34 refl) (encodings 39 refl)) (λ value. is_tail (Some value))
    (record { more = codes "\"A\""; value = codes "A"; spelt = record { inside = codes "A"; is_quoted = record { quote = 34; is_one = refl; whole = refl; unquoted = refl }; value_is = refl } })
    (λ value. tail_example (Some value))

encoded_example : Opens Encoded []
encoded_example = let o = tail_example (Some (codes "A")) in record {
  more = codes "ncoding=\"A\"" ++ o.more;
  value = o.value;
  spelt = record {
    first = codes "A";
    left = codes "ncoding=\"A\"";
    right = o.more;
    whole = refl;
    spelt_left = record {
      equals = codes "=";
      quoted = codes "\"A\"";
      whole = refl;
      is_equals = record { left = []; right = []; whole = refl; white_left = refl; white_right = refl };
      spelt = record { inside = codes "A"; is_quoted = record { quote = 34; is_one = refl; whole = refl; unquoted = refl }; value_is = refl };
    };
    spelt_right = o.spelt;
  };
}

abbrev Named : List ℕ → Piece → Type 0
Named = Either 101 Encoded (Standalone None)

is_named : IsReading (choice 101 encoding_at (standalone_at None)) Named Anything
is_named = is_choice 101 encoding_at (standalone_at None) Encoded (Standalone None) Anything is_encoding_at (is_standalone_at None) encoded_example
    (λ text rest y s behind. follows_first (λ byte. not (eqb byte 101)) 115 (text ++ rest) refl (standalone_first None true text rest y (from_some (Standalone None) text y s)))

abbrev BehindVersion : List ℕ → Piece → Type 0
BehindVersion = Sequence Gap (λ white. Either 63 (StartEnd None) (IfWhite white Named))

-- what is left behind the version
pub record Settings (text : List ℕ) (start : Piece) : Type 0 where
  pub encoding : Option (List ℕ)
  pub encoding_setting : List ℕ
  pub right : List ℕ
  pub whole : text ≡ encoding_setting ++ right
  pub is_encoding : IsEncodingSetting encoding_setting encoding
  pub tail : Tail encoding right start

no_question : (white : Bool) (text rest : List ℕ) (y : Piece) → IfWhite white Named text y → (first : ℕ) × (more : List ℕ) × (text ++ rest ≡ first ∷ more) × (not (eqb first 63) ≡ true) × (ends_white first ≡ true)
no_question white text rest y w = by (if_some white Named text y w).1
  where
    by : {text : List ℕ} → Named text y → (first : ℕ) × (more : List ℕ) × (text ++ rest ≡ first ∷ more) × (not (eqb first 63) ≡ true) × (ends_white first ≡ true)
    by (One {text} s) = (101, text ++ rest, refl, refl, refl)
    by (Two {text} s) = let p = standalone_first None true text rest y (from_some (Standalone None) text y s) in (115, p.0, p.1, refl, refl)

is_version_end : (white : Bool) → IsReading (choice 63 (start_end None) (behind_white white (choice 101 encoding_at (standalone_at None)))) (Either 63 (StartEnd None) (IfWhite white Named)) Anything
is_version_end white = is_choice 63 (start_end None) (behind_white white (choice 101 encoding_at (standalone_at None))) (StartEnd None) (IfWhite white Named) Anything
    (is_start_end None) (if_white white (choice 101 encoding_at (standalone_at None)) Named is_named) (end_example None)
    (λ text rest y s behind. let p = no_question white text rest y s in record { byte = p.0; bytes = p.1; whole = p.2; passes = p.3 })

is_behind_version : IsReading behind_version BehindVersion Anything
unfolding behind_version
is_behind_version = in_sequence gap_at (λ white. choice 63 (start_end None) (behind_white white (choice 101 encoding_at (standalone_at None)))) Gap (λ white. Either 63 (StartEnd None) (IfWhite white Named)) (Follows ends_white) Anything
    is_gap_at is_version_end (λ white text rest y s behind. ends_gap white rest y s)
    (λ white. let o = end_example None in record { more = 63 ∷ o.more; value = o.value; spelt = One o.spelt })
  where
    ends_gap : (white : Bool) (rest : List ℕ) (y : Piece) {text : List ℕ} → Either 63 (StartEnd None) (IfWhite white Named) text y → Follows ends_white (text ++ rest)
    ends_gap white rest y (One {text} s) = record { byte = 63; bytes = text ++ rest; whole = refl; passes = refl }
    ends_gap white rest y (Two {text} s) = let p = no_question white text rest y s in record { byte = p.0; bytes = p.1; whole = p.2; passes = p.4 }

encoding_is : (value encoding : List ℕ) → encoding_of value ≡ Some encoding → (is_encoding encoding ≡ true) × (value ≡ encoding)
encoding_is value encoding e = let p = chosen (is_encoding value) value encoding e in (ap is_encoding (sym p.1) ∙ p.0, p.1)

to_settings : (text : List ℕ) (y : Piece) → BehindVersion text y → Settings text y
to_settings text y s = subst (λ (t : List ℕ). Settings t y) (sym s.whole) (by s.spelt_right)
  where
    named : is_white_space s.left ≡ true → {right : List ℕ} → Named right y → Settings (s.left ++ right) y
    named white (One {text = right} e) =
        let l = e.spelt_left in
        let p = encoding_is l.spelt.inside e.first l.spelt.value_is in
        record {
          encoding = Some e.first;
          encoding_setting = s.left ++ 101 ∷ e.left;
          right = e.right;
          whole = ap (λ (t : List ℕ). s.left ++ 101 ∷ t) e.whole ∙ sym (append_assoc s.left (101 ∷ e.left) e.right);
          is_encoding = (subst (IsSetting (s.left ++ 101 ∷ e.left) (codes "encoding")) p.1 (is_setting_of s.left (101 ∷ e.left) (codes "encoding") l.spelt.inside l.equals l.quoted white (ap (λ (t : List ℕ). 101 ∷ t) l.whole) l.is_equals l.spelt.is_quoted), p.0);
          tail = e.spelt_right;
        }
    named white (Two {text = right} e) = record { encoding = None; encoding_setting = []; right = s.left ++ right; whole = refl; is_encoding = refl; tail = tail_of_standalone None s.left right y white e }

    by : {right : List ℕ} → Either 63 (StartEnd None) (IfWhite s.first Named) right y → Settings (s.left ++ right) y
    by (One {text} e) = record {
      encoding = None;
      encoding_setting = [];
      right = s.left ++ 63 ∷ text;
      whole = refl;
      is_encoding = refl;
      tail = record { standalone_setting = []; gap = s.left; whole = ap (λ (t : List ℕ). s.left ++ 63 ∷ t) e.spelt.text_is; standalone = inl refl; white = gap_white s.left s.first s.spelt_left; start_is = e.made_is };
    }
    by (Two {text} w) = let p = if_some s.first Named text y w in named (gap_some s.left (subst (λ (b : Bool). Gap s.left b) p.0 s.spelt_left)) p.1

from_settings : (text : List ℕ) (y : Piece) → Settings text y → BehindVersion text y
from_settings text y s = by s.encoding s.is_encoding s.tail
  where
    by : (encoding : Option (List ℕ)) → IsEncodingSetting s.encoding_setting encoding → Tail encoding s.right y → BehindVersion text y
    by None i t =
        let b = from_tail None s.right y t in
        record { first = b.first; left = b.left; right = b.right; whole = s.whole ∙ ap (λ (u : List ℕ). u ++ s.right) i ∙ b.whole; spelt_left = b.spelt_left; spelt_right = again b.first b.spelt_right }
      where
        again : (white : Bool) {right : List ℕ} → Either 63 (StartEnd None) (IfWhite white (Standalone None)) right y → Either 63 (StartEnd None) (IfWhite white Named) right y
        again white (One e) = One e
        again true (Two {text} w) = Two (from_some Named text y (Two (if_some true (Standalone None) text y w).1))
        again false (Two {text} w) = absurd (apart (if_some false (Standalone None) text y w).0)
          where
            apart : false ≡ true → ⊥
            apart e = cc
    by (Some encoding) i t =
        let g = i.0 in
        record {
          first = true;
          left = g.gap;
          right = codes "encoding" ++ g.equals ++ g.quoted ++ s.right;
          whole = s.whole ∙ ap (λ (u : List ℕ). u ++ s.right) g.whole ∙ regroup g.gap (codes "encoding") g.equals g.quoted s.right;
          spelt_left = gap_from_some g.gap g.white;
          spelt_right = Two (from_some Named (codes "encoding" ++ g.equals ++ g.quoted ++ s.right) y (One (record {
            first = encoding;
            left = codes "ncoding" ++ g.equals ++ g.quoted;
            right = s.right;
            whole = refl;
            spelt_left = record { equals = g.equals; quoted = g.quoted; whole = refl; is_equals = g.is_equals; spelt = record { inside = encoding; is_quoted = g.is_quoted; value_is = if_true (is_encoding encoding) (Some encoding) None i.1 } };
            spelt_right = t;
          })));
        }
      where
        regroup : (a b c d e : List ℕ) → a ++ b ++ c ++ d ++ e ≡ a ++ (b ++ c ++ d ++ e)
        regroup a b c d e = simp append_assoc refl

is_settings : IsReading behind_version Settings Anything
is_settings = respelt is_behind_version to_settings from_settings

settings_example : Opens Settings []
settings_example = let o = tail_example None in record { more = o.more; value = o.value; spelt = record { encoding = None; encoding_setting = []; right = o.more; whole = refl; is_encoding = refl; tail = o.spelt } }

-- ---- the version, and all of it

abbrev Versioned : List ℕ → Piece → Type 0
Versioned = Sequence (Setting (codes "version") version_of) (λ value. Settings)

is_version_at : IsReading version_at Versioned Anything
unfolding version_at
is_version_at = is_setting (codes "version") version_of (quoted_at version_of begins_version) (λ value. behind_version) (λ value. Settings) Anything
    (is_quoted_at version_of begins_version refl (versions 34 refl) (versions 39 refl)) (λ value. is_settings)
    (record { more = codes "\"1.0\""; value = tt; spelt = record { inside = codes "1.0"; is_quoted = record { quote = 34; is_one = refl; whole = refl; unquoted = refl }; value_is = refl } })
    (λ value. settings_example)

version_example : Opens Versioned []
version_example = let o = settings_example in record {
  more = codes "version=\"1.0\"" ++ o.more;
  value = o.value;
  spelt = record {
    first = tt;
    left = codes "version=\"1.0\"";
    right = o.more;
    whole = refl;
    spelt_left = record {
      equals = codes "=";
      quoted = codes "\"1.0\"";
      whole = refl;
      is_equals = record { left = []; right = []; whole = refl; white_left = refl; white_right = refl };
      spelt = record { inside = codes "1.0"; is_quoted = record { quote = 34; is_one = refl; whole = refl; unquoted = refl }; value_is = refl };
    };
    spelt_right = o.spelt;
  };
}

abbrev pub Space : List ℕ → Unit {0} → Type 0
Space = Segment ends_white space_of

pub is_space_at : IsReading space_at Space (Follows ends_white)
is_space_at = is_segment ends_white space_of (λ white. true) record {
  whole = λ bytes more x e. refl;
  longer = λ bytes more e. refl;
  goes_on = goes_on;
}
  where
    goes_on : (bytes : List ℕ) → list_all (λ byte. not (ends_white byte)) bytes ≡ true → true ≡ true → Opens Space bytes
    goes_on [] h e = record { more = codes " "; value = tt; spelt = record { inside = refl; value_is = refl } }
    goes_on (b ∷ bytes) h e = opens_as ends_white space_of (b ∷ bytes) tt h (if_true (is_white_space (b ∷ bytes)) (Some tt) None (sym (all_white (b ∷ bytes)) ∙ h))

-- a declaration behind `<?xml`
pub record StartBehind (text : List ℕ) (start : Piece) : Type 0 where
  pub encoding : Option (List ℕ)
  pub version_setting : List ℕ
  pub encoding_setting : List ℕ
  pub standalone_setting : List ℕ
  pub gap : List ℕ
  pub whole : text ≡ version_setting ++ encoding_setting ++ standalone_setting ++ gap ++ codes "?>"
  pub version : IsSetting version_setting (codes "version") (codes "1.0")
  pub is_encoding : IsEncodingSetting encoding_setting encoding
  pub standalone : IsStandaloneSetting standalone_setting
  pub white : is_white_text gap ≡ true
  pub start_is : start ≡ piece.Start encoding

pub is_start_at : IsReading start_at StartBehind Anything
unfolding start_at
is_start_at = respelt
    (in_sequence space_at (λ space. version_at) Space (λ space. Versioned) (Follows ends_white) Anything is_space_at (λ space. is_version_at)
    (λ space text rest y s behind. let f = setting_first 118 (codes "ersion") version_of s.first s.left s.spelt_left in
    record { byte = 118; bytes = f.0 ++ s.right ++ rest; whole = ap (λ (t : List ℕ). t ++ rest) (s.whole ∙ ap (λ (t : List ℕ). t ++ s.right) f.1); passes = refl })
    (λ space. version_example))
    (λ text y s.
    let v = s.spelt_right in
    let l = v.spelt_left in
    let r = v.spelt_right in
    let c = chosen (same_text l.spelt.inside (codes "1.0")) tt v.first l.spelt.value_is in
    let w = chosen (is_white_space s.left) tt s.first s.spelt_left.value_is in
    record {
      encoding = r.encoding;
      version_setting = s.left ++ v.left;
      encoding_setting = r.encoding_setting;
      standalone_setting = r.tail.standalone_setting;
      gap = r.tail.gap;
      whole = s.whole ∙ ap (λ (t : List ℕ). s.left ++ t) (v.whole ∙ ap (λ (t : List ℕ). v.left ++ t) (r.whole ∙ ap (λ (t : List ℕ). r.encoding_setting ++ t) r.tail.whole)) ∙ regroup s.left v.left r.encoding_setting r.tail.standalone_setting r.tail.gap (codes "?>");
      version = subst (IsSetting (s.left ++ v.left) (codes "version")) (is_same l.spelt.inside (codes "1.0") c.0) (is_setting_of s.left v.left (codes "version") l.spelt.inside l.equals l.quoted w.0 l.whole l.is_equals l.spelt.is_quoted);
      is_encoding = r.is_encoding;
      standalone = r.tail.standalone;
      white = r.tail.white;
      start_is = r.tail.start_is;
    })
    (λ text y s. let g = s.version in record {
      first = tt;
      left = g.gap;
      right = codes "version" ++ g.equals ++ g.quoted ++ (s.encoding_setting ++ (s.standalone_setting ++ (s.gap ++ codes "?>")));
      whole = s.whole ∙ ap (λ (t : List ℕ). t ++ s.encoding_setting ++ s.standalone_setting ++ s.gap ++ codes "?>") g.whole ∙ apart g.gap (codes "version") g.equals g.quoted s.encoding_setting s.standalone_setting s.gap (codes "?>");
      spelt_left = record { inside = all_white g.gap ∙ white_space_text g.gap g.white; value_is = if_true (is_white_space g.gap) (Some tt) None g.white };
      spelt_right = record {
        first = tt;
        left = codes "version" ++ g.equals ++ g.quoted;
        right = s.encoding_setting ++ (s.standalone_setting ++ (s.gap ++ codes "?>"));
        whole = refl;
        spelt_left = record { equals = g.equals; quoted = g.quoted; whole = refl; is_equals = g.is_equals; spelt = record { inside = codes "1.0"; is_quoted = g.is_quoted; value_is = refl } };
        spelt_right = record {
          encoding = s.encoding;
          encoding_setting = s.encoding_setting;
          right = s.standalone_setting ++ (s.gap ++ codes "?>");
          whole = refl;
          is_encoding = s.is_encoding;
          tail = record { standalone_setting = s.standalone_setting; gap = s.gap; whole = refl; standalone = s.standalone; white = s.white; start_is = s.start_is };
        };
      };
    })
  where
    regroup : (a b c d e f : List ℕ) → a ++ (b ++ (c ++ (d ++ (e ++ f)))) ≡ a ++ b ++ c ++ d ++ e ++ f
    regroup a b c d e f = simp append_assoc refl

    apart : (a b c d e f g h : List ℕ) → a ++ b ++ c ++ d ++ e ++ f ++ g ++ h ≡ a ++ (b ++ c ++ d ++ (e ++ (f ++ (g ++ h))))
    apart a b c d e f g h = simp append_assoc refl
