-- Names, white space, and the words of an XML declaration, each with what begins it.
use Rattle.std.proofs.Common.{◌≡◌, ℕ, Bool, true, false, not, cond, eqb, leb, ◌&&◌, ◌||◌, List, [], ◌∷◌, ◌++◌, length, drop, map, codes, Option, Some, None, refl, sym, ap, ◌∙◌, append_assoc, append-nil, arith, inl, inr, length-append}
use Rattle.std.specs.Prelude.{nat_eq}
use Rattle.std.specs.List.{list_all, starts_with}
use Rattle.std.proofs.lemmas.Bool.{cases_Bool, eqb-true, eq-eqb, leb-true, le-leb, and_parts, and_from, or_cases}
use Rattle.std.proofs.lemmas.List.Folds.{list_all-append as list_all_of_both}
use Rattle.nm_terms.specs.Bytes.{is_letter, same_text}
use Rattle.nm_ident.specs.Name.{begins_name as is_initial, continues_name, is_name}
use Rattle.nm_text.specs.Split.{lacks}
use Rattle.nm_text.specs.White.{is_white_space}
use Rattle.nm_piece.specs.Mark.{Target, Declaration, Instruction, lower_case, target_of}
use Rattle.nm_piece.specs.Name.{begins_name, ends_name, ends_white, gap_at, name_at, name_of}
use Rattle.nm_piece.specs.Start.{begins_encoding, begins_standalone, begins_version, encoding_of, is_encoding, standalone_of, version_of}
use Rattle.nm_piece.proofs.Marks.{starts_here, starts_parts}
use Rattle.nm_piece.proofs.Readings.{Begins, Follows, IsReading, Opens, Segment, if_true, if_false, is_segment}

-- a test that is true gives what it chooses
pub chosen : {X : Type 0} (b : Bool) (x y : X) → cond b (Some x) None ≡ Some y → (b ≡ true) × (x ≡ y)
chosen true x y e = (refl, cc)
chosen false x y e = absurd cc

-- bytes that have a value begin one
pub opens_as : {X : Type 0} (ends : ℕ → Bool) (value : List ℕ → Option X) (bytes : List ℕ) (x : X) → list_all (λ byte. not (ends byte)) bytes ≡ true → value bytes ≡ Some x → Opens (Segment ends value) bytes
opens_as ends value bytes x inside v = record {
  more = [];
  value = x;
  spelt = record { inside = ap (list_all (λ byte. not (ends byte))) (append-nil bytes) ∙ inside; value_is = ap value (append-nil bytes) ∙ v };
}

-- ---- a first byte, and others up to some number

module _ (is_first : ℕ → Bool) (limit : ℕ) where
  headed : List ℕ → Bool
  headed [] = false
  headed (byte ∷ bytes) = is_first byte && list_all continues_name bytes && leb (length (byte ∷ bytes)) limit

  headed_before : (byte : ℕ) (bytes more : List ℕ) → headed (byte ∷ bytes ++ more) ≡ true → headed (byte ∷ bytes) ≡ true
  unfolding headed
  headed_before byte bytes more e =
      let p = and_parts (is_first byte && list_all continues_name (bytes ++ more)) (leb (length (byte ∷ bytes ++ more)) limit) e in
      let q = and_parts (is_first byte) (list_all continues_name (bytes ++ more)) p.0 in
      let r = and_parts (list_all continues_name bytes) (list_all continues_name more) (sym (list_all_of_both continues_name bytes more) ∙ q.1) in
      and_from (is_first byte && list_all continues_name bytes) (leb (length (byte ∷ bytes)) limit)
      (and_from (is_first byte) (list_all continues_name bytes) q.0 r.0)
      (le-leb (length (byte ∷ bytes)) limit (omega (arith, leb-true (length (byte ∷ bytes ++ more)) limit p.1, length-append bytes more)))

pub name_before : (byte : ℕ) (bytes more : List ℕ) → is_name (byte ∷ bytes ++ more) ≡ true → is_name (byte ∷ bytes) ≡ true
unfolding headed
name_before byte bytes more e = headed_before is_initial 128 byte bytes more e

pub name_begins : (bytes more : List ℕ) → is_name (bytes ++ more) ≡ true → begins_name bytes ≡ true
name_begins [] more e = refl
name_begins (byte ∷ bytes) more e = name_before byte bytes more e

pub begins_name_before : (bytes more : List ℕ) → begins_name (bytes ++ more) ≡ true → begins_name bytes ≡ true
begins_name_before [] more e = refl
begins_name_before (byte ∷ bytes) more e = name_before byte bytes more e

pub names : Begins ends_name name_of begins_name
names = record {
  whole = λ bytes more x e. name_begins bytes more (chosen (is_name (bytes ++ more)) (bytes ++ more) x e).0;
  longer = begins_name_before;
  goes_on = goes_on;
}
  where
    goes_on : (bytes : List ℕ) → list_all (λ byte. not (ends_name byte)) bytes ≡ true → begins_name bytes ≡ true → Opens (Segment ends_name name_of) bytes
    goes_on [] h e = record { more = 97 ∷ []; value = 97 ∷ []; spelt = record { inside = refl; value_is = refl } }
    goes_on (byte ∷ bytes) h e = opens_as ends_name name_of (byte ∷ bytes) (byte ∷ bytes) h (if_true (is_name (byte ∷ bytes)) (Some (byte ∷ bytes)) None e)

pub is_name_at : IsReading name_at (Segment ends_name name_of) (Follows ends_name)
is_name_at = is_segment ends_name name_of begins_name names

-- ---- white space

pub is_gap_at : IsReading gap_at (Segment ends_white (λ white. Some (is_white_space white))) (Follows ends_white)
is_gap_at = is_segment ends_white (λ white. Some (is_white_space white)) (λ white. true) record {
  whole = λ bytes more x e. refl;
  longer = λ bytes more e. refl;
  goes_on = λ bytes h e. opens_as ends_white (λ white. Some (is_white_space white)) bytes (is_white_space bytes) h refl;
}

-- ---- words between quotes

same_is : (s t : List ℕ) → same_text s t ≡ true → s ≡ t
same_is [] [] e = refl
same_is [] (b ∷ t) e = absurd cc
same_is (a ∷ s) [] e = absurd cc
same_is (a ∷ s) (b ∷ t) e = let p = and_parts (nat_eq a b) (same_text s t) e in joined (eqb-true a b p.0) (same_is s t p.1)
  where
    joined : a ≡ b → s ≡ t → a ∷ s ≡ b ∷ t
    joined p q = cc

same_self : (s : List ℕ) → same_text s s ≡ true
same_self [] = refl
same_self (a ∷ s) = and_from (nat_eq a a) (same_text s s) (eq-eqb a a refl) (same_self s)

pub is_same : (s t : List ℕ) → same_text s t ≡ true → s ≡ t
is_same = same_is

pub same_from : (s t : List ℕ) → s ≡ t → same_text s t ≡ true
same_from s t e = ap (same_text s) (sym e) ∙ same_self s

-- a word begins with what its front begins with
pub word_before : (word bytes more : List ℕ) → starts_with nat_eq word (bytes ++ more) ≡ true → starts_with nat_eq word bytes ≡ true
word_before word bytes more e =
    let w = starts_parts (bytes ++ more) word e ∙ append_assoc bytes more (drop (length (bytes ++ more)) word) in
    ap (λ (t : List ℕ). starts_with nat_eq t bytes) w ∙ starts_here bytes (more ++ drop (length (bytes ++ more)) word)

pub word_begins : (word bytes more : List ℕ) → same_text (bytes ++ more) word ≡ true → starts_with nat_eq word bytes ≡ true
word_begins word bytes more e = ap (λ (t : List ℕ). starts_with nat_eq t bytes) (sym (is_same (bytes ++ more) word e)) ∙ starts_here bytes more

module _ (quote : ℕ) where
  word_goes_on : {X : Type 0} (value : List ℕ → Option X) (x : X) (word bytes : List ℕ) → lacks quote word ≡ true → value word ≡ Some x → starts_with nat_eq word bytes ≡ true → Opens (Segment (λ byte. eqb byte quote) value) bytes
  word_goes_on value x word bytes l v e =
      let w = starts_parts bytes word e in
      record { more = drop (length bytes) word; value = x; spelt = record { inside = ap (lacks quote) (sym w) ∙ l; value_is = ap value (sym w) ∙ v } }

  pub versions : lacks quote (codes "1.0") ≡ true → Begins (λ byte. eqb byte quote) version_of begins_version
  versions l = record {
    whole = λ bytes more x e. word_begins (codes "1.0") bytes more (chosen (same_text (bytes ++ more) (codes "1.0")) tt x e).0;
    longer = λ bytes more e. word_before (codes "1.0") bytes more e;
    goes_on = λ bytes h e. word_goes_on version_of tt (codes "1.0") bytes l refl e;
  }

  pub standalones : lacks quote (codes "yes") ≡ true → lacks quote (codes "no") ≡ true → Begins (λ byte. eqb byte quote) standalone_of begins_standalone
  standalones l m = record {
    whole = λ bytes more x e. elim (or_cases (same_text (bytes ++ more) (codes "yes")) (same_text (bytes ++ more) (codes "no")) (chosen (same_text (bytes ++ more) (codes "yes") || same_text (bytes ++ more) (codes "no")) tt x e).0) [
      | inl p ↦ or_left (starts_with nat_eq (codes "yes") bytes) (starts_with nat_eq (codes "no") bytes) (word_begins (codes "yes") bytes more p)
      | inr p ↦ or_right (starts_with nat_eq (codes "yes") bytes) (starts_with nat_eq (codes "no") bytes) (word_begins (codes "no") bytes more p)
    ];
    longer = λ bytes more e. elim (or_cases (starts_with nat_eq (codes "yes") (bytes ++ more)) (starts_with nat_eq (codes "no") (bytes ++ more)) e) [
      | inl p ↦ or_left (starts_with nat_eq (codes "yes") bytes) (starts_with nat_eq (codes "no") bytes) (word_before (codes "yes") bytes more p)
      | inr p ↦ or_right (starts_with nat_eq (codes "yes") bytes) (starts_with nat_eq (codes "no") bytes) (word_before (codes "no") bytes more p)
    ];
    goes_on = λ bytes h e. elim (or_cases (starts_with nat_eq (codes "yes") bytes) (starts_with nat_eq (codes "no") bytes) e) [
      | inl p ↦ word_goes_on standalone_of tt (codes "yes") bytes l refl p
      | inr p ↦ word_goes_on standalone_of tt (codes "no") bytes m refl p
    ];
  }
    where
      or_left : (a b : Bool) → a ≡ true → (a || b) ≡ true
      or_left a b p = rw p refl

      or_right : (a b : Bool) → b ≡ true → (a || b) ≡ true
      or_right true b p = refl
      or_right false b p = p

  encoding_before : (byte : ℕ) (bytes more : List ℕ) → is_encoding (byte ∷ bytes ++ more) ≡ true → is_encoding (byte ∷ bytes) ≡ true
  unfolding headed
  encoding_before byte bytes more e = headed_before is_letter 40 byte bytes more e

  pub encodings : lacks quote (codes "A") ≡ true → Begins (λ byte. eqb byte quote) encoding_of begins_encoding
  encodings l = record { whole = whole; longer = longer; goes_on = goes_on }
    where
      whole : (bytes more x : List ℕ) → encoding_of (bytes ++ more) ≡ Some x → begins_encoding bytes ≡ true
      whole [] more x e = refl
      whole (byte ∷ bytes) more x e = encoding_before byte bytes more (chosen (is_encoding (byte ∷ bytes ++ more)) (byte ∷ bytes ++ more) x e).0

      longer : (bytes more : List ℕ) → begins_encoding (bytes ++ more) ≡ true → begins_encoding bytes ≡ true
      longer [] more e = refl
      longer (byte ∷ bytes) more e = encoding_before byte bytes more e

      goes_on : (bytes : List ℕ) → lacks quote bytes ≡ true → begins_encoding bytes ≡ true → Opens (Segment (λ byte. eqb byte quote) encoding_of) bytes
      goes_on [] h e = record { more = codes "A"; value = codes "A"; spelt = record { inside = l; value_is = refl } }
      goes_on (byte ∷ bytes) h e = opens_as (λ b. eqb b quote) encoding_of (byte ∷ bytes) (byte ∷ bytes) h (if_true (is_encoding (byte ∷ bytes)) (Some (byte ∷ bytes)) None e)

-- ---- the target of `<?`

-- what a target says of its bytes
pub target_named : (bytes : List ℕ) (target : Target) → target_of bytes ≡ Some target → is_name bytes ≡ true
target_named bytes target e = by (same_text bytes (codes "xml")) (same_text (map lower_case bytes) (codes "xml")) (is_name bytes) refl refl e
  where
    by : (a b c : Bool) → same_text bytes (codes "xml") ≡ a → is_name bytes ≡ c → cond a (Some Declaration) (cond b None (cond c (Some Instruction) None)) ≡ Some target → is_name bytes ≡ true
    by true b c p q e = ap is_name (is_same bytes (codes "xml") p)
    by false true c p q e = absurd cc
    by false false true p q e = q
    by false false false p q e = absurd cc

reserved_and_more : (bytes : List ℕ) → same_text (map lower_case bytes) (codes "xml") ≡ true → is_name bytes ≡ true → target_of (bytes ++ 97 ∷ []) ≡ Some Instruction
reserved_and_more bytes e n = by bytes (is_same (map lower_case bytes) (codes "xml") e) n
  where
    unlike : (s t : List ℕ) → (s ≡ t → ⊥) → same_text s t ≡ false
    unlike s t apart = elim (cases_Bool (same_text s t)) [ inl p ↦ absurd (apart (is_same s t p)) | inr p ↦ p ]

    named : (a b c : ℕ) → is_name (a ∷ b ∷ c ∷ []) ≡ true → is_name (a ∷ b ∷ c ∷ 97 ∷ []) ≡ true
    named a b c n =
        let p = and_parts (is_initial a && (continues_name b && (continues_name c && true))) true n in
        let q = and_parts (is_initial a) (continues_name b && (continues_name c && true)) p.0 in
        let r = and_parts (continues_name b) (continues_name c && true) q.1 in
        let s = and_parts (continues_name c) true r.1 in
        rw (q.0, r.0, s.0) refl

    by : (bytes : List ℕ) → map lower_case bytes ≡ codes "xml" → is_name bytes ≡ true → target_of (bytes ++ 97 ∷ []) ≡ Some Instruction
    by [] p n = absurd cc
    by (a ∷ []) p n = absurd cc
    by (a ∷ b ∷ []) p n = absurd cc
    by (a ∷ b ∷ c ∷ []) p n =
        if_false (same_text (a ∷ b ∷ c ∷ 97 ∷ []) (codes "xml")) (Some Declaration) (cond (same_text (map lower_case (a ∷ b ∷ c ∷ 97 ∷ [])) (codes "xml")) None (cond (is_name (a ∷ b ∷ c ∷ 97 ∷ [])) (Some Instruction) None)) (unlike (a ∷ b ∷ c ∷ 97 ∷ []) (codes "xml") (λ q. cc))
        ∙ if_false (same_text (map lower_case (a ∷ b ∷ c ∷ 97 ∷ [])) (codes "xml")) None (cond (is_name (a ∷ b ∷ c ∷ 97 ∷ [])) (Some Instruction) None) (unlike (map lower_case (a ∷ b ∷ c ∷ 97 ∷ [])) (codes "xml") (λ q. cc))
        ∙ if_true (is_name (a ∷ b ∷ c ∷ 97 ∷ [])) (Some Instruction) None (named a b c n)
    by (a ∷ b ∷ c ∷ d ∷ bytes) p n = absurd cc

pub targets : Begins ends_name target_of begins_name
targets = record {
  whole = λ bytes more x e. name_begins bytes more (target_named (bytes ++ more) x e);
  longer = begins_name_before;
  goes_on = goes_on;
}
  where
    goes_on : (bytes : List ℕ) → list_all (λ byte. not (ends_name byte)) bytes ≡ true → begins_name bytes ≡ true → Opens (Segment ends_name target_of) bytes
    goes_on [] h e = record { more = 97 ∷ []; value = Instruction; spelt = record { inside = refl; value_is = refl } }
    goes_on (byte ∷ bytes) h e = by (target_of (byte ∷ bytes)) refl
      where
        reserved : (a b c : Bool) → c ≡ true → ◌≡◌ {A = Option Target} (cond a (Some Declaration) (cond b None (cond c (Some Instruction) None))) None → b ≡ true
        reserved true b c n p = absurd cc
        reserved false true c n p = refl
        reserved false false true n p = absurd cc
        reserved false false false n p = absurd cc

        by : (o : Option Target) → target_of (byte ∷ bytes) ≡ o → Opens (Segment ends_name target_of) (byte ∷ bytes)
        by (Some target) p = opens_as ends_name target_of (byte ∷ bytes) target h p
        by None p = record {
          more = 97 ∷ [];
          value = Instruction;
          spelt = record {
            inside = list_all_of_both (λ b. not (ends_name b)) (byte ∷ bytes) (97 ∷ []) ∙ and_from (list_all (λ b. not (ends_name b)) (byte ∷ bytes)) true h refl;
            value_is = reserved_and_more (byte ∷ bytes) (reserved (same_text (byte ∷ bytes) (codes "xml")) (same_text (map lower_case (byte ∷ bytes)) (codes "xml")) (is_name (byte ∷ bytes)) e p) e;
          };
        }
