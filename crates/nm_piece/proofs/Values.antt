-- Values of attributes and runs of text: what begins one.
use Rattle.std.proofs.Common.{◌≡◌, ℕ, Bool, true, false, not, cond, eqb, ◌&&◌, ◌||◌, List, [], ◌∷◌, ◌++◌, length, drop, Option, Some, None, Ok, refl, sym, ap, subst, ◌∙◌, append_assoc, inl, inr}
use Rattle.std.specs.Prelude.{nat_eq}
use Rattle.std.specs.List.{list_all, starts_with}
use Rattle.std.specs.Option.{option_map}
use Rattle.std.proofs.lemmas.List.Folds.{list_all-append}
use Rattle.std.proofs.lemmas.Bool.{cases_Bool, eqb-true, eq-eqb, and_parts, and_from, both_ways, not-true}
use Rattle.nm_text.specs.Mark.{cdata_end, holds}
use Rattle.nm_text.specs.Meaning.{attribute_value, run_text}
use Rattle.nm_text.specs.Split.{lacks}
use Rattle.nm_text.specs.Utf8.{begins_text, spells_text}
use Rattle.nm_text.proofs.Meant.{run_is_meant, value_is_meant}
use Rattle.nm_piece.specs.declared.piece.Piece.{Piece}
use Rattle.nm_piece.specs.declared.piece.Piece.TheVariants.{Text}
use Rattle.nm_piece.specs.Run.{begins_run, is_some_bytes, run_at, run_of, text_of_run}
use Rattle.nm_piece.specs.Value.{are_references, begins_references, begins_value, closed_at, nothing_at, quoted_at, value_of}
use Rattle.nm_piece.specs.Reading.{◌>>=◌, choice, literal_at, segment_at}
use Rattle.nm_piece.specs.Spells.{IsQuoted, is_quote}
use Rattle.nm_piece.proofs.Readings.{Anything, Begins, Either, One, Two, Follows, IsReading, Literal, Made, Never, Opens, Segment, Sequence, if_true, in_sequence, is_choice, is_literal, is_made, is_nothing, is_segment, respelt}
use Rattle.nm_piece.proofs.Ampersands.{begins_references_before, references_begin}
use Rattle.nm_piece.proofs.Marks.{or_false, or_from_false, starts_here, starts_parts}
use Rattle.nm_piece.proofs.Meanings.{Completion, completion, no_mark_more}
use Rattle.nm_piece.proofs.OpenReferences.{some_of}
use Rattle.nm_piece.proofs.Texts.{begins_text_before, text_begins}

-- ---- between quotes

pub record Quoted {X : Type 0} (value : List ℕ → Option X) (text : List ℕ) (found : X) : Type 0 where
  pub inside : List ℕ
  pub is_quoted : IsQuoted text inside
  pub value_is : value inside ≡ Some found

abbrev Closed : {X : Type 0} → (List ℕ → Option X) → ℕ → List ℕ → X → Type 0
Closed value quote = Sequence (Segment (λ byte. eqb byte quote) value) (λ found. Made (λ closing. found) (Literal (quote ∷ [])))

abbrev pub is_that : ℕ → ℕ → Bool
is_that quote byte = eqb byte quote

module _ {X : Type 0} (value : List ℕ → Option X) (begins : List ℕ → Bool) (empty : begins [] ≡ true) where
  is_closed : (quote : ℕ) → Begins (is_that quote) value begins → IsReading (closed_at quote value begins) (Closed value quote) Anything
  is_closed quote b = in_sequence (segment_at (is_that quote) value begins) (λ found bytes. literal_at (quote ∷ []) bytes >>= λ closing. Ok (found, closing.1))
      (Segment (is_that quote) value) (λ found. Made (λ closing. found) (Literal (quote ∷ []))) (Follows (is_that quote)) Anything
      (is_segment (is_that quote) value begins b) (λ found. is_made (λ closing. found) (is_literal (quote ∷ []) Anything))
      (λ found text rest y s behind. record { byte = quote; bytes = rest; whole = ap (λ (t : List ℕ). t ++ rest) s.spelt.text_is; passes = eq-eqb quote quote refl })
      (λ found. record { more = quote ∷ []; value = found; spelt = record { value = tt; spelt = record { text_is = refl }; made_is = refl } })

  closed_example : (quote : ℕ) → Begins (is_that quote) value begins → Opens (Closed value quote) []
  closed_example quote b =
      let o = b.goes_on [] refl empty in
      record {
        more = o.more ++ quote ∷ [];
        value = o.value;
        spelt = record { first = o.value; left = o.more; right = quote ∷ []; whole = refl; spelt_left = o.spelt; spelt_right = record { value = tt; spelt = record { text_is = refl }; made_is = refl } };
      }

  Both : List ℕ → X → Type 0
  Both = Either 34 (Closed value 34) (Either 39 (Closed value 39) Never)

  is_both : Begins (is_that 34) value begins → Begins (is_that 39) value begins → IsReading (quoted_at value begins) Both Anything
  unfolding Both
  is_both double single = is_choice 34 (closed_at 34 value begins) (choice 39 (closed_at 39 value begins) nothing_at) (Closed value 34) (Either 39 (Closed value 39) Never) Anything
      (is_closed 34 double)
      (is_choice 39 (closed_at 39 value begins) nothing_at (Closed value 39) Never Anything (is_closed 39 single) (is_nothing Anything) (closed_example 39 single) (λ text rest x s behind. elim s [ ]))
      (closed_example 34 double) (λ text rest x s behind. apart rest x s)
    where
      apart : (rest : List ℕ) (x : X) → {text : List ℕ} → Either 39 (Closed value 39) Never text x → Follows (λ byte. not (eqb byte 34)) (text ++ rest)
      apart rest x (One {text} s) = record { byte = 39; bytes = text ++ rest; whole = refl; passes = refl }
      apart rest x (Two s) = elim s [ ]

  unquote : (quote : ℕ) (text : List ℕ) (found : X) → is_quote quote ≡ true → Closed value quote text found → Quoted value (quote ∷ text) found
  unquote quote text found q s = record {
    inside = s.left;
    is_quoted = record { quote = quote; is_one = q; whole = ap (λ (t : List ℕ). quote ∷ t) (s.whole ∙ ap (λ (t : List ℕ). s.left ++ t) s.spelt_right.spelt.text_is); unquoted = s.spelt_left.inside };
    value_is = s.spelt_left.value_is ∙ ap (λ (x : X). Some x) (sym s.spelt_right.made_is);
  }

  to_quoted : (found : X) → {text : List ℕ} → Both text found → Quoted value text found
  unfolding Both
  to_quoted found (One {text} s) = unquote 34 text found refl s
  to_quoted found (Two s) = second s
    where
      second : {text : List ℕ} → Either 39 (Closed value 39) Never text found → Quoted value text found
      second (One {text} s) = unquote 39 text found refl s
      second (Two s) = elim s [ ]

  requote : (quote : ℕ) (inside : List ℕ) (found : X) → lacks quote inside ≡ true → value inside ≡ Some found → Closed value quote (inside ++ quote ∷ []) found
  requote quote inside found l v = record { first = found; left = inside; right = quote ∷ []; whole = refl; spelt_left = record { inside = l; value_is = v }; spelt_right = record { value = tt; spelt = record { text_is = refl }; made_is = refl } }

  from_quoted : (text : List ℕ) (found : X) → Quoted value text found → Both text found
  unfolding Both
  from_quoted text found q = subst (λ (t : List ℕ). Both t found) (sym q.is_quoted.whole) (by q.is_quoted.quote q.is_quoted.is_one q.is_quoted.unquoted)
    where
      by : (quote : ℕ) → is_quote quote ≡ true → lacks quote q.inside ≡ true → Both (quote ∷ q.inside ++ quote ∷ []) found
      by quote one l = elim (cases_Bool (eqb quote 34)) [
        | inl h ↦ at 34 (eqb-true quote 34 h) (λ m. One (requote 34 q.inside found m q.value_is)) l
        | inr h ↦ at 39 (eqb-true quote 39 (other h one)) (λ m. Two (One (requote 39 q.inside found m q.value_is))) l
      ]
        where
          other : eqb quote 34 ≡ false → (eqb quote 34 || eqb quote 39) ≡ true → eqb quote 39 ≡ true
          other h o = subst (λ (b : Bool). (b || eqb quote 39) ≡ true) h o

          at : (q' : ℕ) → quote ≡ q' → (lacks q' q.inside ≡ true → Both (q' ∷ q.inside ++ q' ∷ []) found) → lacks quote q.inside ≡ true → Both (quote ∷ q.inside ++ quote ∷ []) found
          at q' e make l = subst (λ (k : ℕ). lacks k q.inside ≡ true → Both (k ∷ q.inside ++ k ∷ []) found) (sym e) make l

  pub is_quoted_at : Begins (is_that 34) value begins → Begins (is_that 39) value begins → IsReading (quoted_at value begins) (Quoted value) Anything
  is_quoted_at double single = respelt (is_both double single) (λ text x s. to_quoted x s) from_quoted

-- ---- the value of an attribute

-- a test that holds gives what it chooses
chosen_option : {X : Type 0} (b : Bool) (o : Option X) (x : X) → cond b o None ≡ Some x → (b ≡ true) × (o ≡ Some x)
chosen_option true o x e = (refl, e)
chosen_option false o x e = absurd cc

pub record ValueParts (inside value : List ℕ) : Type 0 where
  pub characters : spells_text inside ≡ true
  pub no_tag : lacks 60 inside ≡ true
  pub references : are_references inside ≡ true
  pub value_is : attribute_value inside ≡ Some value

pub value_parts : (inside value : List ℕ) → value_of inside ≡ Some value → ValueParts inside value
unfolding value_of
value_parts inside value e =
    let c = chosen_option (spells_text inside && lacks 60 inside && are_references inside) (attribute_value inside) value e in
    let p = and_parts (spells_text inside && lacks 60 inside) (are_references inside) c.0 in
    let q = and_parts (spells_text inside) (lacks 60 inside) p.0 in
    record { characters = q.0; no_tag = q.1; references = p.1; value_is = c.1 }

pub value_from : (inside value : List ℕ) → ValueParts inside value → value_of inside ≡ Some value
unfolding value_of
value_from inside value p = if_true (spells_text inside && lacks 60 inside && are_references inside) (attribute_value inside) None (and_from (spells_text inside && lacks 60 inside) (are_references inside) (and_from (spells_text inside) (lacks 60 inside) p.characters p.no_tag) p.references) ∙ p.value_is

lacks_before : (low : ℕ) (bytes more : List ℕ) → lacks low (bytes ++ more) ≡ true → lacks low bytes ≡ true
lacks_before low bytes more e = (and_parts (lacks low bytes) (lacks low more) (sym (list_all-append (λ b. not (eqb b low)) bytes more) ∙ e)).0

lacks_both : (low : ℕ) (bytes more : List ℕ) → lacks low bytes ≡ true → lacks low more ≡ true → lacks low (bytes ++ more) ≡ true
lacks_both low bytes more p q = list_all-append (λ b. not (eqb b low)) bytes more ∙ and_from (lacks low bytes) (lacks low more) p q

pub values : (quote : ℕ) → ((bytes more : List ℕ) → Completion bytes more → lacks quote more ≡ true) → Begins (is_that quote) value_of begins_value
unfolding begins_value
values quote unquoted = record {
  whole = λ bytes more x e.
      let p = value_parts (bytes ++ more) x e in
      three (begins_text bytes) (lacks 60 bytes) (begins_references bytes) (begins_text_before bytes more (text_begins (bytes ++ more) p.characters)) (lacks_before 60 bytes more p.no_tag) (references_begin bytes more p.references);
  longer = λ bytes more e.
      let p = and_parts (begins_text (bytes ++ more) && lacks 60 (bytes ++ more)) (begins_references (bytes ++ more)) e in
      let q = and_parts (begins_text (bytes ++ more)) (lacks 60 (bytes ++ more)) p.0 in
      three (begins_text bytes) (lacks 60 bytes) (begins_references bytes) (begins_text_before bytes more q.0) (lacks_before 60 bytes more q.1) (begins_references_before bytes more p.1);
  goes_on = λ bytes h e.
      let p = and_parts (begins_text bytes && lacks 60 bytes) (begins_references bytes) e in
      let q = and_parts (begins_text bytes) (lacks 60 bytes) p.0 in
      let c = completion bytes q.0 p.1 in
      let v = some_of (attribute_value (bytes ++ c.0)) (value_is_meant (bytes ++ c.0) c.1.references) in
      record {
        more = c.0;
        value = v.0;
        spelt = record {
          inside = lacks_both quote bytes c.0 h (unquoted bytes c.0 c.1);
          value_is = value_from (bytes ++ c.0) v.0 (record { characters = c.1.characters; no_tag = lacks_both 60 bytes c.0 q.1 c.1.no_tag; references = c.1.references; value_is = v.1 });
        };
      };
}
  where
    three : (a b c : Bool) → a ≡ true → b ≡ true → c ≡ true → (a && b && c) ≡ true
    three a b c p q r = and_from (a && b) c (and_from a b p q) r

pub is_value_at : IsReading (quoted_at value_of begins_value) (Quoted value_of) Anything
unfolding begins_value
is_value_at = is_quoted_at value_of begins_value refl (values 34 (λ bytes more c. c.no_double_quote)) (values 39 (λ bytes more c. c.no_single_quote))

-- ---- runs of text

pub record RunParts (bytes text : List ℕ) : Type 0 where
  pub some : is_some_bytes bytes ≡ true
  pub characters : spells_text bytes ≡ true
  pub no_end : holds cdata_end bytes ≡ false
  pub references : are_references bytes ≡ true
  pub value_is : run_text bytes ≡ Some text

pub run_parts : (bytes text : List ℕ) → run_of bytes ≡ Some text → RunParts bytes text
unfolding run_of
run_parts bytes text e =
    let c = chosen_option (is_some_bytes bytes && spells_text bytes && not (holds cdata_end bytes) && are_references bytes) (run_text bytes) text e in
    let p = and_parts (is_some_bytes bytes && spells_text bytes && not (holds cdata_end bytes)) (are_references bytes) c.0 in
    let q = and_parts (is_some_bytes bytes && spells_text bytes) (not (holds cdata_end bytes)) p.0 in
    let r = and_parts (is_some_bytes bytes) (spells_text bytes) q.0 in
    record { some = r.0; characters = r.1; no_end = not-true (holds cdata_end bytes) q.1; references = p.1; value_is = c.1 }

pub run_from : (bytes text : List ℕ) → RunParts bytes text → run_of bytes ≡ Some text
unfolding run_of
run_from bytes text p = if_true (is_some_bytes bytes && spells_text bytes && not (holds cdata_end bytes) && are_references bytes) (run_text bytes) None
    (and_from (is_some_bytes bytes && spells_text bytes && not (holds cdata_end bytes)) (are_references bytes)
    (and_from (is_some_bytes bytes && spells_text bytes) (not (holds cdata_end bytes)) (and_from (is_some_bytes bytes) (spells_text bytes) p.some p.characters) (ap not p.no_end)) p.references) ∙ p.value_is

-- a run's text as a piece
pub text_parts : (bytes : List ℕ) (found : Piece) → text_of_run bytes ≡ Some found → (text : List ℕ) × (run_of bytes ≡ Some text) × (found ≡ Text text)
text_parts bytes found e = by (run_of bytes) refl e
  where
    by : (o : Option (List ℕ)) → run_of bytes ≡ o → option_map Text o ≡ Some found → (text : List ℕ) × (run_of bytes ≡ Some text) × (found ≡ Text text)
    by None s e = absurd cc
    by (Some text) s e = (text, s, cc)

holds_before : (bytes more : List ℕ) → holds cdata_end (bytes ++ more) ≡ false → holds cdata_end bytes ≡ false
holds_before [] more h = refl
holds_before (b ∷ bytes) more h =
    let p = or_false (starts_with nat_eq (b ∷ bytes ++ more) cdata_end) (holds cdata_end (bytes ++ more)) h in
    or_from_false (starts_with nat_eq (b ∷ bytes) cdata_end) (holds cdata_end bytes) (starts_before (b ∷ bytes) more p.0) (holds_before bytes more p.1)
  where
    starts_before : (s t : List ℕ) → starts_with nat_eq (s ++ t) cdata_end ≡ false → starts_with nat_eq s cdata_end ≡ false
    starts_before s t f = by (starts_with nat_eq s cdata_end) refl
      where
        by : (x : Bool) → starts_with nat_eq s cdata_end ≡ x → x ≡ false
        by false e = refl
        by true e = absurd (both_ways (starts_with nat_eq (s ++ t) cdata_end) f (ap (λ (u : List ℕ). starts_with nat_eq (u ++ t) cdata_end) (starts_parts cdata_end s e) ∙ ap (λ (u : List ℕ). starts_with nat_eq u cdata_end) (append_assoc cdata_end (drop (length cdata_end) s) t) ∙ starts_here cdata_end (drop (length cdata_end) s ++ t)))

pub runs : Begins (is_that 60) text_of_run begins_run
unfolding begins_run
runs = record {
  whole = λ bytes more x e.
      let t = text_parts (bytes ++ more) x e in
      let p = run_parts (bytes ++ more) t.0 t.1 in
      three (begins_text bytes) (holds cdata_end bytes) (begins_references bytes) (begins_text_before bytes more (text_begins (bytes ++ more) p.characters)) (holds_before bytes more p.no_end) (references_begin bytes more p.references);
  longer = λ bytes more e.
      let p = and_parts (begins_text (bytes ++ more) && not (holds cdata_end (bytes ++ more))) (begins_references (bytes ++ more)) e in
      let q = and_parts (begins_text (bytes ++ more)) (not (holds cdata_end (bytes ++ more))) p.0 in
      three (begins_text bytes) (holds cdata_end bytes) (begins_references bytes) (begins_text_before bytes more q.0) (holds_before bytes more (not-true (holds cdata_end (bytes ++ more)) q.1)) (begins_references_before bytes more p.1);
  goes_on = goes_on;
}
  where
    three : (a b c : Bool) → a ≡ true → b ≡ false → c ≡ true → (a && not b && c) ≡ true
    three a b c p q r = and_from (a && not b) c (and_from a (not b) p (ap not q)) r

    some : (b : ℕ) (bytes more : List ℕ) → list_all (λ byte. not (is_that 60 byte)) (b ∷ bytes) ≡ true → begins_text (b ∷ bytes) ≡ true → holds cdata_end (b ∷ bytes) ≡ false → Completion (b ∷ bytes) more → Opens (Segment (is_that 60) text_of_run) (b ∷ bytes)
    some b bytes more h t n c =
        let v = some_of (run_text (b ∷ bytes ++ more)) (run_is_meant (b ∷ bytes ++ more) c.references) in
        record {
          more = more;
          value = Text v.0;
          spelt = record {
            inside = lacks_both 60 (b ∷ bytes) more h c.no_tag;
            value_is = ap (option_map Text) (run_from (b ∷ bytes ++ more) v.0 (record { some = refl; characters = c.characters; no_end = no_mark_more (b ∷ bytes) more n c.no_mark; references = c.references; value_is = v.1 }));
          };
        }

    goes_on : (bytes : List ℕ) → list_all (λ byte. not (is_that 60 byte)) bytes ≡ true → begins_run bytes ≡ true → Opens (Segment (is_that 60) text_of_run) bytes
    goes_on [] h e = record { more = 97 ∷ []; value = Text (97 ∷ []); spelt = record { inside = refl; value_is = ap (option_map Text) (run_from (97 ∷ []) (97 ∷ []) (record { some = refl; characters = refl; no_end = refl; references = refl; value_is = refl })) } }
    goes_on (b ∷ bytes) h e =
        let p = and_parts (begins_text (b ∷ bytes) && not (holds cdata_end (b ∷ bytes))) (begins_references (b ∷ bytes)) e in
        let q = and_parts (begins_text (b ∷ bytes)) (not (holds cdata_end (b ∷ bytes))) p.0 in
        let c = completion (b ∷ bytes) q.0 p.1 in
        some b bytes c.0 h q.0 (not-true (holds cdata_end (b ∷ bytes)) q.1) c.1

pub is_run_at : IsReading run_at (Segment (is_that 60) text_of_run) (Follows (is_that 60))
unfolding run_at
is_run_at = is_segment (is_that 60) text_of_run begins_run runs
