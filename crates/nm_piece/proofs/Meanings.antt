-- What begins characters and references can go on.
use Rattle.std.proofs.Common.{◌≡◌, ℕ, ◌≤◌, ◌<◌, Bool, true, false, not, eqb, leb, ◌&&◌, ◌||◌, List, [], ◌∷◌, ◌++◌, refl, sym, ap, ◌∙◌, append-nil, arith}
use Rattle.std.specs.List.{list_all}
use Rattle.std.proofs.lemmas.Bool.{ne_eqb, leb-true, le-leb, and_parts, and_from, both_ways, eq-eqb, not-true}
use Rattle.std.proofs.lemmas.List.Folds.{list_all-append}
use Rattle.nm_terms.specs.Bytes.{is_between}
use Rattle.nm_text.specs.declared.character.Place.{Place}
use Rattle.nm_text.specs.declared.character.Place.TheVariants.{Between, Last, LastTwo, LastThree, AfterE0, AfterED, AfterEF, AfterEFBF, AfterF0, AfterF4, Wrong}
use Rattle.nm_text.specs.Mark.{cdata_end, holds}
use Rattle.nm_text.specs.Split.{lacks}
use Rattle.nm_text.specs.Utf8.{begins_text, is_open, is_whole, place_after, place_after_byte, place_after_first, spells_text}
use Rattle.nm_piece.specs.Value.{are_references, begins_references}
use Rattle.nm_piece.proofs.Ampersands.{Left, Closed, Open, left_of, references_and}
use Rattle.nm_piece.proofs.Marks.{holds_across}
use Rattle.nm_piece.proofs.OpenReferences.{name_bytes}
use Rattle.nm_piece.proofs.Readings.{if_true}
use Rattle.nm_piece.proofs.Texts.{completed, high_lacks, place_after-append, text-append}

-- ---- characters

ascii_first : (b : ℕ) → 0x20 ≤ b → b ≤ 0x7F → place_after_first b ≡ Between
ascii_first b low high = if_true ((eqb b 0x9) || (eqb b 0xA) || (eqb b 0xD) || is_between 0x20 0x7F b) Between _ (last (eqb b 0x9) (eqb b 0xA) (eqb b 0xD) (and_from (leb 0x20 b) (leb b 0x7F) (le-leb 0x20 b low) (le-leb b 0x7F high)))
  where
    last : (x y z : Bool) {w : Bool} → w ≡ true → (x || y || z || w) ≡ true
    last true y z h = refl
    last false true z h = refl
    last false false true h = refl
    last false false false h = h

-- bytes that a reference's name can hold, and `;`
abbrev is_visible : ℕ → Bool
is_visible = is_between 35 122

ascii_stays : (bytes : List ℕ) → list_all is_visible bytes ≡ true → place_after Between bytes ≡ Between
ascii_stays [] e = refl
ascii_stays (b ∷ bytes) e =
    let p = and_parts (is_visible b) (list_all is_visible bytes) e in
    let q = and_parts (leb 35 b) (leb b 122) p.0 in
    ap (λ (place : Place). place_after place bytes) (ascii_first b (omega (arith, leb-true 35 b q.0)) (omega (arith, leb-true b 122 q.1))) ∙ ascii_stays bytes p.1

wrong_after : (bytes : List ℕ) → place_after Wrong bytes ≡ Wrong
wrong_after [] = refl
wrong_after (b ∷ bytes) = wrong_after bytes

-- what is open behind a `&` stood between characters there
between_before : (place : Place) (name : List ℕ) → is_open (place_after (place_after_byte place 38) name) ≡ true → place ≡ Between
between_before Between name e = refl
between_before Last name e = let w = ap is_open (sym (wrong_after name)) ∙ e in absurd cc
between_before LastTwo name e = let w = ap is_open (sym (wrong_after name)) ∙ e in absurd cc
between_before LastThree name e = let w = ap is_open (sym (wrong_after name)) ∙ e in absurd cc
between_before AfterE0 name e = let w = ap is_open (sym (wrong_after name)) ∙ e in absurd cc
between_before AfterED name e = let w = ap is_open (sym (wrong_after name)) ∙ e in absurd cc
between_before AfterEF name e = let w = ap is_open (sym (wrong_after name)) ∙ e in absurd cc
between_before AfterEFBF name e = let w = ap is_open (sym (wrong_after name)) ∙ e in absurd cc
between_before AfterF0 name e = let w = ap is_open (sym (wrong_after name)) ∙ e in absurd cc
between_before AfterF4 name e = let w = ap is_open (sym (wrong_after name)) ∙ e in absurd cc
between_before Wrong name e = let w = ap is_open (sym (wrong_after name)) ∙ e in absurd cc

open_is_text : (front name : List ℕ) → begins_text (front ++ 38 ∷ name) ≡ true → list_all is_visible name ≡ true → spells_text (front ++ 38 ∷ name) ≡ true
open_is_text front name b p =
    let split = place_after-append Between front (38 ∷ name) in
    let at = between_before (place_after Between front) name (ap is_open (sym split) ∙ b) in
    ap is_whole (split ∙ ap (λ (place : Place). place_after place (38 ∷ name)) at ∙ ascii_stays name p)

-- ---- what completes characters and references

pub high_without : (low : ℕ) → low < 128 → (bytes : List ℕ) → list_all (leb 128) bytes ≡ true → lacks low bytes ≡ true
high_without low lt [] e = refl
high_without low lt (b ∷ bytes) e =
    let p = and_parts (leb 128 b) (list_all (leb 128) bytes) e in
    and_from (not (eqb b low)) (lacks low bytes) (ap not (ne_eqb b low (λ f. above b f (leb-true 128 b p.0)))) (high_without low lt bytes p.1)
  where
    above : (b : ℕ) → b ≡ low → 128 ≤ b → ⊥
    above b f le = omega arith

-- more bytes that make characters and references of what begins them, in which nothing of these stands
pub record Completion (bytes more : List ℕ) : Type 0 where
  pub characters : spells_text (bytes ++ more) ≡ true
  pub references : are_references (bytes ++ more) ≡ true
  pub no_double_quote : lacks 34 more ≡ true
  pub no_single_quote : lacks 39 more ≡ true
  pub no_tag : lacks 60 more ≡ true
  pub no_mark : list_all (λ z. lacks z cdata_end) more ≡ true

-- what lacks the bytes of a mark is foreign to it
mark_foreign : (bytes : List ℕ) → lacks 93 bytes ≡ true → lacks 62 bytes ≡ true → list_all (λ z. lacks z cdata_end) bytes ≡ true
mark_foreign [] p q = refl
mark_foreign (b ∷ bytes) p q =
    let r = and_parts (not (eqb b 93)) (lacks 93 bytes) p in
    let s = and_parts (not (eqb b 62)) (lacks 62 bytes) q in
    and_from (lacks b cdata_end) (list_all (λ z. lacks z cdata_end) bytes) (foreign (turned 93 r.0) (turned 62 s.0)) (mark_foreign bytes r.1 s.1)
  where
    turned : (mark : ℕ) → not (eqb b mark) ≡ true → not (eqb mark b) ≡ true
    turned mark h = ap not (ne_eqb mark b (λ f. both_ways (eqb b mark) (not-true (eqb b mark) h) (eq-eqb b mark (sym f))))

    foreign : not (eqb 93 b) ≡ true → not (eqb 62 b) ≡ true → lacks b cdata_end ≡ true
    foreign x y = rw (x, y) refl

high_foreign : (bytes : List ℕ) → list_all (leb 128) bytes ≡ true → list_all (λ z. lacks z cdata_end) bytes ≡ true
high_foreign [] e = refl
high_foreign (b ∷ bytes) e =
    let p = and_parts (leb 128 b) (list_all (leb 128) bytes) e in
    and_from (lacks b cdata_end) (list_all (λ z. lacks z cdata_end) bytes) (high_lacks b cdata_end p.0 refl) (high_foreign bytes p.1)

pub completion : (bytes : List ℕ) → begins_text bytes ≡ true → begins_references bytes ≡ true → (more : List ℕ) × Completion bytes more
completion bytes b r = by (left_of bytes r)
  where
    parts : (test : ℕ → Bool) (s t : List ℕ) → list_all test (s ++ t) ≡ true → (list_all test s ≡ true) × (list_all test t ≡ true)
    parts test s t e = and_parts (list_all test s) (list_all test t) (sym (list_all-append test s t) ∙ e)

    and_semicolon : (test : ℕ → Bool) (s : List ℕ) → list_all test s ≡ true → test 59 ≡ true → list_all test (s ++ 59 ∷ []) ≡ true
    and_semicolon test s e h = list_all-append test s (59 ∷ []) ∙ and_from (list_all test s) (test 59 && true) e (and_from (test 59) true h refl)

    no_quote : (s : List ℕ) → list_all is_visible s ≡ true → lacks 34 s ≡ true
    no_quote [] e = refl
    no_quote (x ∷ s) e =
        let p = and_parts (is_visible x) (list_all is_visible s) e in
        and_from (not (eqb x 34)) (lacks 34 s) (ap not (ne_eqb x 34 (λ f. above x f (leb-true 35 x (and_parts (leb 35 x) (leb x 122) p.0).0)))) (no_quote s p.1)
      where
        above : (x : ℕ) → x ≡ 34 → 35 ≤ x → ⊥
        above x f le = omega arith

    by : Left bytes → (more : List ℕ) × Completion bytes more
    by (Closed c) =
        let t = completed bytes b in (
          t.0,
          record {
            characters = t.1.text;
            references = references_and bytes t.0 c (high_without 38 (omega arith) t.0 t.1.high);
            no_double_quote = high_without 34 (omega arith) t.0 t.1.high;
            no_single_quote = high_without 39 (omega arith) t.0 t.1.high;
            no_tag = high_without 60 (omega arith) t.0 t.1.high;
            no_mark = high_foreign t.0 t.1.high;
          },
        )
    by (Open front name rest character w r c) =
        let n = name_bytes (name ++ rest) character r in
        let v = parts is_visible name rest n.visible in (
          rest ++ 59 ∷ [],
          record {
            characters = text-append bytes (rest ++ 59 ∷ []) (ap spells_text w ∙ open_is_text front name (ap begins_text (sym w) ∙ b) v.0) (ap is_whole (ascii_stays (rest ++ 59 ∷ []) (and_semicolon is_visible rest v.1 refl)));
            references = c;
            no_double_quote = and_semicolon (λ x. not (eqb x 34)) rest (no_quote rest v.1) refl;
            no_single_quote = and_semicolon (λ x. not (eqb x 39)) rest (parts (λ x. not (eqb x 39)) name rest n.no_single_quote).1 refl;
            no_tag = and_semicolon (λ x. not (eqb x 60)) rest (parts (λ x. not (eqb x 60)) name rest n.no_tag).1 refl;
            no_mark = mark_foreign (rest ++ 59 ∷ []) (and_semicolon (λ x. not (eqb x 93)) rest (parts (λ x. not (eqb x 93)) name rest n.no_bracket).1 refl) (and_semicolon (λ x. not (eqb x 62)) rest (parts (λ x. not (eqb x 62)) name rest n.no_tag_end).1 refl);
          },
        )

-- no mark comes to stand in a run with these bytes behind it
pub no_mark_more : (bytes more : List ℕ) → holds cdata_end bytes ≡ false → list_all (λ z. lacks z cdata_end) more ≡ true → holds cdata_end (bytes ++ more) ≡ false
no_mark_more bytes [] h e = ap (holds cdata_end) (append-nil bytes) ∙ h
no_mark_more bytes (z ∷ zs) h e =
    let p = and_parts (lacks z cdata_end) (list_all (λ y. lacks y cdata_end) zs) e in
    ap (λ (t : List ℕ). holds cdata_end (bytes ++ z ∷ t)) (sym (append-nil zs))
    ∙ holds_across 93 (93 ∷ 62 ∷ []) (93 ∷ 93 ∷ []) 62 refl refl refl refl refl bytes zs [] z p.0 p.1 h refl
