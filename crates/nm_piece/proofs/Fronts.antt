-- Fronts of references, read from one `&` to the next.
use Rattle.std.proofs.Common.{◌≡◌, ℕ, ◌<◌, Bool, true, false, not, eqb, ◌≢◌, ◌&&◌, ◌||◌, List, [], ◌∷◌, ◌++◌, length, Option, Some, None, refl, sym, ap, ◌∙◌, append_assoc, append-nil, arith, length-append}
use Rattle.std.specs.Prelude.{is_some, option_and_then}
use Rattle.std.proofs.lemmas.Bool.{and_from, and_parts, eqb-true, not-true}
use Rattle.std.proofs.lemmas.List.Folds.{list_all-append}
use Rattle.nm_text.specs.Reference.{begins_name, has_reference, name_at, named, reference_at}
use Rattle.nm_text.specs.Split.{IsSplitBefore, begins_or_ends, lacks}
use Rattle.nm_text.proofs.Fronts.{name_goes_on}
use Rattle.nm_text.proofs.References.{reference_at_says}
use Rattle.nm_piece.specs.Value.{begins_references, is_open_reference}
use Rattle.nm_piece.proofs.OpenReferences.{name_bytes}

-- bytes without `&` before others
pub begins_behind_plain : (plain rest : List ℕ) → lacks 38 plain ≡ true → begins_references (plain ++ rest) ≡ begins_references rest
begins_behind_plain [] rest l = refl
begins_behind_plain (b ∷ plain) rest l =
    let p = and_parts (not (eqb b 38)) (lacks 38 plain) l in
    first (eqb b 38) (not-true (eqb b 38) p.0) ∙ begins_behind_plain plain rest p.1
  where
    first : (a : Bool) → a ≡ false → ((not a || has_reference (plain ++ rest) || is_open_reference (plain ++ rest)) && begins_references (plain ++ rest)) ≡ begins_references (plain ++ rest)
    first true e = absurd cc
    first false e = refl

begins_plain : (plain : List ℕ) → lacks 38 plain ≡ true → begins_references plain ≡ true
begins_plain plain l = ap begins_references (sym (append-nil plain)) ∙ begins_behind_plain plain [] l

-- a split at a byte, in its two cases
nothing_behind : (byte : ℕ) (bytes plain behind : List ℕ) → IsSplitBefore byte bytes plain behind → length behind ≡ 0 → (bytes ≡ plain) × (lacks byte bytes ≡ true)
nothing_behind byte bytes plain [] s e =
    let w = sym s.joined ∙ append-nil plain in
    (w, ap (lacks byte) w ∙ s.lacked)
nothing_behind byte bytes plain (b ∷ behind) s e = absurd cc

byte_behind : (byte : ℕ) (bytes plain end name : List ℕ) (first : ℕ) → IsSplitBefore byte bytes plain end → end ≡ first ∷ name → bytes ≡ plain ++ byte ∷ name
byte_behind byte bytes plain end name first s e =
    let f : eqb first byte ≡ true = ap (begins_or_ends byte) (sym e) ∙ s.begins in
    sym s.joined ∙ ap (λ (t : List ℕ). plain ++ t) (e ∙ ap (λ (b : ℕ). b ∷ name) (eqb-true first byte f))

-- no `&` is left
pub all_begin : (rest plain reference : List ℕ) → IsSplitBefore 38 rest plain reference → length reference ≡ 0 → begins_references rest ≡ true
all_begin rest plain reference s e = begins_plain rest (nothing_behind 38 rest plain reference s e).1

at_ampersand : (rest plain reference name : List ℕ) (first : ℕ) → IsSplitBefore 38 rest plain reference → reference ≡ first ∷ name → begins_references rest ≡ begins_references (38 ∷ name)
at_ampersand rest plain reference name first s e = ap begins_references (byte_behind 38 rest plain reference name first s e) ∙ begins_behind_plain plain (38 ∷ name) s.lacked

no_name_at : (bytes : List ℕ) → lacks 59 bytes ≡ true → name_at bytes ≡ None
no_name_at [] l = refl
no_name_at (b ∷ bytes) l =
    let p = and_parts (not (eqb b 59)) (lacks 59 bytes) l in
    rw (not-true (eqb b 59) p.0, no_name_at bytes p.1) refl

-- without `;` the last reference is open, or is none
open_one : (name : List ℕ) → lacks 59 name ≡ true → begins_references (38 ∷ name) ≡ begins_name name
open_one name l =
    let h : has_reference name ≡ false = ap (λ (o : Option (List ℕ × List ℕ)). is_some (option_and_then named o)) (no_name_at name l) in
    by (has_reference name) (lacks 59 name) (begins_name name) h l refl
  where
    last : begins_name name ≡ true → begins_references name ≡ true
    last e =
        let g = name_goes_on name e in
        let n = name_bytes (name ++ g.0) g.1 g.2 in
        begins_plain name (and_parts (lacks 38 name) (lacks 38 g.0) (sym (list_all-append (λ b. not (eqb b 38)) name g.0) ∙ n.no_ampersand)).0

    by : (h s o : Bool) → h ≡ false → s ≡ true → begins_name name ≡ o → ((h || (s && o)) && begins_references name) ≡ o
    by true s o e f g = absurd cc
    by false false o e f g = absurd cc
    by false true true e f g = last g
    by false true false e f g = refl

pub open_is_last : (rest plain reference name front end : List ℕ) (first : ℕ) → IsSplitBefore 38 rest plain reference → reference ≡ first ∷ name → IsSplitBefore 59 name front end → length end ≡ 0 → begins_references rest ≡ begins_name front
open_is_last rest plain reference name front end first s e t none =
    let n = nothing_behind 59 name front end t none in
    at_ampersand rest plain reference name first s e ∙ open_one name n.1 ∙ ap begins_name n.0

-- with `;` it is a reference or none
pub stray_begins_none : (rest plain reference name front end : List ℕ) (first : ℕ) → IsSplitBefore 38 rest plain reference → reference ≡ first ∷ name → IsSplitBefore 59 name front end → length end ≢ 0 → reference_at name ≡ None → begins_references rest ≡ false
stray_begins_none rest plain reference name front end first s e t some none =
    at_ampersand rest plain reference name first s e ∙ by (has_reference name) (lacks 59 name) (begins_name name) (ap is_some none) (semicolon end t some)
  where
    ends : (other : ℕ) (more : List ℕ) → IsSplitBefore 59 name front (other ∷ more) → lacks 59 name ≡ false
    ends other more t =
        let w : name ≡ front ++ 59 ∷ more = byte_behind 59 name front (other ∷ more) more other t refl in
        ap (lacks 59) w ∙ list_all-append (λ b. not (eqb b 59)) front (59 ∷ more) ∙ ap (λ (x : Bool). x && false) t.lacked

    semicolon : (end : List ℕ) → IsSplitBefore 59 name front end → length end ≢ 0 → lacks 59 name ≡ false
    semicolon [] t some = absurd (some refl)
    semicolon (other ∷ more) t some = ends other more t

    by : (h l o : Bool) → h ≡ false → l ≡ false → ((h || (l && o)) && begins_references name) ≡ false
    by true l o e f = absurd cc
    by false true o e f = absurd cc
    by false false o e f = refl

pub record ReadOn (rest behind : List ℕ) : Type 0 where
  pub same : begins_references rest ≡ begins_references behind
  pub shorter : length behind < length rest

pub reference_begins : (rest plain reference name behind : List ℕ) (first character : ℕ) → IsSplitBefore 38 rest plain reference → reference ≡ first ∷ name → reference_at name ≡ Some (character, behind) → ReadOn rest behind
reference_begins rest plain reference name behind first character s e r =
    let one = reference_at_says name behind character r in
    let n = name_bytes one.name character one.is in
    let l : lacks 38 (one.name ++ 59 ∷ []) ≡ true = list_all-append (λ b. not (eqb b 38)) one.name (59 ∷ []) ∙ and_from (lacks 38 one.name) true n.no_ampersand refl in
    let w : rest ≡ plain ++ 38 ∷ name = byte_behind 38 rest plain reference name first s e in
    record {
      same = at_ampersand rest plain reference name first s e ∙ here (has_reference name) (ap is_some r) ∙ ap begins_references (one.whole ∙ sym (append_assoc one.name (59 ∷ []) behind)) ∙ begins_behind_plain (one.name ++ 59 ∷ []) behind l;
      shorter = omega (arith, ap length w, length-append plain (38 ∷ name), ap length one.whole, length-append one.name (59 ∷ behind));
    }
  where
    here : (h : Bool) → h ≡ true → ((h || is_open_reference name) && begins_references name) ≡ begins_references name
    here true e = refl
    here false e = absurd cc
