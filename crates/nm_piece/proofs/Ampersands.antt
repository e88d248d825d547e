-- Bytes in which each `&` begins a reference, and their fronts.
use Rattle.std.proofs.Common.{◌≡◌, ℕ, suc, Bool, true, false, not, cond, eqb, ◌⊎◌, ◌&&◌, ◌||◌, List, [], ◌∷◌, ◌++◌, Option, Some, None, refl, sym, ap, ◌∙◌, append_assoc, append-nil, inl, inr}
use Rattle.std.specs.Prelude.{is_none, is_some, option_and_then}
use Rattle.std.specs.Option.{option_map}
use Rattle.std.proofs.lemmas.Bool.{cases_Bool, eqb-true, and_parts, and_from, both_ways, not-true, or_cases}
use Rattle.std.proofs.lemmas.List.Folds.{list_all-append}
use Rattle.nm_text.specs.Reference.{begins_name, first_stray, has_reference, name_at, named, referred, with_first}
use Rattle.nm_text.specs.Split.{lacks}
use Rattle.nm_piece.specs.Value.{are_references, begins_references, is_open_reference}
use Rattle.nm_text.proofs.Fronts.{front_of_name, name_goes_on}
use Rattle.nm_piece.proofs.OpenReferences.{begins_name_before, name_bytes, some_of}
use Rattle.nm_piece.proofs.Readings.{if_false}

-- ---- a name up to `;`

name_ends : (bytes more name behind : List ℕ) → name_at bytes ≡ Some (name, behind) → name_at (bytes ++ more) ≡ Some (name, behind ++ more)
name_ends [] more name behind e = absurd cc
name_ends (b ∷ bytes) more name behind e = by (eqb b 59) (name_at bytes) refl (λ n r. name_ends bytes more n r) e
  where
    parts : (a c s t : List ℕ) → ◌≡◌ {A = Option (List ℕ × List ℕ)} (Some (a, s)) (Some (c, t)) → ◌≡◌ {A = Option (List ℕ × List ℕ)} (Some (a, s ++ more)) (Some (c, t ++ more))
    parts a c s t e =
        let p : ◌≡◌ {A = List ℕ × List ℕ} (a, s) (c, t) = cc in
        ap (λ (q : List ℕ × List ℕ). Some (q.0, q.1 ++ more)) p

    by : (x : Bool) (o : Option (List ℕ × List ℕ)) → name_at bytes ≡ o → ((n r : List ℕ) → name_at bytes ≡ Some (n, r) → name_at (bytes ++ more) ≡ Some (n, r ++ more)) → cond x (Some ([], bytes)) (option_map (with_first b) o) ≡ Some (name, behind) → cond x (Some ([], bytes ++ more)) (option_map (with_first b) (name_at (bytes ++ more))) ≡ Some (name, behind ++ more)
    by true o s go e = parts [] name bytes behind e
    by false None s go e = absurd cc
    by false (Some p) s go e = ap (option_map (with_first b)) (go p.0 p.1 s) ∙ parts (b ∷ p.0) name p.1 behind e

name_open : (bytes : List ℕ) → name_at bytes ≡ None → lacks 59 bytes ≡ true
name_open [] e = refl
name_open (b ∷ bytes) e = by (eqb b 59) (name_at bytes) refl refl (λ s. name_open bytes s) e
  where
    by : (x : Bool) (o : Option (List ℕ × List ℕ)) → eqb b 59 ≡ x → name_at bytes ≡ o → (name_at bytes ≡ None → lacks 59 bytes ≡ true) → cond x (Some ([], bytes)) (option_map (with_first b) o) ≡ None → lacks 59 (b ∷ bytes) ≡ true
    by true o h s go e = absurd cc
    by false None h s go e = and_from (not (eqb b 59)) (lacks 59 bytes) (ap not h) (go s)
    by false (Some p) h s go e = absurd cc

abbrev in_front : List ℕ → List ℕ × List ℕ → List ℕ × List ℕ
in_front bytes parts = (bytes ++ parts.0, parts.1)

name_past : (bytes more : List ℕ) → lacks 59 bytes ≡ true → name_at (bytes ++ more) ≡ option_map (in_front bytes) (name_at more)
name_past [] more l = nothing_before (name_at more)
  where
    nothing_before : (o : Option (List ℕ × List ℕ)) → o ≡ option_map (in_front []) o
    nothing_before None = refl
    nothing_before (Some p) = refl
name_past (b ∷ bytes) more l =
    let p = and_parts (not (eqb b 59)) (lacks 59 bytes) l in
    if_false (eqb b 59) (Some ([], bytes ++ more)) (option_map (with_first b) (name_at (bytes ++ more))) (not-true (eqb b 59) p.0) ∙ ap (option_map (with_first b)) (name_past bytes more p.1) ∙ twice (name_at more)
  where
    twice : (o : Option (List ℕ × List ℕ)) → option_map (with_first b) (option_map (in_front bytes) o) ≡ option_map (in_front (b ∷ bytes)) o
    twice None = refl
    twice (Some p) = refl

-- ---- a reference

some_named : (name behind : List ℕ) → is_some (named (name, behind)) ≡ true → is_some (referred name) ≡ true
some_named name behind e = by (referred name) e
  where
    by : (o : Option ℕ) → is_some {T = ℕ × List ℕ} (option_map (λ (c : ℕ). (c, behind)) o) ≡ true → is_some o ≡ true
    by None e = absurd cc
    by (Some c) e = refl

named_some : (name behind : List ℕ) → is_some (referred name) ≡ true → is_some (named (name, behind)) ≡ true
named_some name behind e = by (referred name) e
  where
    by : (o : Option ℕ) → is_some o ≡ true → is_some {T = ℕ × List ℕ} (option_map (λ (c : ℕ). (c, behind)) o) ≡ true
    by None e = absurd cc
    by (Some c) e = refl

-- the name of a reference that stands here
reference_parts : (bytes : List ℕ) → has_reference bytes ≡ true → (name : List ℕ) × (behind : List ℕ) × (name_at bytes ≡ Some (name, behind)) × (is_some (referred name) ≡ true)
reference_parts bytes e = by (name_at bytes) refl e
  where
    by : (o : Option (List ℕ × List ℕ)) → name_at bytes ≡ o → is_some (option_and_then named o) ≡ true → (name : List ℕ) × (behind : List ℕ) × (name_at bytes ≡ Some (name, behind)) × (is_some (referred name) ≡ true)
    by None s e = absurd cc
    by (Some p) s e = (p.0, p.1, s, some_named p.0 p.1 e)

reference_from : (bytes name behind : List ℕ) → name_at bytes ≡ Some (name, behind) → is_some (referred name) ≡ true → has_reference bytes ≡ true
reference_from bytes name behind s r = ap (λ (o : Option (List ℕ × List ℕ)). is_some (option_and_then named o)) s ∙ named_some name behind r

pub reference_longer : (bytes more : List ℕ) → has_reference bytes ≡ true → has_reference (bytes ++ more) ≡ true
reference_longer bytes more e =
    let p = reference_parts bytes e in
    reference_from (bytes ++ more) p.0 (p.1 ++ more) (name_ends bytes more p.0 p.1 p.2) p.3

or_left : (a b : Bool) → a ≡ true → (a || b) ≡ true
or_left a b p = rw p refl

or_right : (a b : Bool) → b ≡ true → (a || b) ≡ true
or_right true b p = refl
or_right false b p = p

-- what becomes a reference begins one
pub reference_before : (bytes more : List ℕ) → has_reference (bytes ++ more) ≡ true → (has_reference bytes || is_open_reference bytes) ≡ true
reference_before bytes more e = by (name_at bytes) refl
  where
    open_now : lacks 59 bytes ≡ true → (o : Option (List ℕ × List ℕ)) → name_at more ≡ o → is_open_reference bytes ≡ true
    open_now l None s =
        let n : name_at (bytes ++ more) ≡ None = name_past bytes more l ∙ ap (option_map (in_front bytes)) s in
        let f : has_reference (bytes ++ more) ≡ false = ap (λ (o : Option (List ℕ × List ℕ)). is_some (option_and_then named o)) n in
        absurd (both_ways (has_reference (bytes ++ more)) f e)
    open_now l (Some p) s =
        let n : name_at (bytes ++ more) ≡ Some (bytes ++ p.0, p.1) = name_past bytes more l ∙ ap (option_map (in_front bytes)) s in
        let r = some_named (bytes ++ p.0) p.1 (sym (ap (λ (o : Option (List ℕ × List ℕ)). is_some (option_and_then named o)) n) ∙ e) in
        let c = some_of (referred (bytes ++ p.0)) r in
        and_from (lacks 59 bytes) (begins_name bytes) l (front_of_name bytes p.0 c.0 c.1)

    by : (o : Option (List ℕ × List ℕ)) → name_at bytes ≡ o → (has_reference bytes || is_open_reference bytes) ≡ true
    by None s = or_right (has_reference bytes) (is_open_reference bytes) (open_now (name_open bytes s) (name_at more) refl)
    by (Some p) s =
        let n = name_ends bytes more p.0 p.1 s in
        or_left (has_reference bytes) (is_open_reference bytes) (reference_from bytes p.0 p.1 s (some_named p.0 (p.1 ++ more) (sym (ap (λ (o : Option (List ℕ × List ℕ)). is_some (option_and_then named o)) n) ∙ e)))

open_before : (bytes more : List ℕ) → is_open_reference (bytes ++ more) ≡ true → is_open_reference bytes ≡ true
open_before bytes more e =
    let p = and_parts (lacks 59 (bytes ++ more)) (begins_name (bytes ++ more)) e in
    let l = and_parts (lacks 59 bytes) (lacks 59 more) (sym (list_all-append (λ b. not (eqb b 59)) bytes more) ∙ p.0) in
    and_from (lacks 59 bytes) (begins_name bytes) l.0 (begins_name_before bytes more p.1)

-- an open reference becomes one
pub record Closes (bytes rest : List ℕ) : Type 0 where
  pub character : ℕ
  pub referred_is : referred (bytes ++ rest) ≡ Some character
  pub closed : has_reference (bytes ++ (rest ++ 59 ∷ [])) ≡ true

reference_made : (bytes : List ℕ) → is_open_reference bytes ≡ true → (rest : List ℕ) × Closes bytes rest
reference_made bytes e =
    let p = and_parts (lacks 59 bytes) (begins_name bytes) e in
    let g = name_goes_on bytes p.1 in
    let n : name_at (bytes ++ g.0 ++ 59 ∷ []) ≡ Some (bytes ++ g.0 ++ [], []) = name_past (bytes ++ g.0) (59 ∷ []) (name_bytes (bytes ++ g.0) g.1 g.2).no_semicolon in (
      g.0,
      record {
        character = g.1;
        referred_is = g.2;
        closed = ap has_reference (sym (append_assoc bytes g.0 (59 ∷ []))) ∙ reference_from (bytes ++ g.0 ++ 59 ∷ []) (bytes ++ g.0 ++ []) [] n (ap (λ (t : List ℕ). is_some (referred t)) (append-nil (bytes ++ g.0)) ∙ ap is_some g.2);
      },
    )

-- ---- all of the bytes

abbrev pub is_fine : ℕ → List ℕ → Bool
is_fine byte bytes = not (eqb byte 38) || has_reference bytes

pub no_stray : (byte : ℕ) (bytes : List ℕ) → are_references (byte ∷ bytes) ≡ true → (is_fine byte bytes ≡ true) × (are_references bytes ≡ true)
no_stray byte bytes e = by (eqb byte 38) (has_reference bytes) (first_stray bytes) e
  where
    by : (a h : Bool) (o : Option ℕ) → is_none (cond (a && not h) (Some 0) (option_map suc o)) ≡ true → ((not a || h) ≡ true) × (is_none o ≡ true)
    by true true None e = (refl, refl)
    by true true (Some n) e = absurd cc
    by true false o e = absurd cc
    by false h None e = (refl, refl)
    by false h (Some n) e = absurd cc

stray_free : (byte : ℕ) (bytes : List ℕ) → is_fine byte bytes ≡ true → are_references bytes ≡ true → are_references (byte ∷ bytes) ≡ true
stray_free byte bytes f e = by (eqb byte 38) (has_reference bytes) (first_stray bytes) f e
  where
    by : (a h : Bool) (o : Option ℕ) → (not a || h) ≡ true → is_none o ≡ true → is_none (cond (a && not h) (Some 0) (option_map suc o)) ≡ true
    by true true None f e = refl
    by true true (Some n) f e = absurd cc
    by true false o f e = absurd cc
    by false h None f e = refl
    by false h (Some n) f e = absurd cc

three : (a b c : Bool) → ((a || b) ≡ true) → (a || b || c) ≡ true
three a b c h = or_left (a || b) c h

-- a reference, or what begins one, behind this byte
abbrev pub is_fine_so_far : ℕ → List ℕ → Bool
is_fine_so_far byte bytes = not (eqb byte 38) || has_reference bytes || is_open_reference bytes

fine_before : (byte : ℕ) (bytes more : List ℕ) → is_fine byte (bytes ++ more) ≡ true → is_fine_so_far byte bytes ≡ true
fine_before byte bytes more e = by (eqb byte 38) e
  where
    by : (a : Bool) → (not a || has_reference (bytes ++ more)) ≡ true → (not a || has_reference bytes || is_open_reference bytes) ≡ true
    by true e = reference_before bytes more e
    by false e = refl

pub references_begin : (bytes more : List ℕ) → are_references (bytes ++ more) ≡ true → begins_references bytes ≡ true
references_begin [] more e = refl
references_begin (b ∷ bytes) more e =
    let p = no_stray b (bytes ++ more) e in
    and_from (is_fine_so_far b bytes) (begins_references bytes) (fine_before b bytes more p.0) (references_begin bytes more p.1)

so_far_before : (byte : ℕ) (bytes more : List ℕ) → is_fine_so_far byte (bytes ++ more) ≡ true → is_fine_so_far byte bytes ≡ true
so_far_before byte bytes more e = by (eqb byte 38) e
  where
    by : (a : Bool) → (not a || has_reference (bytes ++ more) || is_open_reference (bytes ++ more)) ≡ true → (not a || has_reference bytes || is_open_reference bytes) ≡ true
    by true e = elim (or_cases (has_reference (bytes ++ more)) (is_open_reference (bytes ++ more)) e) [
      | inl h ↦ reference_before bytes more h
      | inr h ↦ or_right (has_reference bytes) (is_open_reference bytes) (open_before bytes more h)
    ]
    by false e = refl

pub begins_references_before : (bytes more : List ℕ) → begins_references (bytes ++ more) ≡ true → begins_references bytes ≡ true
begins_references_before [] more e = refl
begins_references_before (b ∷ bytes) more e =
    let p = and_parts (is_fine_so_far b (bytes ++ more)) (begins_references (bytes ++ more)) e in
    and_from (is_fine_so_far b bytes) (begins_references bytes) (so_far_before b bytes more p.0) (begins_references_before bytes more p.1)

pub no_ampersand : (bytes : List ℕ) → lacks 38 bytes ≡ true → are_references bytes ≡ true
no_ampersand [] l = refl
no_ampersand (b ∷ bytes) l =
    let p = and_parts (not (eqb b 38)) (lacks 38 bytes) l in
    stray_free b bytes (or_left (not (eqb b 38)) (has_reference bytes) p.0) (no_ampersand bytes p.1)

-- what follows without `&` leaves references as they are
pub references_and : (bytes more : List ℕ) → are_references bytes ≡ true → lacks 38 more ≡ true → are_references (bytes ++ more) ≡ true
references_and [] more e l = no_ampersand more l
references_and (b ∷ bytes) more e l =
    let p = no_stray b bytes e in
    stray_free b (bytes ++ more) (longer (eqb b 38) p.0) (references_and bytes more p.1 l)
  where
    longer : (a : Bool) → (not a || has_reference bytes) ≡ true → (not a || has_reference (bytes ++ more)) ≡ true
    longer true e = reference_longer bytes more e
    longer false e = refl

-- either all are references, or the last one is open, and can be closed
pub data Left (bytes : List ℕ) : Type 0 where
  Closed : are_references bytes ≡ true → Left bytes
  Open : (front name rest : List ℕ) (character : ℕ) → bytes ≡ front ++ 38 ∷ name → referred (name ++ rest) ≡ Some character → are_references (bytes ++ (rest ++ 59 ∷ [])) ≡ true → Left bytes

pub left_of : (bytes : List ℕ) → begins_references bytes ≡ true → Left bytes
left_of [] e = Closed refl
left_of (b ∷ bytes) e =
    let p = and_parts (is_fine_so_far b bytes) (begins_references bytes) e in
    by (cases_Bool (is_fine b bytes)) p.0 (left_of bytes p.1)
  where
    longer : (more : List ℕ) → (a : Bool) → (not a || has_reference bytes) ≡ true → (not a || has_reference (bytes ++ more)) ≡ true
    longer more true e = reference_longer bytes more e
    longer more false e = refl

    last : is_fine b bytes ≡ false → is_fine_so_far b bytes ≡ true → Left (b ∷ bytes)
    last f e =
        let o : is_open_reference bytes ≡ true = now (eqb b 38) (has_reference bytes) f e in
        let m = reference_made bytes o in
        let more = m.0 ++ 59 ∷ [] in
        let lacking : lacks 38 (bytes ++ more) ≡ true =
        ap (lacks 38) (sym (append_assoc bytes m.0 (59 ∷ []))) ∙ list_all-append (λ c. not (eqb c 38)) (bytes ++ m.0) (59 ∷ []) ∙ and_from (lacks 38 (bytes ++ m.0)) true (name_bytes (bytes ++ m.0) m.1.character m.1.referred_is).no_ampersand refl in
        Open [] bytes m.0 m.1.character (ap (λ (c : ℕ). c ∷ bytes) (eqb-true b 38 (amp (eqb b 38) (has_reference bytes) f))) m.1.referred_is
        (stray_free b (bytes ++ more) (or_right (not (eqb b 38)) (has_reference (bytes ++ more)) m.1.closed) (no_ampersand (bytes ++ more) lacking))
      where
        now : (a h : Bool) → (not a || h) ≡ false → (not a || h || is_open_reference bytes) ≡ true → is_open_reference bytes ≡ true
        now true true f e = absurd cc
        now true false f e = e
        now false h f e = absurd cc

        amp : (a h : Bool) → (not a || h) ≡ false → a ≡ true
        amp true h f = refl
        amp false h f = absurd cc

    by : (is_fine b bytes ≡ true) ⊎ (is_fine b bytes ≡ false) → is_fine_so_far b bytes ≡ true → Left bytes → Left (b ∷ bytes)
    by (inl f) e (Closed c) = Closed (stray_free b bytes f c)
    by (inl f) e (Open front name rest character w r c) = Open (b ∷ front) name rest character (ap (λ (t : List ℕ). b ∷ t) w) r (stray_free b (bytes ++ (rest ++ 59 ∷ [])) (longer (rest ++ 59 ∷ []) (eqb b 38) f) c)
    by (inr f) e rest = last f e
