-- What the tests of plain bytes, and of others, say of values and runs.
use Rattle.std.proofs.Common.{◌≡◌, ℕ, Bool, true, false, not, cond, eqb, ◌&&◌, ◌||◌, List, [], ◌∷◌, Option, Some, None, refl, sym, ap, ◌∙◌, ◌⊎◌, inl, inr}
use Rattle.std.specs.Prelude.{is_some, nat_eq, nat_le}
use Rattle.std.specs.List.{list_all, starts_with}
use Rattle.std.proofs.lemmas.Bool.{cases_Bool, and_parts}
use Rattle.nm_text.specs.Mark.{cdata_end, holds}
use Rattle.nm_text.specs.Meaning.{attribute_value, run_text}
use Rattle.nm_text.specs.Split.{lacks}
use Rattle.nm_text.specs.Utf8.{place_after_byte, spells_text}
use Rattle.nm_text.specs.declared.character.Place.TheVariants.{Between}
use Rattle.nm_text.proofs.Meant.{run_is_meant, value_is_meant}
use Rattle.nm_piece.specs.Meant.{is_plain_character, or_empty}
use Rattle.nm_piece.specs.Run.{is_some_bytes, run_of}
use Rattle.nm_piece.specs.Value.{are_references, value_of}
use Rattle.nm_piece.proofs.Ampersands.{no_ampersand}
use Rattle.nm_piece.proofs.Marks.{or_from_false, starts_parts}

-- ---- plain bytes

record IsPlain (byte : ℕ) : Type 0 where
  pub stays : place_after_byte Between byte ≡ Between
  pub no_tag : eqb byte 60 ≡ false
  pub no_end : eqb byte 62 ≡ false
  pub no_ampersand : eqb byte 38 ≡ false

plain_byte : (byte : ℕ) → is_plain_character byte ≡ true → IsPlain byte
plain_byte byte e = by (eqb byte 9) (eqb byte 10) (eqb byte 13) (nat_le 0x20 byte && nat_le byte 0x7F) (eqb byte 38) (eqb byte 60) (eqb byte 62) refl refl refl refl refl refl refl e
  where
    character : (tab feed return low : Bool) → (tab || feed || return || low) ≡ true
        → eqb byte 9 ≡ tab → eqb byte 10 ≡ feed → eqb byte 13 ≡ return → (nat_le 0x20 byte && nat_le byte 0x7F) ≡ low → place_after_byte Between byte ≡ Between
    character tab feed return low h p q r s = rw (p, q, r, s, h) refl

    by : (tab feed return low ampersand tag end : Bool) → eqb byte 9 ≡ tab → eqb byte 10 ≡ feed → eqb byte 13 ≡ return → (nat_le 0x20 byte && nat_le byte 0x7F) ≡ low
        → eqb byte 38 ≡ ampersand → eqb byte 60 ≡ tag → eqb byte 62 ≡ end
        → ((tab || feed || return || low) && not (ampersand || tag || end)) ≡ true → IsPlain byte
    by tab feed return low true tag end p q r s t u v h = let w = and_parts (tab || feed || return || low) false h in absurd cc
    by tab feed return low false true end p q r s t u v h = let w = and_parts (tab || feed || return || low) false h in absurd cc
    by tab feed return low false false true p q r s t u v h = let w = and_parts (tab || feed || return || low) false h in absurd cc
    by tab feed return low false false false p q r s t u v h =
        let w = and_parts (tab || feed || return || low) true h in
        record { stays = character tab feed return low w.0 p q r s; no_tag = u; no_end = v; no_ampersand = t }

pub record ArePlain (bytes : List ℕ) : Type 0 where
  pub characters : spells_text bytes ≡ true
  pub no_tag : lacks 60 bytes ≡ true
  pub no_end : lacks 62 bytes ≡ true
  pub no_ampersand : lacks 38 bytes ≡ true

pub plain_bytes : (bytes : List ℕ) → list_all is_plain_character bytes ≡ true → ArePlain bytes
plain_bytes [] e = record { characters = refl; no_tag = refl; no_end = refl; no_ampersand = refl }
plain_bytes (byte ∷ bytes) e =
    let p = and_parts (is_plain_character byte) (list_all is_plain_character bytes) e in
    let one = plain_byte byte p.0 in
    let others = plain_bytes bytes p.1 in
    record {
      characters = rw one.stays others.characters;
      no_tag = rw (one.no_tag, others.no_tag) refl;
      no_end = rw (one.no_end, others.no_end) refl;
      no_ampersand = rw (one.no_ampersand, others.no_ampersand) refl;
    }

lacks_holds : (bytes : List ℕ) → lacks 62 bytes ≡ true → holds cdata_end bytes ≡ false
lacks_holds [] e = refl
lacks_holds (byte ∷ bytes) e = or_from_false (starts_with nat_eq (byte ∷ bytes) cdata_end) (holds cdata_end bytes) (not_here (cases_Bool (starts_with nat_eq (byte ∷ bytes) cdata_end))) (lacks_holds bytes (and_parts (not (eqb byte 62)) (lacks 62 bytes) e).1)
  where
    not_here : (starts_with nat_eq (byte ∷ bytes) cdata_end ≡ true) ⊎ (starts_with nat_eq (byte ∷ bytes) cdata_end ≡ false) → starts_with nat_eq (byte ∷ bytes) cdata_end ≡ false
    not_here (inl s) = let h = ap (lacks 62) (sym (starts_parts cdata_end (byte ∷ bytes) s)) ∙ e in absurd cc
    not_here (inr s) = s

-- ---- values

value_meant : (bytes : List ℕ) (a b c : Bool) → (c ≡ true → is_some (attribute_value bytes) ≡ true) → is_some (cond (a && b && c) (attribute_value bytes) None) ≡ (a && b && c)
value_meant bytes true true true h = h refl
value_meant bytes true true false h = refl
value_meant bytes true false c h = refl
value_meant bytes false b c h = refl

-- whether the bytes stand for a value
pub values_are : (bytes : List ℕ) → is_some (value_of bytes) ≡ (spells_text bytes && lacks 60 bytes && are_references bytes)
unfolding value_of
values_are bytes = value_meant bytes (spells_text bytes) (lacks 60 bytes) (are_references bytes) (λ e. value_is_meant bytes e)

pub plain_value : (bytes : List ℕ) → list_all is_plain_character bytes ≡ true → is_some (value_of bytes) ≡ true
plain_value bytes e = let p = plain_bytes bytes e in values_are bytes ∙ rw (p.characters, p.no_tag, no_ampersand bytes p.no_ampersand) refl

-- ---- runs

run_meant : (bytes : List ℕ) (a b c d : Bool) → (d ≡ true → is_some (run_text bytes) ≡ true) → is_some (cond (a && b && c && d) (run_text bytes) None) ≡ (a && b && c && d)
run_meant bytes true true true true h = h refl
run_meant bytes true true true false h = refl
run_meant bytes true true false d h = refl
run_meant bytes true false c d h = refl
run_meant bytes false b c d h = refl

-- whether the bytes stand for the text of a run
pub runs_are : (bytes : List ℕ) → is_some (run_of bytes) ≡ (is_some_bytes bytes && spells_text bytes && not (holds cdata_end bytes) && are_references bytes)
unfolding run_of
runs_are bytes = run_meant bytes (is_some_bytes bytes) (spells_text bytes) (not (holds cdata_end bytes)) (are_references bytes) (λ e. run_is_meant bytes e)

pub plain_run : (bytes : List ℕ) → is_some_bytes bytes ≡ true → list_all is_plain_character bytes ≡ true → is_some (run_of bytes) ≡ true
plain_run bytes some e = let p = plain_bytes bytes e in runs_are bytes ∙ rw (some, p.characters, lacks_holds bytes p.no_end, no_ampersand bytes p.no_ampersand) refl

-- a run is its text
pub run_is : (bytes : List ℕ) → is_some (run_of bytes) ≡ true → run_of bytes ≡ run_text bytes
unfolding run_of
run_is bytes e = by (is_some_bytes bytes && spells_text bytes && not (holds cdata_end bytes) && are_references bytes) e
  where
    by : (b : Bool) → is_some (cond b (run_text bytes) None) ≡ true → cond b (run_text bytes) None ≡ run_text bytes
    by true h = refl
    by false h = absurd cc

pub value_is : (bytes : List ℕ) → is_some (value_of bytes) ≡ true → value_of bytes ≡ attribute_value bytes
unfolding value_of
value_is bytes e = by (spells_text bytes && lacks 60 bytes && are_references bytes) e
  where
    by : (b : Bool) → is_some (cond b (attribute_value bytes) None) ≡ true → cond b (attribute_value bytes) None ≡ attribute_value bytes
    by true h = refl
    by false h = absurd cc

-- what is there is itself, with the empty text in place of none
pub is_there : (o : Option (List ℕ)) → is_some o ≡ true → o ≡ Some (or_empty o)
is_there None e = absurd cc
is_there (Some x) e = refl
