-- Values and texts that are told by their spellings.
use Rattle.std.proofs.Common.{◌≡◌, ℕ, Bool, true, false, not, ◌||◌, ◌==◌, List, [], ◌∷◌, ◌++◌, if◌then◌else◌, Some, refl, sym, ap, ◌∙◌, arith}
use Rattle.std.proofs.lemmas.Bool.{and_parts, and_from, eqb-true}
use Rattle.std.proofs.lemmas.List.{append-nil}
use Rattle.std.proofs.lemmas.List.Folds.{list_all-append}
use Rattle.std.specs.List.{list_all}
use Rattle.std.specs.Prelude.{map}
use Rattle.nm_text.specs.LineEnds.{begins_with_line_feed, line_end_before, normal_lines, read_before}
use Rattle.nm_text.specs.Meaning.{attribute_value, white_as_space, with_spaces}
use Rattle.nm_text.specs.Reference.{without_references}
use Rattle.nm_text.specs.Split.{lacks}
use Rattle.nm_text.specs.White.{is_white, is_white_text}
use Rattle.nm_text.proofs.Meanings.{meant_behind_plain}
use Rattle.nm_piece.specs.Meant.{or_empty, stands_for_itself, text_meant}

unreferenced : (bytes : List ℕ) → lacks 38 bytes ≡ true → without_references bytes ≡ Some bytes
unreferenced bytes lacked =
    ap without_references (sym (append-nil bytes)) ∙ meant_behind_plain bytes [] lacked ∙ ap Some (append-nil bytes)

-- ---- white space

white_byte : (byte : ℕ) → is_white byte ≡ true → not (byte == 38) ≡ true
white_byte byte white = by (byte == 38) refl
  where
    by : (b : Bool) → (byte == 38) ≡ b → not b ≡ true
    by false is = refl
    by true is = let at : byte ≡ 38 = eqb-true byte 38 is in absurd (grind (arith, at))

white_lacks : (bytes : List ℕ) → is_white_text bytes ≡ true → lacks 38 bytes ≡ true
white_lacks [] white = refl
white_lacks (byte ∷ bytes) white =
    let parts = and_parts (is_white byte) (is_white_text bytes) white in
    and_from _ _ (white_byte byte parts.0) (white_lacks bytes parts.1)

white_end : (line_feed : Bool) → is_white_text (if line_feed then [] else 10 ∷ []) ≡ true
white_end true = refl
white_end false = refl

white_read : (return : Bool) (byte : ℕ) (bytes : List ℕ) → is_white byte ≡ true → is_white_text (if return then line_end_before bytes else byte ∷ []) ≡ true
white_read true byte bytes white = white_end (begins_with_line_feed bytes)
white_read false byte bytes white = rw white refl

white_lines : (bytes : List ℕ) → is_white_text bytes ≡ true → is_white_text (normal_lines bytes) ≡ true
white_lines [] white = refl
white_lines (byte ∷ bytes) white =
    let parts = and_parts (is_white byte) (is_white_text bytes) white in
    list_all-append is_white (read_before byte bytes) (normal_lines bytes)
    ∙ and_from _ _ (white_read (byte == 13) byte bytes parts.0) (white_lines bytes parts.1)

-- white space stands for white space
pub white_meant : (is_cdata : Bool) (spelling : List ℕ) → is_white_text spelling ≡ true → is_white_text (or_empty (text_meant is_cdata spelling)) ≡ true
white_meant true spelling white = white_lines spelling white
white_meant false spelling white =
    ap (λ text. is_white_text (or_empty text)) (unreferenced (normal_lines spelling) (white_lacks (normal_lines spelling) (white_lines spelling white)))
    ∙ white_lines spelling white

-- ---- values

record IsItself (byte : ℕ) : Type 0 where
  pub no_ampersand : not (byte == 38) ≡ true
  pub no_return : (byte == 13) ≡ false
  pub stays : white_as_space byte ≡ byte

space_stays : (byte : ℕ) (space : Bool) → (byte == 0x20) ≡ space → (if space || false || false || false then 0x20 else byte) ≡ byte
space_stays byte true is = sym (eqb-true byte 0x20 is)
space_stays byte false is = refl

itself : (byte : ℕ) → stands_for_itself byte ≡ true → IsItself byte
itself byte is = by (byte == 38) (byte == 0x9) (byte == 0xA) (byte == 0xD) refl refl refl refl is
  where
    by : (ampersand tab feed return : Bool) → (byte == 38) ≡ ampersand → (byte == 0x9) ≡ tab → (byte == 0xA) ≡ feed → (byte == 0xD) ≡ return
        → not (ampersand || tab || feed || return) ≡ true → IsItself byte
    by true tab feed return p q r s is = absurd cc
    by false true feed return p q r s is = absurd cc
    by false false true return p q r s is = absurd cc
    by false false false true p q r s is = absurd cc
    by false false false false p q r s is = record {
      no_ampersand = rw p refl;
      no_return = s;
      stays = rw (q, r, s) (space_stays byte (byte == 0x20) refl);
    }

record AreThemselves (bytes : List ℕ) : Type 0 where
  pub no_ampersand : lacks 38 bytes ≡ true
  pub stay : with_spaces bytes ≡ bytes

kept_before : (return : Bool) (byte : ℕ) (bytes : List ℕ) → return ≡ false → (if return then line_end_before bytes else byte ∷ []) ≡ byte ∷ []
kept_before true byte bytes is = absurd cc
kept_before false byte bytes is = refl

themselves : (bytes : List ℕ) → list_all stands_for_itself bytes ≡ true → AreThemselves bytes
themselves [] are = record { no_ampersand = refl; stay = refl }
themselves (byte ∷ bytes) are =
    let parts = and_parts (stands_for_itself byte) (list_all stands_for_itself bytes) are in
    let one = itself byte parts.0 in
    let others = themselves bytes parts.1 in
    record {
      no_ampersand = and_from _ _ one.no_ampersand others.no_ampersand;
      stay =
          ap (λ first. map white_as_space (first ++ normal_lines bytes)) (kept_before (byte == 13) byte bytes one.no_return)
          ∙ ap (λ b. b ∷ with_spaces bytes) one.stays
          ∙ ap (λ bs. byte ∷ bs) others.stay;
    }

-- a value that is spelt as it is
pub value_as_spelt : (spelling : List ℕ) → list_all stands_for_itself spelling ≡ true → spelling ≡ or_empty (attribute_value spelling)
value_as_spelt spelling are =
    let all = themselves spelling are in
    ap or_empty (sym (ap without_references all.stay ∙ unreferenced spelling all.no_ampersand))
