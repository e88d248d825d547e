-- White bytes that are read as spaces.
use Rattle.std.proofs.Common.{◌≡◌, ◌∙◌, ℕ, Bool, true, false, ◌&&◌, ◌||◌, List, [], ◌∷◌, ◌++◌, map, refl, sym, ap, if◌then◌else◌}
use Rattle.std.specs.Prelude.{◌==◌}
use Rattle.std.specs.List.{list_any}
use Rattle.std.proofs.lemmas.Bool.{eqb-true, or_parts}
use Rattle.std.proofs.lemmas.List.{map-append}
use Rattle.nm_text.specs.LineEnds.{begins_with_line_feed, normal_lines, read_before}
use Rattle.nm_text.specs.Meaning.{is_before_line_feed, is_other_white, white_as_space, with_spaces}

abbrev spaced : Bool → ℕ → List ℕ
spaced goes byte = if goes then [] else white_as_space byte ∷ []

-- one byte more
pub one_byte : (byte : ℕ) (behind : List ℕ) → with_spaces (byte ∷ behind) ≡ spaced (is_before_line_feed byte behind) byte ++ with_spaces behind
one_byte byte behind =
    map-append white_as_space (read_before byte behind) (normal_lines behind) ∙ ap (λ (front : List ℕ). front ++ with_spaces behind) (by (byte == 13) (begins_with_line_feed behind) refl)
  where
    by : (return feed : Bool) → (byte == 13) ≡ return → map white_as_space (if return then (if feed then [] else 10 ∷ []) else byte ∷ []) ≡ spaced (return && feed) byte
    by true true is = refl
    by true false is = ap (λ (byte : ℕ). white_as_space byte ∷ []) (sym (eqb-true byte 13 is))
    by false feed is = refl

space_stays : (byte : ℕ) → is_other_white byte ≡ false → white_as_space byte ≡ byte
space_stays byte other = by (byte == 0x20) refl
  where
    by : (space : Bool) → (byte == 0x20) ≡ space → (if space || (byte == 0x9) || (byte == 0xA) || (byte == 0xD) then 0x20 else byte) ≡ byte
    by true is = sym (eqb-true byte 0x20 is)
    by false is = rw other refl

-- bytes without tab, LF and CR are read as they are
pub none_is_white : (bytes : List ℕ) → list_any is_other_white bytes ≡ false → with_spaces bytes ≡ bytes
none_is_white [] none = refl
none_is_white (byte ∷ bytes) none =
    let parts = or_parts (is_other_white byte) (list_any is_other_white bytes) none in
    let kept : spaced (is_before_line_feed byte bytes) byte ≡ byte ∷ [] =
    rw (stays byte bytes parts.0) (ap (λ (byte : ℕ). byte ∷ []) (space_stays byte parts.0)) in
    one_byte byte bytes ∙ ap (λ (front : List ℕ). front ++ with_spaces bytes) kept ∙ ap (λ (bytes : List ℕ). byte ∷ bytes) (none_is_white bytes parts.1)
  where
    stays : (byte : ℕ) (bytes : List ℕ) → is_other_white byte ≡ false → is_before_line_feed byte bytes ≡ false
    stays byte bytes none = rw (or_parts ((byte == 0x9) || (byte == 0xA)) (byte == 0xD) none).1 refl
