-- Places in a text, byte by byte and chunk by chunk.
use Rattle.std.proofs.Common.{◌≡◌, ◌∙◌, ℕ, ◌+◌, ◌<◌, true, List, [], ◌∷◌, length, take, drop, get_or, refl, sym, ap}
use Rattle.std.proofs.lemmas.Bool.{and_parts}
use Rattle.std.specs.List.{list_all}
use Rattle.std.proofs.lemmas.List.{take_more, take-append-drop}
use Rattle.nm_text.specs.Utf8.{is_single, place_after, place_after_byte, place_after_first}
use Rattle.nm_text.specs.declared.character.Place.{Place}
use Rattle.nm_text.specs.declared.character.Place.TheVariants.{Between}
use Rattle.nm_text.proofs.Utf8Texts.{place_after_two}

pub one_byte_more : (place start : Place) (bytes : List ℕ) (index : ℕ) → index < length bytes → place ≡ place_after start (take index bytes)
    → place_after_byte place (get_or bytes index 0) ≡ place_after start (take (index + 1) bytes)
one_byte_more place start bytes index within so_far =
    ap (λ (place : Place). place_after_byte place (get_or bytes index 0)) so_far
    ∙ sym (place_after_two start (take index bytes) (get_or bytes index 0 ∷ []))
    ∙ ap (place_after start) (sym (take_more bytes index 0 within))

pub singles_stay_between : (bytes : List ℕ) → list_all is_single bytes ≡ true → place_after Between bytes ≡ Between
singles_stay_between [] all = refl
singles_stay_between (byte ∷ bytes) all =
    let parts = and_parts (is_single byte) (list_all is_single bytes) all in
    let one : place_after_first byte ≡ Between = rw parts.0 refl in
    ap (λ (place : Place). place_after place bytes) one ∙ singles_stay_between bytes parts.1

pub place_of_parts : (place next : Place) (bytes : List ℕ) (count : ℕ) → next ≡ place_after place (take count bytes) → place_after next (drop count bytes) ≡ place_after place bytes
place_of_parts place next bytes count is =
    ap (λ (place : Place). place_after place (drop count bytes)) is ∙ sym (place_after_two place (take count bytes) (drop count bytes)) ∙ ap (place_after place) (take-append-drop count bytes)
