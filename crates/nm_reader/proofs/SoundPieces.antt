-- What stands in a piece that is spelt.
use Rattle.std.proofs.Common.{◌≡◌, ℕ, List, [], ◌∷◌, Bool, true, ◌&&◌, Ok, ⊎_elim, refl, ap, ◌∙◌}
use Rattle.std.specs.List.{list_all}
use Rattle.nm_ident.specs.Name.{is_name}
use Rattle.nm_piece.proofs.Cuttings.{exact}
use Rattle.nm_piece.specs.Name.{is_prefix}
use Rattle.nm_piece.specs.Piece.{piece_at}
use Rattle.nm_piece.specs.Spells.{IsSpeltAt, Spells, SpellsAttribute, SpellsAttributes, SpellsCdata, SpellsRun}
use Rattle.nm_piece.specs.declared.piece.Attribute.{Attribute}
use Rattle.nm_piece.specs.declared.piece.Piece.{Piece}
use Rattle.nm_piece.specs.declared.piece.Piece.TheVariants.{Start, Doctype, Open, Close, Text, Skip}
use Rattle.nm_text.proofs.TextsAgain.{lines_are_text, run_is_text, value_is_text}
use Rattle.nm_text.specs.Characters.{is_text}
use Rattle.nm_reader.specs.Taken.{is_sound_piece}
use Rattle.nm_reader.proofs.KeptContexts.{is_kept_piece}
use Rattle.nm_reader.proofs.KeptTags.{has_text}
use Rattle.nm_reader.proofs.Spellings.{and_right}

cdata_sound : (bytes text : List ℕ) → SpellsCdata bytes text → is_text text ≡ true
cdata_sound bytes text spelt = ap is_text spelt.value ∙ lines_are_text spelt.inside ∙ spelt.characters

run_sound : (bytes text : List ℕ) → SpellsRun bytes text → is_text text ≡ true
run_sound bytes text spelt = run_is_text bytes text spelt.characters spelt.value

both : (a b : Bool) → a ≡ true → b ≡ true → (a && b) ≡ true
both a b first second = rw (first, second) refl

pub spelt_sound : (bytes : List ℕ) (piece : Piece) → Spells bytes piece → is_sound_piece piece ≡ true
spelt_sound bytes (Start encoding) spelt = refl
spelt_sound bytes Doctype spelt = refl
spelt_sound bytes (Open name attributes empty) spelt = and_right (is_prefix name.prefix) (is_name name.local) spelt.named
spelt_sound bytes (Close name) spelt = refl
spelt_sound bytes (Text text) spelt = ⊎_elim (cdata_sound bytes text) (run_sound bytes text) spelt
spelt_sound bytes Skip spelt = refl

-- the values of attributes are texts too
attributes_kept : (bytes : List ℕ) (attributes : List Attribute) → SpellsAttributes bytes attributes → list_all has_text attributes ≡ true
attributes_kept bytes [] spelt = refl
attributes_kept bytes (attribute ∷ attributes) spelt =
    let first : SpellsAttribute spelt.0 attribute = spelt.3 in
    both (is_text attribute.value) (list_all has_text attributes) (value_is_text first.inside attribute.value first.characters first.value) (attributes_kept spelt.1 attributes spelt.4)

pub spelt_kept : (bytes : List ℕ) (piece : Piece) → Spells bytes piece → is_kept_piece piece ≡ true
spelt_kept bytes (Start encoding) spelt = refl
spelt_kept bytes Doctype spelt = refl
spelt_kept bytes (Open name attributes empty) spelt =
    both (is_name name.local) (list_all has_text attributes) (and_right (is_prefix name.prefix) (is_name name.local) spelt.named) (attributes_kept spelt.inside attributes spelt.each)
spelt_kept bytes (Close name) spelt = refl
spelt_kept bytes (Text text) spelt = ⊎_elim (cdata_sound bytes text) (run_sound bytes text) spelt
spelt_kept bytes Skip spelt = refl

pub read_sound : (last : Bool) (bytes : List ℕ) (piece : Piece) (behind : List ℕ) → piece_at bytes last ≡ Ok (piece, behind) → is_sound_piece piece ≡ true
read_sound last bytes piece behind is = let spelt : IsSpeltAt bytes last piece behind = (exact.found bytes last piece behind).0 is in spelt_sound spelt.front piece spelt.spelt
