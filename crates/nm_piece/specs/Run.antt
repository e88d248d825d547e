-- Runs of text between tags (XML 1.0, sections 2.4 and 4.1).
use Rattle.std.specs.Prelude.{ℕ, List, [], ◌∷◌, Bool, true, false, not, ◌&&◌, ◌==◌, Option, None, if◌then◌else◌}
use Rattle.std.specs.Option.{option_map}
use Rattle.nm_text.specs.Mark.{cdata_end, holds}
use Rattle.nm_text.specs.Meaning.{run_text}
use Rattle.nm_text.specs.Utf8.{begins_text, spells_text}
use Rattle.nm_piece.specs.declared.piece.Piece.{Piece}
use Rattle.nm_piece.specs.declared.piece.Piece.TheVariants.{Text}
use Rattle.nm_piece.specs.Reading.{Read, segment_at}
use Rattle.nm_piece.specs.Value.{are_references, begins_references}

abbrev pub is_some_bytes : List ℕ → Bool
is_some_bytes [] = false
is_some_bytes (byte ∷ bytes) = true

-- what one or more characters and references without `]]>` stand for
unfoldable pub run_of : List ℕ → Option (List ℕ)
run_of bytes =
    if is_some_bytes bytes && spells_text bytes && not (holds cdata_end bytes) && are_references bytes then run_text bytes
    else None

unfoldable pub begins_run : List ℕ → Bool
begins_run bytes = begins_text bytes && not (holds cdata_end bytes) && begins_references bytes

abbrev pub text_of_run : List ℕ → Option Piece
text_of_run bytes = option_map Text (run_of bytes)

-- a run that `<` follows
unfoldable pub run_at : List ℕ → Read Piece
run_at = segment_at (λ byte. byte == 60) text_of_run begins_run
