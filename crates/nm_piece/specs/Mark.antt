-- Pieces that go on up to a mark: comments, instructions and CDATA sections (XML 1.0, sections 2.5, 2.6
-- and 2.7).
use Rattle.std.specs.Prelude.{ℕ, List, [], ◌∷◌, ◌+◌, length, drop, map, nat_eq, Option, None, Some, Ok, Err, codes, if◌then◌else◌}
use Rattle.std.specs.List.{starts_with}
use Rattle.std.specs.Option.{option_map}
use Rattle.nm_terms.specs.Bytes.{is_between, same_text}
use Rattle.nm_ident.specs.Name.{is_name}
use Rattle.nm_text.specs.Mark.{cdata_end, two_dashes}
use Rattle.nm_text.specs.Meaning.{cdata_text}
use Rattle.nm_text.specs.Utf8.{begins_text, spells_text}
use Rattle.nm_text.specs.White.{is_white}
use Rattle.nm_piece.specs.declared.piece.Piece.{Piece}
use Rattle.nm_piece.specs.declared.piece.Piece.TheVariants.{Skip, Text}
use Rattle.nm_piece.specs.declared.unread.Unread.TheVariants.{Unfinished, NoPiece}
use Rattle.nm_piece.specs.Name.{begins_name, ends_name}
use Rattle.nm_piece.specs.Reading.{Read, ◌>>=◌, choice, literal_at, segment_at}
use Rattle.nm_piece.specs.Start.{start_at}

-- ---- up to a mark

abbrev pub behind_byte : ℕ → List ℕ × List ℕ → List ℕ × List ℕ
behind_byte byte parts = (byte ∷ parts.0, parts.1)

-- what stands before the first such mark, and what stands behind it
abbrev pub parts_at : List ℕ → List ℕ → Option (List ℕ × List ℕ)
parts_at mark [] = None
parts_at mark (byte ∷ bytes) =
    if starts_with nat_eq (byte ∷ bytes) mark then Some ([], drop (length mark) (byte ∷ bytes))
    else option_map (behind_byte byte) (parts_at mark bytes)

-- characters, if they are such; without a mark they may go on
abbrev pub text_of_parts : List ℕ → Option (List ℕ × List ℕ) → Read (List ℕ)
text_of_parts bytes None = if begins_text bytes then Err Unfinished else Err NoPiece
text_of_parts bytes (Some parts) = if spells_text parts.0 then Ok parts else Err NoPiece

-- characters up to the first such mark, and the mark
abbrev pub text_until : List ℕ → List ℕ → Read (List ℕ)
text_until mark bytes = text_of_parts bytes (parts_at mark bytes)

-- ---- the pieces

-- a comment behind its `<!-`
unfoldable pub comment_at : List ℕ → Read Piece
comment_at bytes =
    literal_at (codes "-") bytes >>= λ sign. text_until two_dashes sign.1 >>= λ inside.
    literal_at (codes ">") inside.1 >>= λ closing. Ok (Skip, closing.1)

-- a CDATA section behind its `<![`
unfoldable pub cdata_at : List ℕ → Read Piece
cdata_at bytes =
    literal_at (codes "CDATA[") bytes >>= λ sign. text_until cdata_end sign.1 >>= λ inside.
    Ok (Text (cdata_text inside.0), inside.1)

-- `?` has come
abbrev pub instruction_end : List ℕ → Read Piece
instruction_end bytes = literal_at (codes ">") bytes >>= λ sign. Ok (Skip, sign.1)

-- the rest up to `?>`
abbrev pub instruction_rest : List ℕ → Read Piece
instruction_rest bytes = text_until (codes "?>") bytes >>= λ inside. Ok (Skip, inside.1)

-- a white byte, and the rest
abbrev pub instruction_text : List ℕ → Read Piece
instruction_text [] = Err Unfinished
instruction_text (byte ∷ bytes) = if is_white byte then instruction_rest bytes else Err NoPiece

-- what follows an instruction's name
unfoldable pub instruction_behind : List ℕ → Read Piece
instruction_behind = choice 63 instruction_end instruction_text

-- A to Z as a to z
abbrev pub lower_case : ℕ → ℕ
lower_case byte = if is_between 65 90 byte then byte + 32 else byte

-- what a name begins behind `<?`
pub data Target : Type 0 where
  Declaration : Target
  Instruction : Target

-- `xml` is the declaration's, and so in other letter case nobody's (XML 1.0, section 2.6)
abbrev pub target_of : List ℕ → Option Target
target_of bytes =
    if same_text bytes (codes "xml") then Some Declaration
    else if same_text (map lower_case bytes) (codes "xml") then None
    else if is_name bytes then Some Instruction
    else None

abbrev pub behind_target : Target → List ℕ → Read Piece
behind_target Declaration = start_at
behind_target Instruction = instruction_behind

-- an XML declaration or an instruction, behind its `<?`
unfoldable pub question_at : List ℕ → Read Piece
question_at bytes = segment_at ends_name target_of begins_name bytes >>= λ target. behind_target target.0 target.1
