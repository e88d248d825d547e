-- Bytes as lines, which end with LF or CR LF (RFC 9112, section 2.2).
use Rattle.std.specs.Prelude.{ℕ, List, [], ◌∷◌, Bool, true, false, ◌==◌, if◌then◌else◌}
use Rattle.httparse.specs.Grammar.{LineEnd, crlf, lf}

-- a line without its end
pub record Line : Type 0 where
  pub text : List ℕ
  pub end : LineEnd

abbrev pub is_empty : List ℕ → Bool
is_empty [] = true
is_empty (byte ∷ bytes) = false

-- a line that has one byte more in front, which before a line feed alone may be the CR of its end
abbrev pub with_byte : ℕ → List ℕ → LineEnd → Line
with_byte byte (first ∷ text) end = record { text = byte ∷ first ∷ text; end = end }
with_byte byte [] crlf = record { text = byte ∷ []; end = crlf }
with_byte byte [] lf = if byte == 13 then (record { text = []; end = crlf }) else (record { text = byte ∷ []; end = lf })

-- the first line has one byte more; bytes behind the last line feed are no line
abbrev pub with_first : ℕ → List Line → List Line
with_first byte [] = []
with_first byte (line ∷ lines) = with_byte byte line.text line.end ∷ lines

-- the lines of the bytes
abbrev pub lines_of : List ℕ → List Line
lines_of [] = []
lines_of (byte ∷ bytes) =
    if byte == 10 then (record { text = []; end = lf }) ∷ lines_of bytes else with_first byte (lines_of bytes)
