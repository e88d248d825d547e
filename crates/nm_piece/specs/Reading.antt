-- Reading from the front of bytes: a value with what stands behind it, or why there is none.
use Rattle.std.specs.Prelude.{ℕ, List, [], ◌∷◌, Bool, ◌==◌, Option, None, Some, Result, Ok, Err, if◌then◌else◌}
use Rattle.nm_piece.specs.declared.unread.Unread.{Unread}
use Rattle.nm_piece.specs.declared.unread.Unread.TheVariants.{Unfinished, NoPiece}

-- a value, and what stands behind it
abbrev pub Read : Type 0 → Type 0
Read X = Result (X × List ℕ) Unread

infixl 10 ◌>>=◌
abbrev pub ◌>>=◌ : {X Y : Type 0} → Result X Unread → (X → Result Y Unread) → Result Y Unread
(Ok value) >>= next = next value
(Err unread) >>= next = Err unread

-- ---- by what comes first

-- behind this byte the one reading, at any other byte the other
abbrev pub choice : {X : Type 0} → ℕ → (List ℕ → Read X) → (List ℕ → Read X) → List ℕ → Read X
choice first this other [] = Err Unfinished
choice first this other (byte ∷ bytes) = if byte == first then this bytes else other (byte ∷ bytes)

-- these bytes
abbrev pub literal_at : List ℕ → List ℕ → Read (Unit {0})
literal_at [] bytes = Ok (tt, bytes)
literal_at (first ∷ text) [] = Err Unfinished
literal_at (first ∷ text) (byte ∷ bytes) = if byte == first then literal_at text bytes else Err NoPiece

-- ---- up to a byte that ends it

-- what stands before the first byte that ends it
abbrev pub before : (ℕ → Bool) → List ℕ → List ℕ
before ends [] = []
before ends (byte ∷ bytes) = if ends byte then [] else byte ∷ before ends bytes

-- that byte, and what follows it
abbrev pub from : (ℕ → Bool) → List ℕ → List ℕ
from ends [] = []
from ends (byte ∷ bytes) = if ends byte then byte ∷ bytes else from ends bytes

-- a value, where there is one
abbrev pub found : {X : Type 0} → Option X → List ℕ → Read X
found None rest = Err NoPiece
found (Some value) rest = Ok (value, rest)

-- what bytes stand for that go on to here; at the end of the bytes they may go on
abbrev pub ended : {X : Type 0} → (List ℕ → Option X) → (List ℕ → Bool) → List ℕ → List ℕ → Read X
ended value begins bytes [] = if begins bytes then Err Unfinished else Err NoPiece
ended value begins bytes (byte ∷ rest) = found (value bytes) (byte ∷ rest)

-- what the bytes up to the first that ends them stand for
abbrev pub segment_at : {X : Type 0} → (ℕ → Bool) → (List ℕ → Option X) → (List ℕ → Bool) → List ℕ → Read X
segment_at ends value begins bytes = ended value begins (before ends bytes) (from ends bytes)
