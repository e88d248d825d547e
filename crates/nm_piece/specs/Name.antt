-- Names and white space in tags (Namespaces in XML, sections 3 and 4; XML 1.0, section 2.3).
use Rattle.std.specs.Prelude.{ℕ, List, [], ◌∷◌, ◌++◌, Bool, true, not, ◌&&◌, Option, None, Some, Ok, codes, if◌then◌else◌}
use Rattle.nm_ident.specs.Name.{continues_name, is_name}
use Rattle.nm_text.specs.White.{is_white, is_white_space}
use Rattle.nm_piece.specs.declared.piece.QName.{QName}
use Rattle.nm_piece.specs.Reading.{Read, ◌>>=◌, choice, literal_at, segment_at}

-- ---- how a name with a prefix is written

abbrev pub written : Option (List ℕ) → List ℕ → List ℕ
written None local = local
written (Some prefix) local = prefix ++ 58 ∷ local

abbrev pub qname_text : QName → List ℕ
qname_text name = written name.prefix name.local

abbrev pub is_prefix : Option (List ℕ) → Bool
is_prefix None = true
is_prefix (Some prefix) = is_name prefix

abbrev pub is_qname : QName → Bool
is_qname name = is_prefix name.prefix && is_name name.local

-- ---- reading a name

abbrev pub ends_name : ℕ → Bool
ends_name byte = not (continues_name byte)

abbrev pub name_of : List ℕ → Option (List ℕ)
name_of bytes = if is_name bytes then Some bytes else None

-- whether a name begins so
abbrev pub begins_name : List ℕ → Bool
begins_name [] = true
begins_name (byte ∷ bytes) = is_name (byte ∷ bytes)

abbrev pub name_at : List ℕ → Read (List ℕ)
name_at = segment_at ends_name name_of begins_name

abbrev pub only_local : List ℕ → List ℕ → Read QName
only_local local bytes = Ok (record { prefix = None; local = local }, bytes)

abbrev pub local_behind : List ℕ → List ℕ → Read QName
local_behind prefix bytes = name_at bytes >>= λ local. Ok (record { prefix = Some prefix; local = local.0 }, local.1)

-- a name, or two joined by `:`
unfoldable pub qname_at : List ℕ → Read QName
qname_at bytes = name_at bytes >>= λ first. choice 58 (local_behind first.0) (only_local first.0) first.1

-- ---- reading white space

abbrev pub ends_white : ℕ → Bool
ends_white byte = not (is_white byte)

-- white space or nothing, and which it is
abbrev pub gap_at : List ℕ → Read Bool
gap_at = segment_at ends_white (λ white. Some (is_white_space white)) (λ white. true)

abbrev pub space_of : List ℕ → Option (Unit {0})
space_of white = if is_white_space white then Some tt else None

-- white space
abbrev pub space_at : List ℕ → Read (Unit {0})
space_at = segment_at ends_white space_of (λ white. true)

-- `=`, and white space on both sides of it
unfoldable pub equals_at : List ℕ → Read (Unit {0})
equals_at bytes =
    gap_at bytes >>= λ left. literal_at (codes "=") left.1 >>= λ sign. gap_at sign.1 >>= λ right. Ok (tt, right.1)
