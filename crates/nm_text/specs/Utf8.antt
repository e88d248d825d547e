-- Texts of XML byte by byte: the UTF-8 of RFC 3629, section 4, without what is no character of XML 1.0
-- (section 2.2). Both halves of a text that is cut have a meaning here.
use Rattle.std.specs.Prelude.{ℕ, List, [], ◌∷◌, Bool, true, false, ◌||◌, ◌==◌, if◌then◌else◌}
use Rattle.nm_terms.specs.Bytes.{is_between}
pub use Rattle.nm_text.specs.declared.character.Place.{Place}
pub use Rattle.nm_text.specs.declared.character.Place.TheVariants.{Between, Last, LastTwo, LastThree, AfterE0, AfterED, AfterEF, AfterEFBF, AfterF0, AfterF4, Wrong}

-- whether the byte is a character by itself
abbrev pub is_single : ℕ → Bool
is_single byte = (byte == 0x9) || (byte == 0xA) || (byte == 0xD) || is_between 0x20 0x7F byte

-- behind the first byte of a character
abbrev pub place_after_first : ℕ → Place
place_after_first byte =
    if is_single byte then Between
    else if is_between 0xC2 0xDF byte then Last
    else if byte == 0xE0 then AfterE0
    else if byte == 0xED then AfterED
    else if byte == 0xEF then AfterEF
    else if is_between 0xE1 0xEE byte then LastTwo
    else if byte == 0xF0 then AfterF0
    else if is_between 0xF1 0xF3 byte then LastThree
    else if byte == 0xF4 then AfterF4
    else Wrong

-- the next place where the byte is one of those, and else wrong
abbrev pub place_if : ℕ → ℕ → Place → ℕ → Place
place_if low high next byte = if is_between low high byte then next else Wrong

abbrev pub place_after_byte : Place → ℕ → Place
place_after_byte Between byte = place_after_first byte
place_after_byte Last byte = place_if 0x80 0xBF Between byte
place_after_byte LastTwo byte = place_if 0x80 0xBF Last byte
place_after_byte LastThree byte = place_if 0x80 0xBF LastTwo byte
place_after_byte AfterE0 byte = place_if 0xA0 0xBF Last byte
place_after_byte AfterED byte = place_if 0x80 0x9F Last byte
place_after_byte AfterEF byte = if byte == 0xBF then AfterEFBF else place_if 0x80 0xBE Last byte
place_after_byte AfterEFBF byte = place_if 0x80 0xBD Between byte
place_after_byte AfterF0 byte = place_if 0x90 0xBF LastTwo byte
place_after_byte AfterF4 byte = place_if 0x80 0x8F LastTwo byte
place_after_byte Wrong byte = Wrong

abbrev pub place_after : Place → List ℕ → Place
place_after place [] = place
place_after place (byte ∷ bytes) = place_after (place_after_byte place byte) bytes

-- whether no character is left unfinished
abbrev pub is_whole : Place → Bool
is_whole Between = true
is_whole _ = false

-- whether some bytes can still make a text of it
abbrev pub is_open : Place → Bool
is_open Wrong = false
is_open _ = true

-- the same as `is_text`, as `texts_by_bytes` says
abbrev pub spells_text : List ℕ → Bool
spells_text bytes = is_whole (place_after Between bytes)

-- whether a text begins so
abbrev pub begins_text : List ℕ → Bool
begins_text bytes = is_open (place_after Between bytes)
