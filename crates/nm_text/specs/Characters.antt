-- The characters of XML 1.0 (section 2.2), and texts of them.
use Rattle.std.specs.Prelude.{ℕ, List, Bool, ◌&&◌, ◌||◌, ◌==◌}
use Rattle.std.specs.List.{list_all}
use Rattle.std.specs.Str.{is_utf8, chars}
use Rattle.nm_terms.specs.Bytes.{is_between}

-- tab, LF, CR, U+0020 to U+D7FF, U+E000 to U+FFFD, U+10000 to U+10FFFF
abbrev pub is_character : ℕ → Bool
is_character c =
    (c == 0x9) || (c == 0xA) || (c == 0xD) || is_between 0x20 0xD7FF c || is_between 0xE000 0xFFFD c
    || is_between 0x10000 0x10FFFF c

-- UTF-8 of characters of XML alone
abbrev pub is_text : List ℕ → Bool
is_text bytes = is_utf8 bytes && list_all is_character (chars bytes)
