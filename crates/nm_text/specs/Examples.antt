-- Worked examples of the definitions, computed.
use Rattle.std.specs.Prelude.{◌≡◌, [], ◌∷◌, ◌++◌, codes, true, false, refl}
use Rattle.nm_text.specs.White.{is_white_space, is_white_text}
use Rattle.nm_text.specs.Characters.{is_character}
use Rattle.nm_text.specs.Utf8.{begins_text, spells_text}
use Rattle.nm_text.specs.LineEnds.{normal_lines}
use Rattle.nm_text.specs.Mark.{cdata_end, holds, two_dashes}
use Rattle.nm_text.specs.Meaning.{cdata_text}
use Rattle.nm_text.specs.Escape.{attribute_spelling, text_spelling}

-- ---- white space

no_text_is_white : is_white_text [] ≡ true
no_text_is_white = refl

no_space : is_white_space [] ≡ false
no_space = refl

white : is_white_space (0x20 ∷ 0x9 ∷ 0xD ∷ 0xA ∷ []) ≡ true
white = refl

-- U+00A0 is no white space of XML
no_break_space : is_white_space (0xC2 ∷ 0xA0 ∷ []) ≡ false
no_break_space = refl

-- ---- characters, and their UTF-8 byte by byte

no_character : is_character 0xFFFE ≡ false
no_character = refl

letters : spells_text (codes "Sundsvall") ≡ true
letters = refl

-- U+0009, U+00F6, U+D7FF, U+FFFD, U+10000 and U+10FFFF
edges : spells_text (0x09 ∷ 0xC3 ∷ 0xB6 ∷ 0xED ∷ 0x9F ∷ 0xBF ∷ 0xEF ∷ 0xBF ∷ 0xBD ∷ 0xF0 ∷ 0x90 ∷ 0x80 ∷ 0x80 ∷ 0xF4 ∷ 0x8F ∷ 0xBF ∷ 0xBF ∷ []) ≡ true
edges = refl

-- U+0008 and U+001F
controls : spells_text (0x08 ∷ []) ≡ false
controls = refl

unit_separator : begins_text (0x1F ∷ []) ≡ false
unit_separator = refl

-- `/` in two bytes, U+07FF in three and U+FFFF in four
overlong_in_two : begins_text (0xC0 ∷ []) ≡ false
overlong_in_two = refl

overlong_in_three : begins_text (0xE0 ∷ 0x9F ∷ []) ≡ false
overlong_in_three = refl

overlong_in_four : begins_text (0xF0 ∷ 0x8F ∷ []) ≡ false
overlong_in_four = refl

-- U+D800
surrogate : begins_text (0xED ∷ 0xA0 ∷ []) ≡ false
surrogate = refl

-- U+FFFE
noncharacter : begins_text (0xEF ∷ 0xBF ∷ 0xBE ∷ []) ≡ false
noncharacter = refl

-- U+110000
past_last : begins_text (0xF4 ∷ 0x90 ∷ []) ≡ false
past_last = refl

-- a text that is cut within a character begins one, and is none
cut_short : spells_text (0xF0 ∷ 0x90 ∷ 0x80 ∷ []) ≡ false
cut_short = refl

cut_front : begins_text (0xF0 ∷ 0x90 ∷ 0x80 ∷ []) ≡ true
cut_front = refl

-- ---- ends of lines: CR CR LF is two

line_ends : normal_lines (97 ∷ 13 ∷ 10 ∷ 98 ∷ 13 ∷ 99 ∷ 10 ∷ 13 ∷ 13 ∷ 10 ∷ 13 ∷ []) ≡ 97 ∷ 10 ∷ 98 ∷ 10 ∷ 99 ∷ 10 ∷ 10 ∷ 10 ∷ 10 ∷ []
line_ends = refl

-- ---- marks

end_within : holds cdata_end (codes "a]]]>b") ≡ true
end_within = refl

no_end : holds cdata_end (codes "a]]b>]]") ≡ false
no_end = refl

dashes : holds two_dashes (codes "a--") ≡ true
dashes = refl

no_dashes : holds two_dashes (codes "-a-") ≡ false
no_dashes = refl

-- ---- what is read, and how it is spelt

-- no reference is read in CDATA
in_cdata : cdata_text (codes "&amp;" ++ 13 ∷ 10 ∷ []) ≡ codes "&amp;" ++ 10 ∷ []
in_cdata = refl

in_text : text_spelling (codes "a&b<c>d\"e'" ++ 13 ∷ 10 ∷ 9 ∷ []) ≡ codes "a&amp;b&lt;c&gt;d\"e'&#13;" ++ 10 ∷ 9 ∷ []
in_text = refl

in_attribute : attribute_spelling (codes "a&b<c>d\"e'" ++ 13 ∷ 10 ∷ 9 ∷ []) ≡ codes "a&amp;b&lt;c&gt;d&quot;e'&#13;&#10;&#9;"
in_attribute = refl
