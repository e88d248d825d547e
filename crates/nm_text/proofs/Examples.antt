-- Worked examples of texts and of references, computed.
use Rattle.std.proofs.Common.{◌≡◌, [], ◌∷◌, ◌++◌, codes, true, false, Some, None, refl}
use Rattle.std.specs.Str.{chars, is_utf8}
use lib.Utf8.{encode}
use Rattle.nm_text.specs.Characters.{is_text}
use Rattle.nm_text.specs.Reference.{begins_name, first_stray, referred, without_references}
use Rattle.nm_text.specs.Meaning.{attribute_value, run_text}

-- ---- characters

-- U+0008, and U+000B
backspace : is_text (0x08 ∷ []) ≡ false
unfolding chars is_utf8 encode
backspace = refl

vertical_tab : is_text (0x0B ∷ []) ≡ false
unfolding chars is_utf8 encode
vertical_tab = refl

-- tab, LF, CR and U+0020, and U+001F
white : is_text (0x09 ∷ 0x0A ∷ 0x0D ∷ 0x20 ∷ []) ≡ true
unfolding chars is_utf8 encode
white = refl

unit_separator : is_text (0x1F ∷ []) ≡ false
unfolding chars is_utf8 encode
unit_separator = refl

-- U+D7FF, and the surrogate U+D800, which UTF-8 does not spell
before_surrogates : is_text (0xED ∷ 0x9F ∷ 0xBF ∷ []) ≡ true
unfolding chars is_utf8 encode
before_surrogates = refl

surrogate : is_text (0xED ∷ 0xA0 ∷ 0x80 ∷ []) ≡ false
unfolding chars is_utf8 encode
surrogate = refl

-- U+FFFD, and U+FFFE
replacement : is_text (0xEF ∷ 0xBF ∷ 0xBD ∷ []) ≡ true
unfolding chars is_utf8 encode
replacement = refl

no_character : is_text (0xEF ∷ 0xBF ∷ 0xBE ∷ []) ≡ false
unfolding chars is_utf8 encode
no_character = refl

-- U+10000 and U+10FFFF, and the number behind it
past_basic_plane : is_text (0xF0 ∷ 0x90 ∷ 0x80 ∷ 0x80 ∷ []) ≡ true
unfolding chars is_utf8 encode
past_basic_plane = refl

last : is_text (0xF4 ∷ 0x8F ∷ 0xBF ∷ 0xBF ∷ []) ≡ true
unfolding chars is_utf8 encode
last = refl

past_last : is_text (0xF4 ∷ 0x90 ∷ 0x80 ∷ 0x80 ∷ []) ≡ false
unfolding chars is_utf8 encode
past_last = refl

-- two bytes for U+002F, and a byte that nothing follows
overlong : is_text (0xC0 ∷ 0xAF ∷ []) ≡ false
unfolding chars is_utf8 encode
overlong = refl

cut_short : is_text (0xC3 ∷ []) ≡ false
unfolding chars is_utf8 encode
cut_short = refl

-- ---- references

predefined : without_references (codes "&lt;&gt;&amp;&quot;&apos;") ≡ Some (codes "<>&\"'")
unfolding referred encode
predefined = refl

-- `A`, and U+10FFFF, the last character
numbered : without_references (codes "&#65;&#x41;&#x0000000000000000000000000041;&#00000000000000000065;") ≡ Some (codes "AAAA")
unfolding referred encode
numbered = refl

last_number : without_references (codes "&#x10FFFF;&#1114111;") ≡ Some (0xF4 ∷ 0x8F ∷ 0xBF ∷ 0xBF ∷ 0xF4 ∷ 0x8F ∷ 0xBF ∷ 0xBF ∷ [])
unfolding referred encode
last_number = refl

past_last_number : first_stray (codes "&#x110000;") ≡ Some 0
unfolding referred
past_last_number = refl

-- no number of a character, no digits, other digits, a sign, and a capital where a small letter stands
null : first_stray (codes "&#0;") ≡ Some 0
unfolding referred
null = refl

surrogate_number : first_stray (codes "&#xD800;") ≡ Some 0
unfolding referred
surrogate_number = refl

noncharacter_number : first_stray (codes "&#xFFFE;") ≡ Some 0
unfolding referred
noncharacter_number = refl

no_digits : first_stray (codes "&#;") ≡ Some 0
unfolding referred
no_digits = refl

no_hexadecimal_digits : first_stray (codes "&#x;") ≡ Some 0
unfolding referred
no_hexadecimal_digits = refl

hexadecimal_in_decimal : first_stray (codes "&#6A;") ≡ Some 0
unfolding referred
hexadecimal_in_decimal = refl

sign : first_stray (codes "&#+65;") ≡ Some 0
unfolding referred
sign = refl

capital_x : first_stray (codes "&#X41;") ≡ Some 0
unfolding referred
capital_x = refl

capitals : first_stray (codes "&AMP;") ≡ Some 0
unfolding referred
capitals = refl

space_before_name : first_stray (codes "& amp;") ≡ Some 0
unfolding referred
space_before_name = refl

no_semicolon : first_stray (codes "&amp") ≡ Some 0
unfolding referred
no_semicolon = refl

-- the first of several, behind references
one_stray : first_stray (codes "a&b;") ≡ Some 1
unfolding referred
one_stray = refl

first_of_two : first_stray (codes "&lt;&b&amp;&c;") ≡ Some 4
unfolding referred
first_of_two = refl

none_read : without_references (codes "&lt;&b&amp;&c;") ≡ None
unfolding referred encode
none_read = refl

-- what has come of a name: a number goes on to the last character, and zeros may stand before it
name_goes_on : begins_name (codes "am") ≡ true
unfolding begins_name
name_goes_on = refl

no_name_goes_on : begins_name (codes "ampe") ≡ false
unfolding begins_name
no_name_goes_on = refl

number_goes_on : begins_name (codes "#001114111") ≡ true
unfolding begins_name
number_goes_on = refl

number_is_too_high : begins_name (codes "#1114112") ≡ false
unfolding begins_name
number_is_too_high = refl

surrogate_goes_on : begins_name (codes "#xD800") ≡ true
unfolding begins_name
surrogate_goes_on = refl

-- ---- what is read: a CR from a reference stays one, and in an attribute's value so do LF and tab

in_run : run_text (97 ∷ 13 ∷ 10 ∷ 9 ∷ codes "&#13;" ++ 13 ∷ codes "&#10;") ≡ Some (97 ∷ 10 ∷ 9 ∷ 13 ∷ 10 ∷ 10 ∷ [])
unfolding referred encode
in_run = refl

in_attribute : attribute_value (97 ∷ 13 ∷ 10 ∷ 9 ∷ 13 ∷ 10 ∷ codes "&#13;&#10;&#9;") ≡ Some (97 ∷ 32 ∷ 32 ∷ 32 ∷ 13 ∷ 10 ∷ 9 ∷ [])
unfolding referred encode
in_attribute = refl
