-- How characters are spelt in the text and in the attributes of a canonical document (XML 1.0, section 2.4).
use Rattle.std.specs.Prelude.{ℕ, List, [], ◌∷◌, ◌==◌, codes, if◌then◌else◌}
use Rattle.std.specs.List.{flat_map}
use Rattle.nm_text.specs.declared.escape.Setting.{Setting}
use Rattle.nm_text.specs.declared.escape.Setting.TheVariants.{Text, Attribute}

-- `&`, `<`, `>` and CR by references, all others as they are
abbrev pub spelt_in_text : ℕ → List ℕ
spelt_in_text byte =
    if byte == 38 then codes "&amp;"
    else if byte == 60 then codes "&lt;"
    else if byte == 62 then codes "&gt;"
    else if byte == 13 then codes "&#13;"
    else byte ∷ []

-- `"`, LF and tab by references too
abbrev pub spelt_in_attribute : ℕ → List ℕ
spelt_in_attribute byte =
    if byte == 34 then codes "&quot;"
    else if byte == 10 then codes "&#10;"
    else if byte == 9 then codes "&#9;"
    else spelt_in_text byte

abbrev pub spelt_in : Setting → ℕ → List ℕ
spelt_in Text byte = spelt_in_text byte
spelt_in Attribute byte = spelt_in_attribute byte

abbrev pub text_spelling : List ℕ → List ℕ
text_spelling bytes = flat_map spelt_in_text bytes

abbrev pub attribute_spelling : List ℕ → List ℕ
attribute_spelling bytes = flat_map spelt_in_attribute bytes
