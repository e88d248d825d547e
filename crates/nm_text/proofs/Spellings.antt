-- Spellings of texts: what is read of them, and the bytes that they do not hold.
use Rattle.std.proofs.Common.{◌≡◌, ◌∙◌, ℕ, ◌<◌, Bool, true, false, not, List, [], ◌∷◌, ◌++◌, map, Some, refl, sym, ap, subst, arith, append-nil, if◌then◌else◌}
use Rattle.std.specs.Prelude.{◌==◌, codes}
use Rattle.std.specs.Fmt.{option_append}
use Rattle.std.specs.List.{flat_map}
use Rattle.std.proofs.lemmas.Bool.{eqb-true}
use Rattle.std.proofs.lemmas.List.Folds.{list_all-append}
use Rattle.std.proofs.lemmas.Str.{encode_ascii}
use Rattle.nm_text.specs.Escape.{attribute_spelling, spelt_in_attribute, spelt_in_text, text_spelling}
use Rattle.nm_text.specs.LineEnds.{normal_lines}
use Rattle.nm_text.specs.Meaning.{attribute_value, run_text, white_as_space, with_spaces}
use Rattle.nm_text.specs.Reference.{referred, without_references}
use Rattle.nm_text.specs.Split.{lacks}
use Rattle.nm_text.proofs.EndsOfLines.{lines_behind_plain}
use Rattle.nm_text.proofs.Meanings.{all_stay, meant_behind_plain, meant_by_reference}
use Rattle.nm_text.proofs.Strays.{reference_of}

-- ---- what is read

-- the byte is read of it, whatever stands behind it
abbrev IsReadAs : List ℕ → ℕ → Type 0
IsReadAs spelling byte = (rest : List ℕ) → without_references (spelling ++ rest) ≡ option_append (Some (byte ∷ [])) (without_references rest)

reference_is_read : (name : List ℕ) (byte : ℕ) → lacks 59 name ≡ true → referred name ≡ Some byte → byte < 128 → IsReadAs (reference_of name) byte
reference_is_read name byte ends is ascii rest =
    meant_by_reference name rest byte ends is ∙ ap (λ (bytes : List ℕ). option_append (Some bytes) (without_references rest)) (encode_ascii byte ascii)

other_is_read : (byte : ℕ) → (byte == 38) ≡ false → IsReadAs (byte ∷ []) byte
other_is_read byte other rest = meant_behind_plain (byte ∷ []) rest (rw other refl)

-- the byte that is read is the one that was spelt
spelt : (spelling : List ℕ) (byte read : ℕ) → (byte == read) ≡ true → IsReadAs spelling read → IsReadAs spelling byte
spelt spelling byte read same is = subst (IsReadAs spelling) (sym (eqb-true byte read same)) is

read_in_text : (byte : ℕ) → IsReadAs (spelt_in_text byte) byte
unfolding referred
read_in_text byte = by (byte == 38) (byte == 60) (byte == 62) (byte == 13) refl refl refl refl
  where
    by : (ampersand less greater return : Bool) → (byte == 38) ≡ ampersand → (byte == 60) ≡ less → (byte == 62) ≡ greater → (byte == 13) ≡ return
        → IsReadAs (if ampersand then codes "&amp;" else if less then codes "&lt;" else if greater then codes "&gt;" else if return then codes "&#13;" else byte ∷ []) byte
    by true less greater return a l g r = spelt (codes "&amp;") byte 38 a (reference_is_read (codes "amp") 38 refl refl (omega arith))
    by false true greater return a l g r = spelt (codes "&lt;") byte 60 l (reference_is_read (codes "lt") 60 refl refl (omega arith))
    by false false true return a l g r = spelt (codes "&gt;") byte 62 g (reference_is_read (codes "gt") 62 refl refl (omega arith))
    by false false false true a l g r = spelt (codes "&#13;") byte 13 r (reference_is_read (codes "#13") 13 refl refl (omega arith))
    by false false false false a l g r = other_is_read byte a

read_in_attribute : (byte : ℕ) → IsReadAs (spelt_in_attribute byte) byte
unfolding referred
read_in_attribute byte = by (byte == 34) (byte == 10) (byte == 9) refl refl refl
  where
    by : (quote feed tab : Bool) → (byte == 34) ≡ quote → (byte == 10) ≡ feed → (byte == 9) ≡ tab
        → IsReadAs (if quote then codes "&quot;" else if feed then codes "&#10;" else if tab then codes "&#9;" else spelt_in_text byte) byte
    by true feed tab q f t = spelt (codes "&quot;") byte 34 q (reference_is_read (codes "quot") 34 refl refl (omega arith))
    by false true tab q f t = spelt (codes "&#10;") byte 10 f (reference_is_read (codes "#10") 10 refl refl (omega arith))
    by false false true q f t = spelt (codes "&#9;") byte 9 t (reference_is_read (codes "#9") 9 refl refl (omega arith))
    by false false false q f t = read_in_text byte

spelling_is_read : (spell : ℕ → List ℕ) → ((byte : ℕ) → IsReadAs (spell byte) byte) → (text : List ℕ) → without_references (flat_map spell text) ≡ Some text
spelling_is_read spell each [] = refl
spelling_is_read spell each (byte ∷ text) = each byte (flat_map spell text) ∙ ap (option_append (Some (byte ∷ []))) (spelling_is_read spell each text)

-- ---- bytes that no spelling holds

lacks_each : (byte : ℕ) (spell : ℕ → List ℕ) → ((other : ℕ) → lacks byte (spell other) ≡ true) → (text : List ℕ) → lacks byte (flat_map spell text) ≡ true
lacks_each byte spell each [] = refl
lacks_each byte spell each (other ∷ text) =
    rw (list_all-append (λ (x : ℕ). not (x == byte)) (spell other) (flat_map spell text), each other, lacks_each byte spell each text) refl

lacks_itself : (byte other : ℕ) → (other == byte) ≡ false → lacks byte (other ∷ []) ≡ true
lacks_itself byte other apart = rw apart refl

-- a byte that is in no reference, and is not left as it is
lacks_in_text : (byte : ℕ) → lacks byte (codes "&amp;") ≡ true → lacks byte (codes "&lt;") ≡ true → lacks byte (codes "&gt;") ≡ true → lacks byte (codes "&#13;") ≡ true
    → (other : ℕ) → ((other == 60) ≡ false → (other == 62) ≡ false → (other == 13) ≡ false → (other == byte) ≡ false) → lacks byte (spelt_in_text other) ≡ true
lacks_in_text byte ampersand less greater return other apart = by (other == 38) (other == 60) (other == 62) (other == 13) refl refl refl
  where
    by : (a l g r : Bool) → (other == 60) ≡ l → (other == 62) ≡ g → (other == 13) ≡ r
        → lacks byte (if a then codes "&amp;" else if l then codes "&lt;" else if g then codes "&gt;" else if r then codes "&#13;" else other ∷ []) ≡ true
    by true l g r not_less not_greater not_return = ampersand
    by false true g r not_less not_greater not_return = less
    by false false true r not_less not_greater not_return = greater
    by false false false true not_less not_greater not_return = return
    by false false false false not_less not_greater not_return = lacks_itself byte other (apart not_less not_greater not_return)

lacks_in_attribute : (byte : ℕ) → lacks byte (codes "&quot;") ≡ true → lacks byte (codes "&#10;") ≡ true → lacks byte (codes "&#9;") ≡ true
    → (other : ℕ) → ((other == 34) ≡ false → (other == 10) ≡ false → (other == 9) ≡ false → lacks byte (spelt_in_text other) ≡ true) → lacks byte (spelt_in_attribute other) ≡ true
lacks_in_attribute byte quote feed tab other text = by (other == 34) (other == 10) (other == 9) refl refl refl
  where
    by : (q f t : Bool) → (other == 34) ≡ q → (other == 10) ≡ f → (other == 9) ≡ t
        → lacks byte (if q then codes "&quot;" else if f then codes "&#10;" else if t then codes "&#9;" else spelt_in_text other) ≡ true
    by true f t not_quote not_feed not_tab = quote
    by false true t not_quote not_feed not_tab = feed
    by false false true not_quote not_feed not_tab = tab
    by false false false not_quote not_feed not_tab = text not_quote not_feed not_tab

less_in_text : (other : ℕ) → lacks 60 (spelt_in_text other) ≡ true
less_in_text other = lacks_in_text 60 refl refl refl refl other (λ less greater return. less)

greater_in_text : (other : ℕ) → lacks 62 (spelt_in_text other) ≡ true
greater_in_text other = lacks_in_text 62 refl refl refl refl other (λ less greater return. greater)

return_in_text : (other : ℕ) → lacks 13 (spelt_in_text other) ≡ true
return_in_text other = lacks_in_text 13 refl refl refl refl other (λ less greater return. return)

-- no `<` stands in the spelling of a text
pub text_lacks_less : (text : List ℕ) → lacks 60 (text_spelling text) ≡ true
text_lacks_less = lacks_each 60 spelt_in_text less_in_text

-- no `>`, and so no `]]>`
pub text_lacks_greater : (text : List ℕ) → lacks 62 (text_spelling text) ≡ true
text_lacks_greater = lacks_each 62 spelt_in_text greater_in_text

-- no CR
pub text_lacks_return : (text : List ℕ) → lacks 13 (text_spelling text) ≡ true
text_lacks_return = lacks_each 13 spelt_in_text return_in_text

-- no `"` stands in the spelling of an attribute
pub attribute_lacks_quote : (text : List ℕ) → lacks 34 (attribute_spelling text) ≡ true
attribute_lacks_quote =
    lacks_each 34 spelt_in_attribute (λ (other : ℕ). lacks_in_attribute 34 refl refl refl other (λ quote feed tab. lacks_in_text 34 refl refl refl refl other (λ less greater return. quote)))

-- no `<`
pub attribute_lacks_less : (text : List ℕ) → lacks 60 (attribute_spelling text) ≡ true
attribute_lacks_less = lacks_each 60 spelt_in_attribute (λ (other : ℕ). lacks_in_attribute 60 refl refl refl other (λ quote feed tab. less_in_text other))

-- no `>`
pub attribute_lacks_greater : (text : List ℕ) → lacks 62 (attribute_spelling text) ≡ true
attribute_lacks_greater = lacks_each 62 spelt_in_attribute (λ (other : ℕ). lacks_in_attribute 62 refl refl refl other (λ quote feed tab. greater_in_text other))

-- no LF
pub attribute_lacks_feed : (text : List ℕ) → lacks 10 (attribute_spelling text) ≡ true
attribute_lacks_feed =
    lacks_each 10 spelt_in_attribute (λ (other : ℕ). lacks_in_attribute 10 refl refl refl other (λ quote feed tab. lacks_in_text 10 refl refl refl refl other (λ less greater return. feed)))

-- no tab
pub attribute_lacks_tab : (text : List ℕ) → lacks 9 (attribute_spelling text) ≡ true
attribute_lacks_tab =
    lacks_each 9 spelt_in_attribute (λ (other : ℕ). lacks_in_attribute 9 refl refl refl other (λ quote feed tab. lacks_in_text 9 refl refl refl refl other (λ less greater return. tab)))

-- no CR
pub attribute_lacks_return : (text : List ℕ) → lacks 13 (attribute_spelling text) ≡ true
attribute_lacks_return = lacks_each 13 spelt_in_attribute (λ (other : ℕ). lacks_in_attribute 13 refl refl refl other (λ quote feed tab. return_in_text other))

-- ---- both

lines_stay : (bytes : List ℕ) → lacks 13 bytes ≡ true → normal_lines bytes ≡ bytes
lines_stay bytes none = ap normal_lines (sym (append-nil bytes)) ∙ lines_behind_plain bytes [] none ∙ append-nil bytes

pub text_lines_stay : (text : List ℕ) → normal_lines (text_spelling text) ≡ text_spelling text
text_lines_stay text = lines_stay (text_spelling text) (text_lacks_return text)

pub attribute_lines_stay : (text : List ℕ) → normal_lines (attribute_spelling text) ≡ attribute_spelling text
attribute_lines_stay text = lines_stay (attribute_spelling text) (attribute_lacks_return text)

pub attribute_spaces_stay : (text : List ℕ) → with_spaces (attribute_spelling text) ≡ attribute_spelling text
attribute_spaces_stay text =
    ap (map white_as_space) (attribute_lines_stay text) ∙ all_stay (attribute_spelling text) (attribute_lacks_tab text) (attribute_lacks_feed text) (attribute_lacks_return text)

-- a text is read again from its spelling
pub text_reads_back : (text : List ℕ) → run_text (text_spelling text) ≡ Some text
text_reads_back text = ap without_references (text_lines_stay text) ∙ spelling_is_read spelt_in_text read_in_text text

pub attribute_reads_back : (text : List ℕ) → attribute_value (attribute_spelling text) ≡ Some text
attribute_reads_back text = ap without_references (attribute_spaces_stay text) ∙ spelling_is_read spelt_in_attribute read_in_attribute text
