-- What the definitions of this crate keep to.
use Rattle.std.specs.Prelude.{◌≡◌, ◌++◌, ℕ, List, true, Some}
use Rattle.nm_text.specs.Characters.{is_character, is_text}
use Rattle.nm_text.specs.Escape.{attribute_spelling, text_spelling}
use Rattle.nm_text.specs.LineEnds.{normal_lines}
use Rattle.nm_text.specs.Meaning.{attribute_value, cdata_text, run_text}
use Rattle.nm_text.specs.Reference.{begins_name, referred}
use Rattle.nm_text.specs.Utf8.{begins_text, spells_text}

-- a text is told byte by byte, and its fronts from the bytes that no text begins with
pub record TextsAreToldByBytes : Type 0 where
  pub same : (bytes : List ℕ) → is_text bytes ≡ spells_text bytes
  pub goes_on : (bytes : List ℕ) → begins_text bytes ≡ true → (more : List ℕ) × (is_text (bytes ++ more) ≡ true)
  pub front : (bytes more : List ℕ) → is_text (bytes ++ more) ≡ true → begins_text bytes ≡ true

-- references stand for characters, and the fronts of their names are told from what begins none
pub record ReferencesNameCharacters : Type 0 where
  pub characters : (name : List ℕ) (character : ℕ) → referred name ≡ Some character → is_character character ≡ true
  pub goes_on : (name : List ℕ) → begins_name name ≡ true → (more : List ℕ) × (character : ℕ) × (referred (name ++ more) ≡ Some character)
  pub front : (name more : List ℕ) (character : ℕ) → referred (name ++ more) ≡ Some character → begins_name name ≡ true

-- a spelling is read as what was spelt, and no end of a line changes on the way
pub record SpellingsReadBack : Type 0 where
  pub text : (text : List ℕ) → run_text (text_spelling text) ≡ Some text
  pub attribute : (text : List ℕ) → attribute_value (attribute_spelling text) ≡ Some text
  pub text_lines : (text : List ℕ) → normal_lines (text_spelling text) ≡ text_spelling text
  pub attribute_lines : (text : List ℕ) → normal_lines (attribute_spelling text) ≡ attribute_spelling text

-- texts are spelt as texts, and read as texts
pub record TextsStayTexts : Type 0 where
  pub text_spelt : (text : List ℕ) → is_text (text_spelling text) ≡ is_text text
  pub attribute_spelt : (text : List ℕ) → is_text (attribute_spelling text) ≡ is_text text
  pub run_read : (bytes text : List ℕ) → is_text bytes ≡ true → run_text bytes ≡ Some text → is_text text ≡ true
  pub cdata_read : (bytes : List ℕ) → is_text (cdata_text bytes) ≡ is_text bytes
  pub attribute_read : (bytes text : List ℕ) → is_text bytes ≡ true → attribute_value bytes ≡ Some text → is_text text ≡ true
