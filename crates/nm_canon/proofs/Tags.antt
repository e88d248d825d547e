-- How tags and texts are written, and that they are spellings of their pieces.
use Rattle.std.proofs.Common.{◌≡◌, ◌∙◌, ℕ, Bool, true, List, [], ◌∷◌, ◌++◌, refl, sym, ap, append_assoc, append-nil}
use Rattle.std.specs.Prelude.{codes}
use Rattle.std.specs.List.{AllByRecursion, flat_map}
use Rattle.nm_piece.specs.declared.piece.Attribute.{Attribute}
use Rattle.nm_piece.specs.declared.piece.QName.{QName}
use Rattle.nm_piece.specs.Name.{is_qname, qname_text}
use Rattle.nm_piece.specs.Spells.{SpellsAttribute, SpellsAttributes, SpellsClose, SpellsOpen, SpellsRun, tag_end}
use Rattle.nm_text.specs.Characters.{is_text}
use Rattle.nm_text.specs.Escape.{attribute_spelling, spelt_in_text, text_spelling}
use Rattle.nm_text.proofs.Spellings.{attribute_lacks_less, attribute_lacks_quote, attribute_reads_back, text_lacks_less, text_reads_back}
use Rattle.nm_text.proofs.TextsAgain.{attribute_spelling_is_text, spelling_is_text}
use Rattle.nm_canon.proofs.Texts.{attribute_references, in_text, text_holds_no_end, text_references}

-- ---- attributes

abbrev pub attribute_bytes : Attribute → List ℕ
attribute_bytes attribute = 32 ∷ (qname_text attribute.name ++ (61 ∷ 34 ∷ (attribute_spelling attribute.value ++ 34 ∷ [])))

pub record IsWritten (attribute : Attribute) : Type 0 where
  pub named : is_qname attribute.name ≡ true
  pub characters : is_text attribute.value ≡ true

attribute_whole : (name spelling : List ℕ) → 32 ∷ (name ++ (61 ∷ 34 ∷ (spelling ++ 34 ∷ []))) ≡ (32 ∷ []) ++ name ++ codes "=" ++ (codes "\"" ++ spelling ++ codes "\"")
attribute_whole name spelling = sym (append_assoc (32 ∷ name) (codes "=") (34 ∷ (spelling ++ 34 ∷ [])))

pub attribute_spelt : (attribute : Attribute) → IsWritten attribute → SpellsAttribute (attribute_bytes attribute) attribute
attribute_spelt attribute written =
    let spelling = attribute_spelling attribute.value in
    record {
      gap = 32 ∷ [];
      equals = codes "=";
      quoted = codes "\"" ++ spelling ++ codes "\"";
      inside = spelling;
      whole = attribute_whole (qname_text attribute.name) spelling;
      white = refl;
      named = written.named;
      is_equals = record { left = []; right = []; whole = refl; white_left = refl; white_right = refl };
      is_quoted = record { quote = 34; is_one = refl; whole = refl; unquoted = attribute_lacks_quote attribute.value };
      characters = attribute_spelling_is_text attribute.value ∙ written.characters;
      no_tag = attribute_lacks_less attribute.value;
      references = attribute_references attribute.value;
      value = attribute_reads_back attribute.value;
    }

attributes_spelt : (attributes : List Attribute) → AllByRecursion IsWritten attributes → SpellsAttributes (flat_map attribute_bytes attributes) attributes
attributes_spelt [] written = refl
attributes_spelt (attribute ∷ attributes) written =
    (attribute_bytes attribute, flat_map attribute_bytes attributes, refl, attribute_spelt attribute written.0, attributes_spelt attributes written.1)

-- ---- tags

abbrev pub open_tail : QName → List Attribute → Bool → List ℕ
open_tail name attributes empty = qname_text name ++ (flat_map attribute_bytes attributes ++ tag_end empty)

abbrev pub open_bytes : QName → List Attribute → Bool → List ℕ
open_bytes name attributes empty = 60 ∷ open_tail name attributes empty

abbrev pub close_tail : QName → List ℕ
close_tail name = 47 ∷ (qname_text name ++ codes ">")

abbrev pub close_bytes : QName → List ℕ
close_bytes name = 60 ∷ close_tail name

pub record IsTagWritten (name : QName) (attributes : List Attribute) : Type 0 where
  pub named : is_qname name ≡ true
  pub each : AllByRecursion IsWritten attributes

open_whole : (name inside end : List ℕ) → 60 ∷ (name ++ (inside ++ end)) ≡ 60 ∷ name ++ inside ++ [] ++ end
open_whole name inside end = simp (append_assoc, append-nil)

pub open_spelt : (name : QName) (attributes : List Attribute) (empty : Bool) → IsTagWritten name attributes → SpellsOpen (open_bytes name attributes empty) name attributes empty
open_spelt name attributes empty written = record {
  inside = flat_map attribute_bytes attributes;
  gap = [];
  whole = open_whole (qname_text name) (flat_map attribute_bytes attributes) (tag_end empty);
  named = written.named;
  each = attributes_spelt attributes written.each;
  white = refl;
}

close_whole : (name : List ℕ) → 60 ∷ 47 ∷ (name ++ codes ">") ≡ codes "</" ++ name ++ [] ++ codes ">"
close_whole name = simp (append_assoc, append-nil)

pub close_spelt : (name : QName) → is_qname name ≡ true → SpellsClose (close_bytes name) name
close_spelt name named = record { gap = []; whole = close_whole (qname_text name); named = named; white = refl }

-- ---- texts

pub record IsRun (text : List ℕ) : Type 0 where
  pub first : ℕ
  pub others : List ℕ
  pub some : text ≡ first ∷ others
  pub characters : is_text text ≡ true

-- a spelling is not empty
pub record IsSome (bytes : List ℕ) : Type 0 where
  pub first : ℕ
  pub others : List ℕ
  pub whole : bytes ≡ first ∷ others

some_in_text : (byte : ℕ) → IsSome (spelt_in_text byte)
some_in_text =
    in_text (λ byte spelling. IsSome spelling) (record { first = 38; others = codes "amp;"; whole = refl }) (record { first = 38; others = codes "lt;"; whole = refl })
    (record { first = 38; others = codes "gt;"; whole = refl }) (record { first = 38; others = codes "#13;"; whole = refl }) (λ byte a l g r. record { first = byte; others = []; whole = refl })

pub run_some : (text : List ℕ) → IsRun text → IsSome (text_spelling text)
run_some text run =
    let one = some_in_text run.first in
    record {
      first = one.first;
      others = one.others ++ text_spelling run.others;
      whole = ap text_spelling run.some ∙ ap (λ (bytes : List ℕ). bytes ++ text_spelling run.others) one.whole;
    }

pub run_spelt : (text : List ℕ) → IsRun text → SpellsRun (text_spelling text) text
run_spelt text run =
    let some = run_some text run in
    record {
      first = some.first;
      others = some.others;
      whole = some.whole;
      characters = spelling_is_text text ∙ run.characters;
      no_tag = text_lacks_less text;
      references = text_references text;
      no_end = text_holds_no_end text;
      value = text_reads_back text;
    }
