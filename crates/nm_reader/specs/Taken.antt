-- What the reader's code does with one piece, in the words of the definitions.
use Rattle.std.specs.Prelude.{◌≡◌, ℕ, List, ◌∷◌, ◌++◌, Bool, true, if◌then◌else◌, Option, None, Some, is_some}
use Rattle.std.specs.List.{list_all}
use Rattle.nm_ident.specs.Name.{is_name}
use Rattle.nm_piece.specs.declared.piece.Piece.{Piece}
use Rattle.nm_piece.specs.declared.piece.Piece.TheVariants.{Open, Text}
use Rattle.nm_statement.specs.Literal.{is_literal}
use Rattle.nm_text.specs.Characters.{is_text}
use Rattle.nm_reader.specs.Context.{Context, after}
use Rattle.nm_reader.specs.Cutting.{Spelt}
use Rattle.nm_reader.specs.Rules.{code_at}
use Rattle.nm_reader.specs.declared.fault.Code.{Code}
use Rattle.nm_reader.specs.declared.fault.Code.TheVariants as code
use Rattle.nm_reader.specs.Opened.{Opened}
use Rattle.nm_reader.specs.declared.place.Place.{Place}
use Rattle.nm_reader.specs.declared.place.Place.TheVariants.{InLiteral}
use Rattle.nm_reader.specs.declared.refusal.Refusal.{Refusal}
use Rattle.nm_reader.specs.declared.refusal.Refusal.TheVariants as refusal
use Rattle.nm_reader.specs.Limits.{is_within_limits, plus}
use Rattle.nm_reader.specs.Meaning.{are_allowed, has_short_iris, listed, told_by}
use Rattle.nm_reader.specs.Place.{place_behind}
use Rattle.nm_piece.specs.declared.piece.QName.{QName}
use Rattle.nm_reader.specs.Opened.{Declaration}
use Rattle.nm_reader.specs.Namespaces.{are_spelt_once, has_declared_prefixes, has_namespace}
use Rattle.nm_reader.specs.Rules.{is_misplaced_text, passes_literal, role_judged}
use Rattle.nm_reader.specs.Shape.{limit_code, or_code, shape_code, value_code}
use Rattle.nm_reader.specs.Tag.{Tag, counted_by_tag, element_of, given_of, meaning_of_tag, role_of_tag, scope_of}
use Rattle.nm_reader.specs.declared.counts.Counts.{Counts}
use Rattle.nm_reader.specs.declared.judging.Judged.{Judged}

-- what a piece that is spelt holds: names of elements, and texts of XML
abbrev pub is_sound_piece : Piece → Bool
is_sound_piece (Open name attributes empty) = is_name name.local
is_sound_piece (Text text) = is_text text
is_sound_piece _ = true

-- a literal so far is one that can be kept
abbrev pub is_sound_place : Place → Bool
is_sound_place (InLiteral owner text) = is_literal text
is_sound_place _ = true

abbrev pub is_sound_behind : Opened → Bool
is_sound_behind opened = is_sound_place opened.behind

-- .. and so are those around the open elements
abbrev pub are_sound_behind : List Opened → Bool
are_sound_behind elements = list_all is_sound_behind elements

-- no rule applied to the piece, and this is the context behind it
abbrev pub IsBehind : Context → Piece → Context → Type 0
IsBehind before piece now = (code_at before (Spelt piece) ≡ None) × (now ≡ after before piece)

-- the first rule that applied gives the code; want of memory says nothing
abbrev pub IsRefusal : Refusal → Context → Piece → Type 0
IsRefusal (refusal.Rule code) before piece = code_at before (Spelt piece) ≡ Some code
IsRefusal refusal.NoMemory before piece = Unit {0}

-- the code of the first rule on tags that applies
unfoldable pub tag_code : Tag → Bool → Counts → Option Code
tag_code tag empty counted =
    or_code (shape_code (role_judged tag empty) (are_spelt_once tag.attributes) (has_declared_prefixes (scope_of tag) tag.name tag.attributes) (has_namespace (element_of tag)) (are_allowed (role_judged tag empty) (given_of tag)))
    (or_code (value_code (role_judged tag empty) (is_some (meaning_of_tag tag)))
    (limit_code (is_within_limits (plus counted (counted_by_tag tag))) (has_short_iris (told_by (meaning_of_tag tag)))))

-- a tag to which no rule applies, with its role and its meaning
pub record IsJudged (tag : Tag) (empty : Bool) (counted : Counts) (judged : Judged) : Type 0 where
  pub fine : tag_code tag empty counted ≡ None
  pub role : role_of_tag tag ≡ judged.role
  pub meaning : meaning_of_tag tag ≡ Some judged.meaning
  pub sum : judged.counted ≡ plus counted (counted_by_tag tag)
  pub within : is_within_limits judged.counted ≡ true

-- the rule that a tag breaks; want of memory says nothing
abbrev pub IsTagRefusal : Refusal → Tag → Bool → Counts → Type 0
IsTagRefusal (refusal.Rule code) tag empty counted = tag_code tag empty counted ≡ Some code
IsTagRefusal refusal.NoMemory tag empty counted = Unit {0}

-- the context inside an element that was judged
abbrev pub entered_by : Context → QName → List Declaration → Judged → Context
entered_by context name declared judged = record {
  elements = record { name = name; behind = place_behind judged.role context.place; declared = declared } ∷ context.elements;
  place = judged.meaning.inside;
  told = context.told ++ listed judged.meaning.tells;
  counted = judged.counted;
  begun = true;
}

-- the code of a text in its place
abbrev pub text_code : Place → List ℕ → Option Code
text_code place text =
    if passes_literal place text then Some code.Limit else if is_misplaced_text place text then Some code.Text else None

-- the rule that a text breaks; want of memory says nothing
abbrev pub IsTextRefusal : Refusal → Place → List ℕ → Type 0
IsTextRefusal (refusal.Rule code) place text = text_code place text ≡ Some code
IsTextRefusal refusal.NoMemory place text = Unit {0}
