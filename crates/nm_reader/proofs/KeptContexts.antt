-- What pieces to which no rule applies tell can be kept.
use Rattle.std.proofs.Common.{◌≡◌, ℕ, List, [], ◌∷◌, ◌++◌, length, Bool, true, false, ◌&&◌, ◌||◌, not, nat_le, is_none, is_some, refl, sym, ◌∙◌, arith}
use Rattle.std.proofs.lemmas.List.Folds.{list_all-append}
use Rattle.std.specs.List.{list_all}
use Rattle.nm_ident.specs.Ident.{is_sound_ident}
use Rattle.nm_ident.specs.Name.{is_name, is_predicate}
use Rattle.nm_piece.specs.declared.piece.Attribute.{Attribute}
use Rattle.nm_piece.specs.declared.piece.Piece.{Piece}
use Rattle.nm_piece.specs.declared.piece.Piece.TheVariants.{Start, Doctype, Open, Close, Text, Skip}
use Rattle.nm_piece.specs.declared.piece.QName.{QName}
use Rattle.nm_statement.specs.Limits.{longest_literal}
use Rattle.nm_statement.specs.Literal.{is_literal}
use Rattle.nm_text.specs.Characters.{is_text}
use Rattle.nm_reader.specs.Context.{Context, after, after_all, after_tag, beginning, entered, left_behind, tag_at}
use Rattle.nm_reader.specs.Cutting.{Spelt}
use Rattle.nm_reader.specs.Limits.{is_within_limits, plus}
use Rattle.nm_reader.specs.Meaning.{are_allowed, has_short_iris, told_at_end, told_by}
use Rattle.nm_reader.specs.Namespaces.{are_spelt_once, has_declared_prefixes, has_namespace}
use Rattle.nm_reader.specs.Rules.{code_at}
use Rattle.nm_reader.specs.Tag.{Tag, behind_tag, counted_by_tag, element_of, given_of, inside_of_tag, is_taken, meaning_of_tag, role_of_tag, scope_of, told_by_tag}
use Rattle.nm_reader.specs.Texts.{may_end, takes_text, with_text}
use Rattle.nm_reader.specs.Opened.{Opened}
use Rattle.nm_reader.specs.declared.place.Owner.TheVariants.{OfModel, OfSubject}
use Rattle.nm_reader.specs.declared.place.Place.{Place}
use Rattle.nm_reader.specs.declared.place.Place.TheVariants.{BeforeRoot, InRoot, InHeader, InBody, InRest, InSection, InObject, InLiteral, InLink, InSkipped, AfterRoot}
use Rattle.nm_reader.proofs.Joined.{is_text-append}
use Rattle.nm_reader.proofs.Judged.{statable}
use Rattle.nm_reader.proofs.KeptTags.{IsKept, behind_kept, given_texts, has_text, is_kept_place, is_sound_fact, is_sound_owner, meaning_kept}
use Rattle.nm_reader.proofs.Pieces.{fine, fine_text}
use Rattle.nm_reader.proofs.Spellings.{and_left, and_right}
use Rattle.nm_reader.proofs.Tags.{fine_tag}

-- what a piece that is spelt holds
abbrev pub is_kept_piece : Piece → Bool
is_kept_piece (Open name attributes empty) = is_name name.local && list_all has_text attributes
is_kept_piece (Text text) = is_text text
is_kept_piece _ = true

abbrev is_kept_behind : Opened → Bool
is_kept_behind opened = is_kept_place opened.behind

pub record IsKeptContext (context : Context) : Type 0 where
  pub told : list_all is_sound_fact context.told ≡ true
  pub place : is_kept_place context.place ≡ true
  pub behind : list_all is_kept_behind context.elements ≡ true
  pub within : is_within_limits context.counted ≡ true

both : (a b : Bool) → a ≡ true → b ≡ true → (a && b) ≡ true
both a b first second = rw (first, second) refl

-- ---- texts

text_kept : (place : Place) (text : List ℕ) → is_kept_place place ≡ true → is_text text ≡ true → takes_text place text ≡ true → is_kept_place (with_text place text) ≡ true
text_kept (InLiteral owner before) text kept is takes =
    let literal : is_literal before ≡ true = and_left (is_literal before) (is_sound_owner owner) kept in
    let joined : is_text (before ++ text) ≡ true = is_text-append before text (and_left (is_text before) (nat_le (length before) longest_literal) literal) is in
    both (is_literal (before ++ text)) (is_sound_owner owner) (both (is_text (before ++ text)) (nat_le (length (before ++ text)) longest_literal) joined takes) (and_right (is_literal before) (is_sound_owner owner) kept)
text_kept BeforeRoot text kept is takes = refl
text_kept InRoot text kept is takes = refl
text_kept (InHeader kind) text kept is takes = refl
text_kept InBody text kept is takes = refl
text_kept InRest text kept is takes = refl
text_kept (InSection part) text kept is takes = refl
text_kept (InObject part subject) text kept is takes = kept
text_kept InLink text kept is takes = refl
text_kept InSkipped text kept is takes = refl
text_kept AfterRoot text kept is takes = refl

-- ---- ends

ended_kept : (place : Place) → is_kept_place place ≡ true → list_all is_sound_fact (told_at_end place) ≡ true
ended_kept (InLiteral (OfModel property) text) kept = rw (and_left (is_literal text) true kept) refl
ended_kept (InLiteral (OfSubject part subject predicate) text) kept =
    let owner = and_right (is_literal text) (is_sound_ident subject && is_predicate predicate) kept in
    rw (and_left (is_sound_ident subject) (is_predicate predicate) owner, and_right (is_sound_ident subject) (is_predicate predicate) owner, and_left (is_literal text) (is_sound_ident subject && is_predicate predicate) kept) refl
ended_kept _ kept = refl

left_kept : (elements : List Opened) (context : Context) → list_all is_kept_behind elements ≡ true → IsKeptContext context → IsKeptContext (left_behind elements context)
left_kept [] context behind kept = record { told = kept.told; place = kept.place; behind = kept.behind; within = kept.within }
left_kept (opened ∷ elements) context behind kept = record {
  told = list_all-append is_sound_fact context.told (told_at_end context.place) ∙ both _ _ kept.told (ended_kept context.place kept.place);
  place = and_left (is_kept_place opened.behind) (list_all is_kept_behind elements) behind;
  behind = and_right (is_kept_place opened.behind) (list_all is_kept_behind elements) behind;
  within = kept.within;
}

-- ---- tags

-- of six tests the third and the last
third_and_last : (a b c d e f : Bool) → (a && b && c && d && e && f) ≡ true → (c ≡ true) × (f ≡ true)
third_and_last a b c d e f all = (grind arith, grind arith)

taken_tests : (tag : Tag) → is_taken tag ≡ true → (has_namespace (element_of tag) ≡ true) × (has_short_iris (told_by (meaning_of_tag tag)) ≡ true)
unfolding is_taken
taken_tests tag taken = third_and_last (are_spelt_once tag.attributes) (has_declared_prefixes (scope_of tag) tag.name tag.attributes) (has_namespace (element_of tag)) (are_allowed (role_of_tag tag) (given_of tag)) (is_some (meaning_of_tag tag)) (has_short_iris (told_by (meaning_of_tag tag))) taken

tag_kept : (context : Context) (name : QName) (attributes : List Attribute) → IsKeptContext context → is_name name.local ≡ true → list_all has_text attributes ≡ true → is_taken (tag_at context name attributes) ≡ true
    → IsKept (meaning_of_tag (tag_at context name attributes))
tag_kept context name attributes kept named texts taken =
    let tag : Tag = tag_at context name attributes in
    let tests = taken_tests tag taken in
    meaning_kept context.place (role_of_tag tag) (element_of tag) (given_of tag) kept.place tests.0 named (statable context.place (element_of tag) tests.0 named) (given_texts (scope_of tag) attributes texts) tests.1

entered_kept : (context : Context) (name : QName) (attributes : List Attribute) → IsKeptContext context → is_name name.local ≡ true → list_all has_text attributes ≡ true → is_taken (tag_at context name attributes) ≡ true
    → is_within_limits (plus context.counted (counted_by_tag (tag_at context name attributes))) ≡ true → IsKeptContext (entered context (tag_at context name attributes))
unfolding behind_tag inside_of_tag told_by_tag
entered_kept context name attributes kept named texts taken within =
    let tag : Tag = tag_at context name attributes in
    let meaning : IsKept (meaning_of_tag tag) = tag_kept context name attributes kept named texts taken in
    record {
      told = list_all-append is_sound_fact context.told (told_by (meaning_of_tag tag)) ∙ both _ _ kept.told meaning.told;
      place = meaning.inside;
      behind = both _ _ (behind_kept (role_of_tag tag) context.place kept.place) kept.behind;
      within = within;
    }

open_kept : (context : Context) (name : QName) (attributes : List Attribute) (empty : Bool) → IsKeptContext (entered context (tag_at context name attributes)) → IsKeptContext (after_tag context (tag_at context name attributes) empty)
open_kept context name attributes true kept = left_kept (entered context (tag_at context name attributes)).elements (entered context (tag_at context name attributes)) kept.behind kept
open_kept context name attributes false kept = kept

-- ---- pieces

pub after_kept : (context : Context) (piece : Piece) → IsKeptContext context → is_kept_piece piece ≡ true → is_none (code_at context (Spelt piece)) ≡ true → IsKeptContext (after context piece)
after_kept context (Start encoding) kept sound none = record { told = kept.told; place = kept.place; behind = kept.behind; within = kept.within }
after_kept context Doctype kept sound none = record { told = kept.told; place = kept.place; behind = kept.behind; within = kept.within }
after_kept context Skip kept sound none = record { told = kept.told; place = kept.place; behind = kept.behind; within = kept.within }
after_kept context (Close name) kept sound none = left_kept context.elements context kept.behind kept
after_kept context (Text text) kept sound none =
    record { told = kept.told; place = text_kept context.place text kept.place sound (sym (fine_text context text) ∙ none); behind = kept.behind; within = kept.within }
after_kept context (Open name attributes empty) kept sound none =
    let tag : Tag = tag_at context name attributes in
    let ends : Bool = not empty || may_end (inside_of_tag tag) in
    let still : Bool = is_within_limits (plus context.counted (counted_by_tag tag)) in
    let all : ((is_taken tag && ends) && still) ≡ true = sym (fine_tag context name attributes empty) ∙ none in
    open_kept context name attributes empty
    (entered_kept context name attributes kept (and_left (is_name name.local) (list_all has_text attributes) sound) (and_right (is_name name.local) (list_all has_text attributes) sound)
    (and_left (is_taken tag) ends (and_left (is_taken tag && ends) still all)) (and_right (is_taken tag && ends) still all))

pub all_kept : (pieces : List Piece) (context : Context) → IsKeptContext context → list_all is_kept_piece pieces ≡ true → fine context pieces ≡ true → IsKeptContext (after_all context pieces)
all_kept [] context kept sound fine_all = kept
all_kept (piece ∷ pieces) context kept sound fine_all =
    all_kept pieces (after context piece)
    (after_kept context piece kept (and_left (is_kept_piece piece) (list_all is_kept_piece pieces) sound) (and_left (is_none (code_at context (Spelt piece))) (fine (after context piece) pieces) fine_all))
    (and_right (is_kept_piece piece) (list_all is_kept_piece pieces) sound) (and_right (is_none (code_at context (Spelt piece))) (fine (after context piece) pieces) fine_all)

pub beginning_kept : IsKeptContext beginning
beginning_kept = record { told = refl; place = refl; behind = refl; within = refl }
