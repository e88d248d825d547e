-- Where no rule applies to one piece, and what stays of the limits.
use Rattle.std.proofs.Common.{◌≡◌, ℕ, ◌+◌, List, [], ◌∷◌, Bool, true, false, ◌&&◌, ◌||◌, not, nat_le, Option, None, Some, is_none, if◌then◌else◌, refl, ◌∙◌, arith}
use Rattle.std.proofs.lemmas.Bool.Decides.{nat_tests}
use Rattle.nm_reader.specs.Context.{Context, after, left, tag_at}
use Rattle.nm_reader.specs.Document.{is_read_encoding}
use Rattle.nm_model.specs.Limits.{most_changes, most_dependencies, most_profiles, most_statements, most_superseded}
use Rattle.nm_reader.specs.Limits.{is_within_limits, plus}
use Rattle.nm_reader.specs.declared.counts.Counts.{Counts}
use Rattle.nm_piece.specs.declared.piece.Attribute.{Attribute}
use Rattle.nm_piece.specs.declared.piece.Piece.{Piece}
use Rattle.nm_piece.specs.declared.piece.QName.{QName}
use Rattle.nm_piece.specs.declared.piece.Piece.TheVariants.{Start, Doctype, Open, Close, Text, Skip}
use Rattle.nm_reader.specs.Cutting.{Spelt}
use Rattle.nm_reader.specs.Rules.{closes, code_at, is_misplaced_text, passes_literal}
use Rattle.nm_reader.specs.Tag.{counted_by_tag, inside_of_tag, is_taken}
use Rattle.nm_reader.specs.Texts.{may_end, takes_text}
use Rattle.nm_reader.specs.declared.fault.Code.{Code}
use Rattle.nm_reader.specs.declared.fault.Code.TheVariants as code
use Rattle.nm_reader.proofs.Tags.{fine_tag}
use Rattle.nm_reader.specs.declared.place.Place.{Place}
use Rattle.nm_reader.specs.declared.place.Place.TheVariants.{BeforeRoot, InRoot, InHeader, InBody, InRest, InSection, InObject, InLiteral, InLink, InSkipped, AfterRoot}

-- ---- texts and closing tags

one_rule : (b : Bool) (c : Code) → is_none (if b then Some c else None) ≡ not b
one_rule true c = refl
one_rule false c = refl

two_rules : (a b : Bool) (c d : Code) → is_none (if not a then Some c else if not b then Some d else None) ≡ (a && b)
two_rules false b c d = refl
two_rules true false c d = refl
two_rules true true c d = refl

not_not : (b : Bool) → not (not b) ≡ b
not_not true = refl
not_not false = refl

text_rules : (place : Place) (text : List ℕ) → is_none (if passes_literal place text then Some code.Limit else if is_misplaced_text place text then Some code.Text else None) ≡ takes_text place text
text_rules (InLiteral owner before) text = one_rule _ _ ∙ not_not _
text_rules InSkipped text = refl
text_rules BeforeRoot text = one_rule _ _ ∙ not_not _
text_rules InRoot text = one_rule _ _ ∙ not_not _
text_rules (InHeader kind) text = one_rule _ _ ∙ not_not _
text_rules InBody text = one_rule _ _ ∙ not_not _
text_rules InRest text = one_rule _ _ ∙ not_not _
text_rules (InSection part) text = one_rule _ _ ∙ not_not _
text_rules (InObject part subject) text = one_rule _ _ ∙ not_not _
text_rules InLink text = one_rule _ _ ∙ not_not _
text_rules AfterRoot text = one_rule _ _ ∙ not_not _

pub fine_text : (context : Context) (text : List ℕ) → is_none (code_at context (Spelt (Text text))) ≡ takes_text context.place text
unfolding code_at
fine_text context text = text_rules context.place text

pub fine_close : (context : Context) (name : QName) → is_none (code_at context (Spelt (Close name))) ≡ (closes name context.elements && may_end context.place)
unfolding code_at
fine_close context name = two_rules (closes name context.elements) (may_end context.place) _ _

pub fine_skip : (context : Context) → is_none (code_at context (Spelt Skip)) ≡ true
unfolding code_at
fine_skip context = refl

pub fine_doctype : (context : Context) → is_none (code_at context (Spelt Doctype)) ≡ false
unfolding code_at
fine_doctype context = refl

start_rules : (begun read : Bool) (c d : Code) → is_none (if begun then Some c else if not read then Some d else None) ≡ (not begun && read)
start_rules true read c d = refl
start_rules false true c d = refl
start_rules false false c d = refl

pub fine_start : (context : Context) (encoding : Option (List ℕ)) → is_none (code_at context (Spelt (Start encoding))) ≡ (not context.begun && is_read_encoding encoding)
unfolding code_at
fine_start context encoding = start_rules context.begun (is_read_encoding encoding) _ _

-- ---- the limits: no tag passes one along the way where none is passed at the end

at_most : (x y most : ℕ) → nat_le (x + y) most ≡ true → nat_le x most ≡ true
at_most x y most within = grind (arith, nat_tests)

all_five : (a b c d e a' b' c' d' e' : Bool) → (a ≡ true → a' ≡ true) → (b ≡ true → b' ≡ true) → (c ≡ true → c' ≡ true) → (d ≡ true → d' ≡ true) → (e ≡ true → e' ≡ true)
    → (a && b && c && d && e) ≡ true → (a' && b' && c' && d' && e') ≡ true
all_five a b c d e a' b' c' d' e' first second third fourth fifth all = grind arith

pub within_front : (x y : Counts) → is_within_limits (plus x y) ≡ true → is_within_limits x ≡ true
within_front x y within =
    all_five _ _ _ _ _ _ _ _ _ _ (at_most x.statements y.statements most_statements) (at_most x.changes y.changes most_changes)
    (at_most x.profiles y.profiles most_profiles) (at_most x.dependencies y.dependencies most_dependencies)
    (at_most x.superseded y.superseded most_superseded) within

-- ---- pieces in a row

-- whether no rule applies to any of the pieces
abbrev pub fine : Context → List Piece → Bool
fine context [] = true
fine context (piece ∷ pieces) = is_none (code_at context (Spelt piece)) && fine (after context piece) pieces

-- .. and no limit was passed before
abbrev pub fine_within : Context → List Piece → Bool
fine_within context pieces = is_within_limits context.counted && fine context pieces

pub step_skip : (context : Context) (pieces : List Piece) → fine_within context (Skip ∷ pieces) ≡ fine_within (after context Skip) pieces
step_skip context pieces = rw (fine_skip context) refl

swap : (a b c : Bool) → (a && (b && c)) ≡ (b && (a && c))
swap true b c = refl
swap false true c = refl
swap false false c = refl

pub step_text : (context : Context) (text : List ℕ) (pieces : List Piece) → fine_within context (Text text ∷ pieces) ≡ (takes_text context.place text && fine_within (after context (Text text)) pieces)
step_text context text pieces = rw (fine_text context text) (swap (is_within_limits context.counted) (takes_text context.place text) (fine (after context (Text text)) pieces))

regroup_tag : (within taken ends still others : Bool) → (still ≡ true → within ≡ true) → (within && (taken && ends && still && others)) ≡ (taken && ends && (still && others))
regroup_tag true true true still others kept = refl
regroup_tag true true false still others kept = refl
regroup_tag true false ends still others kept = refl
regroup_tag false true true true others kept = absurd (grind arith)
regroup_tag false true true false others kept = refl
regroup_tag false true false still others kept = refl
regroup_tag false false ends still others kept = refl

pub step_tag : (context : Context) (name : QName) (attributes : List Attribute) (empty : Bool) (pieces : List Piece)
    → (after context (Open name attributes empty)).counted ≡ plus context.counted (counted_by_tag (tag_at context name attributes))
    → fine_within context (Open name attributes empty ∷ pieces)
    ≡ (is_taken (tag_at context name attributes) && (not empty || may_end (inside_of_tag (tag_at context name attributes)))
    && fine_within (after context (Open name attributes empty)) pieces)
step_tag context name attributes empty pieces same =
    rw (fine_tag context name attributes empty, same)
    (regroup_tag (is_within_limits context.counted) (is_taken (tag_at context name attributes)) (not empty || may_end (inside_of_tag (tag_at context name attributes)))
    (is_within_limits (plus context.counted (counted_by_tag (tag_at context name attributes)))) (fine (after context (Open name attributes empty)) pieces)
    (within_front context.counted (counted_by_tag (tag_at context name attributes))))

pub step_close : (context : Context) (name : QName) (pieces : List Piece)
    → (left context).counted ≡ context.counted
    → fine_within context (Close name ∷ pieces) ≡ (closes name context.elements && may_end context.place && fine_within (left context) pieces)
step_close context name pieces same = rw (fine_close context name, same)
    (swap (is_within_limits context.counted) (closes name context.elements && may_end context.place) (fine (after context (Close name)) pieces))
