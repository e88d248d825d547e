-- Pieces to which no rule applies are the pieces of blocks.
use Rattle.std.proofs.Common.{◌≡◌, ℕ, List, [], ◌∷◌, ◌++◌, true, false, not, Option, is_none, refl, sym, ap, subst, ◌∙◌, append_assoc, arith}
use Rattle.nm_reader.specs.Blocks.{Blocks, End, Skip, Text, Empty, Element, pieces_of}
use Rattle.nm_reader.specs.Context.{Context, after, after_all, left, left_behind}
use Rattle.nm_reader.specs.Opened.{Opened}
use Rattle.nm_piece.specs.declared.piece.Attribute.{Attribute}
use Rattle.nm_piece.specs.declared.piece.Piece.{Piece}
use Rattle.nm_piece.specs.declared.piece.QName.{QName}
use Rattle.nm_piece.specs.declared.piece.Piece.TheVariants as piece
use Rattle.nm_reader.specs.Cutting.{Spelt}
use Rattle.nm_reader.specs.Document.{is_read_encoding}
use Rattle.nm_reader.specs.Texts.{may_end}
use Rattle.nm_reader.specs.Rules.{closes, code_at}
use Rattle.nm_reader.proofs.Pieces.{fine, fine_close, fine_doctype, fine_start}
use Rattle.nm_reader.proofs.Spellings.{and_left, and_right, spellings_equal}

-- pieces in which the open elements are closed, innermost first, with blocks before each closing tag
-- and behind the last
abbrev pub Splits : List Opened → List Piece → Type 0
Splits [] pieces = (blocks : Blocks) × (pieces ≡ pieces_of blocks)
Splits (opened ∷ elements) pieces =
    (blocks : Blocks) × (others : List Piece) × (pieces ≡ pieces_of blocks ++ (piece.Close opened.name ∷ others))
    × Splits elements others

-- one more block stands before the others
with_front : (elements : List Opened) (pieces front : List Piece) (block : Blocks → Blocks)
    → ((behind : Blocks) → pieces_of (block behind) ≡ front ++ pieces_of behind) → Splits elements pieces → Splits elements (front ++ pieces)
with_front [] pieces front block spelt (behind, same) = (block behind, ap (λ others. front ++ others) same ∙ sym (spelt behind))
with_front (opened ∷ elements) pieces front block spelt (behind, others, same, split) = (
  block behind,
  others,
  ap (λ others. front ++ others) same ∙ sym (append_assoc front (pieces_of behind) (piece.Close opened.name ∷ others)) ∙ ap (λ before. before ++ (piece.Close opened.name ∷ others)) (sym (spelt behind)),
  split,
)

with_element : (elements : List Opened) (name : QName) (attributes : List Attribute) (pieces : List Piece) (inside : Blocks) (others : List Piece)
    → pieces ≡ pieces_of inside ++ (piece.Close name ∷ others) → Splits elements others → Splits elements (piece.Open name attributes false ∷ pieces)
with_element elements name attributes pieces inside others same split =
    let front : List Piece = piece.Open name attributes false ∷ (pieces_of inside ++ (piece.Close name ∷ [])) in
    let whole : front ++ others ≡ piece.Open name attributes false ∷ pieces = ap (λ p. piece.Open name attributes false ∷ p) (append_assoc (pieces_of inside) (piece.Close name ∷ []) others ∙ sym same) in
    let P : List Piece → Type 0 = λ p. Splits elements p in
    subst P whole (with_front elements others front (λ behind. Element name attributes inside behind)
    (λ behind. ap (λ p. piece.Open name attributes false ∷ p) (sym (append_assoc (pieces_of inside) (piece.Close name ∷ []) (pieces_of behind)))) split)

left_begun : (elements : List Opened) (context : Context) → (left_behind elements context).begun ≡ true
left_begun [] context = refl
left_begun (opened ∷ elements) context = refl

-- a closing tag ends the blocks of the innermost element
with_close : (elements : List Opened) (context : Context) (name : QName) (pieces : List Piece) → closes name elements ≡ true
    → Splits (left_behind elements context).elements pieces → Splits elements (piece.Close name ∷ pieces)
with_close [] context name pieces closed split = absurd (grind arith)
with_close (opened ∷ elements) context name pieces closed split =
    (End, pieces, ap (λ n. piece.Close n ∷ pieces) (sym (spellings_equal opened.name name closed)), split)

-- where a piece stands before, there is no XML declaration, and nowhere a document type
late_start : (context : Context) (encoding : Option (List ℕ)) {X : Type 0} → context.begun ≡ true → is_none (code_at context (Spelt (piece.Start encoding))) ≡ true → X
late_start context encoding begun holds =
    let begins : not context.begun ≡ true = and_left (not context.begun) (is_read_encoding encoding) (sym (fine_start context encoding) ∙ holds) in
    absurd (grind arith)

a_doctype : (context : Context) {X : Type 0} → is_none (code_at context (Spelt piece.Doctype)) ≡ true → X
a_doctype context holds =
    let never : false ≡ true = sym (fine_doctype context) ∙ holds in
    absurd (grind arith)

closed_alike : (context : Context) (name : QName) → is_none (code_at context (Spelt (piece.Close name))) ≡ true → closes name context.elements ≡ true
closed_alike context name holds = and_left (closes name context.elements) (may_end context.place) (sym (fine_close context name) ∙ holds)

nothing_open : (elements : List Opened) → elements ≡ [] → Splits elements []
nothing_open elements none =
    let P : List Opened → Type 0 = λ elements. Splits elements [] in
    subst P (sym none) (End, refl)

-- pieces to which no rule applies, behind the first piece
pub split : (pieces : List Piece) (context : Context) → context.begun ≡ true → fine context pieces ≡ true
    → (after_all context pieces).elements ≡ [] → Splits context.elements pieces
split [] context begun holds none = nothing_open context.elements none
split (piece.Skip ∷ pieces) context begun holds none =
    with_front context.elements pieces (piece.Skip ∷ []) Skip (λ behind. refl)
    (split pieces (after context piece.Skip) refl (and_right _ _ holds) none)
split (piece.Text text ∷ pieces) context begun holds none =
    with_front context.elements pieces (piece.Text text ∷ []) (Text text) (λ behind. refl)
    (split pieces (after context (piece.Text text)) refl (and_right _ _ holds) none)
split (piece.Open name attributes true ∷ pieces) context begun holds none =
    with_front context.elements pieces (piece.Open name attributes true ∷ []) (Empty name attributes) (λ behind. refl)
    (split pieces (after context (piece.Open name attributes true)) refl (and_right _ _ holds) none)
split (piece.Open name attributes false ∷ pieces) context begun holds none =
    let inner : Splits (after context (piece.Open name attributes false)).elements pieces =
    split pieces (after context (piece.Open name attributes false)) refl (and_right _ _ holds) none in
    with_element context.elements name attributes pieces inner.0 inner.1 inner.2 inner.3
split (piece.Close name ∷ pieces) context begun holds none =
    with_close context.elements context name pieces (closed_alike context name (and_left _ _ holds))
    (split pieces (left context) (left_begun context.elements context) (and_right _ _ holds) none)
split (piece.Start encoding ∷ pieces) context begun holds none = late_start context encoding begun (and_left _ _ holds)
split (piece.Doctype ∷ pieces) context begun holds none = a_doctype context (and_left _ _ holds)
