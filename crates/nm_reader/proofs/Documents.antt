-- An input states a model exactly where it has no fault, and then one model alone.
use Rattle.std.proofs.Common.{◌≡◌, ℕ, List, [], ◌∷◌, ◌++◌, map, Bool, true, false, ◌&&◌, not, Option, None, Some, is_none, if◌then◌else◌, refl, sym, ap, ◌∙◌, arith}
use Rattle.std.proofs.lemmas.List.{append-nil}
use Rattle.nm_model.specs.declared.document.Document.{Document}
use Rattle.nm_reader.specs.Blocks.{Blocks, fits, counted, pieces_of, place_after, told}
use Rattle.nm_reader.specs.Context.{Context, after, after_all, beginning, is_empty, is_whole}
use Rattle.nm_reader.specs.Opened.{Opened}
use Rattle.nm_piece.specs.Cutting.{Placed}
use Rattle.nm_reader.specs.Cutting.{Cutting, Rest, Spelt, Left, Ended, Unfinished, NoPiece, More, piece_placed, pieces_cut}
use Rattle.nm_reader.specs.Document.{IsDocument, States, is_read_encoding, is_read_prolog, prolog}
use Rattle.nm_reader.specs.Fault.{fault_from, fault_of, fault_or}
use Rattle.nm_reader.specs.Laws.{PiecesStateOneModel, FaultlessPiecesAreDocuments}
use Rattle.nm_reader.specs.Limits.{is_within_limits}
use Rattle.nm_reader.specs.Model.{document_of, model_of}
use Rattle.nm_piece.specs.declared.piece.Piece.{Piece}
use Rattle.nm_piece.specs.declared.piece.Piece.TheVariants as piece
use Rattle.nm_reader.specs.Rules.{code_at}
use Rattle.nm_reader.specs.Texts.{is_after_root}
use Rattle.nm_reader.specs.declared.fault.Code.{Code}
use Rattle.nm_reader.specs.declared.fault.Fault.{Fault}
use Rattle.nm_reader.proofs.Headed.{IsHeaded, headed}
use Rattle.nm_reader.proofs.Join.{after_blocks, after_pieces, fine_pieces, nothing_plus}
use Rattle.nm_reader.proofs.Pieces.{fine, fine_start}
use Rattle.nm_reader.proofs.Spellings.{and_left, and_right}
use Rattle.nm_reader.proofs.Split.{Splits, split}
use Rattle.nm_reader.specs.declared.fact.Fact.{Fact}
use Rattle.nm_reader.specs.declared.place.Place.TheVariants.{BeforeRoot}

-- ---- no fault: no rule applies to a piece, nor to what stands behind the pieces

none_or : (at : ℕ) (here : Option Code) (later : Option Fault) → is_none (fault_or at here later) ≡ (is_none here && is_none later)
none_or at None later = refl
none_or at (Some code) later = refl

none_alone : (at : ℕ) (here : Option Code) → is_none (fault_or at here None) ≡ is_none here
none_alone at None = refl
none_alone at (Some code) = refl

and_group : (a b c : Bool) → (a && (b && c)) ≡ (a && b && c)
and_group true b c = refl
and_group false b c = refl

pub faultless : (pieces : List Placed) (context : Context) (end : ℕ) (rest : Rest)
    → is_none (fault_from context pieces end rest) ≡ (fine context (map piece_placed pieces) && is_none (code_at (after_all context (map piece_placed pieces)) (Left rest)))
faultless [] context end rest = none_alone end (code_at context (Left rest))
faultless (placed ∷ others) context end rest =
    none_or placed.offset (code_at context (Spelt placed.piece)) (fault_from (after context placed.piece) others end rest)
    ∙ ap (λ b. is_none (code_at context (Spelt placed.piece)) && b) (faultless others (after context placed.piece) end rest)
    ∙ and_group (is_none (code_at context (Spelt placed.piece))) (fine (after context placed.piece) (map piece_placed others)) (is_none (code_at (after_all (after context placed.piece) (map piece_placed others)) (Left rest)))

no_code : (b : Bool) (code : Code) → is_none (if not b then Some code else None) ≡ b
no_code true code = refl
no_code false code = refl

fine_end : (context : Context) → is_none (code_at context (Left Ended)) ≡ is_whole context
unfolding code_at
fine_end context = no_code (is_whole context) _

fine_cut : (context : Context) → is_none (code_at context (Left Unfinished)) ≡ false
unfolding code_at
fine_cut context = refl

fine_more : (context : Context) → is_none (code_at context (Left More)) ≡ false
unfolding code_at
fine_more context = refl

fine_nothing : (context : Context) → is_none (code_at context (Left NoPiece)) ≡ false
unfolding code_at
fine_nothing context = refl

-- ---- the pieces of a document are an XML declaration and blocks

begun_with : Bool → Context
begun_with begun = record beginning { begun = begun }

none_open : (elements : List Opened) → is_empty elements ≡ true → elements ≡ []
none_open [] empty = refl
none_open (opened ∷ elements) empty = absurd (grind arith)

-- an XML declaration and blocks, or blocks alone
pub record Spelling (pieces : List Piece) : Type 0 where
  pub declaration : Option (Option (List ℕ))
  pub blocks : Blocks
  pub spelt : pieces ≡ prolog declaration ++ pieces_of blocks
  pub encoding : is_read_prolog declaration ≡ true

without_declaration : (pieces : List Piece) → Splits [] pieces → Spelling pieces
without_declaration pieces (blocks, same) = record { declaration = None; blocks = blocks; spelt = same; encoding = refl }

with_declaration : (encoding : Option (List ℕ)) (pieces : List Piece) → is_read_encoding encoding ≡ true → Splits [] pieces → Spelling (piece.Start encoding ∷ pieces)
with_declaration encoding pieces read (blocks, same) =
    record { declaration = Some encoding; blocks = blocks; spelt = ap (λ p. piece.Start encoding ∷ p) same; encoding = read }

-- whether a piece has been read changes nothing but for an XML declaration
abbrev started : Context
started = record beginning { begun = true }

spelling : (pieces : List Piece) → fine beginning pieces ≡ true → (after_all beginning pieces).elements ≡ [] → Spelling pieces
unfolding code_at
spelling [] holds none = without_declaration [] (split [] started refl refl none)
spelling (piece.Start encoding ∷ pieces) holds none =
    with_declaration encoding pieces (sym (fine_start beginning encoding) ∙ and_left _ _ holds)
    (split pieces (after beginning (piece.Start encoding)) refl (and_right _ _ holds) none)
spelling (piece.Doctype ∷ pieces) holds none = without_declaration (piece.Doctype ∷ pieces) (split (piece.Doctype ∷ pieces) started refl holds none)
spelling (piece.Open name attributes true ∷ pieces) holds none = without_declaration (piece.Open name attributes true ∷ pieces) (split (piece.Open name attributes true ∷ pieces) started refl holds none)
spelling (piece.Open name attributes false ∷ pieces) holds none = without_declaration (piece.Open name attributes false ∷ pieces) (split (piece.Open name attributes false ∷ pieces) started refl holds none)
spelling (piece.Close name ∷ pieces) holds none = without_declaration (piece.Close name ∷ pieces) (split (piece.Close name ∷ pieces) started refl holds none)
spelling (piece.Text text ∷ pieces) holds none = without_declaration (piece.Text text ∷ pieces) (split (piece.Text text ∷ pieces) started refl holds none)
spelling (piece.Skip ∷ pieces) holds none = without_declaration (piece.Skip ∷ pieces) (split (piece.Skip ∷ pieces) started refl holds none)

-- ---- what such pieces leave behind them

-- the place where the blocks begin
place_of_blocks : (declaration : Option (Option (List ℕ))) (others : List Piece) → after_all beginning (prolog declaration ++ others) ≡ after_all (begun_with (not (is_none declaration))) others
unfolding begun_with
place_of_blocks None others = refl
place_of_blocks (Some encoding) others = refl

fine_prolog : (declaration : Option (Option (List ℕ))) (others : List Piece) → fine beginning (prolog declaration ++ others) ≡ (is_read_prolog declaration && fine (begun_with (not (is_none declaration))) others)
unfolding begun_with
fine_prolog None others = refl
fine_prolog (Some encoding) others = ap (λ b. b && fine (after beginning (piece.Start encoding)) others) (fine_start beginning encoding)

and_unit : (b : Bool) → (b && true) ≡ b
and_unit true = refl
and_unit false = refl

behind_spelling : (declaration : Option (Option (List ℕ))) (blocks : Blocks) → after_all beginning (prolog declaration ++ pieces_of blocks) ≡ after_blocks (begun_with (not (is_none declaration))) blocks
behind_spelling declaration blocks =
    place_of_blocks declaration (pieces_of blocks)
    ∙ ap (λ pieces. after_all (begun_with (not (is_none declaration))) pieces) (sym (append-nil (pieces_of blocks)))
    ∙ after_pieces blocks (begun_with (not (is_none declaration))) []

-- no rule applies to the pieces of blocks exactly where the blocks fit and keep the limits
fine_blocks : (begun : Bool) (blocks : Blocks) → fine (begun_with begun) (pieces_of blocks) ≡ (fits BeforeRoot [] blocks && is_within_limits (counted BeforeRoot [] blocks))
unfolding begun_with
fine_blocks begun blocks =
    ap (λ pieces. fine (begun_with begun) pieces) (sym (append-nil (pieces_of blocks)))
    ∙ fine_pieces blocks (begun_with begun) []
    ∙ ap (λ counts. fits BeforeRoot [] blocks && (is_within_limits counts && true)) (nothing_plus (counted BeforeRoot [] blocks))
    ∙ ap (λ b. fits BeforeRoot [] blocks && b) (and_unit (is_within_limits (counted BeforeRoot [] blocks)))

told_behind : (begun : Bool) (blocks : Blocks) → (after_blocks (begun_with begun) blocks).told ≡ told BeforeRoot [] blocks
unfolding begun_with
told_behind begun blocks = refl

whole_behind : (begun : Bool) (blocks : Blocks) → is_whole (after_blocks (begun_with begun) blocks) ≡ is_after_root (place_after BeforeRoot [] blocks)
unfolding begun_with
whole_behind begun blocks = and_unit _

-- ---- the laws

modelled : (facts : List Fact) → IsHeaded facts → (model : Document) × (document_of facts ≡ Some model)
modelled facts (kind, id, others, same) = (model_of kind id others, ap document_of same)

document : (pieces : List Piece) → Spelling pieces → fine beginning pieces ≡ true → is_whole (after_all beginning pieces) ≡ true → (model : Document) × IsDocument pieces model
document pieces spelt holds whole =
    let begun : Bool = not (is_none spelt.declaration) in
    let blocks : Blocks = spelt.blocks in
    let all : (is_read_prolog spelt.declaration && fine (begun_with begun) (pieces_of blocks)) ≡ true = sym (fine_prolog spelt.declaration (pieces_of blocks)) ∙ ap (λ p. fine beginning p) (sym spelt.spelt) ∙ holds in
    let fitting : (fits BeforeRoot [] blocks && is_within_limits (counted BeforeRoot [] blocks)) ≡ true = sym (fine_blocks begun blocks) ∙ and_right (is_read_prolog spelt.declaration) (fine (begun_with begun) (pieces_of blocks)) all in
    let ended : is_after_root (place_after BeforeRoot [] blocks) ≡ true = sym (whole_behind begun blocks) ∙ ap is_whole (sym (behind_spelling spelt.declaration blocks)) ∙ ap (λ p. is_whole (after_all beginning p)) (sym spelt.spelt) ∙ whole in
    let shape : fits BeforeRoot [] blocks ≡ true = and_left (fits BeforeRoot [] blocks) (is_within_limits (counted BeforeRoot [] blocks)) fitting in
    let made = modelled (told BeforeRoot [] blocks) (headed blocks [] shape ended) in (
      made.0,
      record {
        declaration = spelt.declaration;
        blocks = blocks;
        spelt = spelt.spelt;
        encoding = spelt.encoding;
        shape = shape;
        whole = ended;
        limits = and_right (fits BeforeRoot [] blocks) (is_within_limits (counted BeforeRoot [] blocks)) fitting;
        meaning = made.1;
      },
    )

none_is : {X : Type 0} (o : Option X) → is_none o ≡ true → o ≡ None
none_is None holds = refl
none_is (Some x) holds = absurd (grind arith)

stated : (cutting : Cutting) (rest : Rest) → cutting.rest ≡ rest → (fine beginning (pieces_cut cutting) && is_none (code_at (after_all beginning (pieces_cut cutting)) (Left rest))) ≡ true → (model : Document) × States cutting model
stated cutting Ended same holds =
    let fine_all : fine beginning (pieces_cut cutting) ≡ true = and_left _ _ holds in
    let whole : is_whole (after_all beginning (pieces_cut cutting)) ≡ true = sym (fine_end (after_all beginning (pieces_cut cutting))) ∙ and_right _ _ holds in
    let none : (after_all beginning (pieces_cut cutting)).elements ≡ [] = none_open _ (and_right _ _ whole) in
    let found = document (pieces_cut cutting) (spelling (pieces_cut cutting) fine_all none) fine_all whole in
    (found.0, (same, found.1))
stated cutting Unfinished same holds =
    let never : false ≡ true = sym (fine_cut (after_all beginning (pieces_cut cutting))) ∙ and_right _ _ holds in
    absurd (grind arith)
stated cutting NoPiece same holds =
    let never : false ≡ true = sym (fine_nothing (after_all beginning (pieces_cut cutting))) ∙ and_right _ _ holds in
    absurd (grind arith)
stated cutting More same holds =
    let never : false ≡ true = sym (fine_more (after_all beginning (pieces_cut cutting))) ∙ and_right _ _ holds in
    absurd (grind arith)

all_true : (a b : Bool) → a ≡ true → b ≡ true → (a && b) ≡ true
all_true a b first second = rw (first, second) refl

unfaulted : (cutting : Cutting) (model : Document) → cutting.rest ≡ Ended → IsDocument (pieces_cut cutting) model → fault_of cutting ≡ None
unfaulted cutting model ended states =
    let pieces : List Piece = pieces_cut cutting in
    let begun : Bool = not (is_none states.declaration) in
    let blocks : Blocks = states.blocks in
    let holds : fine beginning pieces ≡ true =
    ap (λ p. fine beginning p) states.spelt ∙ fine_prolog states.declaration (pieces_of blocks)
    ∙ all_true _ _ states.encoding (fine_blocks begun blocks ∙ all_true _ _ states.shape states.limits) in
    let whole : is_none (code_at (after_all beginning pieces) (Left cutting.rest)) ≡ true =
    ap (λ r. is_none (code_at (after_all beginning pieces) (Left r))) ended ∙ fine_end (after_all beginning pieces)
    ∙ ap (λ p. is_whole (after_all beginning p)) states.spelt ∙ ap is_whole (behind_spelling states.declaration blocks)
    ∙ whole_behind begun blocks ∙ states.whole in
    none_is (fault_of cutting) (faultless cutting.pieces beginning cutting.end cutting.rest ∙ all_true _ _ holds whole)

pub faultless_pieces_are_documents : FaultlessPiecesAreDocuments
faultless_pieces_are_documents cutting = (
  λ none. stated cutting cutting.rest refl (sym (faultless cutting.pieces beginning cutting.end cutting.rest) ∙ ap is_none none),
  λ states. unfaulted cutting states.0 states.1.0 states.1.1,
)

-- what the pieces tell is told by no blocks alone
pub told_by_pieces : (pieces : List Piece) (model : Document) (states : IsDocument pieces model) → document_of (after_all beginning pieces).told ≡ Some model
told_by_pieces pieces model states =
    ap (λ p. document_of (after_all beginning p).told) states.spelt
    ∙ ap (λ c. document_of c.told) (behind_spelling states.declaration states.blocks)
    ∙ ap document_of (told_behind (not (is_none states.declaration)) states.blocks)
    ∙ states.meaning

pub pieces_state_one_model : PiecesStateOneModel
pieces_state_one_model cutting model other states others =
    let first = told_by_pieces (pieces_cut cutting) model states.1 in
    let second = told_by_pieces (pieces_cut cutting) other others.1 in
    cc
