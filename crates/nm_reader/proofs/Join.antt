-- The two views of a document agree: blocks fit exactly where no rule applies to their pieces.
use Rattle.std.proofs.Common.{◌≡◌, ℕ, List, ◌∷◌, ◌++◌, Bool, true, false, ◌&&◌, refl, sym, ap, ◌∙◌, add_assoc, add-zero, zero-add, append_assoc}
use Rattle.std.proofs.lemmas.List.{append-nil}
use Rattle.nm_reader.specs.Blocks.{Blocks, End, Skip, Text, Empty, Element, counted, fits, pieces_of, place_after, told}
use Rattle.nm_reader.specs.Context.{Context, after, after_all, left, scope_in, tag_at}
use Rattle.nm_reader.specs.Opened.{Opened}
use Rattle.nm_reader.specs.Limits.{nothing, plus}
use Rattle.nm_reader.specs.declared.counts.Counts.{Counts}
use Rattle.nm_reader.specs.Namespaces.{scope_inside}
use Rattle.nm_piece.specs.declared.piece.Attribute.{Attribute}
use Rattle.nm_piece.specs.declared.piece.Piece.{Piece}
use Rattle.nm_piece.specs.declared.piece.QName.{QName}
use Rattle.nm_piece.specs.declared.piece.Piece.TheVariants as piece
use Rattle.nm_reader.specs.Tag.{Tag, behind_tag, inside_of_tag, is_taken}
use Rattle.nm_reader.specs.Texts.{may_end, takes_text, with_text}
use Rattle.nm_reader.proofs.Pieces.{fine_within, step_close, step_skip, step_tag, step_text}
use Rattle.nm_reader.proofs.Spellings.{same_spelling-refl}
use Rattle.nm_reader.specs.declared.fact.Fact.{Fact}
use Rattle.nm_reader.specs.declared.place.Place.{Place}

abbrev begun_behind : Bool → Blocks → Bool
begun_behind begun End = begun
begun_behind begun _ = true

-- what blocks leave behind them
abbrev pub after_blocks : Context → Blocks → Context
after_blocks context blocks = record {
  elements = context.elements;
  place = place_after context.place (scope_in context.elements) blocks;
  told = context.told ++ told context.place (scope_in context.elements) blocks;
  counted = plus context.counted (counted context.place (scope_in context.elements) blocks);
  begun = begun_behind context.begun blocks;
}

begun_stays : (blocks : Blocks) → begun_behind true blocks ≡ true
begun_stays End = refl
begun_stays (Skip behind) = refl
begun_stays (Text text behind) = refl
begun_stays (Empty name attributes behind) = refl
begun_stays (Element name attributes inside behind) = refl

abbrev context_of : List Opened → Place → List Fact → Counts → Bool → Context
context_of elements place facts counts begun = record {
  elements = elements;
  place = place;
  told = facts;
  counted = counts;
  begun = begun;
}

contexts_equal : (elements : List Opened) (place : Place) {facts facts' : List Fact} {counts counts' : Counts} {begun begun' : Bool}
    → facts ≡ facts' → counts ≡ counts' → begun ≡ begun' → context_of elements place facts counts begun ≡ context_of elements place facts' counts' begun'
contexts_equal elements place {facts} {facts'} {counts} {counts'} {begun} {begun'} same_facts same_counts same_begun =
    ap (λ f. context_of elements place f counts begun) same_facts
    ∙ ap (λ n. context_of elements place facts' n begun) same_counts
    ∙ ap (λ b. context_of elements place facts' counts' b) same_begun

plus_nothing : (counts : Counts) → plus counts nothing ≡ counts
plus_nothing counts = simp add-zero refl

pub nothing_plus : (counts : Counts) → plus nothing counts ≡ counts
nothing_plus counts = simp zero-add refl

plus_assoc : (a b c : Counts) → plus (plus a b) c ≡ plus a (plus b c)
plus_assoc a b c = simp add_assoc refl

plus_three : (a b c d : Counts) → plus (plus (plus a b) c) d ≡ plus a (plus b (plus c d))
plus_three a b c d = simp add_assoc refl

nothing_behind : (context : Context) → after_blocks context End ≡ context
nothing_behind context = contexts_equal context.elements context.place (append-nil context.told) (plus_nothing context.counted) refl

behind_skip : (context : Context) (behind : Blocks) → after_blocks (after context piece.Skip) behind ≡ after_blocks context (Skip behind)
behind_skip context behind = contexts_equal _ _ refl refl (begun_stays behind)

behind_text : (context : Context) (text : List ℕ) (behind : Blocks) → after_blocks (after context (piece.Text text)) behind ≡ after_blocks context (Text text behind)
behind_text context text behind = contexts_equal _ _ refl refl (begun_stays behind)

three : {X : Type 0} (a b c d : List X) → ((a ++ b) ++ c) ++ d ≡ a ++ (b ++ (c ++ d))
three a b c d = simp append_assoc refl

four : {X : Type 0} (a b c d e : List X) → (((a ++ b) ++ c) ++ d) ++ e ≡ a ++ (b ++ (c ++ (d ++ e)))
four a b c d e = simp append_assoc refl

behind_empty : (context : Context) (name : QName) (attributes : List Attribute) (behind : Blocks)
    → after_blocks (after context (piece.Open name attributes true)) behind ≡ after_blocks context (Empty name attributes behind)
behind_empty context name attributes behind =
    contexts_equal _ _ (three context.told _ _ _) (plus_assoc context.counted _ _) (begun_stays behind)

-- the context inside an element, behind what stands there
abbrev filled : Context → QName → List Attribute → Blocks → Context
filled context name attributes inside = after_blocks (after context (piece.Open name attributes false)) inside

behind_element : (context : Context) (name : QName) (attributes : List Attribute) (inside behind : Blocks)
    → after_blocks (left (filled context name attributes inside)) behind ≡ after_blocks context (Element name attributes inside behind)
behind_element context name attributes inside behind =
    contexts_equal _ _ (four context.told _ _ _ _) (plus_three context.counted _ _ _) (begun_stays behind)

-- the pieces of an element, with what follows them
element_pieces : (name : QName) (inside behind others : List Piece) → (inside ++ (piece.Close name ∷ behind)) ++ others ≡ inside ++ (piece.Close name ∷ (behind ++ others))
element_pieces name inside behind others = append_assoc inside (piece.Close name ∷ behind) others

-- the context behind pieces that spell blocks
pub after_pieces : (blocks : Blocks) (context : Context) (others : List Piece)
    → after_all context (pieces_of blocks ++ others) ≡ after_all (after_blocks context blocks) others
after_pieces End context others = ap (λ c. after_all c others) (sym (nothing_behind context))
after_pieces (Skip behind) context others =
    after_pieces behind (after context piece.Skip) others ∙ ap (λ c. after_all c others) (behind_skip context behind)
after_pieces (Text text behind) context others =
    after_pieces behind (after context (piece.Text text)) others
    ∙ ap (λ c. after_all c others) (behind_text context text behind)
after_pieces (Empty name attributes behind) context others =
    after_pieces behind (after context (piece.Open name attributes true)) others
    ∙ ap (λ c. after_all c others) (behind_empty context name attributes behind)
after_pieces (Element name attributes inside behind) context others =
    ap (λ pieces. after_all (after context (piece.Open name attributes false)) pieces)
    (element_pieces name (pieces_of inside) (pieces_of behind) others)
    ∙ after_pieces inside (after context (piece.Open name attributes false)) (piece.Close name ∷ (pieces_of behind ++ others))
    ∙ after_pieces behind (left (filled context name attributes inside)) others
    ∙ ap (λ c. after_all c others) (behind_element context name attributes inside behind)

pub and_assoc : (a b c : Bool) → (a && (b && c)) ≡ (a && b && c)
and_assoc true b c = refl
and_assoc false b c = refl

regroup_element : (taken inside ends behind others : Bool) → (taken && true && (inside && ((true && ends) && (behind && others)))) ≡ (taken && inside && ends && behind && others)
regroup_element true true true behind others = refl
regroup_element true true false behind others = refl
regroup_element true false ends behind others = refl
regroup_element false inside ends behind others = refl

-- blocks fit exactly where no rule applies to their pieces
pub fine_pieces : (blocks : Blocks) (context : Context) (others : List Piece)
    → fine_within context (pieces_of blocks ++ others) ≡ (fits context.place (scope_in context.elements) blocks && fine_within (after_blocks context blocks) others)
fine_pieces End context others = ap (λ c. fine_within c others) (sym (nothing_behind context))
fine_pieces (Skip behind) context others =
    step_skip context (pieces_of behind ++ others)
    ∙ fine_pieces behind (after context piece.Skip) others
    ∙ ap (λ c. fits context.place (scope_in context.elements) behind && fine_within c others) (behind_skip context behind)
fine_pieces (Text text behind) context others =
    step_text context text (pieces_of behind ++ others)
    ∙ ap (λ b. takes_text context.place text && b)
    (fine_pieces behind (after context (piece.Text text)) others
    ∙ ap (λ c. fits (with_text context.place text) (scope_in context.elements) behind && fine_within c others) (behind_text context text behind))
    ∙ and_assoc (takes_text context.place text) (fits (with_text context.place text) (scope_in context.elements) behind) (fine_within (after_blocks context (Text text behind)) others)
fine_pieces (Empty name attributes behind) context others =
    let tag : Tag = tag_at context name attributes in
    step_tag context name attributes true (pieces_of behind ++ others) refl
    ∙ ap (λ b. is_taken tag && may_end (inside_of_tag tag) && b)
    (fine_pieces behind (after context (piece.Open name attributes true)) others
    ∙ ap (λ c. fits (behind_tag tag) (scope_in context.elements) behind && fine_within c others) (behind_empty context name attributes behind))
    ∙ and_assoc (is_taken tag && may_end (inside_of_tag tag)) (fits (behind_tag tag) (scope_in context.elements) behind) (fine_within (after_blocks context (Empty name attributes behind)) others)
fine_pieces (Element name attributes inside behind) context others =
    let tag : Tag = tag_at context name attributes in
    let opened : Context = after context (piece.Open name attributes false) in
    let full : Context = filled context name attributes inside in
    let fits_inside : Bool = fits (inside_of_tag tag) (scope_inside (scope_in context.elements) attributes) inside in
    let ends : Bool = may_end (place_after (inside_of_tag tag) (scope_inside (scope_in context.elements) attributes) inside) in
    let fits_behind : Bool = fits (behind_tag tag) (scope_in context.elements) behind in
    step_tag context name attributes false ((pieces_of inside ++ (piece.Close name ∷ pieces_of behind)) ++ others) refl
    ∙ ap (λ b. is_taken tag && true && b)
    (ap (λ pieces. fine_within opened pieces) (element_pieces name (pieces_of inside) (pieces_of behind) others)
    ∙ fine_pieces inside opened (piece.Close name ∷ (pieces_of behind ++ others))
    ∙ ap (λ b. fits_inside && b)
    (step_close full name (pieces_of behind ++ others) refl
    ∙ ap (λ same. same && ends && fine_within (left full) (pieces_of behind ++ others)) (same_spelling-refl name)
    ∙ ap (λ b. true && ends && b)
    (fine_pieces behind (left full) others
    ∙ ap (λ c. fits_behind && fine_within c others) (behind_element context name attributes inside behind))))
    ∙ regroup_element (is_taken tag) fits_inside ends fits_behind (fine_within (after_blocks context (Element name attributes inside behind)) others)
