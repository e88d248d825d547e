use Rattle.std.proofs.Common.{◌≡◌, ◌∙◌, ◌++◌, ◌∷◌, [], sym, ap, drop, take}
use Rattle.std.proofs.lemmas.List.{drop-map, take-append-drop}
use Rattle.std.specs.List.{prefix_len, slice_get}
use Rattle.std.specs.Option.{option_map}
use Rattle.nm_blocks.specs.Blocks.{lists_of}
use Rattle.nm_blocks.specs.Items.{ends_below, is_below}
use Rattle.nm_blocks.proofs.Cuts.{found_in_block, found_in_none, no_blocks, rising_block}
use Rattle.nm_blocks.proofs.Places.{first_failing}
use Rattle.nm_blocks.proofs.search.find_from.Goals as goal

pub returns-in_err-block : goal.returns-in_err-block
returns-in_err-block g c =
    let blocks = c.args.blocks.now in
    let back : drop (prefix_len (ends_below g.T.Keyed.key g.T.Key.Ord.cmp c.args.key.now) (lists_of blocks)) (lists_of blocks) ≡ [] =
    drop-map (λ b. b.value.items) _ blocks ∙ ap lists_of (sym (c.split_at.ensures.back ∙ ap (λ n. drop n blocks) c.place_of.ensures.place) ∙ no_blocks c.split_at.result.1.now c.in_err-block.ensures.cases) in
    ap (option_map (λ x. x.now)) c.from_residual.ensures ∙ sym (found_in_none g.T.Keyed.key g.met.T.Key.Ord.total c.args.key.now (lists_of blocks) c.requires.rising back)

pub place_in-requires : goal.place_in-requires
place_in-requires g c =
    let blocks = c.args.blocks.now in
    let n = prefix_len (ends_below g.T.Keyed.key g.T.Key.Ord.cmp c.args.key.now) (lists_of blocks) in
    let back : drop n (lists_of blocks) ≡ c.in_ok-block.block.now.value.items ∷ lists_of c.in_ok-block.field-0-1.now =
    drop-map (λ b. b.value.items) _ blocks ∙ ap lists_of (sym (c.split_at.ensures.back ∙ ap (λ n. drop n blocks) c.place_of.ensures.place) ∙ c.in_ok-block.ensures.cases.0) in
    rw (c.deref-4.ensures.value, c.deref-3.ensures)
    (rising_block g.T.Keyed.key g.met.T.Key.Ord.total (lists_of blocks) (take n (lists_of blocks)) c.in_ok-block.block.now.value.items (lists_of c.in_ok-block.field-0-1.now)
    (sym (take-append-drop n (lists_of blocks)) ∙ ap (λ ls. take n (lists_of blocks) ++ ls) back) c.requires.rising)

pub returns : goal.returns
returns g c =
    let blocks = c.args.blocks.now in
    let k = c.args.key.now in
    let block = c.in_ok-block.block.now.value.items in
    let n = prefix_len (ends_below g.T.Keyed.key g.T.Key.Ord.cmp k) (lists_of blocks) in
    let back : drop n (lists_of blocks) ≡ block ∷ lists_of c.in_ok-block.field-0-1.now =
    drop-map (λ b. b.value.items) _ blocks ∙ ap lists_of (sym (c.split_at.ensures.back ∙ ap (λ n. drop n blocks) c.place_of.ensures.place) ∙ c.in_ok-block.ensures.cases.0) in
    let one : c.deref-2.result.now ≡ block = c.deref-2.ensures.value ∙ ap (λ v. v.items) c.deref.ensures in
    let two : c.deref-4.result.now ≡ block = c.deref-4.ensures.value ∙ ap (λ v. v.items) c.deref-3.ensures in
    c.first.ensures.value
    ∙ ap (λ l. slice_get l 0) (c.split_at-2.ensures.back ∙ (λ i. drop (c.place_in.ensures.place i) (one i)) ∙ ap (λ l. drop (prefix_len (is_below g.T.Keyed.key g.T.Key.Ord.cmp k) l) block) two)
    ∙ first_failing (is_below g.T.Keyed.key g.T.Key.Ord.cmp k) block
    ∙ sym (found_in_block g.T.Keyed.key g.met.T.Key.Ord.total k (lists_of blocks) block (lists_of c.in_ok-block.field-0-1.now) c.requires.rising back)
