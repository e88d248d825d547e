use Rattle.std.proofs.Common.{◌∙◌, ◌∷◌, [], sym, ap, drop, take}
use Rattle.std.proofs.lemmas.List.{drop-map, map-append, take-map}
use Rattle.nm_blocks.specs.Blocks.{lists_of}
use Rattle.nm_blocks.proofs.Cuts.{cut_within, cut_behind, no_blocks}
use Rattle.nm_blocks.proofs.search.cut_at.Goals as goal

pub returns-in-Some : goal.returns-in-Some
returns-in-Some g c =
    let blocks = c.args.blocks.now in
    rw (c.deref-in-Some.ensures.value, c.deref.ensures)
    (cut_within g.T.Keyed.key g.met.T.Key.Ord.total c.args.key.now (lists_of blocks) (lists_of c.split_at.result.0.now) c.in-Some.block.now.value.items (lists_of c.in-Some.behind.now) c.requires.rising
    (ap lists_of (c.split_at.ensures.front ∙ ap (λ n. take n blocks) c.place_of.ensures.place) ∙ sym (take-map (λ b. b.value.items) _ blocks))
    (drop-map (λ b. b.value.items) _ blocks ∙ ap lists_of (sym (c.split_at.ensures.back ∙ ap (λ n. drop n blocks) c.place_of.ensures.place) ∙ c.in-Some.ensures.cases.0)))

pub returns : goal.returns
returns g c =
    let blocks = c.args.blocks.now in
    rw (c.deref-3.ensures.value, c.deref-2.ensures)
    (cut_behind g.T.Keyed.key g.met.T.Key.Ord.total c.args.key.now (lists_of blocks) (lists_of c.in_ok-block.before.now) c.in_ok-block.block.now.value.items (lists_of c.split_at.result.1.now) c.requires.rising
    (ap lists_of c.in_ok-block.ensures.cases.0 ∙ map-append (λ b. b.value.items) c.in_ok-block.before.now (c.in_ok-block.block.now ∷ []))
    (ap lists_of (c.split_at.ensures.back ∙ ap (λ n. drop n blocks) c.place_of.ensures.place) ∙ sym (drop-map (λ b. b.value.items) _ blocks))
    (ap lists_of (no_blocks c.split_at.result.1.now c.in_default.ensures.cases)))
