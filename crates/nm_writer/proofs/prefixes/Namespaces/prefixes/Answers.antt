use Rattle.std.proofs.Common.{◌≡◌, ◌∙◌, sym, ap, arith, Option, ℕ, map, length}
use Rattle.std.specs.List.{range_with_len}
use Rattle.std.proofs.lemmas.List.FromFn.{map-range_with_len_more}
use Rattle.nm_writer.specs.Namespaces.{prefix_at, cim_place}
use Rattle.nm_writer.proofs.prefixes.Namespaces.prefixes.Goals as goal

pub loop-place-preserved : goal.loop-place-preserved
loop-place-preserved c =
    rw (c.in_ok-push.ensures.items, c.loop-place.invariant, c.in_ok-prefix_at.ensures)
    (sym (map-range_with_len_more (prefix_at c.cim_place-cim.result) 0 c.loop-place.place c.loop-place.place (omega arith)))

pub returns : goal.returns
returns c =
    let namespaces = c.args.self.now in
    let all : c.loop-place.place ≡ length namespaces = omega (arith, c.len-place-end.ensures, c.self.inside.texts.ok.0, ap length c.self.view_is) in
    c.loop-place.invariant ∙ ap (λ (first : Option ℕ). map (prefix_at first) (range_with_len 0 c.loop-place.place)) c.cim_place-cim.ensures
    ∙ ap (λ (n : ℕ). map (prefix_at (cim_place namespaces)) (range_with_len 0 n)) all
