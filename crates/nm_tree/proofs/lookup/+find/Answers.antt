use Rattle.std.proofs.Common.{◌≡◌, Some, ap, sym, ◌∙◌}
use Rattle.std.specs.declared.cmp.Ordering.TheVariants.{Less, Equal, Greater}
use Rattle.nm_tree.specs.Pairs.{value_at}
use Rattle.nm_tree.proofs.Around.{value_at-left, value_at-middle, value_at-right}
use Rattle.nm_tree.proofs.lookup.+find.Goals as goal

pub returns-in-Less-clause-value : goal.returns-in-Less-clause-value
returns-in-Less-clause-value g t c =
    let order : g.K.Ord.cmp c.args.key.now c.in-Some.field-0.pair.now.value.0 ≡ Less = cc in
    c.find.ensures.value ∙ sym (value_at-left g.met.K.Ord.total _ _ _ c.in-Some.ensures.kept.rising c.args.key.now order)
    ∙ ap (λ b. value_at g.K.Ord.cmp c.args.key.now b.pairs) (sym c.in-Some.ensures.fork)

pub returns-in-Equal-clause-value : goal.returns-in-Equal-clause-value
returns-in-Equal-clause-value g t c =
    let order : g.K.Ord.cmp c.args.key.now c.in-Some.field-0.pair.now.value.0 ≡ Equal = cc in
    ap (λ p. Some p.1) c.deref-in-Equal.ensures ∙ sym (value_at-middle g.met.K.Ord.total _ _ _ c.in-Some.ensures.kept.rising c.args.key.now order)
    ∙ ap (λ b. value_at g.K.Ord.cmp c.args.key.now b.pairs) (sym c.in-Some.ensures.fork)

pub returns-in-Greater-clause-value : goal.returns-in-Greater-clause-value
returns-in-Greater-clause-value g t c =
    let order : g.K.Ord.cmp c.args.key.now c.in-Some.field-0.pair.now.value.0 ≡ Greater = cc in
    c.find-in-Greater.ensures.value ∙ sym (value_at-right g.met.K.Ord.total _ _ _ c.in-Some.ensures.kept.rising c.args.key.now order)
    ∙ ap (λ b. value_at g.K.Ord.cmp c.args.key.now b.pairs) (sym c.in-Some.ensures.fork)
