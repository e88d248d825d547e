use Rattle.std.proofs.Common.{◌≡◌, ◌∷◌, ap, ◌∙◌, arith, length-append}
use Rattle.std.specs.declared.cmp.Ordering.TheVariants.{Less}
use Rattle.std.proofs.lemmas.Result.{on_ok_weaker}
use Rattle.nm_tree.specs.Span.{pairs_not_below}
use Rattle.nm_tree.proofs.Spans.{at_least_equal, gathered, not_below-below, not_below-inside}
use Rattle.nm_tree.proofs.walk.+gather_up.Goals as goal

pub returns-in-Less-clause-pairs : goal.returns-in-Less-clause-pairs
returns-in-Less-clause-pairs g t c =
    let place = g.S.Span.place c.args.span.now in
    let at : place c.in-Some.field-0.pair.now.value.0 ≡ Less = cc in
    let e = ap (λ b. pairs_not_below place b.pairs) c.in-Some.ensures.fork ∙ not_below-below place (g.met.S.Span.rises c.args.span.now) _ _ _ c.in-Some.ensures.kept.rising at in
    rw e c.gather_up.ensures.pairs

pub returns-in-Less-clause-least_steps : goal.returns-in-Less-clause-least_steps
returns-in-Less-clause-least_steps g t c =
    let place = g.S.Span.place c.args.span.now in
    let at : place c.in-Some.field-0.pair.now.value.0 ≡ Less = cc in
    let e = ap (λ b. pairs_not_below place b.pairs) c.in-Some.ensures.fork ∙ not_below-below place (g.met.S.Span.rises c.args.span.now) _ _ _ c.in-Some.ensures.kept.rising at in
    rw e (on_ok_weaker c.gather_up.result (λ h. omega (arith, h, c.in-Some.ensures.steps)) c.gather_up.ensures.least_steps)

pub returns-in_ok-push-in_default-place-clause-pairs : goal.returns-in_ok-push-in_default-place-clause-pairs
returns-in_ok-push-in_default-place-clause-pairs g t c =
    let place = g.S.Span.place c.args.span.now in
    let not_less : place c.in-Some.field-0.pair.now.value.0 ≡ Less → ⊥ = λ h. c.in_default-place.not-Less (cc) in
    let e = ap (λ b. pairs_not_below place b.pairs) c.in-Some.ensures.fork ∙ not_below-inside place (g.met.S.Span.rises c.args.span.now) _ _ _ c.in-Some.ensures.kept.rising (at_least_equal _ not_less) in
    let step = gathered c.args.found.now.items c.gather_up-in_default-place.new.found.items c.push.new.self.items (pairs_not_below place c.in-Some.field-0.left.now.pairs) c.in-Some.field-0.right.now.pairs c.deref-in_default-place.result c.in-Some.field-0.pair.now.value c.in_ok-push-in_default-place.ensures.items c.in_ok-gather_up-in_default-place.ensures.pairs c.deref-in_default-place.ensures in
    rw e (on_ok_weaker c.gather_all.result (λ h. h ∙ step) c.gather_all.ensures.pairs)

pub returns-in_ok-push-in_default-place-clause-most_steps : goal.returns-in_ok-push-in_default-place-clause-most_steps
returns-in_ok-push-in_default-place-clause-most_steps g t c =
    let place = g.S.Span.place c.args.span.now in
    let not_less : place c.in-Some.field-0.pair.now.value.0 ≡ Less → ⊥ = λ h. c.in_default-place.not-Less (cc) in
    let e = ap (λ b. pairs_not_below place b.pairs) c.in-Some.ensures.fork ∙ not_below-inside place (g.met.S.Span.rises c.args.span.now) _ _ _ c.in-Some.ensures.kept.rising (at_least_equal _ not_less) in
    let height = ap (λ b. b.height) c.in-Some.ensures.fork in
    rw e (omega (arith, length-append (pairs_not_below place c.in-Some.field-0.left.now.pairs) (c.in-Some.field-0.pair.now.value ∷ c.in-Some.field-0.right.now.pairs), c.in-Some.ensures.steps, c.in_ok-gather_up-in_default-place.ensures.most_steps))

pub returns-in_ok-push-in_default-place-clause-least_steps : goal.returns-in_ok-push-in_default-place-clause-least_steps
returns-in_ok-push-in_default-place-clause-least_steps g t c =
    let place = g.S.Span.place c.args.span.now in
    let not_less : place c.in-Some.field-0.pair.now.value.0 ≡ Less → ⊥ = λ h. c.in_default-place.not-Less (cc) in
    let e = ap (λ b. pairs_not_below place b.pairs) c.in-Some.ensures.fork ∙ not_below-inside place (g.met.S.Span.rises c.args.span.now) _ _ _ c.in-Some.ensures.kept.rising (at_least_equal _ not_less) in
    rw e (on_ok_weaker c.gather_all.result (λ h. omega (arith, h, length-append (pairs_not_below place c.in-Some.field-0.left.now.pairs) (c.in-Some.field-0.pair.now.value ∷ c.in-Some.field-0.right.now.pairs), c.in-Some.ensures.steps, c.in_ok-gather_up-in_default-place.ensures.least_steps)) c.gather_all.ensures.least_steps)
