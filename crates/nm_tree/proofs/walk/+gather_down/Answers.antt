use Rattle.std.proofs.Common.{◌≡◌, ◌∷◌, ap, ◌∙◌, arith, length-append}
use Rattle.std.specs.declared.cmp.Ordering.TheVariants.{Greater}
use Rattle.std.proofs.lemmas.Result.{on_ok_weaker}
use Rattle.nm_tree.specs.Span.{pairs_not_above}
use Rattle.nm_tree.proofs.Spans.{at_most_equal, gathered, not_above-above, not_above-inside}
use Rattle.nm_tree.proofs.walk.+gather_down.Goals as goal

pub returns-in-Greater-clause-pairs : goal.returns-in-Greater-clause-pairs
returns-in-Greater-clause-pairs g t c =
    let place = g.S.Span.place c.args.span.now in
    let at : place c.in-Some.field-0.pair.now.value.0 ≡ Greater = cc in
    let e = ap (λ b. pairs_not_above place b.pairs) c.in-Some.ensures.fork ∙ not_above-above place (g.met.S.Span.rises c.args.span.now) _ _ _ c.in-Some.ensures.kept.rising at in
    rw e c.gather_down.ensures.pairs

pub returns-in-Greater-clause-least_steps : goal.returns-in-Greater-clause-least_steps
returns-in-Greater-clause-least_steps g t c =
    let place = g.S.Span.place c.args.span.now in
    let at : place c.in-Some.field-0.pair.now.value.0 ≡ Greater = cc in
    let e = ap (λ b. pairs_not_above place b.pairs) c.in-Some.ensures.fork ∙ not_above-above place (g.met.S.Span.rises c.args.span.now) _ _ _ c.in-Some.ensures.kept.rising at in
    rw e (on_ok_weaker c.gather_down.result (λ h. omega (arith, h, c.in-Some.ensures.steps)) c.gather_down.ensures.least_steps)

pub returns-in_err-gather_all-in_default-place-clause-most_steps : goal.returns-in_err-gather_all-in_default-place-clause-most_steps
returns-in_err-gather_all-in_default-place-clause-most_steps g t c =
    let place = g.S.Span.place c.args.span.now in
    let not_greater : place c.in-Some.field-0.pair.now.value.0 ≡ Greater → ⊥ = λ h. c.in_default-place.not-Greater (cc) in
    let e = ap (λ b. pairs_not_above place b.pairs) c.in-Some.ensures.fork ∙ not_above-inside place (g.met.S.Span.rises c.args.span.now) _ _ _ c.in-Some.ensures.kept.rising (at_most_equal _ not_greater) in
    let height = ap (λ b. b.height) c.in-Some.ensures.fork in
    rw e (omega (arith, length-append c.in-Some.field-0.left.now.pairs (c.in-Some.field-0.pair.now.value ∷ pairs_not_above place c.in-Some.field-0.right.now.pairs), c.in-Some.ensures.steps, c.gather_all.ensures.most_steps))

pub returns-in_err-push-in_default-place-clause-most_steps : goal.returns-in_err-push-in_default-place-clause-most_steps
returns-in_err-push-in_default-place-clause-most_steps g t c =
    let place = g.S.Span.place c.args.span.now in
    let not_greater : place c.in-Some.field-0.pair.now.value.0 ≡ Greater → ⊥ = λ h. c.in_default-place.not-Greater (cc) in
    let e = ap (λ b. pairs_not_above place b.pairs) c.in-Some.ensures.fork ∙ not_above-inside place (g.met.S.Span.rises c.args.span.now) _ _ _ c.in-Some.ensures.kept.rising (at_most_equal _ not_greater) in
    let height = ap (λ b. b.height) c.in-Some.ensures.fork in
    rw e (omega (arith, length-append c.in-Some.field-0.left.now.pairs (c.in-Some.field-0.pair.now.value ∷ pairs_not_above place c.in-Some.field-0.right.now.pairs), c.in-Some.ensures.steps, c.gather_all.ensures.most_steps))

pub returns-in_ok-push-in_default-place-clause-pairs : goal.returns-in_ok-push-in_default-place-clause-pairs
returns-in_ok-push-in_default-place-clause-pairs g t c =
    let place = g.S.Span.place c.args.span.now in
    let not_greater : place c.in-Some.field-0.pair.now.value.0 ≡ Greater → ⊥ = λ h. c.in_default-place.not-Greater (cc) in
    let e = ap (λ b. pairs_not_above place b.pairs) c.in-Some.ensures.fork ∙ not_above-inside place (g.met.S.Span.rises c.args.span.now) _ _ _ c.in-Some.ensures.kept.rising (at_most_equal _ not_greater) in
    let step = gathered c.args.found.now.items c.gather_all.new.found.items c.push.new.self.items c.in-Some.field-0.left.now.pairs (pairs_not_above place c.in-Some.field-0.right.now.pairs) c.deref-in_default-place.result c.in-Some.field-0.pair.now.value c.in_ok-push-in_default-place.ensures.items c.in_ok-gather_all-in_default-place.ensures.pairs c.deref-in_default-place.ensures in
    rw e (on_ok_weaker c.gather_down-in_default-place.result (λ h. h ∙ step) c.gather_down-in_default-place.ensures.pairs)

pub returns-in_ok-push-in_default-place-clause-most_steps : goal.returns-in_ok-push-in_default-place-clause-most_steps
returns-in_ok-push-in_default-place-clause-most_steps g t c =
    let place = g.S.Span.place c.args.span.now in
    let not_greater : place c.in-Some.field-0.pair.now.value.0 ≡ Greater → ⊥ = λ h. c.in_default-place.not-Greater (cc) in
    let e = ap (λ b. pairs_not_above place b.pairs) c.in-Some.ensures.fork ∙ not_above-inside place (g.met.S.Span.rises c.args.span.now) _ _ _ c.in-Some.ensures.kept.rising (at_most_equal _ not_greater) in
    let height = ap (λ b. b.height) c.in-Some.ensures.fork in
    rw e (omega (arith, length-append c.in-Some.field-0.left.now.pairs (c.in-Some.field-0.pair.now.value ∷ pairs_not_above place c.in-Some.field-0.right.now.pairs), c.in-Some.ensures.steps, c.gather_all.ensures.most_steps))

pub returns-in_ok-push-in_default-place-clause-least_steps : goal.returns-in_ok-push-in_default-place-clause-least_steps
returns-in_ok-push-in_default-place-clause-least_steps g t c =
    let place = g.S.Span.place c.args.span.now in
    let not_greater : place c.in-Some.field-0.pair.now.value.0 ≡ Greater → ⊥ = λ h. c.in_default-place.not-Greater (cc) in
    let e = ap (λ b. pairs_not_above place b.pairs) c.in-Some.ensures.fork ∙ not_above-inside place (g.met.S.Span.rises c.args.span.now) _ _ _ c.in-Some.ensures.kept.rising (at_most_equal _ not_greater) in
    rw e (on_ok_weaker c.gather_down-in_default-place.result (λ h. omega (arith, h, length-append c.in-Some.field-0.left.now.pairs (c.in-Some.field-0.pair.now.value ∷ pairs_not_above place c.in-Some.field-0.right.now.pairs), c.in-Some.ensures.steps, c.in_ok-gather_all-in_default-place.ensures.least_steps)) c.gather_down-in_default-place.ensures.least_steps)
