use Rattle.std.proofs.Common.{◌≡◌, ◌∷◌, ap, ◌∙◌, arith, length-append}
use Rattle.std.specs.declared.cmp.Ordering.TheVariants.{Less, Equal, Greater}
use Rattle.std.proofs.lemmas.Result.{on_ok_weaker}
use Rattle.nm_tree.specs.Span.{pairs_not_above, pairs_not_below, pairs_within}
use Rattle.nm_tree.proofs.Spans.{gathered, within-above, within-below, within-inside}
use Rattle.nm_tree.proofs.walk.+gather_within.Goals as goal

pub returns-in-Less-clause-pairs : goal.returns-in-Less-clause-pairs
returns-in-Less-clause-pairs g t c =
    let place = g.S.Span.place c.args.span.now in
    let at : place c.in-Some.field-0.pair.now.value.0 ≡ Less = cc in
    let e = ap (λ b. pairs_within place b.pairs) c.in-Some.ensures.fork ∙ within-below place (g.met.S.Span.rises c.args.span.now) _ _ _ c.in-Some.ensures.kept.rising at in
    rw e c.gather_within.ensures.pairs

pub returns-in-Less-clause-least_steps : goal.returns-in-Less-clause-least_steps
returns-in-Less-clause-least_steps g t c =
    let place = g.S.Span.place c.args.span.now in
    let at : place c.in-Some.field-0.pair.now.value.0 ≡ Less = cc in
    let e = ap (λ b. pairs_within place b.pairs) c.in-Some.ensures.fork ∙ within-below place (g.met.S.Span.rises c.args.span.now) _ _ _ c.in-Some.ensures.kept.rising at in
    rw e (on_ok_weaker c.gather_within.result (λ h. omega (arith, h, c.in-Some.ensures.steps)) c.gather_within.ensures.least_steps)

pub returns-in-Greater-clause-pairs : goal.returns-in-Greater-clause-pairs
returns-in-Greater-clause-pairs g t c =
    let place = g.S.Span.place c.args.span.now in
    let at : place c.in-Some.field-0.pair.now.value.0 ≡ Greater = cc in
    let e = ap (λ b. pairs_within place b.pairs) c.in-Some.ensures.fork ∙ within-above place (g.met.S.Span.rises c.args.span.now) _ _ _ c.in-Some.ensures.kept.rising at in
    rw e c.gather_within-in-Greater.ensures.pairs

pub returns-in-Greater-clause-least_steps : goal.returns-in-Greater-clause-least_steps
returns-in-Greater-clause-least_steps g t c =
    let place = g.S.Span.place c.args.span.now in
    let at : place c.in-Some.field-0.pair.now.value.0 ≡ Greater = cc in
    let e = ap (λ b. pairs_within place b.pairs) c.in-Some.ensures.fork ∙ within-above place (g.met.S.Span.rises c.args.span.now) _ _ _ c.in-Some.ensures.kept.rising at in
    rw e (on_ok_weaker c.gather_within-in-Greater.result (λ h. omega (arith, h, c.in-Some.ensures.steps)) c.gather_within-in-Greater.ensures.least_steps)

pub returns-in_err-gather_up-in-Equal-clause-most_steps : goal.returns-in_err-gather_up-in-Equal-clause-most_steps
returns-in_err-gather_up-in-Equal-clause-most_steps g t c =
    let place = g.S.Span.place c.args.span.now in
    let at : place c.in-Some.field-0.pair.now.value.0 ≡ Equal = cc in
    let e = ap (λ b. pairs_within place b.pairs) c.in-Some.ensures.fork ∙ within-inside place (g.met.S.Span.rises c.args.span.now) _ _ _ c.in-Some.ensures.kept.rising at in
    let height = ap (λ b. b.height) c.in-Some.ensures.fork in
    rw e (omega (arith, length-append (pairs_not_below place c.in-Some.field-0.left.now.pairs) (c.in-Some.field-0.pair.now.value ∷ pairs_not_above place c.in-Some.field-0.right.now.pairs), c.in-Some.ensures.steps, c.gather_up.ensures.most_steps))

pub returns-in_err-push-in-Equal-clause-most_steps : goal.returns-in_err-push-in-Equal-clause-most_steps
returns-in_err-push-in-Equal-clause-most_steps g t c =
    let place = g.S.Span.place c.args.span.now in
    let at : place c.in-Some.field-0.pair.now.value.0 ≡ Equal = cc in
    let e = ap (λ b. pairs_within place b.pairs) c.in-Some.ensures.fork ∙ within-inside place (g.met.S.Span.rises c.args.span.now) _ _ _ c.in-Some.ensures.kept.rising at in
    let height = ap (λ b. b.height) c.in-Some.ensures.fork in
    rw e (omega (arith, length-append (pairs_not_below place c.in-Some.field-0.left.now.pairs) (c.in-Some.field-0.pair.now.value ∷ pairs_not_above place c.in-Some.field-0.right.now.pairs), c.in-Some.ensures.steps, c.gather_up.ensures.most_steps))

pub returns-in_ok-push-in-Equal-clause-pairs : goal.returns-in_ok-push-in-Equal-clause-pairs
returns-in_ok-push-in-Equal-clause-pairs g t c =
    let place = g.S.Span.place c.args.span.now in
    let at : place c.in-Some.field-0.pair.now.value.0 ≡ Equal = cc in
    let e = ap (λ b. pairs_within place b.pairs) c.in-Some.ensures.fork ∙ within-inside place (g.met.S.Span.rises c.args.span.now) _ _ _ c.in-Some.ensures.kept.rising at in
    let step = gathered c.args.found.now.items c.gather_up.new.found.items c.push.new.self.items (pairs_not_below place c.in-Some.field-0.left.now.pairs) (pairs_not_above place c.in-Some.field-0.right.now.pairs) c.deref-in-Equal.result c.in-Some.field-0.pair.now.value c.in_ok-push-in-Equal.ensures.items c.in_ok-gather_up-in-Equal.ensures.pairs c.deref-in-Equal.ensures in
    rw e (on_ok_weaker c.gather_down.result (λ h. h ∙ step) c.gather_down.ensures.pairs)

pub returns-in_ok-push-in-Equal-clause-most_steps : goal.returns-in_ok-push-in-Equal-clause-most_steps
returns-in_ok-push-in-Equal-clause-most_steps g t c =
    let place = g.S.Span.place c.args.span.now in
    let at : place c.in-Some.field-0.pair.now.value.0 ≡ Equal = cc in
    let e = ap (λ b. pairs_within place b.pairs) c.in-Some.ensures.fork ∙ within-inside place (g.met.S.Span.rises c.args.span.now) _ _ _ c.in-Some.ensures.kept.rising at in
    let height = ap (λ b. b.height) c.in-Some.ensures.fork in
    rw e (omega (arith, length-append (pairs_not_below place c.in-Some.field-0.left.now.pairs) (c.in-Some.field-0.pair.now.value ∷ pairs_not_above place c.in-Some.field-0.right.now.pairs), c.in-Some.ensures.steps, c.gather_up.ensures.most_steps, c.gather_down.ensures.most_steps))

pub returns-in_ok-push-in-Equal-clause-least_steps : goal.returns-in_ok-push-in-Equal-clause-least_steps
returns-in_ok-push-in-Equal-clause-least_steps g t c =
    let place = g.S.Span.place c.args.span.now in
    let at : place c.in-Some.field-0.pair.now.value.0 ≡ Equal = cc in
    let e = ap (λ b. pairs_within place b.pairs) c.in-Some.ensures.fork ∙ within-inside place (g.met.S.Span.rises c.args.span.now) _ _ _ c.in-Some.ensures.kept.rising at in
    rw e (on_ok_weaker c.gather_down.result (λ h. omega (arith, h, length-append (pairs_not_below place c.in-Some.field-0.left.now.pairs) (c.in-Some.field-0.pair.now.value ∷ pairs_not_above place c.in-Some.field-0.right.now.pairs), c.in-Some.ensures.steps, c.in_ok-gather_up-in-Equal.ensures.least_steps)) c.gather_down.ensures.least_steps)
