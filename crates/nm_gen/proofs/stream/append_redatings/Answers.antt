use Rattle.std.proofs.Common.{◌∙◌, ◌++◌, ◌/◌, sym, ap, arith}
use Rattle.std.proofs.lemmas.List.{append-nil}
use Rattle.nm_gen.proofs.Parts.{appended, no_draws, redated}
use Rattle.nm_gen.specs.Draws.{state_after}
use Rattle.nm_gen.specs.Stream as spec
use Rattle.nm_gen.proofs.stream.append_redatings.Goals as goal

pub loop-number-init : goal.loop-number-init
loop-number-init c = record { text = sym (append-nil c.args.out.now.items); state = sym (no_draws c.args.draws.now.state) }

pub loop-number-preserved : goal.loop-number-preserved
loop-number-preserved c =
    let first = c.args.draws.now.state in
    let number = c.loop-number.number in
    let so = redated first c.loop-number.draws.state number (omega arith) c.loop-number.invariant.state in
    record {
      text = appended (spec.redating first) c.args.out.now.items c.loop-number.out.items c.append_redating.new.out.items number (omega arith) c.loop-number.invariant.text
          (c.in_ok-append_redating.ensures.dated ∙ ap (λ text. c.loop-number.out.items ++ text) so.text);
      state = c.in_ok-append_redating.ensures.drawn ∙ so.behind ∙ ap (λ draws. state_after first (draws / 3)) (omega arith);
    }

pub returns : goal.returns
returns c = c.loop-number.invariant.text ∙ ap (λ number. c.args.out.now.items ++ spec.redatings c.args.draws.now.state number) (omega arith)

pub returns-in_ok-append_redating : goal.returns-in_ok-append_redating
returns-in_ok-append_redating c =
    let first = c.args.draws.now.state in
    let number = c.loop-number.number in
    let so = redated first c.loop-number.draws.state number (omega arith) c.loop-number.invariant.state in
    appended (spec.redating first) c.args.out.now.items c.loop-number.out.items c.append_redating.new.out.items number (omega arith) c.loop-number.invariant.text
    (c.in_ok-append_redating.ensures.dated ∙ ap (λ text. c.loop-number.out.items ++ text) so.text)
    ∙ ap (λ number. c.args.out.now.items ++ spec.redatings first number) (omega arith)
