use Rattle.std.proofs.Common.{◌∙◌, ◌++◌, sym, ap, arith}
use Rattle.std.proofs.lemmas.List.{append-nil}
use Rattle.nm_gen.proofs.Parts.{appended, drawn_once, no_draws}
use Rattle.nm_gen.specs.Days.{drawn_day}
use Rattle.nm_gen.specs.Draws.{state_after}
use Rattle.nm_gen.specs.Stream as spec
use Rattle.nm_gen.proofs.stream.append_filings.Goals as goal

pub loop-number-init : goal.loop-number-init
loop-number-init c = record { text = sym (append-nil c.args.out.now.items); state = sym (no_draws c.args.draws.now.state) }

pub loop-number-preserved : goal.loop-number-preserved
loop-number-preserved c =
    let first = c.args.draws.now.state in
    let number = c.loop-number.number in
    let drawn = drawn_once first c.loop-number.draws.state c.append_filing.new.draws.state number (omega arith) c.loop-number.invariant.state c.append_filing.ensures.drawn in
    record {
      text = appended (spec.filing first) c.args.out.now.items c.loop-number.out.items c.append_filing.new.out.items number (omega arith) c.loop-number.invariant.text
          (c.in_ok-append_filing.ensures.filed ∙ ap (λ state. c.loop-number.out.items ++ spec.filing_to (drawn_day state) number) (sym c.append_filing.ensures.drawn ∙ drawn));
      state = drawn ∙ ap (state_after first) (omega arith);
    }

pub returns-clause-filed : goal.returns-clause-filed
returns-clause-filed c = c.loop-number.invariant.text ∙ ap (λ number. c.args.out.now.items ++ spec.filings c.args.draws.now.state number) (omega arith)

pub returns-clause-drawn : goal.returns-clause-drawn
returns-clause-drawn c = c.loop-number.invariant.state ∙ ap (state_after c.args.draws.now.state) (omega arith)

pub returns-in_ok-append_filing-clause-filed : goal.returns-in_ok-append_filing-clause-filed
returns-in_ok-append_filing-clause-filed c =
    let first = c.args.draws.now.state in
    let number = c.loop-number.number in
    let drawn = drawn_once first c.loop-number.draws.state c.append_filing.new.draws.state number (omega arith) c.loop-number.invariant.state c.append_filing.ensures.drawn in
    appended (spec.filing first) c.args.out.now.items c.loop-number.out.items c.append_filing.new.out.items number (omega arith) c.loop-number.invariant.text
    (c.in_ok-append_filing.ensures.filed ∙ ap (λ state. c.loop-number.out.items ++ spec.filing_to (drawn_day state) number) (sym c.append_filing.ensures.drawn ∙ drawn))
    ∙ ap (λ number. c.args.out.now.items ++ spec.filings first number) (omega arith)

pub returns-in_ok-append_filing-clause-drawn : goal.returns-in_ok-append_filing-clause-drawn
returns-in_ok-append_filing-clause-drawn c =
    drawn_once c.args.draws.now.state c.loop-number.draws.state c.append_filing.new.draws.state c.loop-number.number (omega arith) c.loop-number.invariant.state c.append_filing.ensures.drawn
    ∙ ap (state_after c.args.draws.now.state) (omega arith)
