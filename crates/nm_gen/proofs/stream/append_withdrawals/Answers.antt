use Rattle.std.proofs.Common.{◌∙◌, ◌++◌, ap, arith}
use Rattle.nm_gen.proofs.Parts.{appended}
use Rattle.nm_gen.specs.Stream as spec
use Rattle.nm_gen.proofs.stream.append_withdrawals.Goals as goal

pub loop-number-preserved : goal.loop-number-preserved
loop-number-preserved c =
    appended spec.withdrawal c.args.out.now.items c.loop-number.out.items c.append_withdrawal.new.out.items c.loop-number.number (omega arith) c.loop-number.invariant c.in_ok-append_withdrawal.ensures

pub returns : goal.returns
returns c = c.loop-number.invariant ∙ ap (λ number. c.args.out.now.items ++ spec.withdrawals number) (omega arith)

pub returns-in_ok-append_withdrawal : goal.returns-in_ok-append_withdrawal
returns-in_ok-append_withdrawal c =
    appended spec.withdrawal c.args.out.now.items c.loop-number.out.items c.append_withdrawal.new.out.items c.loop-number.number (omega arith) c.loop-number.invariant c.in_ok-append_withdrawal.ensures
    ∙ ap (λ number. c.args.out.now.items ++ spec.withdrawals number) (omega arith)
