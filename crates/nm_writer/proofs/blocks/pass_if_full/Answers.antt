use Rattle.std.proofs.Common.{subst}
use Rattle.nm_base.specs.Written.{AppendsFront}
use Rattle.nm_writer.specs.Passing.{LeavesSome}
use Rattle.nm_writer.proofs.Passing.{on_err, some_given}
use Rattle.nm_writer.proofs.blocks.pass_if_full.Goals as goal

pub returns-in_err-write_whole-clause-front : goal.returns-in_err-write_whole-clause-front
returns-in_err-write_whole-clause-front g c =
    let old = g.K.Sink.written c.args.sink.now in
    let new = g.K.Sink.written c.write_whole.new.sink in
    on_err c.from_residual.result (LeavesSome old new c.args.block.now.items)
    (some_given old new c.args.block.now.items (subst (AppendsFront old new) c.deref.ensures.value c.in_err-write_whole.ensures.front))
