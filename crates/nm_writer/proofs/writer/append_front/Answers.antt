use Rattle.std.proofs.lemmas.Result.{on_ok_weaker}
use Rattle.nm_writer.proofs.Documents.{front_written}
use Rattle.nm_writer.proofs.writer.append_front.Goals as goal

pub returns : goal.returns
returns c =
    on_ok_weaker c.append_all-2.result
    (front_written c.args.declared.now c.args.prefixes.now c.args.out.now.items c.append_all.new.out.items c.append_declarations.new.out.items
    c.append_all-2.new.out.items c.in_ok-append_all.ensures c.in_ok-append_declarations.ensures)
    c.append_all-2.ensures
