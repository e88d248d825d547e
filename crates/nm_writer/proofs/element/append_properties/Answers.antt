use Rattle.nm_writer.specs.Canonical.{property_line}
use Rattle.nm_writer.proofs.Elements.{lines_step}
use Rattle.nm_writer.proofs.element.append_properties.Goals as goal

pub loop-statement-preserved : goal.loop-statement-preserved
loop-statement-preserved c =
    lines_step (property_line c.args.prefixes.now) c.args.statements.now c.loop-statement.statement-index c.statement-item.result
    c.args.out.now.items c.loop-statement.out.items c.append_property.new.out.items c.loop-statement-test.true c.statement-item.is c.loop-statement.invariant
    c.in_ok-append_property.ensures
