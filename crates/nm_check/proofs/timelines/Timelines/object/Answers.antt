use Rattle.std.proofs.Common.{◌∙◌}
use Rattle.nm_tree.specs.Span.{values_of}
use Rattle.nm_check.proofs.Told.{object_due}
use Rattle.nm_check.proofs.timelines.Timelines.object.Goals as goal

pub returns : goal.returns
returns c = object_due c.set_of_present.result (values_of c.as_slice.result.now) c.args.self.now c.args.day c.args.subject.now c.set_of_present.ensures (c.as_slice.ensures ∙ c.in_ok-lines.ensures)
