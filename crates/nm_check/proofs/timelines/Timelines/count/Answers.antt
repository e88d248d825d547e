use Rattle.std.proofs.Common.{◌∙◌}
use Rattle.nm_tree.specs.Span.{values_of}
use Rattle.nm_check.proofs.Told.{count_told}
use Rattle.nm_check.proofs.timelines.Timelines.count.Goals as goal

pub returns : goal.returns
returns c = count_told c.count_present.result (values_of c.as_slice.result.now) c.args.self.now c.args.day c.count_present.ensures (c.as_slice.ensures ∙ c.in_ok-lines.ensures)
