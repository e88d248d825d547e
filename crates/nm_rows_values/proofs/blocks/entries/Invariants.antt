use Rattle.std.proofs.Common.{◌+◌, ◌*◌, ◌<◌}
use Rattle.std.specs.List.{AllByRecursion}
use Rattle.std.specs.Ordering.{nat_cmp}
use Rattle.nm_blocks.specs.Items.{IsRising}
use Rattle.nm_rows_values.specs.declared.blocks.Entry.{Entry}
use Rattle.nm_rows_values.proofs.blocks.entries.Given as goal

abbrev pub invariant-loop-place : goal.invariant-loop-place
invariant-loop-place l = IsRising {T = Entry} (λ e. e.key) nat_cmp l.made.items × AllByRecursion (λ (e : Entry). e.key < l.first + 2 * l.place) l.made.items
