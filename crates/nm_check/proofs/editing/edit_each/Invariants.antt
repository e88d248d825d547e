use Rattle.std.proofs.Common.{◌≡◌, ◌+◌, ◌*◌, ◌≤◌, length}
use Rattle.nm_check.proofs.Ticks.{unit_of}
use Rattle.nm_check.specs.Touched.{edited_from, least_from}
use Rattle.nm_tree.specs.Span.{values_of}
use Rattle.nm_check.proofs.editing.edit_each.Given as goal

-- what is due of the statements that are left, over what is there so far, is what is due of all
abbrev pub invariant-statements : goal.invariant-statements
invariant-statements g l =
    let left = values_of l.touched.items in
    let all = values_of l.fn.touched.items in
    record {
      tree : edited_from l.remove l.add l.old l.edited.tree left ≡ edited_from l.remove l.add l.old l.fn.edited.tree all;
      least : least_from l.remove l.add l.old l.edited.least left ≡ least_from l.remove l.add l.old l.fn.edited.least all;
      few : length l.edited.tree + length left ≤ length l.old + length all;
      steps : l.steps + length left * unit_of (length l.old + length all) ≤ l.fn.steps + length all * unit_of (length l.old + length all);
    }

abbrev pub decreases-statements : goal.decreases-statements
decreases-statements g l = length l.touched.items
