use Rattle.std.proofs.Common.{◌≡◌, ◌++◌, take}
use Rattle.std.specs.List.{flat_map}
use Rattle.nm_writer.specs.Canonical.{value_line}
use Rattle.nm_writer.proofs.header.append_texts.Given as goal

abbrev pub invariant-loop-text : goal.invariant-loop-text
invariant-loop-text l = l.out.items ≡ l.initial.out.items ++ flat_map (value_line l.tag) (take l.text-index l.text-items)
