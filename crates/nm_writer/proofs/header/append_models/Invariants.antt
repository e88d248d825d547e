use Rattle.std.proofs.Common.{◌≡◌, ◌++◌, take}
use Rattle.std.specs.List.{flat_map}
use Rattle.nm_writer.specs.Canonical.{model_line}
use Rattle.nm_writer.proofs.header.append_models.Given as goal

abbrev pub invariant-loop-id : goal.invariant-loop-id
invariant-loop-id l = l.out.items ≡ l.initial.out.items ++ flat_map (model_line l.tag) (take l.id-index l.id-items)
