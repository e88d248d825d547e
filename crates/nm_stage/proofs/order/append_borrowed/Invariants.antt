use Rattle.std.proofs.Common.{◌≡◌, ◌++◌, take, map}
use Rattle.nm_stage.proofs.order.append_borrowed.Given as goal

abbrev pub invariant-loop-filed : goal.invariant-loop-filed
invariant-loop-filed l = map (λ one. one.now) l.projects.items ≡ map (λ one. one.now) l.initial.projects.items ++ take l.filed-index l.block
