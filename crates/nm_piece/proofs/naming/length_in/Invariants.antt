use Rattle.std.proofs.Common.{◌≡◌, take, true}
use Rattle.std.specs.List.{list_all}
use Rattle.nm_ident.specs.Name.{continues_name}
use Rattle.nm_piece.proofs.naming.length_in.Given as goal

abbrev pub invariant-loop-place : goal.invariant-loop-place
invariant-loop-place l = list_all continues_name (take l.place l.bytes) ≡ true
