use Rattle.std.proofs.Common.{◌≡◌, take}
use Rattle.std.specs.List.{list_all}
use Rattle.nm_ident.specs.Name.{continues_name}
use Rattle.nm_ident.proofs.name.all_in_name.Given as goal

abbrev pub invariant-loop-byte : goal.invariant-loop-byte
invariant-loop-byte l = l.all ≡ list_all continues_name (take l.byte-index l.bytes)
