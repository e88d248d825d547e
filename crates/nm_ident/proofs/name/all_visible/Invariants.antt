use Rattle.std.proofs.Common.{◌≡◌, take}
use Rattle.std.specs.List.{list_all}
use Rattle.nm_terms.specs.Bytes.{is_visible}
use Rattle.nm_ident.proofs.name.all_visible.Given as goal

abbrev pub invariant-loop-byte : goal.invariant-loop-byte
invariant-loop-byte l = l.all ≡ list_all is_visible (take l.byte-index l.bytes)
