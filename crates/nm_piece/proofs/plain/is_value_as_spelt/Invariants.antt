use Rattle.std.proofs.Common.{◌≡◌, take}
use Rattle.std.specs.List.{list_all}
use Rattle.nm_piece.specs.Meant.{stands_for_itself}
use Rattle.nm_piece.proofs.plain.is_value_as_spelt.Given as goal

abbrev pub invariant-loop-byte : goal.invariant-loop-byte
invariant-loop-byte l = l.all ≡ list_all stands_for_itself (take l.byte-index l.spelling)
