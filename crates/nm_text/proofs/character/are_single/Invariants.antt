use Rattle.std.proofs.Common.{◌≡◌, take}
use Rattle.std.specs.List.{list_all}
use Rattle.nm_text.specs.Utf8.{is_single}
use Rattle.nm_text.proofs.character.are_single.Given as goal

abbrev pub invariant-loop-byte : goal.invariant-loop-byte
invariant-loop-byte l = l.all ≡ list_all is_single (take l.byte-index l.bytes)
