use Rattle.std.proofs.Common.{◌≡◌, take}
use Rattle.std.specs.List.{list_any}
use Rattle.nm_text.specs.Meaning.{is_other_white}
use Rattle.nm_text.proofs.meaning.has_other_white.Given as goal

abbrev pub invariant-loop-byte : goal.invariant-loop-byte
invariant-loop-byte l = l.any ≡ list_any is_other_white (take l.byte-index l.bytes)
