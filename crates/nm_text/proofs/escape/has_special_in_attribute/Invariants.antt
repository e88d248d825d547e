use Rattle.std.proofs.Common.{◌≡◌, take}
use Rattle.std.specs.Bool.{OnFalse}
use Rattle.nm_text.specs.Escape.{attribute_spelling}
use Rattle.nm_text.proofs.escape.has_special_in_attribute.Given as goal

abbrev pub invariant-loop-byte : goal.invariant-loop-byte
invariant-loop-byte l = OnFalse l.any (attribute_spelling (take l.byte-index l.bytes) ≡ take l.byte-index l.bytes)
