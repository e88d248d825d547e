use Rattle.std.proofs.Common.{◌≡◌, take}
use Rattle.nm_text.specs.Utf8.{place_after}
use Rattle.nm_text.proofs.character.Place.after_each.Given as goal

abbrev pub invariant-loop-byte : goal.invariant-loop-byte
invariant-loop-byte l = l.place ≡ place_after l.initial.place (take l.byte-index l.bytes)
