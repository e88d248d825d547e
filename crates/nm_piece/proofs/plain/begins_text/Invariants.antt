use Rattle.std.proofs.Common.{◌≡◌, drop}
use Rattle.nm_text.specs.Utf8.{place_after}
use Rattle.nm_text.specs.declared.character.Place.TheVariants.{Between}
use Rattle.nm_piece.proofs.plain.begins_text.Given as goal

abbrev pub invariant-loop-byte : goal.invariant-loop-byte
invariant-loop-byte l = place_after Between l.bytes ≡ place_after l.place (drop l.byte-index l.bytes)
