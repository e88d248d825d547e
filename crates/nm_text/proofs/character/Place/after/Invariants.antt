use Rattle.std.proofs.Common.{◌≡◌, length}
use Rattle.nm_text.specs.Utf8.{place_after}
use Rattle.nm_text.proofs.character.Place.after.Given as goal

abbrev pub invariant-loop-rest : goal.invariant-loop-rest
invariant-loop-rest l = place_after l.place l.rest ≡ place_after l.initial.place l.bytes

abbrev pub decreases-loop-rest : goal.decreases-loop-rest
decreases-loop-rest l = length l.rest
