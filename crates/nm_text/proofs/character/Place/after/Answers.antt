use Rattle.std.proofs.Common.{◌∙◌, ap}
use Rattle.nm_text.specs.Utf8.{place_after}
use Rattle.nm_text.proofs.Places.{place_of_parts}
use Rattle.nm_text.proofs.character.Place.after.Goals as goal

pub loop-rest-preserved : goal.loop-rest-preserved
loop-rest-preserved c =
    ap (place_after c.after_chunk-place.result) c.split_at.ensures.back
    ∙ place_of_parts c.loop-rest.place c.after_chunk-place.result c.loop-rest.rest.now c.min.result
    (c.after_chunk-place.ensures ∙ ap (place_after c.loop-rest.place) c.split_at.ensures.front)
    ∙ c.loop-rest.invariant
