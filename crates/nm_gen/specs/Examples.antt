-- Worked examples of the definitions, computed.
use Rattle.std.specs.Prelude.{◌≡◌, codes, refl}
use Rattle.nm_gen.specs.Draws.{drawn, next_state}
use Rattle.nm_gen.specs.Stream.{ending}

first_state : next_state 0 ≡ 1442695040888963407
first_state = refl

first_draw : drawn 3650 (next_state 0) ≡ 707
first_draw = refl

last_lines : ending ≡ codes "summary 2031-12-31\nsummary 2036-12-31\nend\n"
last_lines = refl
