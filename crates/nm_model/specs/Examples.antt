-- Worked examples of the definitions, computed.
use Rattle.std.specs.Prelude.{◌≡◌, [], ◌∷◌, true, false, refl}
use Rattle.nm_model.specs.Header.{rising_ids}
use Rattle.nm_model.specs.Sound.{are_sound_ids}

each_once_in_order : rising_ids (3 ∷ 1 ∷ 3 ∷ 2 ∷ []) ≡ 1 ∷ 2 ∷ 3 ∷ []
each_once_in_order = refl

none_of_none : rising_ids [] ≡ []
none_of_none = refl

equal_ids_do_not_rise : are_sound_ids 64 (1 ∷ 1 ∷ []) ≡ false
equal_ids_do_not_rise = refl

one_too_many : are_sound_ids 1 (1 ∷ 2 ∷ []) ≡ false
one_too_many = refl

as_many_as_are_allowed : are_sound_ids 2 (1 ∷ 2 ∷ []) ≡ true
as_many_as_are_allowed = refl
