-- Worked examples of the definitions, computed.
use Rattle.std.specs.Prelude.{◌≡◌, Bool, true, false, None, Some, refl}
use Rattle.std.specs.declared.cmp.Ordering.TheVariants.{Less, Equal, Greater}
use Rattle.nm_timeline.specs.Part.{is_same_part, part_cmp}
use Rattle.nm_timeline.specs.Timeline.{marked, part_break}
use Rattle.nm_timeline.specs.declared.mark.Mark.{Mark}
use Rattle.nm_timeline.specs.declared.part.Part.TheVariants.{Precondition, Reverse, Forward}

-- ---- parts

precondition_first : part_cmp Precondition Reverse ≡ Less
precondition_first = refl

forward_last : part_cmp Forward Reverse ≡ Greater
forward_last = refl

level_with_itself : part_cmp Forward Forward ≡ Equal
level_with_itself = refl

other_part : is_same_part Precondition Reverse ≡ false
other_part = refl

-- ---- one mark

abbrev named_in : Bool → Bool → Bool → Mark
named_in pre rev fwd = record { pre = pre; rev = rev; fwd = fwd }

stays : marked true (named_in true false false) ≡ true
stays = refl

goes : marked true (named_in false true false) ≡ false
goes = refl

comes : marked false (named_in false false true) ≡ true
comes = refl

-- what is taken away and added in one step is there after it
both : marked true (named_in false true true) ≡ true
both = refl

fits : part_break true (named_in true true false) ≡ None
fits = refl

lacks_precondition : part_break false (named_in true true true) ≡ Some Precondition
lacks_precondition = refl

lacks_reverse : part_break false (named_in false true true) ≡ Some Reverse
lacks_reverse = refl

has_forward : part_break true (named_in true true true) ≡ Some Forward
has_forward = refl
