-- Worked examples of timelines, computed.
use Rattle.std.proofs.Common.{◌≡◌, [], ◌∷◌, codes, true, false, None, Some, refl}
use Rattle.nm_day.proofs.OnLiterals.{days_on_literals}
use Rattle.nm_day.specs.declared.key.Key.{Key}
use Rattle.nm_timeline.specs.Timeline.{PlainTimeline, edited_of, first_break_of, has_key, present_at}
use Rattle.nm_timeline.specs.declared.mark.Mark.{Mark}
use Rattle.nm_timeline.specs.declared.part.Part.TheVariants.{Precondition, Reverse, Forward}

abbrev in_april : Key
in_april = record { day = codes "2027-04-01"; filing = 1; stage = 0 }

abbrev in_may : Key
in_may = record { day = codes "2027-05-01"; filing = 3; stage = 0 }

abbrev in_june : Key
in_june = record { day = codes "2027-06-01"; filing = 2; stage = 0 }

abbrev needed : Mark
needed = record { pre = true; rev = false; fwd = false }

abbrev taken : Mark
taken = record { pre = false; rev = true; fwd = false }

abbrev added : Mark
added = record { pre = false; rev = false; fwd = true }

-- a statement of the base that is taken away in April, and added again in June
abbrev away : PlainTimeline
away = record { base = true; entries = (in_april, taken) ∷ (in_june, added) ∷ [] }

the_day_before : present_at away (codes "2027-03-31") ≡ true
unfolding days_on_literals
the_day_before = refl

the_day_itself : present_at away (codes "2027-04-01") ≡ false
unfolding days_on_literals
the_day_itself = refl

again : present_at away (codes "2027-12-31") ≡ true
unfolding days_on_literals
again = refl

fits : first_break_of away ≡ None
fits = refl

not_in_the_base : first_break_of (record away { base = false }) ≡ Some (in_april, Reverse)
not_in_the_base = refl

-- the first entry, though it breaks in a later part than the second
first_entry : first_break_of (record { base = true; entries = (in_april, added) ∷ (in_may, taken) ∷ (in_june, needed) ∷ [] }) ≡ Some (in_april, Forward)
first_entry = refl

needed_too_late : first_break_of (record { base = true; entries = (in_april, taken) ∷ (in_may, needed) ∷ [] }) ≡ Some (in_may, Precondition)
needed_too_late = refl

put_between : edited_of away [] ((in_may, needed) ∷ []) ≡ record { base = true; entries = (in_april, taken) ∷ (in_may, needed) ∷ (in_june, added) ∷ [] }
unfolding days_on_literals
put_between = refl

moved : edited_of away (in_april ∷ []) ((record in_april { day = codes "2027-09-01" }, taken) ∷ [])
    ≡ record { base = true; entries = (in_june, added) ∷ (record in_april { day = codes "2027-09-01" }, taken) ∷ [] }
unfolding days_on_literals
moved = refl

has_one : has_key (in_april ∷ in_june ∷ []) in_june ≡ true
unfolding days_on_literals
has_one = refl
