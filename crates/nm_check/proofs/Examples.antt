-- Worked examples of the definitions, computed.
use Rattle.std.proofs.Common.{◌≡◌, ℕ, List, [], ◌∷◌, codes, true, false, None, Some, Ok, Err, refl}
use Rattle.nm_check.specs.Breaks.{break_at, first_statement_break, least_break, statement_breaks}
use Rattle.nm_check.specs.Edit.{edited_steps, keys_naming}
use Rattle.nm_check.specs.Kept.{due_after}
use Rattle.nm_check.specs.Replay.{statements_at}
use Rattle.nm_check.specs.Subject.{lines_of}
use Rattle.nm_check.specs.Timelines.{first_breaks_of, is_named_in, named_by, present_of, timeline_of, timelines_of}
use Rattle.nm_check.specs.Touched.{blank, edited_from, least_from, least_with, named_count, timeline_at, touched_by, with_timeline}
use Rattle.nm_check.specs.declared.breaks.EditError.TheVariants as edit_error
use Rattle.nm_day.proofs.OnLiterals.{days_on_literals}
use Rattle.nm_ident.specs.declared.ident.Ident.TheVariants.{Local}
use Rattle.nm_stage.specs.Project.{PlainStep}
use Rattle.nm_statement.specs.declared.object.Object.TheVariants.{Literal}
use Rattle.nm_statement.specs.declared.statement.Statement.{Statement}
use Rattle.nm_timeline.specs.declared.part.Part.TheVariants.{Precondition, Reverse, Forward}

-- ---- a substation that is named North, then North 2, and a step that rests on the second name

abbrev named : List ℕ → Statement
named name = record {
  subject = Local (codes "s");
  predicate = record { ns = codes "http://iec.ch/#"; local = codes "name" };
  object = Literal name;
}

abbrev north : Statement
north = named (codes "North")

abbrev second : Statement
second = named (codes "North 2")

abbrev base : List Statement
base = north ∷ []

abbrev step : List ℕ → ℕ → List Statement → List Statement → List Statement → PlainStep
step day filing pre rev fwd = record {
  key = record { day = day; filing = filing; stage = 0 };
  model = filing;
  dependencies = [];
  change = record { pre = pre; rev = rev; fwd = fwd };
}

abbrev renames : PlainStep
renames = step (codes "2027-04-01") 1 [] (north ∷ []) (second ∷ [])

abbrev rests : PlainStep
rests = step (codes "2027-05-01") 2 (second ∷ []) [] []

abbrev steps : List PlainStep
steps = renames ∷ rests ∷ []

before_it : statements_at base steps (codes "2027-03-31") ≡ north ∷ []
unfolding days_on_literals
before_it = refl

on_the_day : statements_at base steps (codes "2027-04-01") ≡ second ∷ []
unfolding days_on_literals
on_the_day = refl

all_fits : statement_breaks base steps ≡ []
all_fits = refl

both_named : named_by base steps ≡ north ∷ second ∷ []
both_named = refl

second_timeline : timeline_of base steps second
    ≡ record { base = false; entries = (renames.key, record { pre = false; rev = false; fwd = true }) ∷ (rests.key, record { pre = true; rev = false; fwd = false }) ∷ [] }
second_timeline = refl

present_on_the_day : present_of (timelines_of base steps) (codes "2027-04-01") ≡ second ∷ []
unfolding days_on_literals
present_on_the_day = refl

not_named : is_named_in (rests ∷ []) north ≡ false
not_named = refl

keys : keys_naming steps second ≡ renames.key ∷ rests.key ∷ []
keys = refl

-- ---- what does not fit

-- without the first, the second lacks its precondition
withdrawn : edited_steps (renames ∷ []) [] steps ≡ rests ∷ []
unfolding days_on_literals
withdrawn = refl

lacks : first_statement_break base (rests ∷ []) ≡ Some (break_at rests.key Precondition second)
lacks = refl

lacks_by_timelines : least_break (first_breaks_of (timelines_of base (rests ∷ []))) ≡ Some (break_at rests.key Precondition second)
lacks_by_timelines = refl

-- moved behind the second it stands behind it
abbrev later : PlainStep
later = step (codes "2027-06-01") 1 [] (north ∷ []) (second ∷ [])

redated : edited_steps (renames ∷ []) (later ∷ []) steps ≡ rests ∷ later ∷ []
unfolding days_on_literals
redated = refl

-- the first step counts, though the second breaks in an earlier part and of an earlier statement
first_step : first_statement_break base (step (codes "2027-04-01") 1 [] [] (north ∷ []) ∷ step (codes "2027-05-01") 2 (named (codes "A") ∷ []) [] [] ∷ [])
    ≡ Some (break_at (record { day = codes "2027-04-01"; filing = 1; stage = 0 }) Forward north)
first_step = refl

first_step_by_timelines : least_break (first_breaks_of (timelines_of base (step (codes "2027-04-01") 1 [] [] (north ∷ []) ∷ step (codes "2027-05-01") 2 (named (codes "A") ∷ []) [] [] ∷ [])))
    ≡ Some (break_at (record { day = codes "2027-04-01"; filing = 1; stage = 0 }) Forward north)
unfolding days_on_literals
first_step_by_timelines = refl

-- a reverse statement that is absent comes before a forward one that is there
absent_and_there : statement_breaks base (step (codes "2027-04-01") 1 [] (second ∷ []) (second ∷ north ∷ []) ∷ [])
    ≡ break_at renames.key Reverse second ∷ break_at renames.key Forward north ∷ []
absent_and_there = refl

-- ---- what an edit touches

both_touched : touched_by (renames ∷ []) (rests ∷ []) ≡ north ∷ second ∷ []
both_touched = refl

-- each step counts the statements that it names, and each of these once
named_by_each : named_count (renames ∷ rests ∷ []) ≡ 3
named_by_each = refl

named_twice : named_count (step (codes "2027-04-01") 1 (north ∷ []) (north ∷ []) [] ∷ []) ≡ 1
named_twice = refl

not_there : timeline_at (timelines_of base []) second ≡ blank
not_there = refl

-- a statement that nothing names is not kept
taken_out : with_timeline second blank (timelines_of base steps) ≡ (north, timeline_of base steps north) ∷ []
taken_out = refl

edited_in_turn : edited_from (renames ∷ []) [] (timelines_of base (renames ∷ [])) (timelines_of base (renames ∷ [])) (north ∷ second ∷ []) ≡ timelines_of base []
unfolding days_on_literals
edited_in_turn = refl

least_in_turn : least_from (renames ∷ []) [] (timelines_of base steps) None (north ∷ second ∷ []) ≡ Some (break_at rests.key Precondition second)
unfolding days_on_literals
least_in_turn = refl

earlier_stays : least_with second (Some (rests.key, Precondition)) (Some (break_at renames.key Forward north)) ≡ Some (break_at renames.key Forward north)
unfolding days_on_literals
earlier_stays = refl

-- without the first step the second lacks its precondition, and without the second all fits
break_due : due_after base (renames ∷ []) [] steps ≡ Err (edit_error.Break (break_at rests.key Precondition second))
unfolding days_on_literals
break_due = refl

timelines_due : due_after base (rests ∷ []) [] steps ≡ Ok (timelines_of base (renames ∷ []))
unfolding days_on_literals
timelines_due = refl

-- ---- a subject

of_the_substation : lines_of (Local (codes "s")) (timelines_of base []) ≡ timelines_of base []
of_the_substation = refl

of_another : lines_of (Local (codes "t")) (timelines_of base []) ≡ []
of_another = refl
