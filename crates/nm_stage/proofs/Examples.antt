-- Worked examples of steps and of dependencies, computed.
use Rattle.std.proofs.Common.{◌≡◌, ℕ, List, [], ◌∷◌, codes, map, true, false, None, Some, refl}
use Rattle.nm_day.proofs.OnLiterals.{days_on_literals}
use Rattle.nm_stage.specs.Dependencies.{missing_of}
use Rattle.nm_stage.specs.Live.{holds, project_of, with_project, without_filing}
use Rattle.nm_stage.specs.Project.{PlainProject, PlainStep}
use Rattle.nm_stage.specs.Steps.{steps_of}

abbrev filed : ℕ → List ℕ → List ℕ → List ℕ → PlainProject
filed filing lineage day dependencies = record {
  filing = filing;
  lineage = lineage;
  day = day;
  dependencies = dependencies;
  change = record { pre = []; rev = []; fwd = [] };
}

-- the second was revised, and is in service first
abbrev first : PlainProject
first = filed 1 (10 ∷ []) (codes "2027-06-01") (20 ∷ [])

abbrev second : PlainProject
second = filed 2 (20 ∷ 21 ∷ []) (codes "2027-04-01") (5 ∷ [])

abbrev third : PlainProject
third = filed 3 (30 ∷ []) (codes "2027-06-01") (40 ∷ 10 ∷ 7 ∷ [])

abbrev live : List PlainProject
live = first ∷ second ∷ third ∷ []

models : map (λ (step : PlainStep). step.model) (steps_of live) ≡ 21 ∷ 10 ∷ 30 ∷ []
unfolding days_on_literals
models = refl

-- the least of two that are not met
least_missing : missing_of (5 ∷ []) live ≡ Some (record { day = codes "2027-06-01"; filing = 3; stage = 0 }, 7)
unfolding days_on_literals
least_missing = refl

none_missing : missing_of (5 ∷ 7 ∷ 40 ∷ []) live ≡ None
unfolding days_on_literals
none_missing = refl

-- a step of the same day that was filed later meets no dependency
filed_too_late : missing_of [] (filed 1 (10 ∷ []) (codes "2027-06-01") (20 ∷ []) ∷ filed 2 (20 ∷ []) (codes "2027-06-01") [] ∷ [])
    ≡ Some (record { day = codes "2027-06-01"; filing = 1; stage = 0 }, 20)
unfolding days_on_literals
filed_too_late = refl

found_by_first_id : project_of 20 live ≡ Some second
found_by_first_id = refl

not_found_by_current_id : project_of 21 live ≡ None
not_found_by_current_id = refl

held : holds live 21 ≡ true
held = refl

not_held : holds live 22 ≡ false
not_held = refl

withdrawn : without_filing 2 live ≡ first ∷ third ∷ []
withdrawn = refl

put_at_its_place : with_project second (first ∷ third ∷ []) ≡ live
put_at_its_place = refl

put_in_place : map (λ (one : PlainProject). one.filing) (with_project (filed 3 (30 ∷ []) (codes "2027-09-01") []) live) ≡ 1 ∷ 2 ∷ 3 ∷ []
put_in_place = refl
