-- Worked examples of breaks by dependencies and statements apart, and of steps that commands edit, computed.
use Rattle.std.proofs.Common.{◌≡◌, ℕ, List, [], ◌∷◌, codes, None, Some, refl}
use Rattle.nm_check.specs.Breaks.{break_at}
use Rattle.nm_check.specs.declared.breaks.Break.{Break}
use Rattle.nm_day.proofs.OnLiterals.{days_on_literals}
use Rattle.nm_day.specs.declared.key.Key.{Key}
use Rattle.nm_ident.specs.declared.ident.Ident.TheVariants.{Local}
use Rattle.nm_model.specs.declared.document.Difference.{Difference}
use Rattle.nm_model.specs.declared.document.Document.TheVariants as document
use Rattle.nm_stage.specs.Project.{PlainProject, step_of}
use Rattle.nm_statement.specs.declared.object.Object.TheVariants.{Literal}
use Rattle.nm_statement.specs.declared.statement.Statement.{Statement}
use Rattle.nm_timeline.specs.declared.part.Part.TheVariants as part
use Rattle.nm_version.specs.Changed.{project_redated}
use Rattle.nm_version.specs.Edits.{added_by, taken_by}
use Rattle.nm_version.specs.Kept.{Kept}
use Rattle.nm_version.specs.Lesser.{lesser_cause, refusal_by}
use Rattle.nm_version.specs.declared.command.Command.TheVariants.{File, Redate, Withdraw}
use Rattle.nm_version.specs.declared.refusal.Cause.TheVariants.{Dependency, Reverse}
use Rattle.nm_version.specs.declared.refusal.Refusal.TheVariants as refusal

abbrev north : Statement
north = record {
  subject = Local (codes "a");
  predicate = record { ns = codes "http://iec.ch/#"; local = codes "name" };
  object = Literal (codes "North");
}

abbrev april : List ℕ
april = codes "2027-04-01"

abbrev may : List ℕ
may = codes "2027-05-01"

abbrev key : List ℕ → ℕ → Key
key day filing = record { day = day; filing = filing; stage = 0 }

abbrev gone : Key → Break
gone at = break_at at part.Reverse north

-- at one key it is the dependency
dependency_at_its_key : lesser_cause (Some (key april 2, 7)) (Some (gone (key april 2))) ≡ Some (key april 2, Dependency 7)
unfolding days_on_literals
dependency_at_its_key = refl

-- a statement of an earlier day comes before it
statement_of_an_earlier_day : lesser_cause (Some (key may 1, 7)) (Some (gone (key april 2))) ≡ Some (key april 2, Reverse north)
unfolding days_on_literals
statement_of_an_earlier_day = refl

-- .. and one of an earlier filing on the same day
statement_of_an_earlier_filing : lesser_cause (Some (key april 2, 7)) (Some (gone (key april 1))) ≡ Some (key april 1, Reverse north)
unfolding days_on_literals
statement_of_an_earlier_filing = refl

nothing_breaks : lesser_cause None None ≡ None
nothing_breaks = refl

-- ---- two projects, the second of which was revised

abbrev project : ℕ → List ℕ → PlainProject
project filing lineage = record {
  filing = filing;
  lineage = lineage;
  day = april;
  dependencies = [];
  change = record { pre = []; rev = []; fwd = [] };
}

abbrev live : List PlainProject
live = project 1 (11 ∷ []) ∷ project 2 (12 ∷ 22 ∷ []) ∷ []

-- the refusal names the current model
named_by_its_current_model : refusal_by live (Some (key april 2, Dependency 7)) ≡ Some (refusal.Step april 22 (Dependency 7))
named_by_its_current_model = refl

-- ---- what commands take away and add

module _ (kept : Kept) where
  abbrev stands : Kept
  stands = record kept { live = live }

  withdrawn : taken_by stands (Withdraw 12) ≡ step_of (project 2 (12 ∷ 22 ∷ [])) ∷ []
  withdrawn = refl

  nothing_added : added_by stands (Withdraw 12) ≡ []
  nothing_added = refl

  -- another day takes the step away and adds it at its new key
  redated : added_by stands (Redate 12 may) ≡ step_of (project_redated may (project 2 (12 ∷ 22 ∷ []))) ∷ []
  redated = refl

  -- a project is named by the model that filed it, so that no step goes for its current one
  by_the_first_model : taken_by stands (Withdraw 22) ≡ []
  by_the_first_model = refl

  -- a filing takes nothing away
  filed : (difference : Difference) → taken_by stands (File may (document.Difference difference) (codes "document")) ≡ []
  filed difference = refl
