-- Worked examples of commands, their refusals and what is kept, computed.
use Rattle.std.proofs.Common.{◌≡◌, ℕ, List, [], ◌∷◌, codes, map, None, Some, refl}
use Rattle.nm_day.proofs.OnLiterals.{days_on_literals}
use Rattle.nm_ident.specs.declared.ident.Ident.TheVariants.{Local}
use Rattle.nm_model.specs.declared.document.Document.{Document}
use Rattle.nm_model.specs.declared.document.Document.TheVariants as document
use Rattle.nm_model.specs.declared.header.Header.{Header}
use Rattle.nm_stage.specs.Project.{PlainProject}
use Rattle.nm_statement.specs.declared.object.Object.TheVariants.{Literal}
use Rattle.nm_statement.specs.declared.set.Change.{Change}
use Rattle.nm_statement.specs.declared.statement.Statement.{Statement}
use Rattle.nm_version.specs.After.{after, after_all}
use Rattle.nm_version.specs.Kept.{Kept, number_of, opened, size_of}
use Rattle.nm_version.specs.Projects.{rows_of}
use Rattle.nm_version.specs.Refusal.{early_refusal, refusal_of}
use Rattle.nm_version.specs.Replay.{first_break, statement_causes, statements_at}
use Rattle.nm_version.specs.Withdrawal.{others_than}
use Rattle.nm_version.specs.declared.command.Command.{Command}
use Rattle.nm_version.specs.declared.command.Command.TheVariants.{File, Revise, Redate, Withdraw}
use Rattle.nm_version.specs.declared.command.Entry.TheVariants as entry
use Rattle.nm_version.specs.declared.refusal.Cause.TheVariants.{Dependency, Precondition, Reverse, Forward}
use Rattle.nm_version.specs.declared.refusal.Refusal.TheVariants as refusal

abbrev name : List ℕ → Statement
name text = record {
  subject = Local (codes "a");
  predicate = record { ns = codes "http://iec.ch/#"; local = codes "name" };
  object = Literal text;
}

abbrev north : Statement
north = name (codes "North")

abbrev south : Statement
south = name (codes "South")

abbrev west : Statement
west = name (codes "West")

abbrev renames : Statement → Statement → Change
renames from to = record { pre = []; rev = from ∷ []; fwd = to ∷ [] }

abbrev nothing : Change
nothing = record { pre = []; rev = []; fwd = [] }

abbrev header : ℕ → List ℕ → List ℕ → Header
header id depends supersedes = record {
  id = id;
  created = None;
  scenario_time = None;
  version = None;
  description = None;
  authority = None;
  profiles = [];
  depends = depends;
  supersedes = supersedes;
}

-- a base that depends on the model 3
abbrev start : Kept
start = opened (record { header = header 5 (3 ∷ []) []; statements = north ∷ [] }) (codes "base")

abbrev with_change : ℕ → Change → Document
with_change id change = document.Difference (record { header = header id [] []; change = change })

-- a header alone
abbrev headed : ℕ → List ℕ → List ℕ → Document
headed id depends supersedes = document.Difference (record { header = header id depends supersedes; change = nothing })

abbrev march : List ℕ
march = codes "2027-03-01"

abbrev april : List ℕ
april = codes "2027-04-01"

abbrev may : List ℕ
may = codes "2027-05-01"

abbrev file : List ℕ → Document → Command
file day model = File day model (codes "document")

abbrev revise : ℕ → Document → Command
revise id model = Revise id model (codes "document")

-- ---- a filing, and another that rests on it

abbrev first : Command
first = file april (with_change 11 (renames north south))

abbrev once : Kept
once = after start first

one_command : number_of once ≡ 1
unfolding refusal_of early_refusal first_break days_on_literals
one_command = refl

size_of_both : size_of once ≡ 12
unfolding refusal_of early_refusal first_break days_on_literals
size_of_both = refl

logged : once.log ≡ entry.File april (codes "document") ∷ []
unfolding refusal_of early_refusal first_break days_on_literals
logged = refl

not_in_service_before : statements_at once.base once.live (codes "2027-03-31") ≡ north ∷ []
unfolding refusal_of early_refusal first_break days_on_literals
not_in_service_before = refl

in_service_on_the_day : statements_at once.base once.live april ≡ south ∷ []
unfolding refusal_of early_refusal first_break days_on_literals
in_service_on_the_day = refl

abbrev twice : Kept
twice = after once (file april (with_change 12 (renames south west)))

redated_behind_its_successor : refusal_of twice (Redate 11 (codes "2027-04-02")) ≡ Some (refusal.Step april 12 (Reverse south))
unfolding refusal_of early_refusal first_break days_on_literals
redated_behind_its_successor = refl

rows : rows_of twice.live ≡ record { project = 11; day = april; current = 11 } ∷ record { project = 12; day = april; current = 12 } ∷ []
unfolding refusal_of early_refusal first_break days_on_literals
rows = refl

-- ---- a precondition that a withdrawal would take away

abbrev rested : Kept
rested = after once (file may (with_change 13 (record nothing { pre = south ∷ [] })))

withdrawn_below : refusal_of rested (Withdraw 11) ≡ Some (refusal.Step may 13 (Precondition south))
unfolding refusal_of early_refusal first_break days_on_literals
withdrawn_below = refl

refused_command_changes_nothing : after rested (Withdraw 11) ≡ rested
unfolding refusal_of early_refusal first_break days_on_literals
refused_command_changes_nothing = refl

-- ---- a statement that is both reverse and forward

both_and_not_there : refusal_of start (file april (with_change 12 (renames west west))) ≡ Some (refusal.Step april 12 (Reverse west))
unfolding refusal_of early_refusal first_break days_on_literals
both_and_not_there = refl

both_and_there : refusal_of start (file april (with_change 12 (renames north north))) ≡ Some (refusal.Step april 12 (Forward north))
unfolding refusal_of early_refusal first_break days_on_literals
both_and_there = refl

causes_in_order : statement_causes (west ∷ []) (record { pre = south ∷ west ∷ []; rev = north ∷ south ∷ []; fwd = west ∷ [] })
    ≡ Precondition south ∷ Reverse north ∷ Reverse south ∷ Forward west ∷ []
causes_in_order = refl

-- ---- dependencies

abbrev rests_on : ℕ → ℕ → Document
rests_on id other = headed id (other ∷ []) []

dependency_not_met : refusal_of start (file may (rests_on 12 11)) ≡ Some (refusal.Step may 12 (Dependency 11))
unfolding refusal_of early_refusal first_break days_on_literals
dependency_not_met = refl

dependency_of_the_base : refusal_of start (file may (rests_on 12 3)) ≡ None
unfolding refusal_of early_refusal first_break days_on_literals
dependency_of_the_base = refl

abbrev met : Kept
met = after_all start (file april (headed 11 [] []) ∷ file may (rests_on 12 11) ∷ [])

dependency_met : number_of met ≡ 2
unfolding refusal_of early_refusal first_break days_on_literals
dependency_met = refl

redated_too_late : refusal_of met (Redate 11 (codes "2027-05-02")) ≡ Some (refusal.Step may 12 (Dependency 11))
unfolding refusal_of early_refusal first_break days_on_literals
redated_too_late = refl

redated_to_the_same_day : refusal_of met (Redate 11 may) ≡ None
unfolding refusal_of early_refusal first_break days_on_literals
redated_to_the_same_day = refl

-- a revision does not depend on the model whose place it takes
revised_dependencies : map (λ (one : PlainProject). one.dependencies) (after (after met (file march (headed 14 [] []))) (revise 12 (headed 15 (14 ∷ []) (12 ∷ [])))).live ≡ [] ∷ (14 ∷ []) ∷ [] ∷ []
unfolding refusal_of early_refusal first_break days_on_literals
revised_dependencies = refl

-- ---- a revised project keeps the ids that it had

abbrev revised : Kept
revised = after met (revise 11 (headed 13 [] (11 ∷ [])))

lineages : map (λ (one : PlainProject). one.lineage) revised.live ≡ (11 ∷ 13 ∷ []) ∷ (12 ∷ []) ∷ []
unfolding refusal_of early_refusal first_break days_on_literals
lineages = refl

not_superseding : refusal_of revised (revise 11 (headed 16 [] (11 ∷ []))) ≡ Some (refusal.NotSuperseding 13)
unfolding refusal_of early_refusal first_break days_on_literals
not_superseding = refl

old_id_in_use : refusal_of revised (file may (headed 11 [] [])) ≡ Some (refusal.InUse 11)
unfolding refusal_of early_refusal first_break days_on_literals
old_id_in_use = refl

id_of_the_base : refusal_of start (file may (headed 5 [] [])) ≡ Some (refusal.InUse 5)
unfolding refusal_of early_refusal first_break days_on_literals
id_of_the_base = refl

no_project_by_its_current_id : refusal_of revised (revise 13 (headed 16 [] [])) ≡ Some (refusal.Unknown 13)
unfolding refusal_of early_refusal first_break days_on_literals
no_project_by_its_current_id = refl

full_model : refusal_of revised (revise 99 (document.Full (record { header = header 5 [] []; statements = [] }))) ≡ Some refusal.Kind
unfolding refusal_of early_refusal first_break days_on_literals
full_model = refl

-- ---- a withdrawal

abbrev withdrawn : Kept
withdrawn = after once (Withdraw 11)

no_project : withdrawn.live ≡ []
unfolding refusal_of early_refusal first_break days_on_literals
no_project = refl

numbers_go_on : number_of withdrawn ≡ 2
unfolding refusal_of early_refusal first_break days_on_literals
numbers_go_on = refl

filed_again : map (λ (one : PlainProject). one.filing) (after withdrawn first).live ≡ 3 ∷ []
unfolding refusal_of early_refusal first_break days_on_literals
filed_again = refl

-- what is left where a project had never been filed
without_its_commands : others_than 6 (Redate 6 (codes "2024-01-01") ∷ Withdraw 7 ∷ Withdraw 6 ∷ []) ≡ Withdraw 7 ∷ []
without_its_commands = refl
