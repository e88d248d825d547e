-- The statements of a subject, as a stretch of all.
use Rattle.std.specs.Prelude.{◌≡◌, ◌≤◌, ℕ, List, Bool}
use Rattle.std.proofs.Common.{arith, ap, refl, sym, ◌∙◌}
use Rattle.std.specs.List.{filter}
use Rattle.std.specs.Ordering.{is_eq, ordering_index, ordering_then}
use Rattle.std.specs.declared.cmp.Ordering.{Ordering}
use Rattle.std.specs.declared.cmp.Ordering.TheVariants.{Less, Equal, Greater}
use Rattle.nm_check.specs.Replay.{statements_at}
use Rattle.nm_ident.proofs.Orders.{ident_cmp-equal, ident_cmp-total}
use Rattle.nm_ident.specs.Order.{ident_cmp}
use Rattle.nm_ident.specs.declared.ident.Ident.{Ident}
use Rattle.nm_stage.specs.Project.{PlainStep}
use Rattle.nm_statement.proofs.Orders.{derived-statement_cmp}
use Rattle.nm_statement.specs.contracts.statement.StatementOrd.TheImpl as statement_ord
use Rattle.nm_statement.specs.declared.statement.Statement.{Statement}
use Rattle.nm_timeline.specs.Timeline.{PlainTimeline}
use Rattle.nm_tree.specs.Span.{IsMonotone, key_rises}

-- where a statement lies beside those of a subject
abbrev pub subject_place : Ident → Statement → Ordering
subject_place subject statement = ident_cmp statement.subject subject

-- whether the statement is about the subject
abbrev pub is_about : Ident → Statement → Bool
is_about subject statement = is_eq (subject_place subject statement)

-- the statements of a subject that are there on a day
abbrev pub object_at : List Statement → List PlainStep → List ℕ → Ident → List Statement
object_at base steps day subject = filter (is_about subject) (statements_at base steps day)

-- the statements of a subject, each with its timeline
abbrev pub lines_of : Ident → List (Statement × PlainTimeline) → List (Statement × PlainTimeline)
lines_of subject timelines = filter (λ pair. is_about subject pair.0) timelines

rise_by : (subject x y : Ident) (r later : Ordering) → ident_cmp x y ≡ r → ordering_then r later ≡ Less → ordering_index (ident_cmp x subject) ≤ ordering_index (ident_cmp y subject)
rise_by subject x y Less later e f = key_rises ident_cmp-total subject x y e
rise_by subject x y Equal later e f = let same : ordering_index (ident_cmp x subject) ≡ ordering_index (ident_cmp y subject) = ap (λ z. ordering_index (ident_cmp z subject)) (ident_cmp-equal x y e) in omega (arith, same)
rise_by subject x y Greater later e f = absurd (let wrong = f in cc)

-- a greater statement never lies lower
pub subjects_rise : (subject : Ident) → IsMonotone statement_ord.ghosts.cmp (subject_place subject)
subjects_rise subject x y less =
    rise_by subject x.subject y.subject (ident_cmp x.subject y.subject) _ refl (sym (derived-statement_cmp x y) ∙ less)
