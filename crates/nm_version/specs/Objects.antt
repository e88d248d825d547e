-- What is said of one subject.
use Rattle.std.specs.Prelude.{ℕ, List}
use Rattle.std.specs.List.{filter}
use Rattle.nm_check.specs.Subject.{is_about}
use Rattle.nm_ident.specs.declared.ident.Ident.{Ident}
use Rattle.nm_model.specs.declared.document.Full.{Full}
use Rattle.nm_stage.specs.Project.{PlainProject}
use Rattle.nm_statement.specs.declared.statement.Statement.{Statement}
use Rattle.nm_version.specs.Replay.{statements_at}

-- the statements of a day with this subject
abbrev pub object_at : Full → List PlainProject → List ℕ → Ident → List Statement
object_at base live day subject = filter (is_about subject) (statements_at base live day)
