-- What the definitions of this crate keep to.
use Rattle.std.specs.Prelude.{◌≡◌, ℕ, ◌+◌, List, [], ◌∷◌, ◌++◌, map}
use Rattle.nm_ident.specs.declared.ident.Ident.{Ident}
use Rattle.nm_model.specs.declared.document.Difference.{Difference}
use Rattle.nm_model.specs.declared.document.Document.TheVariants as document
use Rattle.nm_model.specs.declared.document.Full.{Full}
use Rattle.nm_stage.specs.Live.{IsLive}
use Rattle.nm_stage.specs.Project.{PlainProject}
use Rattle.nm_version.specs.After.{IsReached}
use Rattle.nm_version.specs.Assembly.{assembly}
use Rattle.nm_version.specs.Changed.{live_after, project_filed}
use Rattle.nm_version.specs.Kept.{Kept, number_of}
use Rattle.nm_version.specs.Objects.{object_at}
use Rattle.nm_version.specs.Projects.{rows_of}
use Rattle.nm_version.specs.Timeline.{timeline_of}
use Rattle.nm_version.specs.declared.command.Command.TheVariants.{File}

-- a project that is filed has a filing number of its own, and stands behind all others
abbrev pub FiledProjectsComeLast : Type 0
FiledProjectsComeLast =
    (kept : Kept) (day : List ℕ) (difference : Difference) (bytes : List ℕ) → IsReached kept
    → live_after kept (File day (document.Difference difference) bytes) ≡ kept.live ++ project_filed (number_of kept + 1) day difference ∷ []

-- a project but for its filing number
abbrev pub unnumbered : PlainProject → PlainProject
unnumbered project = record project { filing = 0 }

-- over the base, either list of live projects gives the same of all that is asked: the model of a day, an
-- object of a day, a timeline, and the rows of the projects
pub record AnswersAlike (base : Full) (xs ys : List PlainProject) : Type 0 where
  pub models : (day : List ℕ) → assembly base xs day ≡ assembly base ys day
  pub objects : (day : List ℕ) (subject : Ident) → object_at base xs day subject ≡ object_at base ys day subject
  pub timelines : (subject : Ident) → timeline_of base xs subject ≡ timeline_of base ys subject
  pub rows : rows_of xs ≡ rows_of ys

-- no answer shows a filing number: live projects that differ in these alone, in the same order, answer alike
abbrev pub FilingNumbersStayInside : Type 0
FilingNumbersStayInside = (base : Full) (xs ys : List PlainProject) → IsLive xs → IsLive ys → map unnumbered xs ≡ map unnumbered ys → AnswersAlike base xs ys

-- what is reached is determined by the bytes of its base and by its log: the base, and so the live projects too
abbrev pub LogsDetermineWhatIsKept : Type 0
LogsDetermineWhatIsKept = (kept other : Kept) → IsReached kept → IsReached other → kept.bytes ≡ other.bytes → kept.log ≡ other.log → kept ≡ other
