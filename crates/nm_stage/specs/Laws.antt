-- What live lists and their steps keep to.
use Rattle.std.specs.Prelude.{◌≡◌, ℕ, ◌<◌, List, [], ◌∷◌, ◌++◌, length, false, Some, IsPermutation}
use Rattle.std.specs.List.{AllByRecursion}
use Rattle.std.specs.List.Sorted.{IsStrictlySortedBy}
use Rattle.nm_stage.specs.Live.{AreApart, CanJoin, IsLive, holds, project_of, with_project, without_filing}
use Rattle.nm_stage.specs.Project.{PlainProject}
use Rattle.nm_stage.specs.Steps.{in_order, project_cmp}

-- the projects of a live list in order are all of them, and their keys strictly rise
pub record InOrder (live : List PlainProject) : Type 0 where
  pub all : IsPermutation live (in_order live)
  pub rising : IsStrictlySortedBy project_cmp (in_order live)

abbrev pub LiveProjectsStandInOrder : Type 0
LiveProjectsStandInOrder = (live : List PlainProject) → IsLive live → InOrder live

-- lists stay live
pub record ListsStayLive : Type 0 where
  pub empty : IsLive []
  pub with : (project : PlainProject) (live : List PlainProject) → IsLive live → CanJoin project live → IsLive (with_project project live)
  pub without : (filing : ℕ) (live : List PlainProject) → IsLive live → IsLive (without_filing filing live)

-- a change of one project leaves the others
pub record ChangesLeaveOthers : Type 0 where
  pub with : (project : PlainProject) (live : List PlainProject) → IsLive live → without_filing project.filing (with_project project live) ≡ without_filing project.filing live
  pub without : (filing : ℕ) (live : List PlainProject) → without_filing filing (without_filing filing live) ≡ without_filing filing live

-- a project can join where none of its ids stands in the lineage of another
abbrev pub JoinsWithOwnIds : Type 0
JoinsWithOwnIds = (project : PlainProject) (live : List PlainProject) → IsLive (without_filing project.filing live) → 0 < length project.lineage → AreApart project.lineage
    → AllByRecursion (λ id. holds (without_filing project.filing live) id ≡ false) project.lineage → CanJoin project live

-- so can a project with one id that stands in no lineage
abbrev pub JoinsWithNewId : Type 0
JoinsWithNewId = (project : PlainProject) (live : List PlainProject) (id : ℕ) → IsLive live → project.lineage ≡ id ∷ [] → holds live id ≡ false → CanJoin project live

-- a live project can change as it keeps its filing number and its lineage
abbrev pub JoinsAgain : Type 0
JoinsAgain = (id : ℕ) (old new : PlainProject) (live : List PlainProject) → IsLive live → project_of id live ≡ Some old → new.filing ≡ old.filing → new.lineage ≡ old.lineage → CanJoin new live

-- or takes one more id that stands in no lineage
abbrev pub JoinsRevised : Type 0
JoinsRevised = (id : ℕ) (old new : PlainProject) (live : List PlainProject) (added : ℕ) → IsLive live → project_of id live ≡ Some old → new.filing ≡ old.filing
    → new.lineage ≡ old.lineage ++ added ∷ [] → holds live added ≡ false → CanJoin new live
