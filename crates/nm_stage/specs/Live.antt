-- The list of the projects that are live.
use Rattle.std.specs.Prelude.{ℕ, ◌<◌, List, ◌++◌, length, Bool, not, ◌==◌, nat_eq, Option}
use Rattle.std.specs.BTreeSet.{replace_key}
use Rattle.std.specs.List.{All, IsDistinct, filter, find, flat_map, list_any}
use Rattle.std.specs.List.Sorted.{IsStrictlySortedBy}
use Rattle.std.specs.Ordering.{nat_cmp}
use Rattle.std.specs.declared.cmp.Ordering.{Ordering}
use Rattle.nm_stage.specs.Project.{PlainProject, has_id, id_of}

abbrev pub filing_cmp : PlainProject → PlainProject → Ordering
filing_cmp x y = nat_cmp x.filing y.filing

-- the ids of all lineages
abbrev pub ids_of : List PlainProject → List ℕ
ids_of live = flat_map (λ project. project.lineage) live

-- no id stands twice
abbrev pub AreApart : List ℕ → Type 0
AreApart ids = IsDistinct nat_eq ids

-- filing numbers strictly rise, lineages are not empty, and no id stands twice over all of them
pub record IsLive (live : List PlainProject) : Type 0 where
  pub rising : IsStrictlySortedBy filing_cmp live
  pub lineages : All (λ project. 0 < length project.lineage) live
  pub apart : AreApart (ids_of live)

-- the projects of the other filing numbers
abbrev pub without_filing : ℕ → List PlainProject → List PlainProject
without_filing filing live = filter (λ project. not (project.filing == filing)) live

-- the project in place of the one of its filing number, or else at its place
abbrev pub with_project : PlainProject → List PlainProject → List PlainProject
with_project project live = replace_key filing_cmp live project

-- the lineage is not empty, has no id twice, and shares none with a project of another filing number
pub record CanJoin (project : PlainProject) (live : List PlainProject) : Type 0 where
  pub some : 0 < length project.lineage
  pub apart : AreApart (project.lineage ++ ids_of (without_filing project.filing live))

-- the project with this id
abbrev pub project_of : ℕ → List PlainProject → Option PlainProject
project_of id live = find (λ project. id_of project == id) live

-- whether the id stands in a lineage
abbrev pub holds : List PlainProject → ℕ → Bool
holds live id = list_any (λ project. has_id project.lineage id) live

-- the project with this filing number
abbrev pub filed_as : ℕ → List PlainProject → Option PlainProject
filed_as filing live = find (λ project. project.filing == filing) live

-- the project in whose lineage the id stands
abbrev pub holder_of : ℕ → List PlainProject → Option PlainProject
holder_of id live = find (λ project. has_id project.lineage id) live
