-- Which dependencies are not met, told by the projects that have them, and the first of some.
use Rattle.std.specs.Prelude.{◌≡◌, ◌&&◌, ◌||◌, ℕ, List, Bool, true, false, not, if◌then◌else◌, Option, None, Some}
use Rattle.std.specs.List.{Contains, list_any}
use Rattle.std.specs.Option.{ForSome}
use Rattle.std.specs.Ordering.{is_gt, is_lt, nat_cmp, ordering_then}
use Rattle.std.specs.declared.cmp.Ordering.{Ordering}
use Rattle.nm_day.specs.Key.{key_cmp}
use Rattle.nm_day.specs.declared.key.Key.{Key}
use Rattle.nm_stage.specs.Project.{PlainProject, has_id, key_of}

-- whether the id stands in the lineage of this project, and its step is earlier than the key
abbrev pub meets : Key → ℕ → PlainProject → Bool
meets key id project = has_id project.lineage id && is_lt (key_cmp (key_of project) key)

-- whether a dependency of a step at the key is met
abbrev pub is_met : List ℕ → List PlainProject → Key → ℕ → Bool
is_met known live key id = has_id known id || list_any (meets key id) live

-- whether the project has this dependency, and it is not met
abbrev pub misses : List ℕ → List PlainProject → PlainProject → ℕ → Bool
misses known live project id = has_id project.dependencies id && not (is_met known live (key_of project) id)

-- by step, then by dependency
abbrev pub missing_cmp : Key × ℕ → Key × ℕ → Ordering
missing_cmp x y = ordering_then (key_cmp x.0 y.0) (nat_cmp x.1 y.1)

-- the first of two
abbrev pub earlier : Option (Key × ℕ) → Option (Key × ℕ) → Option (Key × ℕ)
earlier None second = second
earlier (Some first) None = Some first
earlier (Some first) (Some second) = if is_gt (missing_cmp first second) then Some second else Some first

-- a dependency of a live project that passes a test
pub record IsFound (live : List PlainProject) (test : PlainProject → ℕ → Bool) (found : Key × ℕ) : Type 0 where
  pub project : PlainProject
  pub among : Contains live project
  pub passes : test project found.1 ≡ true
  pub at : found.0 ≡ key_of project

-- whether what was found does not come after this
abbrev pub IsUpTo : Option (Key × ℕ) → Key × ℕ → Type 0
IsUpTo None other = ⊥
IsUpTo (Some found) other = is_gt (missing_cmp found other) ≡ false

-- what was found is a dependency that passes the test, and none that is claimed comes before it
pub record IsFirst (live : List PlainProject) (test : PlainProject → ℕ → Bool) (claimed : PlainProject → ℕ → Bool) (found : Option (Key × ℕ)) : Type 0 where
  pub sound : ForSome found (IsFound live test)
  pub first : (project : PlainProject) (id : ℕ) → Contains live project → claimed project id ≡ true → IsUpTo found (key_of project, id)
