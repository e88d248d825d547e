-- Dependencies, and the first that is not met.
use Rattle.std.specs.Prelude.{◌≡◌, ℕ, List, [], ◌∷◌, ◌++◌, min, not, Option, None, Some}
use Rattle.std.specs.BTreeSet.{BTreeSet, contains}
use Rattle.std.specs.List.{filter}
use Rattle.std.specs.Ordering.{nat_cmp}
use Rattle.nm_day.specs.declared.key.Key.{Key}
use Rattle.nm_stage.specs.Project.{PlainProject, has_id, key_of}
use Rattle.nm_stage.specs.Steps.{in_order}

-- the least id of a list
abbrev pub least_or : ℕ → Option ℕ → ℕ
least_or id None = id
least_or id (Some other) = min id other

abbrev pub least_of : List ℕ → Option ℕ
least_of [] = None
least_of (id ∷ ids) = Some (least_or id (least_of ids))

-- the dependencies that are not met where these ids are known
abbrev pub unmet : List ℕ → List ℕ → List ℕ
unmet known dependencies = filter (λ id. not (has_id known id)) dependencies

abbrev pub missing_or : PlainProject → Option ℕ → Option (Key × ℕ) → Option (Key × ℕ)
missing_or project None later = later
missing_or project (Some id) later = Some (key_of project, id)

-- the first step with an unmet dependency, and the least such id. At each step the lineages of the
-- earlier ones are known as well.
abbrev pub missing_from : List ℕ → List PlainProject → Option (Key × ℕ)
missing_from known [] = None
missing_from known (project ∷ projects) =
    missing_or project (least_of (unmet known project.dependencies))
    (missing_from (known ++ project.lineage) projects)

abbrev pub missing_of : List ℕ → List PlainProject → Option (Key × ℕ)
missing_of known live = missing_from known (in_order live)

-- the set has the ids of the list
abbrev pub HasIds : BTreeSet ℕ → List ℕ → Type 0
HasIds set ids = (id : ℕ) → contains nat_cmp set id ≡ has_id ids id
