-- Projects, and the steps that they are.
use Rattle.std.specs.Prelude.{ℕ, ◌-◌, ◌==◌, List, Bool, length, slice_index}
use Rattle.std.specs.List.{list_any}
use Rattle.nm_day.specs.declared.key.Key.{Key}
use Rattle.nm_statement.specs.declared.set.Change.{Change}

-- a project: its change as such, and not what it is shared by
pub record PlainProject : Type 0 where
  pub filing : ℕ
  pub lineage : List ℕ
  pub day : List ℕ
  pub dependencies : List ℕ
  pub change : Change

-- the step of a project
pub record PlainStep : Type 0 where
  pub key : Key
  pub model : ℕ
  pub dependencies : List ℕ
  pub change : Change

-- the id of a project: the first of its lineage
abbrev pub id_of : PlainProject → ℕ
id_of project = slice_index project.lineage 0

-- the current model id: the last of the lineage
abbrev pub model_of : PlainProject → ℕ
model_of project = slice_index project.lineage (length project.lineage - 1)

abbrev pub key_of : PlainProject → Key
key_of project = record { day = project.day; filing = project.filing; stage = 0 }

abbrev pub step_of : PlainProject → PlainStep
step_of project = record {
  key = key_of project;
  model = model_of project;
  dependencies = project.dependencies;
  change = project.change;
}

-- whether the id is one of the list
abbrev pub has_id : List ℕ → ℕ → Bool
has_id ids id = list_any (λ other. id == other) ids
