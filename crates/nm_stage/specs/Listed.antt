-- The lists beside the live projects: the ids in use, and what depends on them.
use Rattle.std.specs.Prelude.{◌≡◌, ◌&&◌, ℕ, List, Bool, map}
use Rattle.std.specs.List.{find}
use Rattle.std.specs.Option.{option_map}
use Rattle.std.specs.Ordering.{is_eq, nat_cmp, ordering_then}
use Rattle.std.specs.declared.cmp.Ordering.{Ordering}
use Rattle.nm_blocks.specs.Items.{item_at}
use Rattle.nm_day.specs.Key.{key_cmp}
use Rattle.nm_day.specs.declared.key.Key.{Key}
use Rattle.nm_ident.specs.Rising.{rising_by}
use Rattle.nm_stage.specs.Live.{holder_of}
use Rattle.nm_stage.specs.Project.{PlainProject, has_id, key_of}
use Rattle.nm_stage.specs.declared.listed.Dependent.{Dependent}
use Rattle.nm_stage.specs.declared.listed.Holder.{Holder}

-- by dependency, then by key
abbrev pub dependent_cmp : Dependent → Dependent → Ordering
dependent_cmp x y = ordering_then (nat_cmp x.dependency y.dependency) (key_cmp x.key y.key)

abbrev pub holder : ℕ → ℕ → Holder
holder filing id = record { id = id; filing = filing }

abbrev pub dependent : Key → ℕ → Dependent
dependent key id = record { dependency = id; key = key }

-- the ids of a lineage, in order, with the filing number of the project
abbrev pub holders : ℕ → List ℕ → List Holder
holders filing lineage = map (holder filing) (rising_by nat_cmp lineage)

-- the dependencies of a project, in order and each once, with its key
abbrev pub dependents : Key → List ℕ → List Dependent
dependents key dependencies = map (dependent key) (rising_by nat_cmp dependencies)

-- the filing number at each id is that of the project in whose lineage it stands
abbrev pub AreHolders : List Holder → List PlainProject → Type 0
AreHolders ids live = (id : ℕ) → item_at (λ h. h.id) nat_cmp id ids ≡ option_map (λ project. holder project.filing id) (holder_of id live)

-- whether a project at this key has this dependency
abbrev pub depends : Dependent → PlainProject → Bool
depends need project = has_id project.dependencies need.dependency && is_eq (key_cmp need.key (key_of project))

-- what stands there are the dependencies of the projects with their keys
abbrev pub AreDependents : List Dependent → List PlainProject → Type 0
AreDependents needs live = (need : Dependent) → item_at (λ d. d) dependent_cmp need needs ≡ option_map (λ project. dependent (key_of project) need.dependency) (find (depends need) live)

-- both lists
pub record AreListed (ids : List Holder) (needs : List Dependent) (live : List PlainProject) : Type 0 where
  pub held : AreHolders ids live
  pub needed : AreDependents needs live
