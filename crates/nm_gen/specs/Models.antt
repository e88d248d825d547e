-- The models of generated streams.
use Rattle.std.specs.Prelude.{ℕ, ◌-◌, List, [], ◌∷◌, codes, None}
use Rattle.std.specs.List.{flat_map, range_with_len}
use Rattle.nm_model.specs.declared.document.Difference.{Difference}
use Rattle.nm_model.specs.declared.document.Full.{Full}
use Rattle.nm_model.specs.declared.header.Header.{Header}
use Rattle.nm_statement.specs.Set.{set_of}
use Rattle.nm_statement.specs.declared.set.Change.{Change}
use Rattle.nm_statement.specs.declared.statement.Statement.{Statement}
use Rattle.nm_gen.specs.Terms.{base_id, is_named, is_of_class, level_id, level_name, other_name, project_id, substation_id, substation_name}

-- a header that says nothing but what it supersedes
abbrev pub header_of : ℕ → List ℕ → Header
header_of id supersedes = record {
  id = id;
  created = None;
  scenario_time = None;
  version = None;
  description = None;
  authority = None;
  profiles = [];
  depends = [];
  supersedes = supersedes;
}

-- substations of the base
abbrev pub substation_count : ℕ
substation_count = 2000

abbrev pub is_substation : ℕ → Statement
is_substation number = is_of_class (substation_id number) (codes "Substation")

-- a substation of the base
abbrev pub substation : ℕ → List Statement
substation number = is_substation number ∷ is_named (substation_id number) (substation_name number) ∷ []

-- the statements of so many substations
unfoldable pub substations : ℕ → List Statement
substations count = flat_map substation (range_with_len 0 count)

abbrev pub base_model : Full
base_model = record { header = header_of base_id []; statements = set_of (substations substation_count) }

-- what a project adds: the other name of a substation, and a voltage level
abbrev pub added : ℕ → List Statement
added number =
    is_named (substation_id (number - 1)) (other_name (number - 1))
    ∷ is_of_class (level_id number) (codes "VoltageLevel")
    ∷ is_named (level_id number) (level_name number)
    ∷ []

-- a project gives a substation another name, and adds a voltage level
abbrev pub change_of : ℕ → Change
change_of number = record {
  pre = set_of (is_substation (number - 1) ∷ []);
  rev = set_of (is_named (substation_id (number - 1)) (substation_name (number - 1)) ∷ []);
  fwd = set_of (added number);
}

abbrev pub project_model : ℕ → Difference
project_model number = record { header = header_of (project_id number) (base_id ∷ []); change = change_of number }
