-- What is limited in number in a document, and how far.
use Rattle.std.specs.Prelude.{◌+◌, Bool, ◌&&◌, nat_le}
use Rattle.nm_model.specs.Limits.{most_changes, most_dependencies, most_profiles, most_statements, most_superseded}
use Rattle.nm_reader.specs.declared.counts.Counts.{Counts}

abbrev pub nothing : Counts
nothing = record { statements = 0; changes = 0; profiles = 0; dependencies = 0; superseded = 0 }

abbrev pub one_statement : Counts
one_statement = record nothing { statements = 1 }

abbrev pub one_change : Counts
one_change = record nothing { changes = 1 }

abbrev pub one_profile : Counts
one_profile = record nothing { profiles = 1 }

abbrev pub one_dependency : Counts
one_dependency = record nothing { dependencies = 1 }

abbrev pub one_superseded : Counts
one_superseded = record nothing { superseded = 1 }

abbrev pub plus : Counts → Counts → Counts
plus x y = record {
  statements = x.statements + y.statements;
  changes = x.changes + y.changes;
  profiles = x.profiles + y.profiles;
  dependencies = x.dependencies + y.dependencies;
  superseded = x.superseded + y.superseded;
}

-- whether no more is stated than is kept
abbrev pub is_within_limits : Counts → Bool
is_within_limits counts =
    nat_le counts.statements most_statements && nat_le counts.changes most_changes
    && nat_le counts.profiles most_profiles && nat_le counts.dependencies most_dependencies
    && nat_le counts.superseded most_superseded
