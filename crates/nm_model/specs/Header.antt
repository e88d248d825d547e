-- The models that a header depends on.
use Rattle.std.specs.Prelude.{ℕ, List, ◌++◌}
use Rattle.std.specs.Ordering.{nat_cmp}
use Rattle.nm_ident.specs.Rising.{rising_by}
use Rattle.nm_model.specs.declared.header.Header.{Header}

-- the numbers of a list, strictly rising
abbrev pub rising_ids : List ℕ → List ℕ
rising_ids = rising_by nat_cmp

-- the models that DependentOn or Supersedes names
abbrev pub dependencies_of : Header → List ℕ
dependencies_of header = rising_ids (header.depends ++ header.supersedes)
