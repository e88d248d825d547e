-- How a prefix leads to its declaration where a tag has many.
use Rattle.std.specs.Prelude.{◌≡◌, ℕ, List, Option}
use Rattle.std.specs.BTreeMap.{BTreeMap, get}
use Rattle.std.specs.Cmp.Lexicographic.{slice_cmp}
use Rattle.std.specs.List.{slice_get}
use Rattle.std.specs.Option.{option_and_then, option_cmp, option_map}
use Rattle.std.specs.Ordering.{nat_cmp}
use Rattle.std.specs.declared.cmp.Ordering.{Ordering}
use denote.Ref.{Bor}
use Rattle.nm_reader.specs.Lent.{prefix_of}
use Rattle.nm_reader.specs.Namespaces.{declared}
use Rattle.nm_reader.specs.Opened.{Declaration}

abbrev pub namespace_given : Declaration → List ℕ
namespace_given declaration = declaration.namespace

-- the namespace that the declaration at a place gives
abbrev pub namespace_at : List Declaration → ℕ → Option (List ℕ)
namespace_at declarations place = option_map namespace_given (slice_get declarations place)

-- how std orders prefixes
abbrev pub prefix_cmp : Option (Bor (List ℕ)) → Option (Bor (List ℕ)) → Ordering
prefix_cmp = option_cmp (λ (x y : Bor (List ℕ)). slice_cmp nat_cmp x.now y.now)

-- the namespace to which a map of places leads from a prefix
abbrev pub found_by : List Declaration → BTreeMap (Option (Bor (List ℕ))) ℕ → Option (Bor (List ℕ)) → Option (List ℕ)
found_by declarations places prefix = option_and_then (namespace_at declarations) (get prefix_cmp places prefix)

-- whether the map leads from each prefix to its first declaration
abbrev pub Leads : List Declaration → BTreeMap (Option (Bor (List ℕ))) ℕ → Type 0
Leads declarations places =
    (prefix : Option (Bor (List ℕ))) → found_by declarations places prefix ≡ declared declarations (prefix_of prefix)
