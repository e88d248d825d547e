-- The entries of a log, behind what they are shared by.
use Rattle.std.specs.Prelude.{List, ◌++◌, map}
use Rattle.std.specs.Arc.{arc_value}
use Rattle.std.specs.Global.{Global}
use Rattle.std.specs.List.{flat_map}
use Rattle.std.specs.declared.sync.Arc.{Arc}
use Rattle.nm_version.specs.declared.command.Entry.{Entry}

-- the entries of a block
abbrev pub behind : List (Arc Entry Global) → List Entry
behind shared = map arc_value shared

-- those of the blocks that are full, and of the last one
abbrev pub entries_of : List (Arc (List Entry) Global) → List Entry → List Entry
entries_of full last = flat_map arc_value full ++ last
