-- What a site names where nobody picks a name.
use Rattle.std.specs.Prelude.{[], None}
use Rattle.nm_model.specs.declared.header.Header.{Header}
use Rattle.nm_version.specs.Kept.{Kept, opened}

abbrev no_header : Header
no_header =
    record { id = 0; created = None; scenario_time = None; version = None; description = None; authority = None; profiles = []; depends = []; supersedes = [] }

-- the version of an empty base
abbrev pub no_version : Kept
no_version = opened (record { header = no_header; statements = [] }) []
