use Rattle.std.proofs.Common.{◌≡◌, take}
use Rattle.nm_version.specs.Log.{behind}
use Rattle.nm_version.proofs.log.share_entries.Given as goal

abbrev pub invariant-loop-entry : goal.invariant-loop-entry
invariant-loop-entry l = behind l.shared.items ≡ behind (take l.entry-index l.entries)
