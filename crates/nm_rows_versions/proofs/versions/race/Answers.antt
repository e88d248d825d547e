use Rattle.std.proofs.Crossing.{crosses}
use denote.Param.Send.{sendable}
use Rattle.nm_rows_versions.proofs.Crossing.{reader_send}
use Rattle.nm_rows_versions.proofs.versions.race.Goals as goal

pub join-written-requires-send-F : goal.join-written-requires-send-F
join-written-requires-send-F g c κs within = search (reader_send, c.type_bounds.sync-R, sendable, crosses) depth 60
