use Rattle.std.proofs.Crossing.{crosses}
use denote.Param.Send.{sendable}
use Rattle.std.proofs.sync.ledger.Share.TheSendSync as share
use Rattle.nm_publish.proofs.Crossing.{count_send, exhibit_send, gate_send}
use Rattle.nm_rows_versions.proofs.versions.fn.race.«join+arg2».Goals as goal

pub for_each_mut-requires-send-T : goal.for_each_mut-requires-send-T
for_each_mut-requires-send-T g c κs within = search (exhibit_send, gate_send, count_send, share.the_send, sendable, crosses) depth 60
