use Rattle.std.proofs.Crossing.{crosses}
use denote.Param.Send.{sendable}
use Rattle.core.proofs.ledger.Share.TheSendSync as share
use Rattle.nm_publish.proofs.Crossing.{count_send, exhibit_send, gate_send}
use Rattle.nm_publish.proofs.threads.readers_are_sent.Goals as goal

pub is_sent-requires-send-T : goal.is_sent-requires-send-T
is_sent-requires-send-T g c κs within = search (exhibit_send, gate_send, count_send, share.the_send, sendable, crosses) depth 60
