use Rattle.std.proofs.Crossing.{crosses}
use denote.Param.Send.{sendable}
use Rattle.nm_publish.proofs.Crossing.{exhibit_send}
use Rattle.nm_publish.proofs.threads.receipts_are_sent.Goals as goal

pub is_sent-requires-send-T : goal.is_sent-requires-send-T
is_sent-requires-send-T g c κs within = search (exhibit_send, sendable, crosses) depth 60
