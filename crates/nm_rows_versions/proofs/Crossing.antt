-- A reader may go to another thread.
use Rattle.std.proofs.Crossing.{crosses}
use denote.Param.Send.{IsSend, sendable}
use denote.RattleType.{RattleType}
use Rattle.std.proofs.sync.ledger.Share.TheSendSync as share
use Rattle.std.specs.declared.sync.ledger.Ledger as Ledger
use Rattle.nm_publish.proofs.Crossing.{count_send, exhibit_send, gate_send}
use Rattle.nm_publish.specs.contracts.reader.Reader as reader
use Rattle.nm_publish.specs.declared.site.Site as Site

pub reader_send : (H : RattleType) (s : Site.Ghosts H.Denot) (l : Ledger.Ghosts H.Denot) → IsSend (reader.the_row H s l)
reader_send H s l = search (exhibit_send, gate_send, count_send, share.the_send, sendable, crosses) depth 60
