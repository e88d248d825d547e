-- A version may go to another thread, and be read by several. Its timelines stand in a tree, whose nodes hold each
-- other, so this is not found by itself.
use Rattle.std.proofs.Crossing.{crosses}
use denote.Param.Send.{IsSend, IsSync, sendable}
use Rattle.nm_check.specs.contracts.timelines.Timelines as timelines
use Rattle.nm_model.proofs.header.Header.TheSendSync as header
use Rattle.nm_stage.proofs.live.Live.TheSendSync as live
use Rattle.nm_statement.proofs.statement.Statement.TheSendSync as statement
use Rattle.nm_timeline.proofs.timeline.Timeline.TheSendSync as timeline
use Rattle.nm_tree.proofs.node.Branch.TheLaws.TheKnot as knot
use Rattle.nm_version.proofs.log.Log.TheSendSync as log
use Rattle.nm_version.specs.contracts.version.Version.{the_row}

pub timelines_send : IsSend timelines.the_row
timelines_send = search (knot.crosses, statement.the_send, statement.the_sync, timeline.the_send, timeline.the_sync, sendable, crosses) depth 60

pub timelines_sync : IsSync timelines.the_row
timelines_sync = search (knot.crosses, statement.the_send, statement.the_sync, timeline.the_send, timeline.the_sync, sendable, crosses) depth 60

pub version_send : IsSend the_row
version_send = search (timelines_send, header.the_send, header.the_sync, live.the_send, log.the_send, sendable, crosses) depth 60

pub version_sync : IsSync the_row
version_sync = search (timelines_sync, header.the_send, header.the_sync, live.the_sync, log.the_sync, sendable, crosses) depth 60
