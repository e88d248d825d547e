-- What stands in a keeper and in readers may go to other threads. They hold versions, whose timelines stand in a tree, so
-- this is not found by itself.
use Rattle.std.proofs.Crossing.{crosses}
use denote.Param.Send.{IsSend, IsSync, sendable, view_send}
use denote.Param.SendFields.{as_row_send, declared_send}
use denote.RattleType.{RattleType}
use Rattle.core.proofs.ledger.Blank.TheSendSync as blank
use Rattle.core.proofs.ledger.Book.TheSendSync as book
use Rattle.core.specs.declared.ledger.Ledger as Ledger
use Rattle.left_right.proofs.reader.Reader.TheSendSync as seat
use Rattle.left_right.proofs.writer.Writer.TheSendSync as writer
use Rattle.logbook.proofs.word.Word.TheSendSync as word
use Rattle.nm_publish.proofs.count.Next.TheLaws.TheKnot as knot
use Rattle.nm_publish.proofs.history.Front.TheSendSync as front
use Rattle.nm_publish.specs.contracts.count.Count as count
use Rattle.nm_publish.specs.contracts.desk.Desk as desk
use Rattle.nm_publish.specs.contracts.desk.Desk.TheInside as inside
use Rattle.nm_publish.specs.contracts.gate.Gate as gate
use Rattle.nm_publish.specs.contracts.keeper.Keeper as keeper
use Rattle.nm_publish.specs.contracts.keeper.Keeper.TheInside as kept
use Rattle.nm_publish.specs.contracts.opening.Opening as opening
use Rattle.nm_publish.specs.contracts.opening.Opening.TheInside as opened
use Rattle.nm_publish.specs.contracts.shown.Exhibit as exhibit
use Rattle.nm_publish.specs.contracts.shown.Shown as shown
use Rattle.nm_publish.specs.declared.site.Site as Site
use Rattle.nm_version.proofs.Crossing.{version_send, version_sync}

pub exhibit_send : IsSend exhibit.the_row
exhibit_send = search (version_send, version_sync, front.the_send, sendable, crosses) depth 60

pub shown_send : IsSend shown.the_row
shown_send = search (version_send, version_sync, front.the_send, sendable, crosses) depth 60

pub shown_sync : IsSync shown.the_row
shown_sync = search (version_send, version_sync, front.the_sync, sendable, crosses) depth 60

pub gate_send : IsSend gate.the_row
gate_send = search (seat.the_field_send, shown_sync, sendable, crosses) depth 30

pub count_send : IsSend count.the_row
count_send = search (knot.crosses, sendable, crosses) depth 60

desk_inside : (R : RattleType) → IsSend R → IsSend (inside.the_row R)
desk_inside R r =
    declared_send (inside.the_type R)
    (search (as_row_send, writer.the_field_send, exhibit_send, shown_send, shown_sync, sendable, crosses) depth 20, (search (r, sendable) depth 10, tt))

pub desk_send : (R : RattleType) → IsSend R → IsSend (desk.the_row R)
desk_send R r = view_send _ _ _ _ _ (desk_inside R r)

opening_inside : (R : RattleType) → IsSend R → IsSend (opened.the_row R)
opening_inside R r =
    declared_send (opened.the_type R) (
      search (as_row_send, desk_send, r, sendable) depth 10,
      (
        search (as_row_send, word.the_send, sendable) depth 10,
        (
          search (as_row_send, exhibit_send, sendable) depth 10,
          (search (as_row_send, gate_send, sendable, crosses) depth 20, (search (as_row_send, blank.the_send, sendable) depth 10, tt)),
        ),
      ),
    )

pub opening_send : (R : RattleType) → IsSend R → IsSend (opening.the_row R)
opening_send R r = view_send _ _ _ _ _ (opening_inside R r)

module _ (H R : RattleType) (s : Site.Ghosts H.Denot) (l : Ledger.Ghosts H.Denot) (r : IsSend R) where
  keeper_inside : IsSend (kept.the_row H R s l)
  keeper_inside =
      declared_send (kept.the_type H R s l)
      (search (as_row_send, desk_send, r, sendable) depth 10, (search (as_row_send, word.the_send, sendable) depth 10, (search (as_row_send, exhibit_send, sendable) depth 10, (search (as_row_send, book.the_send, sendable) depth 10, tt))))

  pub keeper_send : IsSend (keeper.the_row H R s l)
  keeper_send = view_send _ _ _ _ _ keeper_inside
