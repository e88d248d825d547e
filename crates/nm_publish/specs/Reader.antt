-- A reader, as contracts see it, and what its calls change.
use Rattle.std.specs.Prelude.{◌≡◌, ℕ, ◌+◌, ◌≤◌, List, sum_by}
use mathlib.Core.List.{IsPrefix}
use Rattle.logbook.specs.Pages.{Book}
use Rattle.std.specs.Arc.{arc_value}
use Rattle.nm_publish.specs.History.{History, BeginsIn, GoesOn}
use Rattle.nm_publish.specs.Piece.{log_of}
use Rattle.nm_publish.specs.declared.look.Look.{Look}
use Rattle.nm_publish.specs.declared.look.Look.TheVariants.{Fresh, Last}
use Rattle.nm_publish.specs.declared.sight.Sight.{Sight}
use Rattle.nm_version.specs.Kept.{Kept}
use Rattle.nm_version.specs.declared.command.Entry.{Entry}

pub record Standing : Type 0 where
  pub kept : Kept  -- the version that it keeps
  pub view : List Entry  -- the log of its view
  pub enterings : ℕ  -- how often it has entered the store
  pub misses : ℕ  -- how often it was granted no entering
  pub learnt : ℕ  -- how many receipts it has learnt
  pub share : ℕ  -- how many commits it was lent for

abbrev pub standing : Kept → Sight → ℕ → ℕ → ℕ → Standing
standing kept seen misses learnt share =
    record { kept = kept; view = log_of seen.front.pieces; enterings = seen.enterings; misses = misses; learnt = learnt; share = share }

-- a reader as it is handed out
abbrev pub starting : Kept → Standing
starting opening = record { kept = opening; view = opening.log; enterings = 0; misses = 0; learnt = 0; share = 0 }

-- the reader belongs to the book and the opening, its view goes on from what it keeps, and it has one part of the ledger
pub record IsPlaced (book : Book) (opening : Kept) (front : History) (seen : Sight) (parts : ℕ) : Type 0 where
  pub begins : BeginsIn book opening front
  pub within : GoesOn front seen.front
  pub one : parts ≡ 1

-- ---- a look

-- the version at an entering that was made: the log that was found there is its log, and the reader keeps it
pub record IsFresh (before after : Standing) (kept : Kept) : Type 0 where
  pub entered : after.enterings ≡ before.enterings + 1
  pub found : after.view ≡ kept.log
  pub keeps : after.kept ≡ kept

-- the version that the reader keeps, where no entering was granted
pub record IsLast (before after : Standing) (kept : Kept) : Type 0 where
  pub missed : after.misses ≡ before.misses + 1
  pub same : after.kept ≡ before.kept
  pub keeps : after.kept ≡ kept

abbrev pub IsLookOf : Standing → Standing → Look → Type 0
IsLookOf before after (Fresh held) = IsFresh before after (arc_value held)
IsLookOf before after (Last held) = IsLast before after (arc_value held)

-- one entering was tried, and granted or missed; the view goes on
pub record TriesOnce (before after : Standing) : Type 0 where
  pub once : after.enterings + after.misses ≡ before.enterings + before.misses + 1
  pub enterings : before.enterings ≤ after.enterings
  pub misses : before.misses ≤ after.misses
  pub learnt : after.learnt ≡ before.learnt
  pub share : after.share ≡ before.share
  pub view : IsPrefix before.view after.view
  pub within : IsPrefix after.kept.log after.view

-- ---- a receipt that is learnt, and a commit

-- one entering was granted, whatever was missed before it, and one receipt was learnt
pub record LearnsOne (before after : Standing) : Type 0 where
  pub enterings : after.enterings ≡ before.enterings + 1
  pub misses : before.misses ≤ after.misses
  pub learnt : after.learnt ≡ before.learnt + 1
  pub share : after.share ≡ before.share
  pub view : IsPrefix before.view after.view
  pub within : IsPrefix after.kept.log after.view

-- the reader that a commit was lent
abbrev pub lent : Standing → Standing
lent before = record before { share = before.share + 1 }

-- the shares of readers, added up
abbrev pub shares_of : List Standing → ℕ
shares_of readers = sum_by (λ reader. reader.share) readers
