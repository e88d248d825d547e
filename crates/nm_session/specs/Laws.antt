-- What the definitions of this crate keep to.
use Rattle.std.specs.Prelude.{◌≡◌, ℕ, ◌+◌, List, [], ◌∷◌, ◌++◌, Ok, codes}
use Rattle.nm_version.specs.After.{IsReached}
use Rattle.nm_version.specs.Kept.{Kept}
use Rattle.nm_version.specs.Listing.{log_of}
use Rattle.nm_version.specs.declared.command.Entry.{Entry}
use Rattle.nm_session.specs.Ending.{Ended}
use Rattle.nm_session.specs.Opening.{opening_of}
use Rattle.nm_session.specs.Reply.{numbered}
use Rattle.nm_session.specs.Stream.{Outcome, outcome}
use Rattle.nm_session.specs.declared.state.State.TheVariants.{Store}

-- the replies where each command behind this number is accepted, and then `end` comes
abbrev pub replies_behind : ℕ → List Entry → List ℕ
replies_behind number [] = numbered (codes "end") number
replies_behind number (entry ∷ entries) = numbered (codes "ok") (number + 1) ++ replies_behind (number + 1) entries

-- a session that ends where this is kept, with these replies
abbrev pub ended_with : List ℕ → Kept → Outcome
ended_with replies kept = record { replies = replies; ending = Ended; state = Store kept }

-- the log is a stream whose base and commands are accepted, one after another, and at its end the same is kept again
abbrev pub LogsOpenAgain : Type 0
LogsOpenAgain =
    (kept : Kept) → IsReached kept
    → outcome (log_of kept) ≡ ended_with (numbered (codes "ok") 0 ++ replies_behind 0 kept.log) kept

-- so what is opened from the log is what was kept
abbrev pub LogsOpenTheSame : Type 0
LogsOpenTheSame = (kept : Kept) → IsReached kept → opening_of (log_of kept) ≡ Ok kept
