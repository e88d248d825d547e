-- A session stream: how it is cut into commands, its replies in order, and how it ends.
use Rattle.std.specs.Prelude.{ℕ, zero, suc, ◌+◌, ◌-◌, List, [], ◌++◌, length, take, drop, Bool, Option, None, Some, ◌==◌, nat_le, nat_lt, codes, position, if◌then◌else◌}
use Rattle.nm_session.specs.Ending.{Ending, Ended, AtBadLine, Cut, TooMuch}
use Rattle.nm_session.specs.Limits.{longest_line, longest_session}
use Rattle.nm_session.specs.Reply.{numbered}
use Rattle.nm_session.specs.Turn.{allows, Turn, turn_of}
use Rattle.nm_session.specs.Word.{word_of, body_length}
use Rattle.nm_session.specs.declared.state.State.{State}
use Rattle.nm_session.specs.declared.state.State.TheVariants.{Empty}
use Rattle.nm_session.specs.PlainWord.{PlainWord, Base, File, Revise, Redate, Withdraw, Assemble, Object, Timeline, Projects, Log, Summary, End}

-- what stands next in a stream: a whole command with its body and what comes behind it, a line that is
-- no command, or less than either
pub data Next : Type 0 where
  Command : PlainWord → List ℕ → List ℕ → Next
  NotACommand : Next
  Short : Next

-- the body that the command asks for
abbrev pub command_with_body : PlainWord → List ℕ → Next
command_with_body word bytes =
    if nat_le (body_length word) (length bytes)
    then Command word (take (body_length word) bytes) (drop (body_length word) bytes)
    else Short

abbrev pub by_word : State → Option PlainWord → List ℕ → Next
by_word state None bytes = NotACommand
by_word state (Some word) bytes = if allows state word then command_with_body word bytes else NotACommand

-- a line ends at this place, or at none where its line feed may stand
abbrev pub by_line : State → Option ℕ → List ℕ → Next
by_line state None bytes = if nat_le (length bytes) longest_line then Short else NotACommand
by_line state (Some place) bytes = by_word state (word_of (take place bytes)) (drop (place + 1) bytes)

abbrev pub is_line_feed : ℕ → Bool
is_line_feed byte = byte == 10

-- where the next line ends: its line feed stands behind at most as many bytes as a line may have
abbrev pub line_end : List ℕ → Option ℕ
line_end bytes = position is_line_feed (take (longest_line + 1) bytes)

abbrev pub next_in : State → List ℕ → Next
next_in state bytes = by_line state (line_end bytes) bytes

-- the replies, how the stream ends, and what the session stands in then
pub record Outcome : Type 0 where
  pub replies : List ℕ
  pub ending : Ending
  pub state : State

abbrev pub behind_reply : List ℕ → Outcome → Outcome
behind_reply reply outcome = record outcome { replies = reply ++ outcome.replies }

-- the rest of a session behind a command: nothing behind `end`
abbrev pub behind_command : PlainWord → Turn → Outcome → Outcome
behind_command (Base len) turn others = behind_reply turn.reply others
behind_command (File day len) turn others = behind_reply turn.reply others
behind_command (Revise project len) turn others = behind_reply turn.reply others
behind_command (Redate project day) turn others = behind_reply turn.reply others
behind_command (Withdraw project) turn others = behind_reply turn.reply others
behind_command (Assemble day) turn others = behind_reply turn.reply others
behind_command (Object day id) turn others = behind_reply turn.reply others
behind_command (Timeline id) turn others = behind_reply turn.reply others
behind_command Projects turn others = behind_reply turn.reply others
behind_command Log turn others = behind_reply turn.reply others
behind_command (Summary day) turn others = behind_reply turn.reply others
behind_command End turn others = record { replies = turn.reply; ending = Ended; state = turn.state }

-- the offset behind a command: of the bytes that stood at this offset, `after` is what stands behind it
abbrev pub offset_behind : ℕ → List ℕ → List ℕ → ℕ
offset_behind at bytes after = at + (length bytes - length after)

abbrev pub bad_line : State → ℕ → Outcome
bad_line state at = record { replies = numbered (codes "badline") at; ending = AtBadLine at; state = state }

abbrev pub short : Ending → State → Outcome
short ending state = record { replies = []; ending = ending; state = state }

-- what comes of the rest of a stream, which stands at this offset: `on_short` is how it ends where no whole
-- command is left, and `others` what comes of the rests behind commands
abbrev pub outcome_of : Ending → (State → ℕ → List ℕ → Outcome) → State → ℕ → List ℕ → Next → Outcome
outcome_of on_short others state at bytes Short = short on_short state
outcome_of on_short others state at bytes NotACommand = bad_line state at
outcome_of on_short others state at bytes (Command word body after) =
    let turn = turn_of state word body in
    behind_command word turn (others turn.state (offset_behind at bytes after) after)

-- the same for a number of commands at most; each takes a byte at least
unfoldable pub outcome_within : ℕ → Ending → State → ℕ → List ℕ → Outcome
outcome_within zero on_short state at bytes = short on_short state
outcome_within (suc turns) on_short state at bytes =
    outcome_of on_short (outcome_within turns on_short) state at bytes (next_in state bytes)

-- a stream that ends without its last command is cut, unless the session takes no more bytes
abbrev pub short_ending : List ℕ → Ending
short_ending stream = if nat_lt (length stream) longest_session then Cut else TooMuch

-- what comes of a stream
abbrev pub outcome : List ℕ → Outcome
outcome stream =
    let taken = take longest_session stream in
    outcome_within (suc (length taken)) (short_ending stream) Empty 0 taken
