-- The log of what is kept, taken as a session stream.
use Rattle.std.proofs.Common.{◌≡◌, ◌∙◌, ℕ, zero, suc, ◌+◌, ◌*◌, ◌≤◌, List, [], ◌∷◌, ◌++◌, length, map, sum_by, codes, refl, sym, ap, arith, append_assoc}
use Rattle.std.proofs.lemmas.List.{length-append, length-map, take_all}
use Rattle.std.proofs.lemmas.List.Sums.{sum_by-append}
use Rattle.std.specs.Fmt.{decimal}
use Rattle.std.specs.List.{AllByRecursion, flat_map}
use Rattle.nm_session.specs.Ending.{Ending}
use Rattle.nm_version.proofs.Reached as reached
use Rattle.nm_version.proofs.Reached.{AllAccepted, AreFew, accepts_it, after_accepted, one_more}
use Rattle.nm_version.specs.After.{IsReached, accepted, after_all}
use Rattle.nm_version.specs.Assembly.{text_line}
use Rattle.nm_version.specs.Command.{HasLine, IsSpelt, document_size, entry_of}
use Rattle.nm_version.specs.Kept.{Kept, number_of, opened}
use Rattle.nm_version.specs.Listing.{entry_text, log_of, with_document}
use Rattle.nm_version.specs.declared.command.Command.{Command}
use Rattle.nm_version.specs.declared.command.Command.TheVariants as command
use Rattle.nm_session.proofs.LogCommands.{body_said, body_sized, comes, entry_is, has_body, is_allowed, line_said, opens, says_it, turn_accepted, turned, word_said}
use Rattle.nm_session.proofs.LogLines.{SaysWord, base_line, end_line}
use Rattle.nm_session.proofs.Sessions.{unfolded}
use Rattle.nm_session.specs.Limits.{longest_session}
use Rattle.nm_session.specs.Laws.{LogsOpenAgain, LogsOpenTheSame, ended_with, replies_behind}
use Rattle.nm_session.specs.Opening.{opened_from}
use Rattle.nm_session.specs.Reply.{numbered}
use Rattle.nm_session.specs.PlainWord.{Base, End}
use Rattle.nm_session.specs.Stream.{Outcome, behind_command, behind_reply, offset_behind, outcome, outcome_within, short_ending}
use Rattle.nm_session.specs.Turn.{Turn, turn_of}
use Rattle.nm_session.specs.declared.state.State.TheVariants.{Empty, Store}

-- ---- turns

-- the text of commands, and `end`
abbrev text_of : List Command → List ℕ
text_of commands = flat_map entry_text (map entry_of commands) ++ text_line (codes "end")

-- a command is not the last
goes_on : (one : Command) (turn : Turn) (others : Outcome) → behind_command (word_said one) turn others ≡ behind_reply turn.reply others
goes_on (command.File day model bytes) turn others = refl
goes_on (command.Revise project model bytes) turn others = refl
goes_on (command.Redate project day) turn others = refl
goes_on (command.Withdraw project) turn others = refl

-- the commands of a log, and then `end`
ends_behind : (turns : ℕ) (on_short : Ending) (at : ℕ) (kept : Kept) (commands : List Command) (bytes : List ℕ) → AllAccepted kept commands → AllByRecursion IsSpelt commands → AllByRecursion HasLine commands
    → length bytes ≤ longest_session → length bytes ≤ turns → bytes ≡ text_of commands
    → outcome_within (suc turns) on_short (Store kept) at bytes ≡ ended_with (replies_behind (number_of kept) (map entry_of commands)) (after_all kept commands)
ends_behind turns on_short at kept [] bytes all spelt lines fits enough is =
    let next = comes (Store kept) End (codes "end") [] [] bytes end_line is fits refl refl in
    unfolded turns on_short (Store kept) at bytes _ next
ends_behind zero on_short at kept (one ∷ others) bytes all spelt lines fits enough is =
    absurd (omega (arith, ap length is, length-append (flat_map entry_text (map entry_of (one ∷ others))) (text_line (codes "end"))))
ends_behind (suc turns) on_short at kept (one ∷ others) bytes all spelt lines fits enough is =
    let front = (line_said one ++ 10 ∷ []) ++ body_said one in
    let rest = text_of others in
    let split : bytes ≡ front ++ rest =
    is ∙ append_assoc (entry_text (entry_of one)) (flat_map entry_text (map entry_of others)) (text_line (codes "end")) ∙ ap (λ text. text ++ rest) (entry_is one) in
    let size : length bytes ≡ length (line_said one) + 1 + length (body_said one) + length rest =
    omega (arith, ap length split, length-append front rest, length-append (line_said one ++ 10 ∷ []) (body_said one), length-append (line_said one) (10 ∷ [])) in
    let next = comes (Store kept) (word_said one) (line_said one) (body_said one) rest bytes (says_it one spelt.0 lines.0) split fits (is_allowed kept one) (has_body one) in
    let turn = turned kept one spelt.0 (accepts_it kept one all.0) in
    let behind = offset_behind at bytes rest in
    let later = outcome_within (suc turns) on_short in
    unfolded (suc turns) on_short (Store kept) at bytes _ next
    ∙ goes_on one (turn_of (Store kept) (word_said one) (body_said one)) (later (turn_of (Store kept) (word_said one) (body_said one)).state behind rest)
    ∙ (λ i. behind_reply (turn i).reply (later (turn i).state behind rest))
    ∙ ap (behind_reply (turn_accepted kept one).reply) (ends_behind turns on_short behind (accepted kept one) others rest all.1 spelt.1 lines.1 (omega (arith, size)) (omega (arith, size)) refl)
    ∙ (λ i. behind_reply (numbered (codes "ok") (one_more kept one i)) (ended_with (replies_behind (one_more kept one i) (map entry_of others)) (after_all (sym (after_accepted kept one all.0) i) others)))

-- ---- how long a log is

entry_short : (one : Command) → IsSpelt one → HasLine one → length (entry_text (entry_of one)) ≤ 257 + document_size (entry_of one)
entry_short one spelt line =
    omega (arith, ap length (entry_is one), length-append (line_said one ++ 10 ∷ []) (body_said one), length-append (line_said one) (10 ∷ []), body_sized one, (says_it one spelt line).short)

entries_short : (commands : List Command) → AllByRecursion IsSpelt commands → AllByRecursion HasLine commands
    → length (flat_map entry_text (map entry_of commands)) ≤ 257 * length commands + sum_by document_size (map entry_of commands)
entries_short [] spelt lines = omega arith
entries_short (one ∷ others) spelt lines =
    let sizes : sum_by document_size (map entry_of (one ∷ others)) ≡ 0 + document_size (entry_of one) + sum_by document_size (map entry_of others) = sum_by-append document_size (entry_of one ∷ []) (map entry_of others) in
    let texts : length (flat_map entry_text (map entry_of (one ∷ others))) ≡ length (entry_text (entry_of one)) + length (flat_map entry_text (map entry_of others)) =
    length-append (entry_text (entry_of one)) (flat_map entry_text (map entry_of others)) in
    omega (arith, entry_short one spelt.0 lines.0, entries_short others spelt.1 lines.1)

-- ---- the whole

module _ (kept : Kept) (r : IsReached kept) where
  -- the base's document, and behind it the commands and `end`
  log_is : log_of kept ≡ with_document (codes "base") kept.bytes ++ text_of r.commands
  log_is =
      append_assoc (with_document (codes "base") kept.bytes) (flat_map entry_text kept.log) (text_line (codes "end"))
      ∙ ap (λ log. with_document (codes "base") kept.bytes ++ (flat_map entry_text log ++ text_line (codes "end"))) (sym r.logged)

  none_refused : AllAccepted (opened kept.base kept.bytes) r.commands
  none_refused = reached.none_refused kept r

  few : AreFew kept
  few = reached.few kept r

  base_says : SaysWord (codes "base" ++ codes " " ++ decimal (length kept.bytes)) (Base (length kept.bytes))
  base_says = base_line (length kept.bytes) r.base.short

  base_size : length (log_of kept) ≡ length (codes "base" ++ codes " " ++ decimal (length kept.bytes)) + 1 + length kept.bytes + length (text_of r.commands)
  base_size =
      omega (
        arith,
        ap length log_is,
        length-append (with_document (codes "base") kept.bytes) (text_of r.commands),
        length-append (text_line (codes "base" ++ codes " " ++ decimal (length kept.bytes))) kept.bytes,
        length-append (codes "base" ++ codes " " ++ decimal (length kept.bytes)) (10 ∷ []),
      )

  -- the lines and the documents are fewer bytes than a session takes
  fits : length (log_of kept) ≤ longest_session
  fits =
      omega (
        arith,
        base_size,
        base_says.short,
        length-append (flat_map entry_text (map entry_of r.commands)) (text_line (codes "end")),
        entries_short r.commands r.spelt r.lines,
        ap length r.logged,
        length-map r.commands entry_of,
        ap (sum_by document_size) r.logged,
        few.number,
        few.size,
      )

  ends_within : (turns : ℕ) (on_short : Ending) → length (log_of kept) ≤ turns
      → outcome_within (suc turns) on_short Empty 0 (log_of kept) ≡ ended_with (numbered (codes "ok") 0 ++ replies_behind 0 kept.log) kept
  ends_within zero on_short enough = absurd (omega (arith, base_size))
  ends_within (suc turns) on_short enough =
      let whole = log_of kept in
      let rest = text_of r.commands in
      let first = opened kept.base kept.bytes in
      let next = comes Empty (Base (length kept.bytes)) (codes "base" ++ codes " " ++ decimal (length kept.bytes)) kept.bytes rest whole base_says log_is fits refl refl in
      let turn = opens kept.base kept.bytes r.base in
      let behind = offset_behind 0 whole rest in
      let later = outcome_within (suc turns) on_short in
      unfolded (suc turns) on_short Empty 0 whole _ next
      ∙ (λ i. behind_reply (turn i).reply (later (turn i).state behind rest))
      ∙ ap (behind_reply (numbered (codes "ok") 0)) (ends_behind turns on_short behind first r.commands rest none_refused r.spelt r.lines (omega (arith, base_size, fits)) (omega (arith, base_size)) refl)
      ∙ (λ i. behind_reply (numbered (codes "ok") 0) (ended_with (replies_behind 0 (r.logged i)) (r.reached i)))

  log_ends : outcome (log_of kept) ≡ ended_with (numbered (codes "ok") 0 ++ replies_behind 0 kept.log) kept
  log_ends =
      (λ i. outcome_within (suc (length (take_all longest_session (log_of kept) fits i))) (short_ending (log_of kept)) Empty 0 (take_all longest_session (log_of kept) fits i))
      ∙ ends_within (length (log_of kept)) (short_ending (log_of kept)) (omega arith)

pub logs_open_again : LogsOpenAgain
logs_open_again kept r = log_ends kept r

pub logs_open_the_same : LogsOpenTheSame
logs_open_the_same kept r = ap opened_from (log_ends kept r)
