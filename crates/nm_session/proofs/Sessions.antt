-- Lemmas on a session in between its commands, and at its end.
use Rattle.std.proofs.Common.{◌≡◌, ℕ, zero, suc, ◌+◌, ◌-◌, ◌<◌, ◌≤◌, List, [], ◌++◌, Option, None, Some, IfSome, Bool, true, false, cond, length, take, drop, codes, refl, sym, ap, ◌∙◌, subst, arith, append_assoc, inl, inr}
use Rattle.std.proofs.lemmas.List.{length-take, take_at, drop_at, take-append-le}
use Rattle.std.proofs.Math.Seq.{take-add}
use Rattle.std.proofs.lemmas.Bool.{lt-ltb, le-ltb}
use Rattle.std.proofs.KnownBytes.{Appends-trans, Appends-nil}
use Rattle.std.specs.Io.KnownBytes.{Appends}
use Rattle.nm_base.specs.Written.{AppendsFront}
use Rattle.nm_base.specs.declared.outcome.Status.{Status}
use Rattle.nm_base.specs.declared.outcome.Status.TheVariants as statuses
use Rattle.nm_base.specs.Faults.{IsRisen}
use Rattle.nm_session.specs.Answered.{Answers, due_of, AppendsPrefix, is_ending, AnswersStream, AnswersUnlessFaults, HasCause, NoneFailed}
use Rattle.nm_session.specs.Turns.{AnswersTurn, EndsBy, EndsWith, InterruptionTells, LeavesBadLine, NamesBadLine, NoAnswerBy, NoTurnBy, StopsAs, TakesTurn, unwritten_status}
use Rattle.nm_session.specs.Buffered.{Buffered}
use Rattle.nm_session.specs.Ending.{Ending, Ended, Cut, TooMuch, status_at}
use Rattle.nm_session.specs.Input.{coming, in_session, HaltTells}
use Rattle.nm_session.specs.Limits.{longest_session}
use Rattle.nm_session.specs.Reply.{numbered}
use Rattle.nm_session.specs.Stream.{Next, next_in, Outcome, behind_reply, behind_command, offset_behind, bad_line, short, outcome_of, outcome_within, short_ending, outcome}
use Rattle.nm_session.specs.Turn.{Turn, turn_of}
use Rattle.nm_session.proofs.Answered.{answers_part, answers_whole}
use Rattle.nm_session.specs.declared.state.State.{State}
use Rattle.nm_session.specs.declared.state.State.TheVariants.{Empty}
use Rattle.nm_session.specs.Word.{is_end}
use Rattle.nm_session.specs.declared.halt.Halt.{Halt}
use Rattle.nm_session.specs.declared.halt.Halt.TheVariants as halts
use Rattle.nm_session.specs.declared.interruption.Interruption.{Interruption}
use Rattle.nm_session.specs.declared.interruption.Interruption.TheVariants as interruptions
use Rattle.nm_writer.specs.declared.error.WriteError.{WriteError}
use Rattle.nm_writer.specs.declared.error.WriteError.TheVariants as write_error
use Rattle.nm_session.specs.PlainWord.{PlainWord, Base, File, Revise, Redate, Withdraw, Assemble, Object, Timeline, Projects, Log, Summary, End}

-- in between two commands: the replies so far, and then what comes of the rest, are the whole outcome
pub record Standing (stream : List ℕ) (buffered : Buffered) (left : Option (List ℕ)) (state : State) (replies : List ℕ) : Type 0 where
  pub bytes : List ℕ
  pub known : coming buffered left ≡ Some bytes
  pub size : buffered.given + length bytes ≡ length stream
  pub turns : ℕ
  pub enough : length (in_session buffered bytes) ≤ turns
  pub whole : outcome stream ≡ behind_reply replies (outcome_within (suc turns) (short_ending stream) state buffered.given (in_session buffered bytes))

pub first_standing : (stream : List ℕ) → Standing stream (record { ahead = []; given = 0 }) (Some stream) Empty []
first_standing stream = record {
  bytes = stream;
  known = refl;
  size = omega arith;
  turns = length (take longest_session stream);
  enough = omega arith;
  whole = refl;
}

-- the same where the replies so far were written
pub record Written (stream : List ℕ) (buffered : Buffered) (left : Option (List ℕ)) (state : State) (written now : Option (List ℕ)) : Type 0 where
  pub replies : List ℕ
  pub stands : Standing stream buffered left state replies
  pub appended : Appends written now replies

pub stands_first : (ahead : Buffered) (left written : Option (List ℕ)) → ahead ≡ record { ahead = []; given = 0 }
    → IfSome left (λ stream. Written stream ahead left Empty written written)
stands_first ahead None written e = tt
stands_first ahead (Some stream) written e =
    subst (λ (h : Buffered). Written stream h (Some stream) Empty written written) (sym e)
    (record { replies = []; stands = first_standing stream; appended = Appends-nil written })

-- what comes of a rest, by what stands next
pub unfolded : (turns : ℕ) (on_short : Ending) (state : State) (at : ℕ) (bytes : List ℕ) (next : Next) → next_in state bytes ≡ next
    → outcome_within (suc turns) on_short state at bytes ≡ outcome_of on_short (outcome_within turns on_short) state at bytes next
unfolding outcome_within
unfolded turns on_short state at bytes next e = ap (outcome_of on_short (outcome_within turns on_short) state at bytes) e

behind_both : (first second : List ℕ) (others : Outcome) → behind_reply first (behind_reply second others) ≡ behind_reply (first ++ second) others
behind_both first second others = ap (λ (l : List ℕ). let o : Outcome = record others { replies = l } in o) (sym (append_assoc first second others.replies))

goes_on : (word : PlainWord) (turn : Turn) (others : Outcome) → is_end word ≡ false → behind_command word turn others ≡ behind_reply turn.reply others
goes_on (Base len) turn others e = refl
goes_on (File day len) turn others e = refl
goes_on (Revise project len) turn others e = refl
goes_on (Redate project day) turn others e = refl
goes_on (Withdraw project) turn others e = refl
goes_on (Assemble day) turn others e = refl
goes_on (Object day id) turn others e = refl
goes_on (Timeline id) turn others e = refl
goes_on Projects turn others e = refl
goes_on Log turn others e = refl
goes_on (Summary day) turn others e = refl
goes_on End turn others e = cc

is_over : (word : PlainWord) (turn : Turn) (others : Outcome) → is_end word ≡ true → behind_command word turn others ≡ record { replies = turn.reply; ending = Ended; state = turn.state }
is_over (Base len) turn others e = cc
is_over (File day len) turn others e = cc
is_over (Revise project len) turn others e = cc
is_over (Redate project day) turn others e = cc
is_over (Withdraw project) turn others e = cc
is_over (Assemble day) turn others e = cc
is_over (Object day id) turn others e = cc
is_over (Timeline id) turn others e = cc
is_over Projects turn others e = cc
is_over Log turn others e = cc
is_over (Summary day) turn others e = cc
is_over End turn others e = refl

-- ---- the next turn

-- the rest behind a command, as the session may take it
record Behind (old new : Buffered) (bytes rest : List ℕ) : Type 0 where
  offset : offset_behind old.given (in_session old bytes) (in_session new rest) ≡ new.given
  shorter : length (in_session new rest) < length (in_session old bytes)

behind : (old new : Buffered) (bytes rest : List ℕ) → old.given + length bytes ≡ new.given + length rest → old.given < new.given → new.given ≤ longest_session → Behind old new bytes rest
behind old new bytes rest size more limit = record {
  offset = omega (arith, length-take (longest_session - old.given) bytes, length-take (longest_session - new.given) rest);
  shorter = omega (arith, length-take (longest_session - old.given) bytes, length-take (longest_session - new.given) rest);
}

-- a turn that was not the last
stands_after : (stream : List ℕ) (old new : Buffered) (left : Option (List ℕ)) (before after : State) (bytes replies reply : List ℕ) (turns : ℕ)
    → old.given + length bytes ≡ length stream → length (in_session old bytes) ≤ turns
    → outcome stream ≡ behind_reply replies (outcome_within (suc turns) (short_ending stream) before old.given (in_session old bytes))
    → TakesTurn before after old new bytes left reply false → old.given < new.given → new.given ≤ longest_session
    → Standing stream new left after (replies ++ reply)
stands_after stream old new left before after bytes replies reply zero size enough whole taken more limit =
    let shorter = (behind old new bytes taken.taken.rest taken.taken.size more limit).shorter in absurd (omega arith)
stands_after stream old new left before after bytes replies reply (suc turns) size enough whole taken more limit =
    let rest = taken.taken.rest in
    let left_behind = behind old new bytes rest taken.taken.size more limit in
    let shorter = left_behind.shorter in
    let turn = turn_of before taken.word taken.body in
    let later = outcome_within (suc turns) (short_ending stream) in
    record {
      bytes = rest;
      known = taken.taken.known;
      size = sym taken.taken.size ∙ size;
      turns = turns;
      enough = omega arith;
      whole = whole ∙ ap (behind_reply replies)
          (unfolded (suc turns) (short_ending stream) before old.given (in_session old bytes) _ taken.taken.next
          ∙ goes_on taken.word turn (later turn.state (offset_behind old.given (in_session old bytes) (in_session new rest)) (in_session new rest)) (sym taken.last)
          ∙ ap (λ (n : ℕ). behind_reply turn.reply (later turn.state n (in_session new rest))) left_behind.offset
          ∙ ap (λ (s : State). behind_reply turn.reply (later s new.given (in_session new rest))) (sym taken.state)
          ∙ ap (λ (r : List ℕ). behind_reply r (later after new.given (in_session new rest))) (sym taken.replied))
          ∙ behind_both replies reply (later after new.given (in_session new rest));
    }

-- of each stream that is told
pub each : {P Q : List ℕ → Type 0} (left : Option (List ℕ)) → ((stream : List ℕ) → P stream → Q stream) → IfSome left P → IfSome left Q
each None f h = tt
each (Some stream) f h = f stream h

pub at_known : {known : Option (List ℕ)} {bytes : List ℕ} (P : List ℕ → Type 0) → known ≡ Some bytes → IfSome known P → P bytes
at_known P e h = subst (λ o. IfSome o P) e h

pub stands_on : (stream : List ℕ) (old new : Buffered) (left : Option (List ℕ)) (before after : State) (replies reply : List ℕ) (stands : Standing stream old left before replies) (rest : Option (List ℕ))
    → TakesTurn before after old new stands.bytes rest reply false → old.given < new.given → new.given ≤ longest_session → Standing stream new rest after (replies ++ reply)
stands_on stream old new left before after replies reply stands rest turn more limit =
    stands_after stream old new rest before after stands.bytes replies reply stands.turns stands.size stands.enough stands.whole turn more limit

pub stands_next : (stream : List ℕ) (old new : Buffered) (left rest : Option (List ℕ)) (before after : State) (written mid now : Option (List ℕ)) (is_last : Bool) → is_last ≡ false
    → Written stream old left before written mid
    → IfSome (coming old left) (λ bytes. AnswersTurn before after old new bytes rest mid now is_last) → old.given < new.given → new.given ≤ longest_session
    → Written stream new rest after written now
stands_next stream old new left rest before after written mid now is_last goes so_far taken more limit =
    let stands = so_far.stands in
    let answered = at_known (λ bytes. AnswersTurn before after old new bytes rest mid now is_last) stands.known taken in
    record {
      replies = so_far.replies ++ answered.reply;
      stands = stands_on stream old new left before after so_far.replies answered.reply stands rest
          (subst (TakesTurn before after old new stands.bytes rest answered.reply) goes answered.turn) more limit;
      appended = Appends-trans written mid now so_far.replies answered.reply so_far.appended answered.appended;
    }

-- ---- the end

-- all of the replies were written
whole_answer : (stream : List ℕ) (status : Status) (written now : Option (List ℕ)) (given : Outcome) → outcome stream ≡ given → status ≡ status_at given.ending → Appends written now given.replies
    → AnswersStream stream status written now
whole_answer stream status written now given e ends appended =
    subst (λ (due : Outcome). Answers (due_of due) status written now) (sym e) (answers_whole (due_of given) status written now (record { ending = ends; replies = appended }))

take_behind : (xs ys : List ℕ) (n : ℕ) → take (length xs + n) (xs ++ ys) ≡ xs ++ take n ys
take_behind xs ys n =
    take-add (length xs) n (xs ++ ys) ∙ ap (λ l. l ++ take n (drop (length xs) (xs ++ ys))) (take_at xs ys (length xs) refl) ∙ ap (λ l. xs ++ take n l) (drop_at xs ys (length xs) refl)

-- some of the first replies were written, at a status that is no ending
part_answer : (stream : List ℕ) (status : Status) (written mid now : Option (List ℕ)) (replies : List ℕ) (others : Outcome) → outcome stream ≡ behind_reply replies others
    → Appends written mid replies → AppendsPrefix mid now others.replies → is_ending status ≡ false → AnswersStream stream status written now
part_answer stream status written mid now replies others e appended more no_ending =
    let all : (outcome stream).replies ≡ replies ++ others.replies = ap (λ (o : Outcome). o.replies) e in
    let front : take (length replies + more.0) (outcome stream).replies ≡ replies ++ take more.0 others.replies =
    ap (take (length replies + more.0)) all ∙ take_behind replies others.replies more.0 in
    answers_part (due_of (outcome stream)) status written now no_ending
    (length replies + more.0, subst (Appends written now) (sym front) (Appends-trans written mid now replies (take more.0 others.replies) appended more.1))

nothing_more : (mid now : Option (List ℕ)) (bytes : List ℕ) → now ≡ mid → AppendsPrefix mid now bytes
nothing_more mid now bytes e = (0, subst (λ o. Appends mid o []) (sym e) (Appends-nil mid))

-- the front of a reply is the front of what comes of the rest
front_of_reply : (word : PlainWord) (turn : Turn) (others : Outcome) (n : ℕ) → n ≤ length turn.reply → take n (behind_command word turn others).replies ≡ take n turn.reply
front_of_reply (Base len) turn others n h = take-append-le n turn.reply others.replies h
front_of_reply (File day len) turn others n h = take-append-le n turn.reply others.replies h
front_of_reply (Revise project len) turn others n h = take-append-le n turn.reply others.replies h
front_of_reply (Redate project day) turn others n h = take-append-le n turn.reply others.replies h
front_of_reply (Withdraw project) turn others n h = take-append-le n turn.reply others.replies h
front_of_reply (Assemble day) turn others n h = take-append-le n turn.reply others.replies h
front_of_reply (Object day id) turn others n h = take-append-le n turn.reply others.replies h
front_of_reply (Timeline id) turn others n h = take-append-le n turn.reply others.replies h
front_of_reply Projects turn others n h = take-append-le n turn.reply others.replies h
front_of_reply Log turn others n h = take-append-le n turn.reply others.replies h
front_of_reply (Summary day) turn others n h = take-append-le n turn.reply others.replies h
front_of_reply End turn others n h = refl

-- the outcome, where the last command was taken
pub done_outcome : (stream : List ℕ) (old new : Buffered) (left rest : Option (List ℕ)) (before after : State) (replies reply : List ℕ)
    → (stands : Standing stream old left before replies) → TakesTurn before after old new stands.bytes rest reply true
    → outcome stream ≡ record { replies = replies ++ reply; ending = Ended; state = after }
done_outcome stream old new left rest before after replies reply stands turn =
    let made = turn_of before turn.word turn.body in
    let later = outcome_within stands.turns (short_ending stream) made.state (offset_behind old.given (in_session old stands.bytes) (in_session new turn.taken.rest)) (in_session new turn.taken.rest) in
    stands.whole ∙ ap (behind_reply replies)
    (unfolded stands.turns (short_ending stream) before old.given (in_session old stands.bytes) _ turn.taken.next
    ∙ is_over turn.word made later (sym turn.last)
    ∙ ap (λ (s : State). let o : Outcome = record { replies = made.reply; ending = Ended; state = s } in o) (sym turn.state)
    ∙ ap (λ (r : List ℕ). let o : Outcome = record { replies = r; ending = Ended; state = after } in o) (sym turn.replied))

pub is_done : (stream : List ℕ) (old new : Buffered) (left rest : Option (List ℕ)) (before after : State) (written mid now : Option (List ℕ)) (is_last : Bool) → is_last ≡ true
    → Written stream old left before written mid
    → IfSome (coming old left) (λ bytes. AnswersTurn before after old new bytes rest mid now is_last)
    → AnswersStream stream statuses.Done written now
is_done stream old new left rest before after written mid now is_last over so_far taken =
    let stands = so_far.stands in
    let answered = at_known (λ bytes. AnswersTurn before after old new bytes rest mid now is_last) stands.known taken in
    whole_answer stream statuses.Done written now _
    (done_outcome stream old new left rest before after so_far.replies answered.reply stands (subst (TakesTurn before after old new stands.bytes rest answered.reply) over answered.turn))
    refl
    (Appends-trans written mid now so_far.replies answered.reply so_far.appended answered.appended)

-- the line that names a bad one was not written whole
unnamed : (stream : List ℕ) (error : WriteError) (status : Status) (written mid between now : Option (List ℕ)) (replies : List ℕ) (state : State) (at before after : ℕ) → outcome stream ≡ behind_reply replies (bad_line state at)
    → Appends written mid replies → between ≡ mid → status ≡ unwritten_status error → LeavesBadLine error at between now before after → AnswersStream stream status written now
unnamed stream write_error.Fault status written mid between now replies state at before after e appended same is leaves =
    part_answer stream status written mid now replies (bad_line state at) e appended
    (subst (λ o. AppendsPrefix o now (numbered (codes "badline") at)) same (leaves.0.0, leaves.0.2)) (ap is_ending is)
unnamed stream write_error.NoMemory status written mid between now replies state at before after e appended same is leaves =
    part_answer stream status written mid now replies (bad_line state at) e appended (nothing_more mid now (numbered (codes "badline") at) (leaves.0 ∙ same)) (ap is_ending is)

-- after a bad line
ends_bad : (stream : List ℕ) (status : Status) (written mid between now : Option (List ℕ)) (replies : List ℕ) (state : State) (at before after : ℕ) → outcome stream ≡ behind_reply replies (bad_line state at)
    → Appends written mid replies → between ≡ mid → NamesBadLine at status between now before after → AnswersStream stream status written now
ends_bad stream status written mid between now replies state at before after e appended same (inl named) =
    whole_answer stream status written now (behind_reply replies (bad_line state at)) e named.0
    (Appends-trans written mid now replies (numbered (codes "badline") at) appended (subst (λ o. Appends o now (numbered (codes "badline") at)) same named.1))
ends_bad stream status written mid between now replies state at before after e appended same (inr left) =
    unnamed stream left.0 status written mid between now replies state at before after e appended same left.1 left.2

-- after less than a whole command
ends_short : (stream : List ℕ) (ending : Ending) (status : Status) (written mid between now : Option (List ℕ)) (replies : List ℕ) (state : State) (before after : ℕ) → outcome stream ≡ behind_reply replies (short ending state)
    → Appends written mid replies → between ≡ mid → StopsAs (status_at ending) status between now before after → AnswersStream stream status written now
ends_short stream ending status written mid between now replies state before after e appended same as_stopped =
    whole_answer stream status written now (behind_reply replies (short ending state)) e as_stopped.0
    (Appends-trans written mid now replies [] appended (subst (λ o. Appends mid o []) (sym (as_stopped.1 ∙ same)) (Appends-nil mid)))

-- at a status that tells of no ending, with nothing more written
ends_early : (stream : List ℕ) (stopped status : Status) (written mid between now : Option (List ℕ)) (replies : List ℕ) (others : Outcome) (before after : ℕ) → outcome stream ≡ behind_reply replies others
    → is_ending stopped ≡ false → Appends written mid replies → AppendsPrefix mid between others.replies → StopsAs stopped status between now before after → AnswersStream stream status written now
ends_early stream stopped status written mid between now replies others before after e no_ending appended more as_stopped =
    part_answer stream status written mid now replies others e appended (subst (λ o. AppendsPrefix mid o others.replies) (sym as_stopped.1) more) (ap is_ending as_stopped.0 ∙ no_ending)

-- the outcome, where a line is no command
pub bad_outcome : (stream : List ℕ) (buffered : Buffered) (left : Option (List ℕ)) (state : State) (replies : List ℕ) (at : ℕ)
    → (stands : Standing stream buffered left state replies) → NoTurnBy (halts.BadLine at) state buffered stands.bytes
    → outcome stream ≡ behind_reply replies (bad_line state at)
bad_outcome stream buffered left state replies at stands why =
    stands.whole ∙ ap (behind_reply replies)
    (unfolded stands.turns (short_ending stream) state buffered.given (in_session buffered stands.bytes) _ why.1 ∙ ap (bad_line state) (sym why.0))

-- .. and where less than a command is left
pub cut_outcome : (stream : List ℕ) (buffered : Buffered) (left : Option (List ℕ)) (state : State) (replies : List ℕ)
    → (stands : Standing stream buffered left state replies) → NoTurnBy halts.Cut state buffered stands.bytes
    → outcome stream ≡ behind_reply replies (short Cut state)
cut_outcome stream buffered left state replies stands why =
    stands.whole ∙ ap (behind_reply replies)
    (unfolded stands.turns (short_ending stream) state buffered.given (in_session buffered stands.bytes) _ why.0
    ∙ ap (λ (s : Ending). short s state) (ap (λ b. cond b Cut TooMuch) (lt-ltb (length stream) longest_session (omega (arith, stands.size, why.1)))))

pub full_outcome : (stream : List ℕ) (buffered : Buffered) (left : Option (List ℕ)) (state : State) (replies : List ℕ)
    → (stands : Standing stream buffered left state replies) → NoTurnBy halts.TooMuch state buffered stands.bytes
    → outcome stream ≡ behind_reply replies (short TooMuch state)
full_outcome stream buffered left state replies stands why =
    stands.whole ∙ ap (behind_reply replies)
    (unfolded stands.turns (short_ending stream) state buffered.given (in_session buffered stands.bytes) _ why.0
    ∙ ap (λ (s : Ending). short s state) (ap (λ b. cond b Cut TooMuch) (le-ltb (length stream) longest_session (omega (arith, stands.size, why.1)))))

-- the same, by why nothing more was taken
ends_halted : (stream : List ℕ) (buffered : Buffered) (left : Option (List ℕ)) (state : State) (halt : Halt) (status : Status) (written mid between now : Option (List ℕ)) (before after : ℕ)
    → (so_far : Written stream buffered left state written mid) → NoTurnBy halt state buffered so_far.stands.bytes → between ≡ mid → EndsBy halt status between now before after
    → AnswersStream stream status written now
ends_halted stream buffered left state (halts.BadLine at) status written mid between now before after so_far why same ends =
    ends_bad stream status written mid between now so_far.replies state at before after
    (bad_outcome stream buffered left state so_far.replies at so_far.stands why) so_far.appended same ends
ends_halted stream buffered left state halts.Cut status written mid between now before after so_far why same ends =
    ends_short stream Cut status written mid between now so_far.replies state before after
    (cut_outcome stream buffered left state so_far.replies so_far.stands why) so_far.appended same ends
ends_halted stream buffered left state halts.TooMuch status written mid between now before after so_far why same ends =
    ends_short stream TooMuch status written mid between now so_far.replies state before after
    (full_outcome stream buffered left state so_far.replies so_far.stands why) so_far.appended same ends
ends_halted stream buffered left state halts.ReadFault status written mid between now before after so_far why same ends =
    ends_early stream statuses.ReadFault status written mid between now so_far.replies _ before after so_far.stands.whole refl so_far.appended (nothing_more mid between _ same) ends
ends_halted stream buffered left state halts.NoMemory status written mid between now before after so_far why same ends =
    ends_early stream statuses.NoMemory status written mid between now so_far.replies _ before after so_far.stands.whole refl so_far.appended (nothing_more mid between _ same) ends

-- .. or answered
ends_at : (stream : List ℕ) (buffered : Buffered) (left : Option (List ℕ)) (state : State) (interruption : Interruption) (status : Status) (written mid between now : Option (List ℕ)) (before after : ℕ)
    → (so_far : Written stream buffered left state written mid) → NoAnswerBy interruption state buffered so_far.stands.bytes mid between → EndsWith interruption status between now before after
    → AnswersStream stream status written now
ends_at stream buffered left state (interruptions.Halted halt) status written mid between now before after so_far why ends =
    ends_halted stream buffered left state halt status written mid between now before after so_far why.0 why.1 ends
ends_at stream buffered left state interruptions.WriteFault status written mid between now before after so_far why ends =
    let stands = so_far.stands in
    let turn = turn_of state why.word why.body in
    let others = outcome_within stands.turns (short_ending stream) turn.state (offset_behind buffered.given (in_session buffered stands.bytes) why.rest) why.rest in
    let few : why.front.0 ≤ length turn.reply = omega (arith, why.front.1) in
    ends_early stream statuses.WriteFault status written mid between now so_far.replies (behind_command why.word turn others) before after
    (stands.whole ∙ ap (behind_reply so_far.replies) (unfolded stands.turns (short_ending stream) state buffered.given (in_session buffered stands.bytes) _ why.next))
    refl so_far.appended
    (why.front.0, subst (Appends mid between) (sym (front_of_reply why.word turn others why.front.0 few)) why.front.2)
    ends

pub ends_interrupted : (stream : List ℕ) (buffered : Buffered) (left : Option (List ℕ)) (state : State) (interruption : Interruption) (status : Status) (written mid between now : Option (List ℕ)) (before after : ℕ)
    → Written stream buffered left state written mid → IfSome (coming buffered left) (λ bytes. NoAnswerBy interruption state buffered bytes mid between) → EndsWith interruption status between now before after
    → AnswersStream stream status written now
ends_interrupted stream buffered left state interruption status written mid between now before after so_far why ends =
    ends_at stream buffered left state interruption status written mid between now before after so_far
    (at_known (λ bytes. NoAnswerBy interruption state buffered bytes mid between) so_far.stands.known why) ends

-- ---- causes

-- the counts before a turn are those at the beginning
tells_from : (interruption : Interruption) (read_first read_before read_after write_first write_before write_after : ℕ) (left : Option (List ℕ)) → InterruptionTells interruption read_before read_after write_before write_after left
    → read_before ≡ read_first → write_before ≡ write_first → InterruptionTells interruption read_first read_after write_first write_after left
tells_from interruption a b c d e f left h r w =
    subst (λ n. InterruptionTells interruption n c d f left) r (subst (λ n. InterruptionTells interruption b c n f left) w h)

unnamed_cause : (error : WriteError) (at : ℕ) (written now : Option (List ℕ)) (read_before read_after write_before write_between write_after : ℕ) (left : Option (List ℕ))
    → NoneFailed read_before read_after write_before write_between → LeavesBadLine error at written now write_between write_after → HasCause (unwritten_status error) read_before read_after write_before write_after left
unnamed_cause write_error.Fault at written now a b c d e left none leaves = (none.0, subst (λ n. IsRisen n e) none.1 leaves.1)
unnamed_cause write_error.NoMemory at written now a b c d e left none leaves = (none.0, leaves.1 ∙ none.1)

bad_line_cause : (status : Status) (at : ℕ) (written now : Option (List ℕ)) (read_before read_after write_before write_between write_after : ℕ) (left : Option (List ℕ))
    → NoneFailed read_before read_after write_before write_between → NamesBadLine at status written now write_between write_after → HasCause status read_before read_after write_before write_after left
bad_line_cause status at written now a b c d e left none (inl named) = subst (λ s. HasCause s a b c e left) (sym named.0) (none.0, named.2 ∙ none.1)
bad_line_cause status at written now a b c d e left none (inr more) =
    subst (λ s. HasCause s a b c e left) (sym more.1) (unnamed_cause more.0 at written now a b c d e left none more.2)

same_cause : (ending status : Status) (written now : Option (List ℕ)) (read_before read_after write_before write_between write_after : ℕ) (left : Option (List ℕ))
    → HasCause ending read_before read_after write_before write_between left → StopsAs ending status written now write_between write_after → HasCause status read_before read_after write_before write_after left
same_cause ending status written now a b c d e left h ends =
    subst (λ s. HasCause s a b c e left) (sym ends.0) (subst (λ n. HasCause ending a b c n left) (sym ends.2) h)

-- the cause of a halt is that of the status
cause_halted : (halt : Halt) (status : Status) (written now : Option (List ℕ)) (read_before read_after write_before write_between write_after : ℕ) (left : Option (List ℕ))
    → HaltTells halt read_before read_after left → write_between ≡ write_before → EndsBy halt status written now write_between write_after → HasCause status read_before read_after write_before write_after left
cause_halted (halts.BadLine at) status written now a b c d e left h w ends = bad_line_cause status at written now a b c d e left (h, w) ends
cause_halted halts.ReadFault status written now a b c d e left h w ends = same_cause statuses.ReadFault status written now a b c d e left (h, w) ends
cause_halted halts.NoMemory status written now a b c d e left h w ends = same_cause statuses.NoMemory status written now a b c d e left (h, w) ends
cause_halted halts.Cut status written now a b c d e left h w ends = same_cause statuses.Cut status written now a b c d e left ((h.0, w), h.1) ends
cause_halted halts.TooMuch status written now a b c d e left h w ends = same_cause statuses.TooMuch status written now a b c d e left (h, w) ends

cause_ended : (interruption : Interruption) (status : Status) (written now : Option (List ℕ)) (read_before read_after write_before write_between write_after : ℕ) (left : Option (List ℕ))
    → InterruptionTells interruption read_before read_after write_before write_between left → EndsWith interruption status written now write_between write_after → HasCause status read_before read_after write_before write_after left
cause_ended (interruptions.Halted halt) status written now a b c d e left h ends = cause_halted halt status written now a b c d e left h.0 h.1 ends
cause_ended interruptions.WriteFault status written now a b c d e left h ends = same_cause statuses.WriteFault status written now a b c d e left h ends

pub ended_cause : (interruption : Interruption) (status : Status) (written now : Option (List ℕ)) (read_first read_before read_after write_first write_before write_between write_after : ℕ) (left : Option (List ℕ))
    → InterruptionTells interruption read_before read_after write_before write_between left → read_before ≡ read_first → write_before ≡ write_first
    → EndsWith interruption status written now write_between write_after → HasCause status read_first read_after write_first write_after left
ended_cause interruption status written now a b c d e f g left h r w ends =
    cause_ended interruption status written now a c d f g left (tells_from interruption a b c d e f left h r w) ends

-- without a fault that is told, the status is an ending or want of memory
pub is_complete : (stream : List ℕ) (status : Status) (written now : Option (List ℕ)) (read_before read_after write_before write_after : ℕ) (left : Option (List ℕ))
    → HasCause status read_before read_after write_before write_after left
    → AnswersStream stream status written now → AnswersUnlessFaults stream status written now read_before read_after write_before write_after
is_complete stream statuses.ReadFault written now a b c d left h answers no_read no_write = absurd (no_read h.0)
is_complete stream statuses.WriteFault written now a b c d left h answers no_read no_write = absurd (no_write h.1)
is_complete stream statuses.Done written now a b c d left h answers no_read no_write = inl (answers.whole refl)
is_complete stream statuses.BadSession written now a b c d left h answers no_read no_write = inl (answers.whole refl)
is_complete stream statuses.Cut written now a b c d left h answers no_read no_write = inl (answers.whole refl)
is_complete stream statuses.TooMuch written now a b c d left h answers no_read no_write = inl (answers.whole refl)
is_complete stream statuses.NoMemory written now a b c d left h answers no_read no_write = inr refl
is_complete stream statuses.Refused written now a b c d left h answers no_read no_write = absurd h
is_complete stream statuses.Usage written now a b c d left h answers no_read no_write = absurd h
is_complete stream statuses.DoorFault written now a b c d left h answers no_read no_write = absurd h

-- ---- a reply, and how it was written

pub answers_turn : (before after : State) (old new : Buffered) (known left : Option (List ℕ)) (reply seen : List ℕ) (is_last : Bool) (written now : Option (List ℕ))
    → IfSome known (λ bytes. TakesTurn before after old new bytes left reply is_last) → seen ≡ reply → Appends written now seen
    → IfSome known (λ bytes. AnswersTurn before after old new bytes left written now is_last)
answers_turn before after old new None left reply seen is_last written now turn same appended = tt
answers_turn before after old new (Some bytes) left reply seen is_last written now turn same appended =
    record { reply = reply; turn = turn; appended = subst (Appends written now) same appended }

pub breaks_reply : (before after : State) (old new : Buffered) (known left : Option (List ℕ)) (reply seen : List ℕ) (is_last : Bool) (interruption : Interruption) (written now : Option (List ℕ))
    → IfSome known (λ bytes. TakesTurn before after old new bytes left reply is_last) → seen ≡ reply → interruption ≡ interruptions.WriteFault → AppendsFront written now seen
    → IfSome known (λ bytes. NoAnswerBy interruption before old bytes written now)
breaks_reply before after old new None left reply seen is_last interruption written now turn same fault front = tt
breaks_reply before after old new (Some bytes) left reply seen is_last interruption written now turn same fault front =
    subst (λ (i : Interruption). NoAnswerBy i before old bytes written now) (sym fault)
    (record {
      word = turn.word;
      body = turn.body;
      rest = in_session new turn.taken.rest;
      next = turn.taken.next;
      front = subst (AppendsFront written now) (same ∙ turn.replied) front;
    })

-- what halts the taking of a command halts its answer
pub no_answer : (halt : Halt) (state : State) (buffered : Buffered) (known written now : Option (List ℕ)) → IfSome known (λ bytes. NoTurnBy halt state buffered bytes) → now ≡ written
    → IfSome known (λ bytes. NoAnswerBy (interruptions.Halted halt) state buffered bytes written now)
no_answer halt state buffered None written now why same = tt
no_answer halt state buffered (Some bytes) written now why same = (why, same)
