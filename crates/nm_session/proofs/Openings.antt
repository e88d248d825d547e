-- Lemmas on the opening of a store from a stream, in between its commands and at its end.
use Rattle.std.proofs.Common.{◌≡◌, ℕ, ◌<◌, ◌≤◌, List, [], ◌++◌, Option, None, Some, IfSome, Bool, true, false, Err, sym, ap, ◌∙◌, subst, inl, inr}
use Rattle.nm_base.specs.Faults.{IsRisen}
use Rattle.nm_terms.specs.Due.{OrWant}
use Rattle.nm_session.specs.Buffered.{Buffered}
use Rattle.nm_session.specs.Ending.{Ending}
use Rattle.nm_session.specs.Input.{coming, HaltTells}
use Rattle.nm_session.specs.Limits.{longest_session}
use Rattle.nm_session.specs.Opening.{HasCause, IsDoneIn, TellsEnding, error_of, opened_by, opening_of, store_in, tells_no_ending, wants_memory}
use Rattle.nm_session.specs.Stream.{Outcome, outcome}
use Rattle.nm_session.specs.Turns.{NoTurnBy, TakesTurn}
use Rattle.nm_session.specs.declared.start.OpeningError.{OpeningError}
use Rattle.nm_session.specs.declared.halt.Halt.{Halt}
use Rattle.nm_session.specs.declared.halt.Halt.TheVariants.{BadLine, Cut, TooMuch, ReadFault, NoMemory}
use Rattle.nm_session.specs.declared.state.State.{State}
use Rattle.nm_session.specs.declared.state.State.TheVariants.{Empty}
use Rattle.nm_session.proofs.Sessions.{Standing, at_known, bad_outcome, cut_outcome, done_outcome, first_standing, full_outcome, stands_on}

-- in between two commands
pub record Along (stream : List ℕ) (buffered : Buffered) (left : Option (List ℕ)) (state : State) : Type 0 where
  pub replies : List ℕ
  pub stands : Standing stream buffered left state replies

pub along_first : (ahead : Buffered) (left : Option (List ℕ)) (state : State) → ahead ≡ record { ahead = []; given = 0 } → state ≡ Empty
    → IfSome left (λ stream. Along stream ahead left state)
along_first ahead None state new empty = tt
along_first ahead (Some stream) state new empty =
    subst (λ (h : Buffered). Along stream h (Some stream) state) (sym new)
    (subst (Along stream (record { ahead = []; given = 0 }) (Some stream)) (sym empty)
    (record { replies = []; stands = first_standing stream }))

pub along_next : (stream : List ℕ) (old new : Buffered) (left rest : Option (List ℕ)) (before after : State) (reply : List ℕ) (is_last : Bool) → is_last ≡ false
    → Along stream old left before → IfSome (coming old left) (λ bytes. TakesTurn before after old new bytes rest reply is_last)
    → old.given < new.given → new.given ≤ longest_session → Along stream new rest after
along_next stream old new left rest before after reply is_last goes along taken more limit =
    let stands = along.stands in
    let turn = at_known (λ bytes. TakesTurn before after old new bytes rest reply is_last) stands.known taken in
    record {
      replies = along.replies ++ reply;
      stands = stands_on stream old new left before after along.replies reply stands rest (subst (TakesTurn before after old new stands.bytes rest reply) goes turn) more limit;
    }

pub along_done : (stream : List ℕ) (old new : Buffered) (left rest : Option (List ℕ)) (before after : State) (reply : List ℕ) (is_last : Bool) → is_last ≡ true
    → Along stream old left before → IfSome (coming old left) (λ bytes. TakesTurn before after old new bytes rest reply is_last)
    → IsDoneIn (outcome stream) after
along_done stream old new left rest before after reply is_last over along taken =
    let stands = along.stands in
    let turn = at_known (λ bytes. TakesTurn before after old new bytes rest reply is_last) stands.known taken in
    let done = done_outcome stream old new left rest before after along.replies reply stands (subst (TakesTurn before after old new stands.bytes rest reply) over turn) in
    record { ending = ap (λ (o : Outcome). o.ending) done; stands = ap (λ (o : Outcome). o.state) done }

-- ---- halts

tells_ending : (stream : List ℕ) (buffered : Buffered) (left : Option (List ℕ)) (state : State) (replies : List ℕ) (stands : Standing stream buffered left state replies) (halt : Halt)
    → NoTurnBy halt state buffered stands.bytes → TellsEnding halt (outcome stream).ending
tells_ending stream buffered left state replies stands (BadLine at) why = ap (λ (o : Outcome). o.ending) (bad_outcome stream buffered left state replies at stands why)
tells_ending stream buffered left state replies stands Cut why = ap (λ (o : Outcome). o.ending) (cut_outcome stream buffered left state replies stands why)
tells_ending stream buffered left state replies stands TooMuch why = ap (λ (o : Outcome). o.ending) (full_outcome stream buffered left state replies stands why)
tells_ending stream buffered left state replies stands ReadFault why = tt
tells_ending stream buffered left state replies stands NoMemory why = tt

pub along_halted : (stream : List ℕ) (buffered : Buffered) (left : Option (List ℕ)) (state : State) (halt : Halt) → Along stream buffered left state
    → IfSome (coming buffered left) (λ bytes. NoTurnBy halt state buffered bytes) → TellsEnding halt (outcome stream).ending
along_halted stream buffered left state halt along why =
    tells_ending stream buffered left state along.replies along.stands halt (at_known (λ bytes. NoTurnBy halt state buffered bytes) along.stands.known why)

-- ---- errors

-- what a halt tells of its stream is due
opened_unless : (halt : Halt) (ending : Ending) (state : State) → TellsEnding halt ending → OrWant (tells_no_ending (error_of halt)) (opened_by ending state ≡ Err (error_of halt))
opened_unless (BadLine at) ending state tells = ap (λ (e : Ending). opened_by e state) tells
opened_unless Cut ending state tells = ap (λ (e : Ending). opened_by e state) tells
opened_unless TooMuch ending state tells = ap (λ (e : Ending). opened_by e state) tells
opened_unless ReadFault ending state tells = tt
opened_unless NoMemory ending state tells = tt

pub opened_halted : (known : Option (List ℕ)) (halt : Halt) (error : OpeningError) → error ≡ error_of halt → IfSome known (λ stream. TellsEnding halt (outcome stream).ending)
    → IfSome known (λ stream. OrWant (tells_no_ending error) (opening_of stream ≡ Err error))
opened_halted None halt error is tells = tt
opened_halted (Some stream) halt error is tells =
    subst (λ (e : OpeningError). OrWant (tells_no_ending e) (opening_of stream ≡ Err e)) (sym is) (opened_unless halt (outcome stream).ending (outcome stream).state tells)

-- without a fault of the source
halted_unless_fault : (halt : Halt) (before after : ℕ) (left : Option (List ℕ)) (claim : Type 0) → HaltTells halt before after left → (IsRisen before after → ⊥) → OrWant (tells_no_ending (error_of halt)) claim
    → OrWant (wants_memory (error_of halt)) claim
halted_unless_fault ReadFault before after left claim tells unrisen due = absurd (unrisen tells)
halted_unless_fault NoMemory before after left claim tells unrisen due = tt
halted_unless_fault (BadLine at) before after left claim tells unrisen due = due
halted_unless_fault Cut before after left claim tells unrisen due = due
halted_unless_fault TooMuch before after left claim tells unrisen due = due

unless_fault : (error : OpeningError) (before after : ℕ) (left : Option (List ℕ)) (claim : Type 0) → HasCause error before after left → (IsRisen before after → ⊥) → OrWant (tells_no_ending error) claim
    → OrWant (wants_memory error) claim
unless_fault error before after left claim (inl none) unrisen due =
    subst (λ (e : OpeningError). OrWant (wants_memory e) claim) (sym none.0) (subst (λ (e : OpeningError). OrWant (tells_no_ending e) claim) none.0 due)
unless_fault error before after left claim (inr halted) unrisen due =
    subst (λ (e : OpeningError). OrWant (wants_memory e) claim) (sym halted.1)
    (halted_unless_fault halted.0 before after left claim halted.2 unrisen (subst (λ (e : OpeningError). OrWant (tells_no_ending e) claim) halted.1 due))

pub complete_error : (known : Option (List ℕ)) (error : OpeningError) (before after : ℕ) (left : Option (List ℕ)) → HasCause error before after left
    → IfSome known (λ stream. OrWant (tells_no_ending error) (opening_of stream ≡ Err error))
    → IfSome known (λ stream. (IsRisen before after → ⊥) → OrWant (wants_memory error) (opening_of stream ≡ Err error))
complete_error None error before after left cause due = tt
complete_error (Some stream) error before after left cause due = λ unrisen. unless_fault error before after left (opening_of stream ≡ Err error) cause unrisen due

-- the cause of a halt
pub halted_cause : (halt : Halt) (error : OpeningError) (before after : ℕ) (left : Option (List ℕ)) → error ≡ error_of halt → HaltTells halt before after left → HasCause error before after left
halted_cause halt error before after left is tells = inr (halt, is, tells)

-- a stream that was read to its end gives the store that the session stands in
pub opened_done : (known : Option (List ℕ)) (state : State) → IfSome known (λ stream. IsDoneIn (outcome stream) state) → IfSome known (λ stream. opening_of stream ≡ store_in state)
opened_done None state done = tt
opened_done (Some stream) state done = ap (λ (e : Ending). opened_by e (outcome stream).state) done.ending ∙ ap store_in done.stands
