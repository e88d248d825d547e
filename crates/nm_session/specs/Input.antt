-- The lines and documents of a stream, over the bytes that still come.
use Rattle.std.specs.Prelude.{◌≡◌, ℕ, ◌+◌, ◌-◌, ◌<◌, ◌≤◌, List, [], ◌∷◌, ◌++◌, length, take, Option, None, Some, position, IfSome, Result, Ok, Err, IfErr, OnOk}
use Rattle.std.specs.Io.KnownBytes.{prepend_known, Consumes, IsAtEnd}
use Rattle.nm_base.specs.Faults.{IsRisen}
use Rattle.nm_reader.specs.Input.{IsDocumentOf}
use Rattle.nm_reader.specs.Read.{read_due}
use Rattle.nm_reader.specs.declared.error.ReadError.TheVariants as read_error
use Rattle.nm_session.specs.Buffered.{Buffered}
use Rattle.nm_session.specs.Halts.{stop_of}
use Rattle.nm_session.specs.Limits.{longest_line, longest_session}
use Rattle.nm_session.specs.Received.{Received}
use Rattle.nm_session.specs.Stream.{is_line_feed, line_end}
use Rattle.nm_session.specs.declared.body.Spelling.{Spelling}
use Rattle.nm_session.specs.declared.body.Spelling.TheVariants.{Good, Bad}
use Rattle.nm_session.specs.declared.halt.Halt.{Halt}
use Rattle.nm_session.specs.declared.halt.Halt.TheVariants.{BadLine, Cut, TooMuch, ReadFault, NoMemory}
use Rattle.nm_session.specs.declared.stop.Stop.{Stop}

-- the bytes that still come, where the source tells what it has left: those buffered, and then those left
abbrev pub coming : Buffered → Option (List ℕ) → Option (List ℕ)
coming buffered left = prepend_known buffered.ahead left

-- the bytes that a session may still take of those that come
abbrev pub in_session : Buffered → List ℕ → List ℕ
in_session buffered bytes = take (longest_session - buffered.given) bytes

-- the next line, which is no longer than a line may be and ends within the session
pub record GivesLine (old new : Buffered) (before after : Option (List ℕ)) (line : List ℕ) : Type 0 where
  pub short : length line ≤ longest_line
  pub whole : position is_line_feed line ≡ None
  pub taken : Consumes (coming old before) (coming new after) (line ++ 10 ∷ [])
  pub given : new.given ≡ old.given + length line + 1
  pub limit : new.given ≤ longest_session

-- the next `len` bytes
pub record GivesBody (old new : Buffered) (before after : Option (List ℕ)) (len : ℕ) (body : List ℕ) : Type 0 where
  pub size : length body ≡ len
  pub taken : Consumes (coming old before) (coming new after) body
  pub given : new.given ≡ old.given + len
  pub limit : new.given ≤ longest_session

-- the model that the bytes state, with them, or their fault
abbrev pub Spells : Spelling → List ℕ → Type 0
Spells (Good document bytes) given = (bytes ≡ given) × (read_due given ≡ Ok document) × IsDocumentOf given document
Spells (Bad fault) given = read_due given ≡ Err (read_error.Fault fault)

-- the next `len` bytes, as a document
pub record GivesSpelling (old new : Buffered) (before after : Option (List ℕ)) (len : ℕ) (spelling : Spelling) : Type 0 where
  pub bytes : List ℕ
  pub body : GivesBody old new before after len bytes
  pub spells : Spells spelling bytes

-- no line ends among the bytes that the session may still take, and these may still be a line's
pub record HasNoLine (rest : List ℕ) : Type 0 where
  pub short : length rest ≤ longest_line
  pub none : line_end rest ≡ None

-- more bytes come than a line may have, and no line ends among those that would be its own
pub record IsLongLine (rest : List ℕ) : Type 0 where
  pub long : longest_line < length rest
  pub none : line_end rest ≡ None

-- why no line was given
abbrev pub NoLineBy : Halt → Buffered → Option (List ℕ) → Type 0
NoLineBy (BadLine at) buffered left =
    (at ≡ buffered.given) × IfSome (coming buffered left) (λ bytes. IsLongLine (in_session buffered bytes))
NoLineBy TooMuch buffered left =
    IfSome (coming buffered left) (λ bytes. HasNoLine (in_session buffered bytes) × (longest_session ≤ buffered.given + length bytes))
NoLineBy Cut buffered left =
    IfSome (coming buffered left) (λ bytes. HasNoLine (in_session buffered bytes) × (buffered.given + length bytes < longest_session))
NoLineBy ReadFault buffered left = Unit {0}
NoLineBy NoMemory buffered left = Unit {0}

-- why the `len` bytes of a document were not given
abbrev pub NoBodyBy : Halt → ℕ → Buffered → Option (List ℕ) → Type 0
NoBodyBy TooMuch len buffered left =
    IfSome (coming buffered left) (λ bytes. (length (in_session buffered bytes) < len) × (longest_session ≤ buffered.given + length bytes))
NoBodyBy Cut len buffered left =
    IfSome (coming buffered left) (λ bytes. (length (in_session buffered bytes) < len) × (buffered.given + length bytes < longest_session))
NoBodyBy ReadFault len buffered left = Unit {0}
NoBodyBy NoMemory len buffered left = Unit {0}
NoBodyBy (BadLine at) len buffered left = ⊥

-- what a halt tells of the source: that its count of faults rose, and else that it stayed, and at a cut that nothing
-- is left
abbrev pub HaltTells : Halt → ℕ → ℕ → Option (List ℕ) → Type 0
HaltTells ReadFault before after left = IsRisen before after
HaltTells Cut before after left = (after ≡ before) × IsAtEnd left
HaltTells NoMemory before after left = after ≡ before
HaltTells (BadLine at) before after left = after ≡ before
HaltTells TooMuch before after left = after ≡ before

-- the count of a source's faults never falls, and stays unless a halt tells of a fault
pub record CountsReads {T : Type 0} (before after : ℕ) (left : Option (List ℕ)) (result : Result T Halt) : Type 0 where
  pub kept : before ≤ after
  pub stays : OnOk result (after ≡ before)
  pub tells : IfErr result (λ halt. HaltTells halt before after left)

-- ---- an input, which answers its first stop from then on

-- it keeps why it gives nothing more, which is so, and its offset; the stop tells it
pub record StopsBy (old new : Received) (stop : Stop) (why : Halt → Type 0) : Type 0 where
  pub halt : Halt
  pub kept : new.halted ≡ Some halt
  pub given : new.buffered.given ≡ old.buffered.given
  pub told : stop ≡ stop_of halt
  pub because : why halt

-- an earlier stop is answered again, with nothing read
pub record StopsAgain {T : Type 0} (earlier : Halt) (result : Result T Stop) (old new : Received) (before after : Option (List ℕ)) (reads_before reads_after : ℕ) : Type 0 where
  pub again : result ≡ Err (stop_of earlier)
  pub same : new ≡ old
  pub unread : after ≡ before
  pub faults : reads_after ≡ reads_before

-- why no line was given, and what that tells of the source
abbrev pub LineStops : Buffered → Option (List ℕ) → Option (List ℕ) → ℕ → ℕ → Halt → Type 0
LineStops buffered before after reads_before reads_after halt = NoLineBy halt buffered before × HaltTells halt reads_before reads_after after

-- .. and why no document of `len` bytes was
abbrev pub BodyStops : ℕ → Buffered → Option (List ℕ) → Option (List ℕ) → ℕ → ℕ → Halt → Type 0
BodyStops len buffered before after reads_before reads_after halt = NoBodyBy halt len buffered before × HaltTells halt reads_before reads_after after
