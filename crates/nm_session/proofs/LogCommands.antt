-- The commands of a log, as a session takes them.
use Rattle.std.proofs.Common.{◌≡◌, ◌∙◌, ℕ, ◌+◌, ◌-◌, ◌≤◌, List, [], ◌∷◌, ◌++◌, length, true, Some, Ok, codes, cond, refl, sym, ap, arith, append_assoc}
use Rattle.std.proofs.lemmas.List.{append-nil, drop_at, length-append, take_all, take_at}
use Rattle.std.specs.Fmt.{decimal}
use Rattle.nm_ident.specs.UuidText.{uuid_text}
use Rattle.nm_model.specs.declared.document.Document.TheVariants as document
use Rattle.nm_model.specs.declared.document.Full.{Full}
use Rattle.nm_reader.proofs.Readings.{documents_are_read}
use Rattle.nm_reader.specs.Input.{IsDocumentOf}
use Rattle.nm_version.specs.After.{accepted, commit_of}
use Rattle.nm_version.specs.Command.{HasLine, IsSpelt, document_size, entry_of}
use Rattle.nm_version.specs.Kept.{Kept, number_of, opened}
use Rattle.nm_version.specs.Listing.{entry_text}
use Rattle.nm_version.specs.declared.command.Command.{Command}
use Rattle.nm_version.specs.declared.command.Command.TheVariants as command
use Rattle.nm_session.proofs.Commands.{next_by_line, whole_of}
use Rattle.nm_session.proofs.LogLines.{SaysWord, file_line, redate_line, revise_line, withdraw_line}
use Rattle.nm_session.specs.Body.{stated}
use Rattle.nm_session.specs.Limits.{longest_session}
use Rattle.nm_session.specs.Reply.{numbered}
use Rattle.nm_session.specs.Stream as stream
use Rattle.nm_session.specs.Stream.{by_word, next_in}
use Rattle.nm_session.specs.Turn.{Turn, allows, committed, turn_of, with_base, with_body}
use Rattle.nm_session.specs.Word.{body_length, word_of}
use Rattle.nm_session.specs.declared.state.State.{State}
use Rattle.nm_session.specs.declared.state.State.TheVariants.{Empty, Store}
use Rattle.nm_session.specs.PlainWord.{PlainWord, Base, File, Redate, Revise, Withdraw}

-- ---- a command in front of a stream

-- the bytes are a line, a body and a rest
abbrev AreSaid : List ℕ → List ℕ → List ℕ → List ℕ → Type 0
AreSaid bytes line body rest = bytes ≡ (line ++ 10 ∷ []) ++ body ++ rest

module _ (state : State) (word : PlainWord) (line body rest bytes : List ℕ) (says : SaysWord line word) (split : AreSaid bytes line body rest) (fits : length bytes ≤ longest_session) where
  parts : bytes ≡ (line ++ 10 ∷ []) ++ (body ++ rest)
  parts = split ∙ append_assoc (line ++ 10 ∷ []) body rest

  sized : length bytes ≡ length line + 1 + length (body ++ rest)
  sized = ap length parts ∙ length-append (line ++ 10 ∷ []) (body ++ rest) ∙ ap (λ n. n + length (body ++ rest)) (length-append line (10 ∷ []))

  line_stands : next_in state bytes ≡ by_word state (Some word) (body ++ rest)
  line_stands =
      ap (next_in state) (sym (take_all longest_session bytes fits))
      ∙ next_by_line state line (body ++ rest) bytes 0 parts says.short says.whole (omega (arith, sized))
      ∙ ap (by_word state (word_of line)) (take_all (longest_session - (0 + (length line + 1))) (body ++ rest) (omega (arith, sized)))
      ∙ ap (λ read. by_word state read (body ++ rest)) says.read

  pub comes : allows state word ≡ true → length body ≡ body_length word → next_in state bytes ≡ stream.Command word body rest
  comes allowed size =
      line_stands
      ∙ ap (λ b. cond b (stream.command_with_body word (body ++ rest)) stream.NotACommand) allowed
      ∙ whole_of word (body ++ rest) (omega (arith, size, length-append body rest))
      ∙ (λ i. stream.Command word (take_at body rest (body_length word) size i) (drop_at body rest (body_length word) size i))

-- ---- what a command is as a word with a body

abbrev pub line_said : Command → List ℕ
line_said (command.File day model bytes) = codes "file " ++ day ++ codes " " ++ decimal (length bytes)
line_said (command.Revise project model bytes) = codes "revise " ++ uuid_text project ++ codes " " ++ decimal (length bytes)
line_said (command.Redate project day) = codes "redate " ++ uuid_text project ++ codes " " ++ day
line_said (command.Withdraw project) = codes "withdraw " ++ uuid_text project

abbrev pub word_said : Command → PlainWord
word_said (command.File day model bytes) = File day (length bytes)
word_said (command.Revise project model bytes) = Revise project (length bytes)
word_said (command.Redate project day) = Redate project day
word_said (command.Withdraw project) = Withdraw project

abbrev pub body_said : Command → List ℕ
body_said (command.File day model bytes) = bytes
body_said (command.Revise project model bytes) = bytes
body_said (command.Redate project day) = []
body_said (command.Withdraw project) = []

pub entry_is : (one : Command) → entry_text (entry_of one) ≡ (line_said one ++ 10 ∷ []) ++ body_said one
entry_is (command.File day model bytes) = refl
entry_is (command.Revise project model bytes) = refl
entry_is (command.Redate project day) = sym (append-nil _)
entry_is (command.Withdraw project) = sym (append-nil _)

pub says_it : (one : Command) → IsSpelt one → HasLine one → SaysWord (line_said one) (word_said one)
says_it (command.File day model bytes) spelt line = file_line day (length bytes) line spelt.short
says_it (command.Revise project model bytes) spelt line = revise_line project (length bytes) line spelt.short
says_it (command.Redate project day) spelt line = redate_line project day line.0 line.1
says_it (command.Withdraw project) spelt line = withdraw_line project line

pub is_allowed : (kept : Kept) (one : Command) → allows (Store kept) (word_said one) ≡ true
is_allowed kept (command.File day model bytes) = refl
is_allowed kept (command.Revise project model bytes) = refl
is_allowed kept (command.Redate project day) = refl
is_allowed kept (command.Withdraw project) = refl

pub has_body : (one : Command) → length (body_said one) ≡ body_length (word_said one)
has_body (command.File day model bytes) = refl
has_body (command.Revise project model bytes) = refl
has_body (command.Redate project day) = refl
has_body (command.Withdraw project) = refl

pub body_sized : (one : Command) → length (body_said one) ≡ document_size (entry_of one)
body_sized (command.File day model bytes) = refl
body_sized (command.Revise project model bytes) = refl
body_sized (command.Redate project day) = refl
body_sized (command.Withdraw project) = refl

-- ---- its turn

-- an accepted command is answered with its number
abbrev pub turn_accepted : Kept → Command → Turn
turn_accepted kept one = record { reply = numbered (codes "ok") (number_of (accepted kept one)); state = Store (accepted kept one) }

pub turned : (kept : Kept) (one : Command) → IsSpelt one → commit_of kept one ≡ Ok (accepted kept one) → turn_of (Store kept) (word_said one) (body_said one) ≡ turn_accepted kept one
turned kept (command.File day model bytes) spelt e =
    ap (λ read. with_body kept (command.File day) (stated bytes read)) ((documents_are_read bytes model).1 spelt) ∙ ap (committed kept) e
turned kept (command.Revise project model bytes) spelt e =
    ap (λ read. with_body kept (command.Revise project) (stated bytes read)) ((documents_are_read bytes model).1 spelt) ∙ ap (committed kept) e
turned kept (command.Redate project day) spelt e = ap (committed kept) e
turned kept (command.Withdraw project) spelt e = ap (committed kept) e

pub opens : (base : Full) (bytes : List ℕ) → IsDocumentOf bytes (document.Full base)
    → turn_of Empty (Base (length bytes)) bytes ≡ record { reply = numbered (codes "ok") 0; state = Store (opened base bytes) }
opens base bytes spelt = ap (λ read. with_base (stated bytes read)) ((documents_are_read bytes (document.Full base)).1 spelt)
