-- What is kept after a command, and after a list of them.
use Rattle.std.specs.Prelude.{◌≡◌, List, [], ◌∷◌, ◌++◌, Option, None, Some, Result, Ok, Err, map}
use Rattle.std.specs.List.{AllByRecursion, fold}
use Rattle.nm_model.specs.declared.document.Document.TheVariants as document
use Rattle.nm_reader.specs.Input.{IsDocumentOf}
use Rattle.nm_version.specs.Changed.{live_after}
use Rattle.nm_version.specs.Command.{HasLine, IsSpelt, entry_of}
use Rattle.nm_version.specs.Kept.{Kept, opened}
use Rattle.nm_version.specs.Refusal.{refusal_of}
use Rattle.nm_version.specs.declared.command.Command.{Command}
use Rattle.nm_version.specs.declared.refusal.Refusal.{Refusal}

-- the changed list, and the command at the end of the log
abbrev pub accepted : Kept → Command → Kept
accepted kept command = record kept { live = live_after kept command; log = kept.log ++ entry_of command ∷ [] }

abbrev pub result_of : Option Refusal → Kept → Result Kept Refusal
result_of None after = Ok after
result_of (Some refusal) after = Err refusal

-- what a command gives: its refusal, or what is kept then
abbrev pub commit_of : Kept → Command → Result Kept Refusal
commit_of kept command = result_of (refusal_of kept command) (accepted kept command)

abbrev pub or_before : Kept → Result Kept Refusal → Kept
or_before before (Ok after) = after
or_before before (Err refusal) = before

-- a refused command leaves what is kept
abbrev pub after : Kept → Command → Kept
after kept command = or_before kept (commit_of kept command)

abbrev pub after_all : Kept → List Command → Kept
after_all kept commands = fold after kept commands

-- the base and all commands are spelt by their bytes and have lines, none was refused, and they give what is kept
pub record IsReached (kept : Kept) : Type 0 where
  pub base : IsDocumentOf kept.bytes (document.Full kept.base)
  pub commands : List Command
  pub spelt : AllByRecursion IsSpelt commands
  pub lines : AllByRecursion HasLine commands
  pub logged : map entry_of commands ≡ kept.log
  pub reached : after_all (opened kept.base kept.bytes) commands ≡ kept
