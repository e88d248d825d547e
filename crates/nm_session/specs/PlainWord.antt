-- Command lines as values: what a `Word` says, wherever the text of its identifier stands.
use Rattle.std.specs.Prelude.{ℕ, List}
use Rattle.nm_session.specs.declared.word.Word.{Word}
use Rattle.nm_session.specs.declared.word.Word.TheVariants as word

-- lengths of documents, days, projects, and the text by which an object is named
pub data PlainWord : Type 0 where
  Base : ℕ → PlainWord
  File : List ℕ → ℕ → PlainWord
  Revise : ℕ → ℕ → PlainWord
  Redate : ℕ → List ℕ → PlainWord
  Withdraw : ℕ → PlainWord
  Assemble : List ℕ → PlainWord
  Object : List ℕ → List ℕ → PlainWord
  Timeline : List ℕ → PlainWord
  Projects : PlainWord
  Log : PlainWord
  Summary : List ℕ → PlainWord
  End : PlainWord

abbrev pub plain : Word → PlainWord
plain (word.Base len) = Base len
plain (word.File day len) = File day len
plain (word.Revise project len) = Revise project len
plain (word.Redate project day) = Redate project day
plain (word.Withdraw project) = Withdraw project
plain (word.Assemble day) = Assemble day
plain (word.Object day id) = Object day id.now
plain (word.Timeline id) = Timeline id.now
plain word.Projects = Projects
plain word.Log = Log
plain (word.Summary day) = Summary day
plain word.End = End
