-- What a version keeps: the base with its bytes, the live projects, and the log of accepted commands.
use Rattle.std.specs.Prelude.{ℕ, ◌+◌, List, [], ◌∷◌, ◌++◌, length, sum_by}
use Rattle.nm_model.specs.declared.document.Full.{Full}
use Rattle.nm_stage.specs.Project.{PlainProject}
use Rattle.nm_version.specs.Command.{document_size}
use Rattle.nm_version.specs.declared.command.Entry.{Entry}

pub record Kept : Type 0 where
  pub base : Full
  pub bytes : List ℕ
  pub live : List PlainProject
  pub log : List Entry

-- a base to which nothing was filed
abbrev pub opened : Full → List ℕ → Kept
opened base bytes = record { base = base; bytes = bytes; live = []; log = [] }

-- with these live projects, and one command more in the log
abbrev pub with_entry : Kept → List PlainProject → Entry → Kept
with_entry kept live entry = record kept { live = live; log = kept.log ++ entry ∷ [] }

-- how many commands were accepted
abbrev pub number_of : Kept → ℕ
number_of kept = length kept.log

-- the bytes of documents over the base and the log
abbrev pub size_of : Kept → ℕ
size_of kept = length kept.bytes + sum_by document_size kept.log
