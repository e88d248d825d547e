-- The limits of documents.
use Rattle.std.specs.Prelude.{ℕ}

-- bytes of a document
abbrev pub longest_document : ℕ
longest_document = 67108864

-- statements of a full model
abbrev pub most_statements : ℕ
most_statements = 1048576

-- statements of a difference model's sections together
abbrev pub most_changes : ℕ
most_changes = 65536

-- profiles that a header states
abbrev pub most_profiles : ℕ
most_profiles = 64

-- models that a header depends on
abbrev pub most_dependencies : ℕ
most_dependencies = 64

-- models that a header supersedes
abbrev pub most_superseded : ℕ
most_superseded = 4160
