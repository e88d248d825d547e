-- The generated stream.
use Rattle.std.specs.Prelude.{ℕ, ◌/◌, ◌%◌, ◌==◌, Bool, List, [], ◌∷◌, ◌++◌, length, codes, if◌then◌else◌}
use Rattle.std.specs.Fmt.{decimal}
use Rattle.std.specs.List.{flat_map, range_with_len}
use Rattle.nm_ident.specs.UuidText.{uuid_text}
use Rattle.nm_writer.specs.Canonical.{canonical_difference, canonical_full}
use Rattle.nm_gen.specs.Days.{drawn_day}
use Rattle.nm_gen.specs.Draws.{next_state, state_after}
use Rattle.nm_gen.specs.Models.{base_model, project_model}
use Rattle.nm_gen.specs.Terms.{project_id}

abbrev pub line : List ℕ → List ℕ
line text = text ++ 10 ∷ []

-- a line that ends with the length of the document behind it
abbrev pub with_document : List ℕ → List ℕ → List ℕ
with_document words document = line (words ++ codes " " ++ decimal (length document)) ++ document

-- the base, with which the stream begins
abbrev pub base_command : List ℕ
base_command = with_document (codes "base") (canonical_full base_model)

-- a project is filed to a day
abbrev pub filing_to : List ℕ → ℕ → List ℕ
filing_to day number = with_document (codes "file " ++ day) (canonical_difference (project_model number))

-- each project is filed to the day of one more draw
abbrev pub filing : ℕ → ℕ → List ℕ
filing state number = filing_to (drawn_day (state_after state number)) number

abbrev pub filings : ℕ → ℕ → List ℕ
filings state projects = flat_map (filing state) (range_with_len 1 projects)

-- a project is moved to another day
abbrev pub redating_to : List ℕ → ℕ → List ℕ
redating_to day number = line (codes "redate " ++ uuid_text (project_id number) ++ codes " " ++ day)

-- every third project gets another day
abbrev pub is_redated : ℕ → Bool
is_redated number = number % 3 == 0

-- what is written of a project behind the draws that led to a state, and the state behind it
abbrev pub redating_from : ℕ → ℕ → List ℕ
redating_from state number = if is_redated number then redating_to (drawn_day (next_state state)) number else []

abbrev pub state_behind_redating : ℕ → ℕ → ℕ
state_behind_redating state number = if is_redated number then next_state state else state

-- the day is that of one more draw for each
abbrev pub redating : ℕ → ℕ → List ℕ
redating state number = if is_redated number then redating_to (drawn_day (state_after state (number / 3))) number else []

abbrev pub redatings : ℕ → ℕ → List ℕ
redatings state projects = flat_map (redating state) (range_with_len 1 projects)

abbrev pub withdrawing : ℕ → List ℕ
withdrawing number = line (codes "withdraw " ++ uuid_text (project_id number))

-- every fifth project is withdrawn
abbrev pub withdrawal : ℕ → List ℕ
withdrawal number = if number % 5 == 0 then withdrawing number else []

abbrev pub withdrawals : ℕ → List ℕ
withdrawals projects = flat_map withdrawal (range_with_len 1 projects)

-- the summaries of two days, and the end
abbrev pub ending : List ℕ
ending = line (codes "summary 2031-12-31") ++ line (codes "summary 2036-12-31") ++ line (codes "end")

-- the base, the filings, the other days, the withdrawals, and the ending; draws go on from one part to the next
unfoldable pub stream_of : ℕ → ℕ → List ℕ
stream_of projects seed =
    base_command ++ filings seed projects ++ redatings (state_after seed projects) projects ++ withdrawals projects ++ ending
