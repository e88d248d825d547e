-- The forms of the command line.
use Rattle.std.specs.Prelude.{ℕ, ◌≤◌, List, [], ◌∷◌, Option, None, Some, codes, ◌==◌, if◌then◌else◌}
use Rattle.nm_terms.specs.Bytes.{same_text}
use Rattle.nm_gen.specs.Limits.{most_projects}
use Rattle.nm_session.specs.Digits.{numeral_within}
use Rattle.nm_cli.specs.declared.form.Form.{Form}
use Rattle.nm_cli.specs.declared.form.Form.TheVariants.{Session, Canon, Check, Gen}

abbrev pub form_named : List ℕ → Option Form
form_named word =
    if same_text word (codes "session") then Some Session
    else if same_text word (codes "canon") then Some Canon
    else if same_text word (codes "check") then Some Check
    else None

-- the largest number that a generated session is drawn from
abbrev pub largest_seed : ℕ
largest_seed = 4294967295

-- a generated session has at least one project
abbrev pub gen_of : Option ℕ → Option ℕ → Option Form
gen_of None seed = None
gen_of (Some projects) None = None
gen_of (Some projects) (Some seed) = if projects == 0 then None else Some (Gen projects seed)

abbrev pub form_with_numbers : List ℕ → List ℕ → List ℕ → Option Form
form_with_numbers word projects seed =
    if same_text word (codes "gen") then gen_of (numeral_within most_projects projects) (numeral_within largest_seed seed)
    else None

-- the form that the words are: one word alone, or a word and two numbers
abbrev pub form_of : List (List ℕ) → Option Form
form_of (word ∷ []) = form_named word
form_of (word ∷ projects ∷ seed ∷ []) = form_with_numbers word projects seed
form_of _ = None

-- the form's projects can be generated
abbrev pub HasProjects : Form → Type 0
HasProjects Session = Unit {0}
HasProjects Canon = Unit {0}
HasProjects Check = Unit {0}
HasProjects (Gen projects seed) = (1 ≤ projects) × (projects ≤ most_projects)
