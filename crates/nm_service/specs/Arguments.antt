-- The words that ask for the service.
use Rattle.std.specs.Prelude.{ℕ, List, [], ◌∷◌, Option, None, Some, codes, ◌==◌, if◌then◌else◌}
use Rattle.nm_terms.specs.Bytes.{same_text}
use Rattle.nm_service.specs.Limits.{largest_port, most_connections, most_workers}
use Rattle.nm_session.specs.Digits.{numeral_within}

-- a number that is not 0
abbrev pub positive : Option ℕ → Option ℕ
positive None = None
positive (Some number) = if number == 0 then None else Some number

-- the number, 1 to `most`, that decimal digits without a leading zero spell
abbrev pub positive_within : ℕ → List ℕ → Option ℕ
positive_within most text = positive (numeral_within most text)

-- three numbers, where each is there
abbrev pub all_of : Option ℕ → Option ℕ → Option ℕ → Option (ℕ × ℕ × ℕ)
all_of None second third = None
all_of (Some first) None third = None
all_of (Some first) (Some second) None = None
all_of (Some first) (Some second) (Some third) = Some (first, second, third)

abbrev pub numbers_of : List ℕ → List ℕ → List ℕ → Option (ℕ × ℕ × ℕ)
numbers_of port workers count =
    all_of (positive_within largest_port port) (positive_within most_workers workers) (positive_within most_connections count)

abbrev pub serve_with : List ℕ → List ℕ → List ℕ → List ℕ → Option (ℕ × ℕ × ℕ)
serve_with word port workers count = if same_text word (codes "serve") then numbers_of port workers count else None

-- `serve PORT WORKERS COUNT`
abbrev pub serve_form : List (List ℕ) → Option (ℕ × ℕ × ℕ)
serve_form (word ∷ port ∷ workers ∷ count ∷ []) = serve_with word port workers count
serve_form _ = None
