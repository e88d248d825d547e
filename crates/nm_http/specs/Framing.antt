-- Where a head ends, and how large it is: a head is the bytes up to and with the first CR LF CR LF.
use Rattle.std.specs.Prelude.{ℕ, ◌+◌, ◌-◌, List, [], ◌∷◌, nat_eq, nat_lt, length, take, Option, None, Some, if◌then◌else◌}
use Rattle.std.specs.List.{starts_with}
use Rattle.std.specs.Option.{option_map}
use Rattle.nm_http.specs.Limits.{longest_head, most_fields}

abbrev pub line_end : List ℕ
line_end = 13 ∷ 10 ∷ []

abbrev pub head_end : List ℕ
head_end = 13 ∷ 10 ∷ 13 ∷ 10 ∷ []

-- how many bytes the head in front has
abbrev pub head_length : List ℕ → Option ℕ
head_length [] = None
head_length (byte ∷ bytes) =
    if starts_with nat_eq (byte ∷ bytes) head_end then Some 4 else option_map (λ count. count + 1) (head_length bytes)

abbrev pub line_end_in_front : List ℕ → ℕ
line_end_in_front bytes = if starts_with nat_eq bytes line_end then 1 else 0

-- how often CR LF stands in the bytes
abbrev pub line_ends : List ℕ → ℕ
line_ends [] = 0
line_ends (byte ∷ bytes) = line_end_in_front (byte ∷ bytes) + line_ends bytes

-- the lines of a head that end with CR LF, without the first and the empty last one
abbrev pub field_lines : List ℕ → ℕ
field_lines head = line_ends head - 2

abbrev pub refusal_of_head : ℕ → List ℕ → Option ℕ
refusal_of_head count bytes =
    if nat_lt most_fields (field_lines (take count bytes)) then Some 431
    else if nat_lt count (length bytes) then Some 400
    else None

abbrev pub refusal_by : Option ℕ → List ℕ → Option ℕ
refusal_by None bytes = if nat_lt (length bytes) longest_head then Some 400 else Some 431
refusal_by (Some count) bytes = refusal_of_head count bytes

-- 431 where no head ends within the longest, though as many bytes are there, or where a head has more field
-- lines than are taken; 400 where the bytes are no head, since it is not whole or more stands behind it
unfoldable pub size_refusal : List ℕ → Option ℕ
size_refusal bytes = refusal_by (head_length (take longest_head bytes)) bytes
