-- Sets of statements: strictly rising lists.
use Rattle.std.specs.Prelude.{List, Bool, [], ◌∷◌, ◌++◌, not}
use Rattle.std.specs.BTreeSet.{insert_key}
use Rattle.std.specs.List.{list_any, filter}
use Rattle.std.specs.List.Sorted.{IsStrictlySortedBy}
use Rattle.std.specs.Ordering.{is_eq}
use Rattle.nm_ident.specs.Rising.{is_rising_by}
use Rattle.nm_statement.specs.declared.statement.Statement.{Statement}
use Rattle.nm_statement.specs.Order.{statement_cmp}

-- each statement is below those after it
abbrev pub IsRising : List Statement → Type 0
IsRising statements = IsStrictlySortedBy statement_cmp statements

-- whether they are one statement
abbrev pub is_same : Statement → Statement → Bool
is_same x y = is_eq (statement_cmp x y)

-- whether the statement is one of the list
abbrev pub has : List Statement → Statement → Bool
has statements statement = list_any (is_same statement) statements

-- the statements in order, each once
abbrev pub set_of : List Statement → List Statement
set_of [] = []
set_of (x ∷ xs) = insert_key statement_cmp (set_of xs) x

-- those of the first that are not in the second
abbrev pub minus_of : List Statement → List Statement → List Statement
minus_of xs ys = filter (λ x. not (has ys x)) xs

-- those of either
abbrev pub union_of : List Statement → List Statement → List Statement
union_of xs ys = set_of (xs ++ ys)

-- whether each statement is below the next
abbrev pub is_rising : List Statement → Bool
is_rising = is_rising_by statement_cmp
