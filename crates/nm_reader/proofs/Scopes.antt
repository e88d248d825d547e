-- What declarations say of a prefix where more stand behind them.
use Rattle.std.proofs.Common.{◌≡◌, ℕ, List, [], ◌∷◌, ◌++◌, Bool, true, false, Option, None, Some, if◌then◌else◌, ◌-◌, ◌≤◌, length, take, drop, get_or, refl, sym, ap, ◌∙◌, arith}
use Rattle.std.proofs.lemmas.List.{take_all}
use Rattle.nm_reader.specs.Context.{scope_in}
use Rattle.nm_reader.specs.Namespaces.{declared, same_prefix}
use Rattle.nm_reader.specs.Opened.{Declaration}
use Rattle.nm_reader.specs.Opened.{Opened}

first_if : (same : Bool) (namespace found : List ℕ) (others more : Option (List ℕ)) → (others ≡ Some found → more ≡ Some found)
    → (if same then Some namespace else others) ≡ Some found → (if same then Some namespace else more) ≡ Some found
first_if true namespace found others more go is = is
first_if false namespace found others more go is = go is

later_if : (same : Bool) (namespace : List ℕ) (others more behind : Option (List ℕ)) → (others ≡ None → more ≡ behind)
    → (if same then Some namespace else others) ≡ None → (if same then Some namespace else more) ≡ behind
later_if true namespace others more behind go is = absurd (grind arith)
later_if false namespace others more behind go is = go is

pub declared_first : (declarations outer : List Declaration) (prefix : Option (List ℕ)) (found : List ℕ) → declared declarations prefix ≡ Some found → declared (declarations ++ outer) prefix ≡ Some found
declared_first [] outer prefix found is = absurd (grind arith)
declared_first (d ∷ ds) outer prefix found is =
    first_if (same_prefix d.prefix prefix) d.namespace found (declared ds prefix) (declared (ds ++ outer) prefix) (declared_first ds outer prefix found) is

pub declared_later : (declarations outer : List Declaration) (prefix : Option (List ℕ)) → declared declarations prefix ≡ None → declared (declarations ++ outer) prefix ≡ declared outer prefix
declared_later [] outer prefix is = refl
declared_later (d ∷ ds) outer prefix is =
    later_if (same_prefix d.prefix prefix) d.namespace (declared ds prefix) (declared (ds ++ outer) prefix) (declared outer prefix) (declared_later ds outer prefix) is

all_but_first : {X : Type 0} (x : X) (xs : List X) → take (length (x ∷ xs) - 1) (drop 1 (x ∷ xs)) ≡ xs
all_but_first x xs = take_all (length (x ∷ xs) - 1) xs (omega arith)

-- a prefix that the innermost element does not declare means what it means around it
pub declared_outside : (elements : List Opened) (opened : Opened) (prefix : Option (List ℕ)) → 1 ≤ length elements → opened ≡ get_or elements 0 opened
    → None ≡ declared opened.declared prefix → declared (scope_in (take (length elements - 1) (drop 1 elements))) prefix ≡ declared (scope_in elements) prefix
declared_outside [] opened prefix some first none = absurd (omega arith)
declared_outside (x ∷ xs) opened prefix some first none =
    ap (λ e. declared (scope_in e) prefix) (all_but_first x xs)
    ∙ sym (declared_later x.declared (scope_in xs) prefix (ap (λ o. declared o.declared prefix) (sym first) ∙ sym none))
