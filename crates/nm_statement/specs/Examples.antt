-- Worked examples of the definitions, computed.
use Rattle.std.specs.Prelude.{◌≡◌, ℕ, List, [], ◌∷◌, ◌++◌, codes, true, false, refl}
use Rattle.nm_ident.specs.declared.ident.Ident.TheVariants.{Local}
use Rattle.nm_statement.specs.Line.{line_of}
use Rattle.nm_statement.specs.Set.{has, minus_of, set_of, union_of}
use Rattle.nm_statement.specs.declared.object.Object.{Object}
use Rattle.nm_statement.specs.declared.object.Object.TheVariants.{Literal, Resource, Iri}
use Rattle.nm_statement.specs.declared.statement.Statement.{Statement}

abbrev states : List ℕ → Object → Statement
states subject object = record {
  subject = Local subject;
  predicate = record { ns = codes "http://iec.ch/#"; local = codes "name" };
  object = object;
}

abbrev north : Statement
north = states (codes "a") (Literal (codes "North"))

abbrev south : Statement
south = states (codes "a") (Literal (codes "South"))

-- a literal stands before a resource, and a resource before an IRI
abbrev resource : Statement
resource = states (codes "a") (Resource (Local (codes "A")))

abbrev iri : Statement
iri = states (codes "a") (Iri (codes "A"))

abbrev other : Statement
other = states (codes "b") (Literal (codes "North"))

each_once : set_of (other ∷ iri ∷ north ∷ resource ∷ south ∷ north ∷ other ∷ []) ≡ north ∷ south ∷ resource ∷ iri ∷ other ∷ []
each_once = refl

has_one : has (north ∷ iri ∷ []) iri ≡ true
has_one = refl

lacks_one : has (north ∷ iri ∷ []) resource ≡ false
lacks_one = refl

without : minus_of (north ∷ south ∷ other ∷ []) (south ∷ resource ∷ []) ≡ north ∷ other ∷ []
without = refl

both : union_of (north ∷ other ∷ []) (south ∷ other ∷ []) ≡ north ∷ south ∷ other ∷ []
both = refl

-- `\`, `"`, LF, CR and tab in a literal, and a byte that is no ASCII
escapes : line_of (states (codes "a") (Literal (92 ∷ 34 ∷ 10 ∷ 13 ∷ 9 ∷ 195 ∷ 182 ∷ [])))
    ≡ codes "#a <http://iec.ch/#name> " ++ 34 ∷ 92 ∷ 92 ∷ 92 ∷ 34 ∷ 92 ∷ 110 ∷ 92 ∷ 114 ∷ 92 ∷ 116 ∷ 195 ∷ 182 ∷ 34 ∷ []
escapes = refl

points : line_of resource ≡ codes "#a <http://iec.ch/#name> #A"
points = refl

names : line_of iri ≡ codes "#a <http://iec.ch/#name> <A>"
names = refl
