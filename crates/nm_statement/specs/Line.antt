-- The line that reports a statement.
use Rattle.std.specs.Prelude.{ℕ, List, [], ◌∷◌, ◌++◌, ◌==◌, if◌then◌else◌}
use Rattle.std.specs.List.{flat_map}
use Rattle.nm_ident.specs.Ident.{id_of}
use Rattle.nm_ident.specs.QualifiedName.{QualifiedName}
use Rattle.nm_ident.specs.declared.ident.Ident.{Ident}
use Rattle.nm_statement.specs.declared.object.Object.{Object}
use Rattle.nm_statement.specs.declared.object.Object.TheVariants.{Literal, Resource, Iri}
use Rattle.nm_statement.specs.declared.statement.Statement.{Statement}

-- a backslash, and what stands for the byte behind it
abbrev escape : ℕ → List ℕ
escape byte = 92 ∷ byte ∷ []

-- `\`, `"`, LF, CR and tab behind a backslash, each other byte as it is
abbrev pub escaped_byte : ℕ → List ℕ
escaped_byte byte =
    if byte == 92 then escape 92
    else if byte == 34 then escape 34
    else if byte == 10 then escape 110
    else if byte == 13 then escape 114
    else if byte == 9 then escape 116
    else byte ∷ []

abbrev pub escaped : List ℕ → List ℕ
escaped = flat_map escaped_byte

-- `#` and the text of the `rdf:ID`
abbrev pub hash_of : Ident → List ℕ
hash_of ident = 35 ∷ id_of ident

abbrev pub bracketed : List ℕ → List ℕ
bracketed text = 60 ∷ escaped text ++ 62 ∷ []

abbrev pub quoted : List ℕ → List ℕ
quoted text = 34 ∷ escaped text ++ 34 ∷ []

abbrev pub object_text : Object → List ℕ
object_text (Literal text) = quoted text
object_text (Resource ident) = hash_of ident
object_text (Iri iri) = bracketed iri

-- the namespace and the local name
abbrev pub predicate_text : QualifiedName → List ℕ
predicate_text name = bracketed (name.ns ++ name.local)

-- subject, predicate and object, with a space between them
abbrev pub line_of : Statement → List ℕ
line_of statement =
    hash_of statement.subject ++ 32 ∷ predicate_text statement.predicate ++ 32 ∷ object_text statement.object
