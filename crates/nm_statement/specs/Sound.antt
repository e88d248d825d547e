-- Statements that a document can state.
use Rattle.std.specs.Prelude.{ℕ, List, length, Bool, ◌&&◌, is_none, nat_le}
use Rattle.std.specs.List.{list_all}
use Rattle.nm_ident.specs.Ident.{is_iri, is_sound_ident, ident_of_about}
use Rattle.nm_ident.specs.Name.{is_predicate}
use Rattle.nm_text.specs.Characters.{is_text}
use Rattle.nm_statement.specs.Limits.{longest_iri}
use Rattle.nm_statement.specs.Literal.{is_literal}
use Rattle.nm_statement.specs.declared.object.Object.{Object}
use Rattle.nm_statement.specs.declared.object.Object.TheVariants.{Literal, Resource, Iri}
use Rattle.nm_statement.specs.declared.statement.Statement.{Statement}
use Rattle.nm_statement.specs.Set.{is_rising}

-- an IRI that a document can state: not empty, no `#` first, no `urn:uuid:` and UUID, XML characters, and not too long
abbrev pub is_sound_iri : List ℕ → Bool
is_sound_iri iri = is_iri iri && is_none (ident_of_about iri) && is_text iri && nat_le (length iri) longest_iri

abbrev pub is_sound_object : Object → Bool
is_sound_object (Literal text) = is_literal text
is_sound_object (Resource ident) = is_sound_ident ident
is_sound_object (Iri iri) = is_sound_iri iri

abbrev pub is_sound_statement : Statement → Bool
is_sound_statement statement =
    is_sound_ident statement.subject && is_predicate statement.predicate && is_sound_object statement.object

-- a set of such statements
abbrev pub is_sound_set : List Statement → Bool
is_sound_set statements = is_rising statements && list_all is_sound_statement statements
