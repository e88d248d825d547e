-- The texts that are taken as literals and as IRIs, and what is refused.
use Rattle.std.specs.Prelude.{ℕ, List, length, nat_le, if◌then◌else◌, Result, Ok, Err}
use Rattle.nm_ident.specs.declared.ident.Target.{Target}
use Rattle.nm_ident.specs.declared.ident.Target.TheVariants as target
use Rattle.nm_text.specs.Characters.{is_text}
use Rattle.nm_statement.specs.Limits.{longest_iri, longest_literal}
use Rattle.nm_statement.specs.declared.error.TextError.{TextError}
use Rattle.nm_statement.specs.declared.error.TextError.TheVariants.{Bad, Long}
use Rattle.nm_statement.specs.declared.object.Object.{Object}
use Rattle.nm_statement.specs.declared.object.Object.TheVariants.{Resource, Iri}

-- the bytes, where they are UTF-8 of characters of XML, and at most `longest`
abbrev pub text_within : ℕ → List ℕ → Result (List ℕ) TextError
text_within longest bytes =
    if is_text bytes then (if nat_le (length bytes) longest then Ok bytes else Err Long) else Err Bad

abbrev pub literal_of : List ℕ → Result (List ℕ) TextError
literal_of = text_within longest_literal

-- an IRI as an object, of its text
abbrev pub iri_object : Result (List ℕ) TextError → Result Object TextError
iri_object (Ok iri) = Ok (Iri iri)
iri_object (Err error) = Err error

-- a resource as it is, an IRI where its text is not too long
abbrev pub object_of : Target → Result Object TextError
object_of (target.Ident ident) = Ok (Resource ident)
object_of (target.Iri iri) = iri_object (text_within longest_iri iri)
