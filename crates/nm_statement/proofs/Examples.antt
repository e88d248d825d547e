-- Worked examples of texts and of sound statements, computed.
use Rattle.std.proofs.Common.{◌≡◌, ℕ, List, [], ◌∷◌, codes, true, false, Ok, Err, refl}
use Rattle.std.specs.Str.{chars, is_utf8}
use lib.Utf8.{encode}
use Rattle.uuid.proofs.OnLiterals.{uuid_on_literals}
use Rattle.nm_ident.specs.Name.{dm_namespace, md_namespace, rdf_namespace}
use Rattle.nm_ident.specs.UuidText.{uuid_of}
use Rattle.nm_ident.specs.declared.ident.Ident.TheVariants.{Local}
use Rattle.nm_ident.specs.declared.ident.Target.TheVariants as target
use Rattle.nm_statement.specs.Sound.{is_sound_iri, is_sound_object, is_sound_set, is_sound_statement}
use Rattle.nm_statement.specs.Text.{iri_object, literal_of, object_of, text_within}
use Rattle.nm_statement.specs.declared.error.TextError.TheVariants.{Bad, Long}
use Rattle.nm_statement.specs.declared.object.Object.{Object}
use Rattle.nm_statement.specs.declared.object.Object.TheVariants.{Literal, Resource, Iri}
use Rattle.nm_statement.specs.declared.statement.Statement.{Statement}

-- ---- texts that are taken

literal : literal_of (codes "North") ≡ Ok (codes "North")
unfolding chars is_utf8 encode
literal = refl

-- U+0007 is no character of XML
control_character : literal_of (7 ∷ []) ≡ Err Bad
unfolding chars is_utf8 encode
control_character = refl

as_many_bytes_as_may_be : text_within 5 (codes "North") ≡ Ok (codes "North")
unfolding chars is_utf8 encode
as_many_bytes_as_may_be = refl

one_byte_more : text_within 4 (codes "North") ≡ Err Long
unfolding chars is_utf8 encode
one_byte_more = refl

-- what is no text is so however long it is
no_text_and_too_long : text_within 1 (7 ∷ 7 ∷ []) ≡ Err Bad
unfolding chars is_utf8 encode
no_text_and_too_long = refl

resource : object_of (target.Ident (Local (codes "a"))) ≡ Ok (Resource (Local (codes "a")))
resource = refl

iri : object_of (target.Iri (codes "http://iec.ch/#A")) ≡ Ok (Iri (codes "http://iec.ch/#A"))
unfolding chars is_utf8 encode
iri = refl

long_iri : iri_object (text_within 3 (codes "http")) ≡ Err Long
unfolding chars is_utf8 encode
long_iri = refl

-- ---- sound statements

abbrev states : List ℕ → List ℕ → Object → Statement
states subject ns object = record {
  subject = Local subject;
  predicate = record { ns = ns; local = codes "type" };
  object = object;
}

sound : is_sound_statement (states (codes "a") rdf_namespace (Literal (codes "North"))) ≡ true
unfolding chars is_utf8 encode
sound = refl

subject_that_is_no_name : is_sound_statement (states (codes "1") rdf_namespace (Literal (codes "North"))) ≡ false
unfolding chars is_utf8 encode
subject_that_is_no_name = refl

-- headers are said by other elements
property_of_a_header : is_sound_statement (states (codes "a") md_namespace (Literal (codes "North"))) ≡ false
unfolding chars is_utf8 encode
property_of_a_header = refl

section_of_a_difference : is_sound_statement (states (codes "a") dm_namespace (Literal (codes "North"))) ≡ false
unfolding chars is_utf8 encode
section_of_a_difference = refl

literal_of_a_control_character : is_sound_object (Literal (7 ∷ [])) ≡ false
unfolding chars is_utf8 encode
literal_of_a_control_character = refl

sound_iri : is_sound_iri (codes "http://iec.ch/#A") ≡ true
unfolding chars is_utf8 encode uuid_of uuid_on_literals
sound_iri = refl

-- these would be read back as resources
iri_of_a_name : is_sound_iri (codes "#a") ≡ false
iri_of_a_name = refl

iri_of_a_uuid : is_sound_iri (codes "urn:uuid:f81d4fae-7dec-11d0-a765-00a0c91e6bf6") ≡ false
unfolding uuid_of uuid_on_literals
iri_of_a_uuid = refl

empty_iri : is_sound_iri [] ≡ false
empty_iri = refl

abbrev north : Statement
north = states (codes "a") rdf_namespace (Literal (codes "North"))

sound_set : is_sound_set (north ∷ states (codes "b") rdf_namespace (Literal (codes "North")) ∷ []) ≡ true
unfolding chars is_utf8 encode
sound_set = refl

statement_twice : is_sound_set (north ∷ north ∷ []) ≡ false
unfolding chars is_utf8 encode
statement_twice = refl
