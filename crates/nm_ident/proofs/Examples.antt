-- Worked examples of the definitions on UUIDs, computed. The UUID and its number are the example
-- of RFC 9562, section 4.
use Rattle.std.proofs.Common.{◌≡◌, ℕ, List, ◌∷◌, ◌++◌, codes, false, None, Some, refl}
use Rattle.uuid.proofs.OnLiterals.{uuid_on_literals}
use Rattle.nm_ident.specs.Ident.{ident_of_id, ident_of_about, target_of, id_of, is_sound_ident}
use Rattle.nm_ident.specs.UuidText.{uuid_of, uuid_text}
use Rattle.nm_ident.specs.declared.ident.Ident.TheVariants.{Uuid, Local}
use Rattle.nm_ident.specs.declared.ident.Target.TheVariants as target

abbrev example_number : ℕ
example_number = 329800735698586629295641978511506172918

abbrev example_text : List ℕ
example_text = codes "f81d4fae-7dec-11d0-a765-00a0c91e6bf6"

lower_case : uuid_of example_text ≡ Some example_number
unfolding uuid_of uuid_on_literals
lower_case = refl

upper_case : uuid_of (codes "F81D4FAE-7DEC-11D0-A765-00A0C91E6BF6") ≡ Some example_number
unfolding uuid_of uuid_on_literals
upper_case = refl

no_hyphens : uuid_of (codes "f81d4fae7dec11d0a76500a0c91e6bf6") ≡ None
unfolding uuid_of uuid_on_literals
no_hyphens = refl

-- 36 bytes, the last of which is no digit
no_digit : uuid_of (codes "f81d4fae-7dec-11d0-a765-00a0c91e6bfg") ≡ None
unfolding uuid_of uuid_on_literals
no_digit = refl

written : uuid_text example_number ≡ example_text
unfolding uuid_text uuid_on_literals
written = refl

least_written : uuid_text 0 ≡ codes "00000000-0000-0000-0000-000000000000"
unfolding uuid_text uuid_on_literals
least_written = refl

uuid_id : ident_of_id (codes "_F81D4FAE-7DEC-11D0-A765-00A0C91E6BF6") ≡ Some (Uuid example_number)
unfolding uuid_of uuid_on_literals
uuid_id = refl

-- a name, since its last byte is no digit of a UUID
almost_uuid_id : ident_of_id (codes "_f81d4fae-7dec-11d0-a765-00a0c91e6bfg") ≡ Some (Local (codes "_f81d4fae-7dec-11d0-a765-00a0c91e6bfg"))
unfolding uuid_of uuid_on_literals
almost_uuid_id = refl

underscore_alone : ident_of_id (codes "_") ≡ Some (Local (codes "_"))
unfolding uuid_of uuid_on_literals
underscore_alone = refl

hash_about : ident_of_about (codes "#_f81d4fae-7dec-11d0-a765-00a0c91e6bf6") ≡ Some (Uuid example_number)
unfolding uuid_of uuid_on_literals
hash_about = refl

urn_about : ident_of_about (codes "urn:uuid:" ++ example_text) ≡ Some (Uuid example_number)
unfolding uuid_of uuid_on_literals
urn_about = refl

urn_of_a_name : ident_of_about (codes "urn:uuid:Line-1") ≡ None
unfolding uuid_of uuid_on_literals
urn_of_a_name = refl

urn_target : target_of (codes "urn:uuid:" ++ example_text) ≡ Some (target.Ident (Uuid example_number))
unfolding uuid_of uuid_on_literals
urn_target = refl

-- a text that no call reads as an identifier is an IRI
iri_target : target_of (codes "urn:uuid:Line-1") ≡ Some (target.Iri (codes "urn:uuid:Line-1"))
unfolding uuid_of uuid_on_literals
iri_target = refl

id_of_uuid : id_of (Uuid example_number) ≡ 95 ∷ example_text
unfolding uuid_text uuid_on_literals
id_of_uuid = refl

-- a local identifier that would read back as a UUID
unsound_local : is_sound_ident (Local (codes "_F81D4FAE-7DEC-11D0-A765-00A0C91E6BF6")) ≡ false
unfolding uuid_of uuid_on_literals
unsound_local = refl
