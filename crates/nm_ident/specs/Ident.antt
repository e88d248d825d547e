-- The spellings of a resource: `rdf:ID`, `rdf:about` and `rdf:resource` (IEC 61970-552).
use Rattle.std.specs.Prelude.{◌^◌, nat_lt, ℕ, List, [], ◌∷◌, Bool, false, ◌&&◌, not, Option, None, Some, codes, is_none, drop, if◌then◌else◌, nat_eq, ◌==◌}
use Rattle.std.specs.List.{starts_with}
use Rattle.std.specs.Option.{option_map}
use Rattle.nm_ident.specs.Name.{is_name}
use Rattle.nm_ident.specs.UuidText.{uuid_of, uuid_text}
use Rattle.nm_ident.specs.declared.ident.Ident.{Ident}
use Rattle.nm_ident.specs.declared.ident.Ident.TheVariants.{Uuid, Local}
use Rattle.nm_ident.specs.declared.ident.Target.{Target}
use Rattle.nm_ident.specs.declared.ident.Target.TheVariants as target

-- the UUID behind `_`
abbrev pub uuid_behind_underscore : List ℕ → Option ℕ
uuid_behind_underscore [] = None
uuid_behind_underscore (byte ∷ bytes) = if byte == 95 then uuid_of bytes else None

-- the identifier of a UUID where there is one, else the name
abbrev pub uuid_or_name : Option ℕ → List ℕ → Option Ident
uuid_or_name (Some id) text = Some (Uuid id)
uuid_or_name None text = if is_name text then Some (Local text) else None

-- `_` and a UUID, or any other name
abbrev pub ident_of_id : List ℕ → Option Ident
ident_of_id text = uuid_or_name (uuid_behind_underscore text) text

abbrev pub urn_prefix : List ℕ
urn_prefix = codes "urn:uuid:"

-- what `#` points to
abbrev pub ident_behind_hash : List ℕ → Option Ident
ident_behind_hash [] = None
ident_behind_hash (byte ∷ bytes) = if byte == 35 then ident_of_id bytes else None

-- `#` and the text of an `rdf:ID`, or `urn:uuid:` and a UUID
abbrev pub ident_of_about : List ℕ → Option Ident
ident_of_about text =
    if starts_with nat_eq text urn_prefix then option_map Uuid (uuid_of (drop 9 text)) else ident_behind_hash text

-- an IRI is a text that is not empty and does not begin with `#`
abbrev pub is_iri : List ℕ → Bool
is_iri [] = false
is_iri (byte ∷ bytes) = not (byte == 35)

abbrev pub ident_or_iri : Option Ident → List ℕ → Option Target
ident_or_iri (Some ident) text = Some (target.Ident ident)
ident_or_iri None text = if is_iri text then Some (target.Iri text) else None

-- an identifier, or else an IRI
abbrev pub target_of : List ℕ → Option Target
target_of text = ident_or_iri (ident_of_about text) text

-- the text of the `rdf:ID` that names the resource
abbrev pub id_of : Ident → List ℕ
id_of (Uuid id) = 95 ∷ uuid_text id
id_of (Local text) = text

-- what a document can name: the number of a UUID, or a name that is not `_` and a UUID
abbrev pub is_sound_ident : Ident → Bool
is_sound_ident (Uuid id) = nat_lt id (2 ^ 128)
is_sound_ident (Local text) = is_name text && is_none (uuid_behind_underscore text)
