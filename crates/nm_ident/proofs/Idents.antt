-- Identifiers read back from the text that names them, and the three spellings agree.
use Rattle.std.proofs.Common.{◌≡◌, ℕ, List, [], ◌∷◌, ◌++◌, Bool, true, false, ◌&&◌, Option, None, Some, is_none, drop, if◌then◌else◌, ◌==◌, nat_eq, arith, refl, ◌∙◌}
use Rattle.std.proofs.lemmas.Bool.Decides.{nat_tests}
use Rattle.std.specs.List.{list_all, starts_with}
use Rattle.std.specs.Option.{option_map}
use Rattle.nm_ident.proofs.UuidTexts.{length-uuid_text, uuid_of-fits, uuid_of-uuid_text, uuid_text-all_uuid_bytes}
use Rattle.nm_ident.specs.Ident.{uuid_behind_underscore, uuid_or_name, ident_of_id, ident_behind_hash, ident_of_about, id_of, is_sound_ident, urn_prefix}
use Rattle.nm_ident.specs.Laws.{SpellingsAgree, IdsReadBack, ReadIdentsAreSound}
use Rattle.nm_ident.specs.Name.{begins_name, continues_name, is_name}
use Rattle.nm_ident.specs.UuidText.{uuid_of, uuid_text, is_uuid_byte}
use Rattle.nm_ident.specs.declared.ident.Ident.{Ident}
use Rattle.nm_ident.specs.declared.ident.Ident.TheVariants.{Uuid, Local}

local_reads_back : (value : Option ℕ) (text : List ℕ) → (is_name text && is_none value) ≡ true → uuid_or_name value text ≡ Some (Local text)
local_reads_back None text sound =
    let named : is_name text ≡ true = grind arith in
    rw named refl
local_reads_back (Some id) text sound = absurd (grind arith)

-- the text of an `rdf:ID` names the resource that it was written for
pub ident_of_id-id_of : (ident : Ident) → is_sound_ident ident ≡ true → ident_of_id (id_of ident) ≡ Some ident
ident_of_id-id_of (Uuid id) sound = rw (uuid_of-uuid_text id (grind (arith, nat_tests))) refl
ident_of_id-id_of (Local text) sound = local_reads_back (uuid_behind_underscore text) text sound

pub ident_of_about-hash : (text : List ℕ) → ident_of_about (35 ∷ text) ≡ ident_of_id text
ident_of_about-hash text = refl

pub ident_of_about-urn : (text : List ℕ) → ident_of_about (urn_prefix ++ text) ≡ option_map Uuid (uuid_of text)
ident_of_about-urn text = refl

pub ident_of_about-id_of : (ident : Ident) → is_sound_ident ident ≡ true → ident_of_about (35 ∷ id_of ident) ≡ Some ident
ident_of_about-id_of ident sound = ident_of_about-hash (id_of ident) ∙ ident_of_id-id_of ident sound

uuid_byte-continues_name : (byte : ℕ) → is_uuid_byte byte ≡ true → continues_name byte ≡ true
uuid_byte-continues_name byte holds = grind (arith, nat_tests)

-- a test that implies another, at each item
pub list_all-weaker : (strong weak : ℕ → Bool) → ((x : ℕ) → strong x ≡ true → weak x ≡ true) → (xs : List ℕ) → list_all strong xs ≡ true → list_all weak xs ≡ true
list_all-weaker strong weak implies [] holds = refl
list_all-weaker strong weak implies (x ∷ xs) holds =
    let first : strong x ≡ true = grind arith in
    let others : list_all strong xs ≡ true = grind arith in
    rw (implies x first, list_all-weaker strong weak implies xs others) refl

uuid_text-name_bytes : (id : ℕ) → list_all continues_name (uuid_text id) ≡ true
uuid_text-name_bytes id = list_all-weaker is_uuid_byte continues_name uuid_byte-continues_name (uuid_text id) (uuid_text-all_uuid_bytes id)

-- the text that names a sound identifier is a name
pub is_name-id_of : (ident : Ident) → is_sound_ident ident ≡ true → is_name (id_of ident) ≡ true
is_name-id_of (Uuid id) sound = rw (uuid_text-name_bytes id, length-uuid_text id) refl
is_name-id_of (Local text) sound = grind arith

-- the bytes of a name
pub name_bytes : (text : List ℕ) → is_name text ≡ true → list_all continues_name text ≡ true
name_bytes [] named = refl
name_bytes (byte ∷ bytes) named =
    let first : begins_name byte ≡ true = grind arith in
    let others : list_all continues_name bytes ≡ true = grind arith in
    rw (first, others) refl

pub id_of-name_bytes : (ident : Ident) → is_sound_ident ident ≡ true → list_all continues_name (id_of ident) ≡ true
id_of-name_bytes ident sound = name_bytes (id_of ident) (is_name-id_of ident sound)

some_inside : {X : Type 0} (x y : X) → Some x ≡ Some y → x ≡ y
some_inside x y same = cc

read_name : (named : Bool) (text : List ℕ) (ident : Ident) → is_name text ≡ named → uuid_behind_underscore text ≡ None
    → (if named then Some (Local text) else None) ≡ Some ident → is_sound_ident ident ≡ true
read_name true text ident named other read =
    let same : Local text ≡ ident = some_inside (Local text) ident read in
    rw (← same) (rw (named, other) refl)
read_name false text ident named other read = absurd (let differ = read in cc)

read_uuid : (text : List ℕ) (id : ℕ) (ident : Ident) → uuid_of text ≡ Some id → Some (Uuid id) ≡ Some ident → is_sound_ident ident ≡ true
read_uuid text id ident number read =
    let same : Uuid id ≡ ident = some_inside (Uuid id) ident read in
    let fits = uuid_of-fits text id number in
    rw (← same) (grind (arith, nat_tests))

behind_underscore-fits : (text : List ℕ) (id : ℕ) → uuid_behind_underscore text ≡ Some id → (uuid : List ℕ) × (uuid_of uuid ≡ Some id)
behind_underscore-fits [] id read = absurd (let differ = read in cc)
behind_underscore-fits (byte ∷ bytes) id read = at (byte == 95) bytes id read
  where
    at : (underscore : Bool) (bytes : List ℕ) (id : ℕ) → (if underscore then uuid_of bytes else None) ≡ Some id → (uuid : List ℕ) × (uuid_of uuid ≡ Some id)
    at true bytes id read = (bytes, read)
    at false bytes id read = absurd (let differ = read in cc)

read_id : (value : Option ℕ) (text : List ℕ) (ident : Ident) → uuid_behind_underscore text ≡ value → uuid_or_name value text ≡ Some ident → is_sound_ident ident ≡ true
read_id (Some id) text ident behind read =
    let uuid = behind_underscore-fits text id behind in
    read_uuid uuid.0 id ident uuid.1 read
read_id None text ident behind read = read_name (is_name text) text ident refl behind read

-- what is read is sound
pub ident_of_id-sound : (text : List ℕ) (ident : Ident) → ident_of_id text ≡ Some ident → is_sound_ident ident ≡ true
ident_of_id-sound text ident read = read_id (uuid_behind_underscore text) text ident refl read

read_urn : (value : Option ℕ) (text : List ℕ) (ident : Ident) → uuid_of text ≡ value → option_map Uuid value ≡ Some ident → is_sound_ident ident ≡ true
read_urn (Some id) text ident number read = read_uuid text id ident number read
read_urn None text ident number read = absurd (let differ = read in cc)

read_hash : (text : List ℕ) (ident : Ident) → ident_behind_hash text ≡ Some ident → is_sound_ident ident ≡ true
read_hash [] ident read = absurd (let differ = read in cc)
read_hash (byte ∷ bytes) ident read = at (byte == 35) bytes ident read
  where
    at : (hash : Bool) (bytes : List ℕ) (ident : Ident) → (if hash then ident_of_id bytes else None) ≡ Some ident → is_sound_ident ident ≡ true
    at true bytes ident read = ident_of_id-sound bytes ident read
    at false bytes ident read = absurd (let differ = read in cc)

read_about : (urn : Bool) (text : List ℕ) (ident : Ident) → (if urn then option_map Uuid (uuid_of (drop 9 text)) else ident_behind_hash text) ≡ Some ident → is_sound_ident ident ≡ true
read_about true text ident read = read_urn (uuid_of (drop 9 text)) (drop 9 text) ident refl read
read_about false text ident read = read_hash text ident read

pub ident_of_about-sound : (text : List ℕ) (ident : Ident) → ident_of_about text ≡ Some ident → is_sound_ident ident ≡ true
ident_of_about-sound text ident read = read_about (starts_with nat_eq text urn_prefix) text ident read

pub read_idents_are_sound : ReadIdentsAreSound
read_idents_are_sound text ident = (ident_of_id-sound text ident, ident_of_about-sound text ident)

-- the three spellings of a UUID
pub spellings_agree : SpellingsAgree
spellings_agree text id read = (rw read refl, rw read refl, rw read refl)

pub ids_read_back : IdsReadBack
ids_read_back ident sound = (is_name-id_of ident sound, ident_of_id-id_of ident sound, ident_of_about-id_of ident sound)
