-- Worked examples of the definitions, computed.
use Rattle.std.specs.Prelude.{◌≡◌, [], ◌++◌, codes, replicate, true, false, None, Some, refl}
use Rattle.std.specs.declared.cmp.Ordering.TheVariants.{Less, Equal, Greater}
use Rattle.nm_ident.specs.Ident.{uuid_behind_underscore, uuid_or_name, ident_of_id, ident_behind_hash, ident_of_about, is_iri, target_of, id_of, is_sound_ident}
use Rattle.nm_ident.specs.Name.{begins_name, continues_name, is_name, ends_namespace, is_namespace, rdf_namespace, md_namespace, dm_namespace, type_name, is_predicate}
use Rattle.nm_ident.specs.Order.{text_cmp, ident_cmp, name_cmp}
use Rattle.nm_ident.specs.UuidText.{is_uuid_byte}
use Rattle.nm_ident.specs.declared.ident.Ident.TheVariants.{Uuid, Local}
use Rattle.nm_ident.specs.declared.ident.Target.TheVariants as target

-- ---- bytes and names

-- `9`
digit_begins_no_name : begins_name 57 ≡ false
digit_begins_no_name = refl

digit_continues_a_name : continues_name 57 ≡ true
digit_continues_a_name = refl

-- `:`
colon_stands_in_no_name : continues_name 58 ≡ false
colon_stands_in_no_name = refl

name_with_all_kinds : is_name (codes "_a-1.B") ≡ true
name_with_all_kinds = refl

digit_first : is_name (codes "1abc") ≡ false
digit_first = refl

no_bytes : is_name [] ≡ false
no_bytes = refl

longest_name : is_name (replicate 128 97) ≡ true
longest_name = refl

name_too_long : is_name (replicate 129 97) ≡ false
name_too_long = refl

-- ---- namespaces, and the names of properties and classes

ends_in_slash : ends_namespace 47 ≡ true
ends_in_slash = refl

cim_namespace : is_namespace (codes "http://iec.ch/TC57/CIM100#") ≡ true
cim_namespace = refl

shortest_namespace : is_namespace (codes "a#") ≡ true
shortest_namespace = refl

one_byte : is_namespace (codes "/") ≡ false
one_byte = refl

hash_first : is_namespace (codes "#a#") ≡ false
hash_first = refl

space_inside : is_namespace (codes "a b#") ≡ false
space_inside = refl

other_end : is_namespace (codes "ab") ≡ false
other_end = refl

longest_namespace : is_namespace (replicate 255 97 ++ codes "#") ≡ true
longest_namespace = refl

namespace_too_long : is_namespace (replicate 256 97 ++ codes "#") ≡ false
namespace_too_long = refl

type_is_a_predicate : is_predicate type_name ≡ true
type_is_a_predicate = refl

other_rdf_name : is_predicate (record { ns = rdf_namespace; local = codes "about" }) ≡ false
other_rdf_name = refl

header_name : is_predicate (record { ns = md_namespace; local = codes "Model" }) ≡ false
header_name = refl

difference_name : is_predicate (record { ns = dm_namespace; local = codes "type" }) ≡ false
difference_name = refl

cim_name : is_predicate (record { ns = codes "http://iec.ch/TC57/CIM100#"; local = codes "ACLineSegment.r" }) ≡ true
cim_name = refl

-- ---- UUIDs: `f`, and `F`, which is read and not written

lower_digit : is_uuid_byte 102 ≡ true
lower_digit = refl

upper_digit : is_uuid_byte 70 ≡ false
upper_digit = refl

-- ---- identifiers and targets

no_underscore : uuid_behind_underscore (codes "a") ≡ None
no_underscore = refl

number_first : uuid_or_name (Some 5) (codes "a") ≡ Some (Uuid 5)
number_first = refl

local_id : ident_of_id (codes "Line-1") ≡ Some (Local (codes "Line-1"))
local_id = refl

no_id : ident_of_id (codes "a b") ≡ None
no_id = refl

empty_id : ident_of_id [] ≡ None
empty_id = refl

hash_and_local_id : ident_of_about (codes "#Line-1") ≡ Some (Local (codes "Line-1"))
hash_and_local_id = refl

hash_alone : ident_behind_hash (codes "#") ≡ None
hash_alone = refl

name_with_no_hash : ident_of_about (codes "Line-1") ≡ None
name_with_no_hash = refl

empty_about : ident_of_about [] ≡ None
empty_about = refl

iri : is_iri (codes "http://iec.ch/TC57/CIM100#PhaseCode.A") ≡ true
iri = refl

hash_is_no_iri : is_iri (codes "#") ≡ false
hash_is_no_iri = refl

iri_target : target_of (codes "http://a/b") ≡ Some (target.Iri (codes "http://a/b"))
iri_target = refl

local_target : target_of (codes "#b") ≡ Some (target.Ident (Local (codes "b")))
local_target = refl

hash_target : target_of (codes "#") ≡ None
hash_target = refl

empty_target : target_of [] ≡ None
empty_target = refl

id_of_local : id_of (Local (codes "b")) ≡ codes "b"
id_of_local = refl

sound_local : is_sound_ident (Local (codes "b")) ≡ true
sound_local = refl

unsound_local : is_sound_ident (Local (codes "b c")) ≡ false
unsound_local = refl

-- ---- orders

shorter_text_first : text_cmp (codes "a") (codes "ab") ≡ Less
shorter_text_first = refl

numbers_in_order : ident_cmp (Uuid 9) (Uuid 10) ≡ Less
numbers_in_order = refl

uuid_first : ident_cmp (Local []) (Uuid 10) ≡ Greater
uuid_first = refl

bytes_in_order : ident_cmp (Local (codes "Z")) (Local (codes "a")) ≡ Less
bytes_in_order = refl

namespace_before_local_name : name_cmp (record { ns = codes "a#"; local = codes "z" }) (record { ns = codes "b#"; local = codes "a" }) ≡ Less
namespace_before_local_name = refl

local_names_in_order : name_cmp (record { ns = codes "a#"; local = codes "b" }) (record { ns = codes "a#"; local = codes "b" }) ≡ Equal
local_names_in_order = refl
