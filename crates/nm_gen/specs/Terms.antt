-- The identifiers, names and statements of generated models.
use Rattle.std.specs.Prelude.{ℕ, ◌+◌, ◌*◌, ◌^◌, List, ◌++◌, codes}
use Rattle.std.specs.Fmt.{decimal}
use Rattle.nm_ident.specs.Name.{type_name}
use Rattle.nm_ident.specs.QualifiedName.{QualifiedName}
use Rattle.nm_ident.specs.declared.ident.Ident.TheVariants.{Uuid}
use Rattle.nm_statement.specs.declared.object.Object.TheVariants.{Literal, Iri}
use Rattle.nm_statement.specs.declared.statement.Statement.{Statement}

abbrev pub namespace : List ℕ
namespace = codes "http://iec.ch/TC57/2013/CIM-schema-cim16#"

-- `0000000K-0000-4000-8000-` and a number in twelve hexadecimal digits, as the number of a UUID
abbrev pub id_of : ℕ → ℕ → ℕ
id_of kind number = kind * 2 ^ 96 + 0x40008000 * 2 ^ 48 + number

abbrev pub base_id : ℕ
base_id = id_of 0 0

abbrev pub substation_id : ℕ → ℕ
substation_id number = id_of 1 number

abbrev pub project_id : ℕ → ℕ
project_id number = id_of 2 number

abbrev pub level_id : ℕ → ℕ
level_id number = id_of 3 number

-- the property that names an object
abbrev pub name_property : QualifiedName
name_property = record { ns = namespace; local = codes "IdentifiedObject.name" }

-- that an object is of a class
abbrev pub is_of_class : ℕ → List ℕ → Statement
is_of_class id class = record { subject = Uuid id; predicate = type_name; object = Iri (namespace ++ class) }

-- that an object has a name
abbrev pub is_named : ℕ → List ℕ → Statement
is_named id name = record { subject = Uuid id; predicate = name_property; object = Literal name }

-- the name of a substation, as the base has it
abbrev pub substation_name : ℕ → List ℕ
substation_name number = codes "S" ++ decimal number

abbrev pub level_name : ℕ → List ℕ
level_name number = codes "V" ++ decimal number

-- the name that a project gives a substation
abbrev pub other_name : ℕ → List ℕ
other_name number = substation_name number ++ codes "r"
