-- Worked examples of the canonical document, computed.
use Rattle.std.proofs.Common.{◌≡◌, ℕ, List, [], ◌∷◌, ◌++◌, codes, None, Some, refl}
use Rattle.std.specs.Fmt.{digits}
use Rattle.std.specs.List.{flat_map}
use Rattle.uuid.proofs.OnLiterals.{uuid_on_literals}
use Rattle.nm_ident.specs.Name.{rdf_namespace, type_name}
use Rattle.nm_ident.specs.UuidText.{uuid_text}
use Rattle.nm_ident.specs.declared.ident.Ident.{Ident}
use Rattle.nm_ident.specs.declared.ident.Ident.TheVariants.{Uuid, Local}
use Rattle.nm_model.specs.declared.header.Header.{Header}
use Rattle.nm_statement.specs.declared.object.Object.TheVariants.{Literal, Iri}
use Rattle.nm_statement.specs.declared.statement.Statement.{Statement}
use Rattle.nm_writer.specs.Canonical.{canonical_difference, canonical_full, class_of_iri, line_feed, namespaces_of}
use Rattle.nm_text.specs.Escape.{attribute_spelling, text_spelling}
use Rattle.nm_writer.specs.Namespaces.{prefixes_of}
use Rattle.nm_writer.specs.Passing.{Leaves}

-- ---- characters

in_text : text_spelling (codes "<&>\"'" ++ 13 ∷ 10 ∷ 9 ∷ []) ≡ codes "&lt;&amp;&gt;\"'&#13;" ++ 10 ∷ 9 ∷ []
in_text = refl

in_attribute : attribute_spelling (codes "<&>\"'" ++ 13 ∷ 10 ∷ 9 ∷ []) ≡ codes "&lt;&amp;&gt;&quot;'&#13;&#10;&#9;"
in_attribute = refl

-- ---- classes

abbrev cim : List ℕ
cim = codes "http://iec.ch/TC57/2013/CIM-schema-cim16#"

split_at_the_last : class_of_iri (codes "http://a.org/b#c/d") ≡ Some (record { ns = codes "http://a.org/b#c/"; local = codes "d" })
split_at_the_last = refl

no_local_name : class_of_iri cim ≡ None
no_local_name = refl

no_namespace : class_of_iri (codes "urn:x") ≡ None
no_namespace = refl

no_class_of_rdf : class_of_iri (rdf_namespace ++ codes "type") ≡ None
no_class_of_rdf = refl

-- ---- namespaces

abbrev about : List ℕ → Statement
about ns = record { subject = Uuid 0; predicate = record { ns = ns; local = codes "p" }; object = Literal [] }

abbrev newer : List ℕ
newer = codes "http://iec.ch/TC57/CIM100#"

abbrev used : List (List ℕ)
used = namespaces_of ((about (codes "http://z.org/") ∷ about newer ∷ about rdf_namespace ∷ []) ∷ (about (codes "http://a.org/") ∷ about newer ∷ about cim ∷ []) ∷ [])

-- each once, in the order of their bytes, without RDF's
in_order : used ≡ codes "http://a.org/" ∷ cim ∷ newer ∷ codes "http://z.org/" ∷ []
in_order = refl

-- the first of IEC's is `cim`, which takes no number
numbered : prefixes_of used ≡ codes "n1" ∷ codes "cim" ∷ codes "n2" ∷ codes "n3" ∷ []
unfolding digits
numbered = refl

without_cim : prefixes_of (codes "http://a.org/" ∷ codes "http://z.org/" ∷ []) ≡ codes "n1" ∷ codes "n2" ∷ []
unfolding digits
without_cim = refl

-- ---- documents

abbrev base_id : ℕ
base_id = 0x10000000000040008000000000000001

abbrev substation : Ident
substation = Uuid 0x20000000000040008000000000000001

abbrev project_id : ℕ
project_id = 0x30000000000040008000000000000001

abbrev bare : ℕ → Header
bare id = record {
  id = id;
  created = None;
  scenario_time = None;
  version = None;
  description = None;
  authority = None;
  profiles = [];
  depends = [];
  supersedes = [];
}

abbrev name_of : Ident → List ℕ → Statement
name_of subject name = record { subject = subject; predicate = record { ns = cim; local = codes "IdentifiedObject.name" }; object = Literal name }

abbrev class_of : Ident → List ℕ → Statement
class_of subject class = record { subject = subject; predicate = type_name; object = Iri (cim ++ class) }

abbrev lines : List (List ℕ) → List ℕ
lines = flat_map (λ line. line ++ line_feed)

abbrev first_line : List ℕ
first_line = codes "<?xml version=\"1.0\" encoding=\"UTF-8\"?>"

abbrev full_root : List ℕ
full_root =
    codes "<rdf:RDF xmlns:rdf=\"http://www.w3.org/1999/02/22-rdf-syntax-ns#\" xmlns:md=\"http://iec.ch/TC57/61970-552/ModelDescription/1#\" xmlns:cim=\"http://iec.ch/TC57/2013/CIM-schema-cim16#\">"

abbrev base_start : List ℕ
base_start = codes "<md:FullModel rdf:about=\"urn:uuid:10000000-0000-4000-8000-000000000001\">"

-- a header alone declares no namespace of its own
header_alone : canonical_full (record { header = bare base_id; statements = [] }) ≡ lines (
    first_line
    ∷ codes "<rdf:RDF xmlns:rdf=\"http://www.w3.org/1999/02/22-rdf-syntax-ns#\" xmlns:md=\"http://iec.ch/TC57/61970-552/ModelDescription/1#\">"
    ∷ base_start
    ∷ codes "</md:FullModel>"
    ∷ codes "</rdf:RDF>"
    ∷ [])
unfolding uuid_text uuid_on_literals
header_alone = refl

-- an assembled model of one substation
one_substation : canonical_full (record {
  header = record (bare 0x951f375ba31458a59b246d000e98a5e7) { scenario_time = Some (codes "2027-01-01T00:00:00Z"); supersedes = base_id ∷ [] };
  statements = name_of substation (codes "North") ∷ class_of substation (codes "Substation") ∷ [];
}) ≡ lines (
    first_line
    ∷ full_root
    ∷ codes "<md:FullModel rdf:about=\"urn:uuid:951f375b-a314-58a5-9b24-6d000e98a5e7\">"
    ∷ codes "<md:Model.scenarioTime>2027-01-01T00:00:00Z</md:Model.scenarioTime>"
    ∷ codes "<md:Model.Supersedes rdf:resource=\"urn:uuid:10000000-0000-4000-8000-000000000001\"/>"
    ∷ codes "</md:FullModel>"
    ∷ codes "<cim:Substation rdf:ID=\"_20000000-0000-4000-8000-000000000001\">"
    ∷ codes "<cim:IdentifiedObject.name>North</cim:IdentifiedObject.name>"
    ∷ codes "</cim:Substation>"
    ∷ codes "</rdf:RDF>"
    ∷ [])
unfolding uuid_text uuid_on_literals
one_substation = refl

abbrev limit_type : Ident
limit_type = Uuid 0x2000000a0000400080000000000000ab

-- profiles and dependencies, and an IRI as a property's value
limit_of_equipment : canonical_full (record {
  header = record (bare base_id) {
    created = Some (codes "2026-11-02T08:00:00Z");
    profiles = codes "http://entsoe.eu/CIM/EquipmentCore/3/1" ∷ [];
    depends = 0x30000000000040008000000000000004 ∷ [];
  };
  statements =
      name_of limit_type (codes "PATL")
      ∷ (record {
        subject = limit_type;
        predicate = record { ns = cim; local = codes "OperationalLimitType.direction" };
        object = Iri (cim ++ codes "OperationalLimitDirectionKind.absoluteValue");
      })
      ∷ class_of limit_type (codes "OperationalLimitType")
      ∷ [];
}) ≡ lines (
    first_line
    ∷ full_root
    ∷ base_start
    ∷ codes "<md:Model.created>2026-11-02T08:00:00Z</md:Model.created>"
    ∷ codes "<md:Model.profile>http://entsoe.eu/CIM/EquipmentCore/3/1</md:Model.profile>"
    ∷ codes "<md:Model.DependentOn rdf:resource=\"urn:uuid:30000000-0000-4000-8000-000000000004\"/>"
    ∷ codes "</md:FullModel>"
    ∷ codes "<cim:OperationalLimitType rdf:ID=\"_2000000a-0000-4000-8000-0000000000ab\">"
    ∷ codes "<cim:IdentifiedObject.name>PATL</cim:IdentifiedObject.name>"
    ∷ codes "<cim:OperationalLimitType.direction rdf:resource=\"http://iec.ch/TC57/2013/CIM-schema-cim16#OperationalLimitDirectionKind.absoluteValue\"/>"
    ∷ codes "</cim:OperationalLimitType>"
    ∷ codes "</rdf:RDF>"
    ∷ [])
unfolding uuid_text uuid_on_literals
limit_of_equipment = refl

-- a name with characters that are not spelt as they are, and one outside ASCII
spelt_by_references : canonical_full (record {
  header = bare base_id;
  statements =
      name_of substation (codes "a" ++ 13 ∷ codes "b]]>\"" ++ 0xF0 ∷ 0x9D ∷ 0x84 ∷ 0x9E ∷ []) ∷ class_of substation (codes "Substation") ∷ [];
}) ≡ lines (
    first_line
    ∷ full_root
    ∷ base_start
    ∷ codes "</md:FullModel>"
    ∷ codes "<cim:Substation rdf:ID=\"_20000000-0000-4000-8000-000000000001\">"
    ∷ (codes "<cim:IdentifiedObject.name>a&#13;b]]&gt;\"" ++ 0xF0 ∷ 0x9D ∷ 0x84 ∷ 0x9E ∷ codes "</cim:IdentifiedObject.name>")
    ∷ codes "</cim:Substation>"
    ∷ codes "</rdf:RDF>"
    ∷ [])
unfolding uuid_text uuid_on_literals
spelt_by_references = refl

abbrev a : Ident
a = Local (codes "a")

abbrev b : Ident
b = Local (codes "b")

-- the least class names the element, and a subject without a class is `rdf:about`
least_class_names : canonical_full (record {
  header = bare base_id;
  statements =
      (record { subject = a; predicate = record { ns = cim; local = codes "p" }; object = Literal (codes "x") })
      ∷ class_of b (codes "A")
      ∷ class_of b (codes "B")
      ∷ [];
}) ≡ lines (
    first_line
    ∷ full_root
    ∷ base_start
    ∷ codes "</md:FullModel>"
    ∷ codes "<rdf:Description rdf:about=\"#a\">"
    ∷ codes "<cim:p>x</cim:p>"
    ∷ codes "</rdf:Description>"
    ∷ codes "<cim:A rdf:ID=\"b\">"
    ∷ codes "<rdf:type rdf:resource=\"http://iec.ch/TC57/2013/CIM-schema-cim16#B\"/>"
    ∷ codes "</cim:A>"
    ∷ codes "</rdf:RDF>"
    ∷ [])
unfolding uuid_text uuid_on_literals
least_class_names = refl

-- all three sections, of which one states nothing, and `rdf:about` also for what has a class
new_name : canonical_difference (record {
  header = record (bare project_id) { supersedes = base_id ∷ [] };
  change = record {
    pre = class_of substation (codes "Substation") ∷ [];
    rev = [];
    fwd = name_of substation (codes "North 2") ∷ [];
  };
}) ≡ lines (
    first_line
    ∷ codes "<rdf:RDF xmlns:rdf=\"http://www.w3.org/1999/02/22-rdf-syntax-ns#\" xmlns:md=\"http://iec.ch/TC57/61970-552/ModelDescription/1#\" xmlns:dm=\"http://iec.ch/TC57/61970-552/DifferenceModel/1#\" xmlns:cim=\"http://iec.ch/TC57/2013/CIM-schema-cim16#\">"
    ∷ codes "<dm:DifferenceModel rdf:about=\"urn:uuid:30000000-0000-4000-8000-000000000001\">"
    ∷ codes "<md:Model.Supersedes rdf:resource=\"urn:uuid:10000000-0000-4000-8000-000000000001\"/>"
    ∷ codes "<dm:preconditions rdf:parseType=\"Statements\">"
    ∷ codes "<cim:Substation rdf:about=\"#_20000000-0000-4000-8000-000000000001\">"
    ∷ codes "</cim:Substation>"
    ∷ codes "</dm:preconditions>"
    ∷ codes "<dm:forwardDifferences rdf:parseType=\"Statements\">"
    ∷ codes "<rdf:Description rdf:about=\"#_20000000-0000-4000-8000-000000000001\">"
    ∷ codes "<cim:IdentifiedObject.name>North 2</cim:IdentifiedObject.name>"
    ∷ codes "</rdf:Description>"
    ∷ codes "</dm:forwardDifferences>"
    ∷ codes "<dm:reverseDifferences rdf:parseType=\"Statements\">"
    ∷ codes "</dm:reverseDifferences>"
    ∷ codes "</dm:DifferenceModel>"
    ∷ codes "</rdf:RDF>"
    ∷ [])
unfolding uuid_text uuid_on_literals
new_name = refl

-- ---- bytes that are given to a sink part by part

two_of_three : Leaves (Some (codes "a")) (Some (codes "abc")) (codes "bcd") (codes "d")
two_of_three = record { given = codes "bc"; appended = refl; whole = refl }
