-- Worked examples of what is generated, computed.
use Rattle.std.proofs.Common.{◌≡◌, ℕ, List, [], ◌∷◌, ◌++◌, codes, refl}
use Rattle.std.specs.Fmt.{digits}
use Rattle.std.specs.List.{flat_map}
use Rattle.uuid.proofs.OnLiterals.{uuid_on_literals}
use Rattle.nm_ident.specs.UuidText.{uuid_text}
use Rattle.nm_statement.specs.Set.{set_of}
use Rattle.nm_writer.specs.Canonical.{canonical_full}
use Rattle.nm_gen.specs.Days.{day_after}
use Rattle.nm_gen.specs.Draws.{drawn, state_after}
use Rattle.nm_gen.specs.Models.{base_model, substations}
use Rattle.nm_gen.specs.Stream.{base_command, ending, filing_to, filings, redating, redating_to, redatings, stream_of, withdrawal, withdrawals}
use Rattle.nm_gen.specs.Terms.{level_id, substation_id}

-- ---- draws and days

second_draw : drawn 3650 (state_after 0 2) ≡ 2324
unfolding state_after
second_draw = refl

first_day : day_after 0 ≡ codes "2027-01-01"
unfolding day_after
first_day = refl

last_day_of_a_month : day_after 58 ≡ codes "2027-02-28"
unfolding day_after
last_day_of_a_month = refl

last_day_of_a_year : day_after 364 ≡ codes "2027-12-31"
unfolding day_after
last_day_of_a_year = refl

leap_day : day_after 424 ≡ codes "2028-02-29"
unfolding day_after
leap_day = refl

last_day : day_after 3649 ≡ codes "2036-12-28"
unfolding day_after
last_day = refl

-- ---- identifiers

last_substation : uuid_text (substation_id 1999) ≡ codes "00000001-0000-4000-8000-0000000007cf"
unfolding uuid_text uuid_on_literals
last_substation = refl

last_level : uuid_text (level_id 2000) ≡ codes "00000003-0000-4000-8000-0000000007d0"
unfolding uuid_text uuid_on_literals
last_level = refl

-- ---- commands

abbrev lines : List (List ℕ) → List ℕ
lines = flat_map (λ line. line ++ 10 ∷ [])

-- the base, were there but two substations
two_substations : canonical_full (record base_model { statements = set_of (substations 2) }) ≡ lines (
    codes "<?xml version=\"1.0\" encoding=\"UTF-8\"?>"
    ∷ codes "<rdf:RDF xmlns:rdf=\"http://www.w3.org/1999/02/22-rdf-syntax-ns#\" xmlns:md=\"http://iec.ch/TC57/61970-552/ModelDescription/1#\" xmlns:cim=\"http://iec.ch/TC57/2013/CIM-schema-cim16#\">"
    ∷ codes "<md:FullModel rdf:about=\"urn:uuid:00000000-0000-4000-8000-000000000000\">"
    ∷ codes "</md:FullModel>"
    ∷ codes "<cim:Substation rdf:ID=\"_00000001-0000-4000-8000-000000000000\">"
    ∷ codes "<cim:IdentifiedObject.name>S0</cim:IdentifiedObject.name>"
    ∷ codes "</cim:Substation>"
    ∷ codes "<cim:Substation rdf:ID=\"_00000001-0000-4000-8000-000000000001\">"
    ∷ codes "<cim:IdentifiedObject.name>S1</cim:IdentifiedObject.name>"
    ∷ codes "</cim:Substation>"
    ∷ codes "</rdf:RDF>"
    ∷ [])
unfolding digits uuid_text uuid_on_literals substations
two_substations = refl

one_filing : filing_to (codes "2027-04-01") 1 ≡ lines (
    codes "file 2027-04-01 1219"
    ∷ codes "<?xml version=\"1.0\" encoding=\"UTF-8\"?>"
    ∷ codes "<rdf:RDF xmlns:rdf=\"http://www.w3.org/1999/02/22-rdf-syntax-ns#\" xmlns:md=\"http://iec.ch/TC57/61970-552/ModelDescription/1#\" xmlns:dm=\"http://iec.ch/TC57/61970-552/DifferenceModel/1#\" xmlns:cim=\"http://iec.ch/TC57/2013/CIM-schema-cim16#\">"
    ∷ codes "<dm:DifferenceModel rdf:about=\"urn:uuid:00000002-0000-4000-8000-000000000001\">"
    ∷ codes "<md:Model.Supersedes rdf:resource=\"urn:uuid:00000000-0000-4000-8000-000000000000\"/>"
    ∷ codes "<dm:preconditions rdf:parseType=\"Statements\">"
    ∷ codes "<cim:Substation rdf:about=\"#_00000001-0000-4000-8000-000000000000\">"
    ∷ codes "</cim:Substation>"
    ∷ codes "</dm:preconditions>"
    ∷ codes "<dm:forwardDifferences rdf:parseType=\"Statements\">"
    ∷ codes "<rdf:Description rdf:about=\"#_00000001-0000-4000-8000-000000000000\">"
    ∷ codes "<cim:IdentifiedObject.name>S0r</cim:IdentifiedObject.name>"
    ∷ codes "</rdf:Description>"
    ∷ codes "<cim:VoltageLevel rdf:about=\"#_00000003-0000-4000-8000-000000000001\">"
    ∷ codes "<cim:IdentifiedObject.name>V1</cim:IdentifiedObject.name>"
    ∷ codes "</cim:VoltageLevel>"
    ∷ codes "</dm:forwardDifferences>"
    ∷ codes "<dm:reverseDifferences rdf:parseType=\"Statements\">"
    ∷ codes "<rdf:Description rdf:about=\"#_00000001-0000-4000-8000-000000000000\">"
    ∷ codes "<cim:IdentifiedObject.name>S0</cim:IdentifiedObject.name>"
    ∷ codes "</rdf:Description>"
    ∷ codes "</dm:reverseDifferences>"
    ∷ codes "</dm:DifferenceModel>"
    ∷ codes "</rdf:RDF>"
    ∷ [])
unfolding digits uuid_text uuid_on_literals
one_filing = refl

another_day : redating_to (codes "2031-05-17") 3 ≡ lines (codes "redate 00000002-0000-4000-8000-000000000003 2031-05-17" ∷ [])
unfolding uuid_text uuid_on_literals
another_day = refl

same_day : redating 0 4 ≡ []
same_day = refl

fifth_project : withdrawal 5 ≡ lines (codes "withdraw 00000002-0000-4000-8000-000000000005" ∷ [])
unfolding uuid_text uuid_on_literals
fifth_project = refl

sixth_project : withdrawal 6 ≡ []
sixth_project = refl

-- of six projects the third and the sixth are moved, to the days of one more draw each
two_moved : redatings 0 6 ≡ lines (
    codes "redate 00000002-0000-4000-8000-000000000003 2028-12-08"
    ∷ codes "redate 00000002-0000-4000-8000-000000000006 2033-05-13"
    ∷ [])
unfolding state_after day_after uuid_text uuid_on_literals
two_moved = refl

fifth_withdrawn : withdrawals 6 ≡ lines (codes "withdraw 00000002-0000-4000-8000-000000000005" ∷ [])
unfolding uuid_text uuid_on_literals
fifth_withdrawn = refl

-- the parts of a stream, in their order; one project is neither moved nor withdrawn
one_project : stream_of 1 7 ≡ base_command ++ filings 7 1 ++ [] ++ [] ++ ending
unfolding stream_of
one_project = refl
