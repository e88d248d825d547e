-- Worked examples of what an assembly says of itself, and of logs, computed.
use Rattle.std.proofs.Common.{◌≡◌, ℕ, List, [], ◌∷◌, codes, None, Some, refl}
use Rattle.std.specs.Fmt.{digits}
use Rattle.sha1.specs.Sha1.{compress, digest_bytes, first_words, hash_after, rounds, schedule, sha1}
use Rattle.uuid.proofs.OnLiterals.{uuid_on_literals}
use Rattle.nm_ident.specs.UuidText.{uuid_text}
use Rattle.nm_model.specs.declared.header.Header.{Header}
use Rattle.nm_version.specs.Assembly.{assembly_header, assembly_name, name_based}
use Rattle.nm_version.specs.Listing.{log_of}
use Rattle.nm_version.specs.declared.command.Entry.TheVariants.{File, Redate, Withdraw}

abbrev day : List ℕ
day = codes "2027-04-01"

abbrev base_id : ℕ
base_id = 0x10000000000040008000000000000001

abbrev project_id : ℕ
project_id = 0x30000000000040008000000000000001

-- ---- the header of an assembly

-- a line of the day, and then one of each model in service
name_of_two_models : assembly_name day (base_id ∷ project_id ∷ [])
    ≡ codes "2027-04-01\n10000000-0000-4000-8000-000000000001\n30000000-0000-4000-8000-000000000001\n"
unfolding uuid_text uuid_on_literals
name_of_two_models = refl

name_of_the_base_alone : assembly_name day [] ≡ codes "2027-04-01\n"
name_of_the_base_alone = refl

-- RFC 9562, appendix A.4: www.example.com in the namespace of domain names
identifier_of_a_name : name_based 0x6ba7b8109dad11d180b400c04fd430c8 (codes "www.example.com") ≡ 0x2ed6657de927568b95e12665a8aea6a2
unfolding name_based first_words schedule rounds compress hash_after digest_bytes sha1
identifier_of_a_name = refl

abbrev base : Header
base = record {
  id = base_id;
  created = Some (codes "2026-11-02T08:00:00Z");
  scenario_time = Some (codes "2026-01-01T00:00:00Z");
  version = Some (codes "1");
  description = Some (codes "the base");
  authority = Some (codes "http://coast.example/grid");
  profiles = codes "A" ∷ [];
  depends = 3 ∷ [];
  supersedes = 4 ∷ [];
}

-- its own version and description are not the assembly's, and what it supersedes is not told again
header_of_a_day : assembly_header base (project_id ∷ []) day
    ≡ record {
      id = name_based base_id (codes "2027-04-01\n30000000-0000-4000-8000-000000000001\n");
      created = Some (codes "2026-11-02T08:00:00Z");
      scenario_time = Some (codes "2027-04-01T00:00:00Z");
      version = None;
      description = None;
      authority = Some (codes "http://coast.example/grid");
      profiles = codes "A" ∷ [];
      depends = 3 ∷ [];
      supersedes = base_id ∷ project_id ∷ [];
    }
unfolding uuid_text uuid_on_literals
header_of_a_day = refl

-- ---- logs

log_of_commands : log_of (record {
  base = record { header = base; statements = [] };
  bytes = codes "base";
  live = [];
  log = File day (codes "project") ∷ Redate project_id (codes "2027-05-01") ∷ Withdraw project_id ∷ [];
}) ≡ codes "base 4\nbasefile 2027-04-01 7\nprojectredate 30000000-0000-4000-8000-000000000001 2027-05-01\nwithdraw 30000000-0000-4000-8000-000000000001\nend\n"
unfolding digits uuid_text uuid_on_literals
log_of_commands = refl
