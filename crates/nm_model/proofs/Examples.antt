-- Worked examples of sound models, computed.
use Rattle.std.proofs.Common.{◌≡◌, ℕ, List, [], ◌∷◌, codes, true, false, Option, None, Some, refl}
use Rattle.std.specs.Str.{chars, is_utf8}
use lib.Utf8.{encode}
use Rattle.nm_ident.specs.declared.ident.Ident.TheVariants.{Local}
use Rattle.nm_statement.specs.declared.object.Object.TheVariants.{Literal}
use Rattle.nm_statement.specs.declared.statement.Statement.{Statement}
use Rattle.nm_model.specs.Sound.{is_sound_document, is_sound_header, is_within_limits, stated_by}
use Rattle.nm_model.specs.declared.document.Document.TheVariants as document
use Rattle.nm_model.specs.declared.header.Header.{Header}

-- a header of this number, these profiles and this description
abbrev header : ℕ → List (List ℕ) → Option (List ℕ) → Header
header id profiles description = record {
  id = id;
  created = Some (codes "2026-11-02T08:00:00Z");
  scenario_time = None;
  version = None;
  description = description;
  authority = None;
  profiles = profiles;
  depends = 1 ∷ 2 ∷ [];
  supersedes = [];
}

sound : is_sound_header (header 7 (codes "A" ∷ codes "B" ∷ []) None) ≡ true
unfolding chars is_utf8 encode
sound = refl

-- the greatest number of a UUID, and the one behind it
greatest_id : is_sound_header (header 0xFFFFFFFFFFFFFFFFFFFFFFFFFFFFFFFF [] None) ≡ true
unfolding chars is_utf8 encode
greatest_id = refl

no_id : is_sound_header (header 0x100000000000000000000000000000000 [] None) ≡ false
unfolding chars is_utf8 encode
no_id = refl

profiles_that_fall : is_sound_header (header 7 (codes "B" ∷ codes "A" ∷ []) None) ≡ false
unfolding chars is_utf8 encode
profiles_that_fall = refl

profile_twice : is_sound_header (header 7 (codes "A" ∷ codes "A" ∷ []) None) ≡ false
unfolding chars is_utf8 encode
profile_twice = refl

-- U+0007 is no character of XML
control_character : is_sound_header (header 7 [] (Some (7 ∷ []))) ≡ false
unfolding chars is_utf8 encode
control_character = refl

abbrev named : List ℕ → Statement
named name = record {
  subject = Local (codes "a");
  predicate = record { ns = codes "http://iec.ch/#"; local = codes "name" };
  object = Literal name;
}

sound_full_model : is_sound_document (document.Full (record { header = header 7 [] None; statements = named (codes "x") ∷ named (codes "y") ∷ [] })) ≡ true
unfolding chars is_utf8 encode
sound_full_model = refl

statement_twice : is_sound_document (document.Full (record { header = header 7 [] None; statements = named (codes "x") ∷ named (codes "x") ∷ [] })) ≡ false
unfolding chars is_utf8 encode
statement_twice = refl

-- one statement may be taken away and added
in_two_sections : is_sound_document (document.Difference (record { header = header 7 [] None; change = record { pre = []; rev = named (codes "x") ∷ []; fwd = named (codes "x") ∷ [] } })) ≡ true
unfolding chars is_utf8 encode
in_two_sections = refl

counted_in_each_section : stated_by (record { pre = []; rev = named (codes "x") ∷ []; fwd = named (codes "x") ∷ [] }) ≡ 2
counted_in_each_section = refl

few : is_within_limits (document.Full (record { header = header 7 [] None; statements = named (codes "x") ∷ [] })) ≡ true
few = refl
