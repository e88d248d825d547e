-- The model of a day: the base changed by the steps in service. Of the base's header it has what tells where
-- and by whom the model was made, its profiles and its dependencies.
use Rattle.std.specs.Prelude.{ℕ, List, [], ◌∷◌, ◌++◌, None, Some, codes, map, take}
use Rattle.std.specs.List.{flat_map}
use Rattle.std.specs.Int.{w128, to_be_bytes, from_be_bytes}
use Rattle.sha1.specs.Sha1.{sha1}
use Rattle.uuid.specs.Parts.{with_version, with_variant}
use Rattle.uuid.specs.declared.Variant.TheVariants.{RFC4122}
use Rattle.uuid.specs.declared.Version.TheVariants.{Sha1}
use Rattle.nm_ident.specs.UuidText.{uuid_text}
use Rattle.nm_model.specs.Header.{rising_ids}
use Rattle.nm_model.specs.declared.header.Header.{Header}
use Rattle.nm_model.specs.declared.document.Full.{Full}
use Rattle.nm_stage.specs.Project.{PlainProject, model_of}
use Rattle.nm_version.specs.Replay.{in_service, statements_at}

-- the name-based UUID (RFC 9562, section 5.5) of a name in a namespace
unfoldable pub name_based : ℕ → List ℕ → ℕ
name_based namespace name =
    from_be_bytes w128 (with_version (with_variant (take 16 (sha1 (to_be_bytes w128 namespace ++ name))) RFC4122) Sha1)

abbrev pub text_line : List ℕ → List ℕ
text_line text = text ++ 10 ∷ []

-- the name of an assembly: a line of the day, and a line of each model in service
abbrev pub assembly_name : List ℕ → List ℕ → List ℕ
assembly_name day models = text_line day ++ flat_map (λ id. text_line (uuid_text id)) models

abbrev pub assembly_header : Header → List ℕ → List ℕ → Header
assembly_header base models day = record {
  id = name_based base.id (assembly_name day models);
  created = base.created;
  scenario_time = Some (day ++ codes "T00:00:00Z");
  version = None;
  description = None;
  authority = base.authority;
  profiles = base.profiles;
  depends = base.depends;
  supersedes = rising_ids (base.id ∷ models);
}

-- the model of a day
abbrev pub assembly : Full → List PlainProject → List ℕ → Full
assembly base live day = record {
  header = assembly_header base.header (map model_of (in_service live day)) day;
  statements = statements_at base live day;
}
