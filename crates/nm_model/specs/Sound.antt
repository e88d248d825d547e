-- Models that a document can state, and those that are within the limits.
use Rattle.std.specs.Prelude.{ℕ, ◌+◌, ◌^◌, List, length, Bool, true, ◌&&◌, nat_le, nat_lt, Option, None, Some}
use Rattle.std.specs.List.{list_all}
use Rattle.std.specs.Ordering.{nat_cmp}
use Rattle.nm_ident.specs.Order.{text_cmp}
use Rattle.nm_ident.specs.Rising.{is_rising_by}
use Rattle.nm_statement.specs.Literal.{is_literal}
use Rattle.nm_statement.specs.Sound.{is_sound_set}
use Rattle.nm_statement.specs.declared.set.Change.{Change}
use Rattle.nm_model.specs.Limits.{most_changes, most_dependencies, most_profiles, most_statements, most_superseded}
use Rattle.nm_model.specs.declared.header.Header.{Header}
use Rattle.nm_model.specs.declared.document.Full.{Full}
use Rattle.nm_model.specs.declared.document.Difference.{Difference}
use Rattle.nm_model.specs.declared.document.Document.{Document}
use Rattle.nm_model.specs.declared.document.Document.TheVariants as document

-- whether the number is that of a UUID
abbrev pub is_model_id : ℕ → Bool
is_model_id id = nat_lt id (2 ^ 128)

-- strictly rising ids of models, at most `most`
abbrev pub are_sound_ids : ℕ → List ℕ → Bool
are_sound_ids most ids = list_all is_model_id ids && is_rising_by nat_cmp ids && nat_le (length ids) most

-- strictly rising literals, no more than a header may state
abbrev pub are_sound_profiles : List (List ℕ) → Bool
are_sound_profiles profiles =
    list_all is_literal profiles && is_rising_by text_cmp profiles && nat_le (length profiles) most_profiles

abbrev pub is_sound_property : Option (List ℕ) → Bool
is_sound_property None = true
is_sound_property (Some text) = is_literal text

abbrev pub are_sound_properties : Header → Bool
are_sound_properties header =
    is_sound_property header.created && is_sound_property header.scenario_time && is_sound_property header.version
    && is_sound_property header.description && is_sound_property header.authority

abbrev pub is_sound_header : Header → Bool
is_sound_header header =
    is_model_id header.id && are_sound_properties header && are_sound_profiles header.profiles
    && are_sound_ids most_dependencies header.depends
    && are_sound_ids most_superseded header.supersedes

abbrev pub is_sound_full : Full → Bool
is_sound_full full = is_sound_header full.header && is_sound_set full.statements

abbrev pub is_sound_change : Change → Bool
is_sound_change change = is_sound_set change.pre && is_sound_set change.rev && is_sound_set change.fwd

abbrev pub is_sound_difference : Difference → Bool
is_sound_difference difference = is_sound_header difference.header && is_sound_change difference.change

-- how many statements the sections of a change state together
abbrev pub stated_by : Change → ℕ
stated_by change = length change.pre + length change.rev + length change.fwd

-- a model that a document can state
abbrev pub is_sound_document : Document → Bool
is_sound_document (document.Full full) = is_sound_full full
is_sound_document (document.Difference difference) = is_sound_difference difference

-- a model that states no more statements than a document may
abbrev pub is_within_limits : Document → Bool
is_within_limits (document.Full full) = nat_le (length full.statements) most_statements
is_within_limits (document.Difference difference) = nat_le (stated_by difference.change) most_changes

abbrev pub is_sound_within_limits : Document → Bool
is_sound_within_limits model = is_sound_document model && is_within_limits model
