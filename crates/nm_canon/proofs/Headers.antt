-- The properties of a header fit where they stand, and tell the header.
use Rattle.std.proofs.Common.{◌≡◌, ◌∙◌, ℕ, Bool, true, ◌&&◌, List, [], ◌∷◌, ◌++◌, length, Option, None, Some, refl, sym, ap, subst, nat_le, append-nil, append_assoc}
use Rattle.std.specs.Prelude.{codes}
use Rattle.std.specs.List.{AllByRecursion, filter_map, flat_map, list_all}
use Rattle.std.specs.Option.{option_to_list}
use Rattle.std.proofs.lemmas.Bool.{ltb-true}
use Rattle.std.proofs.lemmas.List.Elements.{filter_map-append}
use Rattle.std.specs.Ordering.{nat_cmp}
use Rattle.nm_ident.specs.Order.{text_cmp}
use Rattle.std.proofs.lemmas.Cmp.{nat_cmp_total}
use Rattle.std.proofs.lemmas.Map.Lookups.{exact_bytes}
use Rattle.nm_ident.proofs.Orders.{nat_cmp-equal}
use Rattle.nm_ident.proofs.Rising.{rises-from_test, rising_by-members}
use Rattle.nm_ident.specs.Rising.{is_rising_by, rising_by}
use Rattle.nm_model.specs.Header.{rising_ids}
use Rattle.nm_writer.proofs.Namespaces.{text_total}
use Rattle.nm_statement.specs.Literal.{is_literal}
use Rattle.nm_text.specs.Characters.{is_text}
use Rattle.nm_model.specs.Sound.{are_sound_ids, are_sound_profiles, are_sound_properties, is_model_id, is_sound_header, is_sound_property}
use Rattle.nm_model.specs.Limits.{most_dependencies, most_profiles, most_superseded}
use Rattle.nm_model.specs.declared.header.Header.{Header}
use Rattle.nm_reader.specs.Blocks.{Blocks}
use Rattle.nm_reader.specs.declared.counts.Counts.{Counts}
use Rattle.nm_statement.specs.Limits.{longest_literal}
use Rattle.nm_reader.specs.Limits as limits
use Rattle.nm_reader.specs.Meaning.{link_counts, text_counts}
use Rattle.nm_reader.specs.declared.fact.Fact.{Fact}
use Rattle.nm_reader.specs.declared.fact.Kind.{Kind}
use Rattle.nm_reader.specs.declared.fact.LinkProperty.{LinkProperty}
use Rattle.nm_reader.specs.declared.fact.TextProperty.{TextProperty}
use Rattle.nm_reader.specs.Model.{header_of, last_of, link_for, links_of, text_for, texts_of}
use Rattle.nm_reader.specs.declared.fact.Fact.TheVariants.{Links, Tells as TellsText}
use Rattle.nm_reader.specs.declared.fact.TextProperty.TheVariants.{Created, ScenarioTime, Version, Description, Authority, Profile}
use Rattle.nm_reader.specs.declared.fact.LinkProperty.TheVariants.{DependentOn, Supersedes}
use Rattle.nm_reader.specs.Opened.{Declaration}
use Rattle.nm_reader.specs.Place.{role_of}
use Rattle.nm_reader.specs.declared.place.Role.TheVariants.{HeaderLink, HeaderText}
use Rattle.nm_reader.specs.declared.place.Place.TheVariants.{InHeader}
use Rattle.nm_canon.proofs.Documents.{both}
use Rattle.nm_canon.proofs.Made.{blocks_of, header_block, md, model_block, optional_block, value_block}
use Rattle.nm_canon.proofs.Prefixes.{root_scope}
use Rattle.nm_canon.proofs.Properties.{header_link_tells, header_value_tells, md_name, tells_list}
use Rattle.nm_canon.proofs.Telling.{Tells, tells_both, tells_nothing, tells_quietly}

-- ---- soundness, part by part

literal_short : (text : List ℕ) → is_literal text ≡ true → nat_le (length text) longest_literal ≡ true
literal_short text sound = (both (is_text text) (nat_le (length text) longest_literal) sound).1

pub record IsSoundHeader (header : Header) : Type 0 where
  pub id : is_model_id header.id ≡ true
  pub created : is_sound_property header.created ≡ true
  pub scenario_time : is_sound_property header.scenario_time ≡ true
  pub version : is_sound_property header.version ≡ true
  pub description : is_sound_property header.description ≡ true
  pub authority : is_sound_property header.authority ≡ true
  pub profiles : are_sound_profiles header.profiles ≡ true
  pub depends : are_sound_ids most_dependencies header.depends ≡ true
  pub supersedes : are_sound_ids most_superseded header.supersedes ≡ true

pub header_parts : (header : Header) → is_sound_header header ≡ true → IsSoundHeader header
header_parts header sound =
    let four = both (is_model_id header.id && are_sound_properties header && are_sound_profiles header.profiles && are_sound_ids most_dependencies header.depends) (are_sound_ids most_superseded header.supersedes) sound in
    let three = both (is_model_id header.id && are_sound_properties header && are_sound_profiles header.profiles) (are_sound_ids most_dependencies header.depends) four.0 in
    let two = both (is_model_id header.id && are_sound_properties header) (are_sound_profiles header.profiles) three.0 in
    let one = both (is_model_id header.id) (are_sound_properties header) two.0 in
    let d = both (is_sound_property header.created && is_sound_property header.scenario_time && is_sound_property header.version && is_sound_property header.description) (is_sound_property header.authority) one.1 in
    let c = both (is_sound_property header.created && is_sound_property header.scenario_time && is_sound_property header.version) (is_sound_property header.description) d.0 in
    let b = both (is_sound_property header.created && is_sound_property header.scenario_time) (is_sound_property header.version) c.0 in
    let a = both (is_sound_property header.created) (is_sound_property header.scenario_time) b.0 in
    record {
      id = one.0;
      created = a.0;
      scenario_time = a.1;
      version = b.1;
      description = c.1;
      authority = d.1;
      profiles = two.1;
      depends = three.1;
      supersedes = four.1;
    }

-- ---- what a header tells

abbrev pub text_facts : TextProperty → Option (List ℕ) → List Fact
text_facts property None = []
text_facts property (Some text) = TellsText property text ∷ []

abbrev pub header_facts : Header → List Fact
header_facts header =
    text_facts Created header.created
    ++ (text_facts ScenarioTime header.scenario_time
    ++ (text_facts Version header.version
    ++ (text_facts Description header.description
    ++ (text_facts Authority header.authority
    ++ (flat_map (λ text. TellsText Profile text ∷ []) header.profiles
    ++ (flat_map (λ id. Links DependentOn id ∷ []) header.depends
    ++ flat_map (λ id. Links Supersedes id ∷ []) header.supersedes))))))

abbrev pub header_counts : Header → List Counts
header_counts header =
    flat_map (λ (text : List ℕ). limits.one_profile ∷ []) header.profiles
    ++ (flat_map (λ (id : ℕ). limits.one_dependency ∷ []) header.depends ++ flat_map (λ (id : ℕ). limits.one_superseded ∷ []) header.supersedes)

optional_tells : (more : List Declaration) (kind : Kind) (property : TextProperty) (local : List ℕ) (text : Option (List ℕ)) → role_of (InHeader kind) (md_name local) ≡ HeaderText property → text_counts property ≡ limits.nothing
    → is_sound_property text ≡ true → Tells (InHeader kind) (root_scope more) (optional_block (md local) text) (text_facts property text) []
optional_tells more kind property local None plays none sound = tells_nothing (InHeader kind) (root_scope more)
optional_tells more kind property local (Some text) plays none sound =
    tells_quietly (InHeader kind) (root_scope more) (value_block (md local) text) (TellsText property text ∷ [])
    (subst (λ (counts : Counts). Tells (InHeader kind) (root_scope more) (value_block (md local) text) (TellsText property text ∷ []) (counts ∷ [])) none
    (header_value_tells more kind property local text plays (literal_short text sound)))

pub every_of : {X : Type 0} (test : X → Bool) (xs : List X) → list_all test xs ≡ true → AllByRecursion (λ x. test x ≡ true) xs
every_of test [] all = tt
every_of test (x ∷ xs) all = let parts = both (test x) (list_all test xs) all in (parts.0, every_of test xs parts.1)

pub ids_parts : (most : ℕ) (ids : List ℕ) → are_sound_ids most ids ≡ true → (list_all is_model_id ids ≡ true) × (is_rising_by nat_cmp ids ≡ true) × (nat_le (length ids) most ≡ true)
ids_parts most ids sound =
    let last = both (list_all is_model_id ids && is_rising_by nat_cmp ids) (nat_le (length ids) most) sound in
    let first = both (list_all is_model_id ids) (is_rising_by nat_cmp ids) last.0 in
    (first.0, first.1, last.1)

pub profiles_parts : (profiles : List (List ℕ)) → are_sound_profiles profiles ≡ true → (list_all is_literal profiles ≡ true) × (is_rising_by text_cmp profiles ≡ true) × (nat_le (length profiles) most_profiles ≡ true)
profiles_parts profiles sound =
    let last = both (list_all is_literal profiles && is_rising_by text_cmp profiles) (nat_le (length profiles) most_profiles) sound in
    let first = both (list_all is_literal profiles) (is_rising_by text_cmp profiles) last.0 in
    (first.0, first.1, last.1)

module _ (more : List Declaration) (kind : Kind) where
  abbrev IsTold : (Blocks → Blocks) → List Fact → List Counts → Type 0
  IsTold block facts counts = Tells (InHeader kind) (root_scope more) block facts counts

  then_more : (one other : Blocks → Blocks) (facts others : List Fact) (counts : List Counts) → IsTold one facts [] → IsTold other others counts → IsTold (λ behind. one (other behind)) (facts ++ others) counts
  then_more one other facts others counts first second = tells_both (InHeader kind) (root_scope more) one other facts others [] counts first second

  ids_tell : (property : LinkProperty) (local : List ℕ) (most : ℕ) (ids : List ℕ) → role_of (InHeader kind) (md_name local) ≡ HeaderLink property → are_sound_ids most ids ≡ true
      → IsTold (blocks_of (model_block (md local)) ids) (flat_map (λ id. Links property id ∷ []) ids) (flat_map (λ (id : ℕ). link_counts property ∷ []) ids)
  ids_tell property local most ids plays sound =
      tells_list (InHeader kind) (root_scope more) (model_block (md local)) (λ id. Links property id ∷ []) (λ id. link_counts property ∷ []) (λ id. is_model_id id ≡ true)
      (λ id is. header_link_tells more kind property local id plays (ltb-true _ _ is)) ids (every_of is_model_id ids (ids_parts most ids sound).0)

  profiles_tell : (profiles : List (List ℕ)) → are_sound_profiles profiles ≡ true
      → IsTold (blocks_of (value_block (md (codes "Model.profile"))) profiles) (flat_map (λ text. TellsText Profile text ∷ []) profiles) (flat_map (λ (text : List ℕ). limits.one_profile ∷ []) profiles)
  profiles_tell profiles sound =
      tells_list (InHeader kind) (root_scope more) (value_block (md (codes "Model.profile"))) (λ text. TellsText Profile text ∷ []) (λ text. limits.one_profile ∷ []) (λ text. is_literal text ≡ true)
      (λ text is. header_value_tells more kind Profile (codes "Model.profile") text refl (literal_short text is)) profiles (every_of is_literal profiles (profiles_parts profiles sound).0)

  pub header_tells : (header : Header) → is_sound_header header ≡ true → IsTold (header_block header) (header_facts header) (header_counts header)
  header_tells header sound =
      let is = header_parts header sound in
      let supersedes = blocks_of (model_block (md (codes "Model.Supersedes"))) header.supersedes in
      let depends = blocks_of (model_block (md (codes "Model.DependentOn"))) header.depends in
      let profiles = blocks_of (value_block (md (codes "Model.profile"))) header.profiles in
      let authority = optional_block (md (codes "Model.modelingAuthoritySet")) header.authority in
      let description = optional_block (md (codes "Model.description")) header.description in
      let version = optional_block (md (codes "Model.version")) header.version in
      let time = optional_block (md (codes "Model.scenarioTime")) header.scenario_time in
      let created = optional_block (md (codes "Model.created")) header.created in
      let superseded_facts = flat_map (λ id. Links Supersedes id ∷ []) header.supersedes in
      let depends_facts = flat_map (λ id. Links DependentOn id ∷ []) header.depends in
      let profile_facts = flat_map (λ text. TellsText Profile text ∷ []) header.profiles in
      let superseded_counts = flat_map (λ (id : ℕ). limits.one_superseded ∷ []) header.supersedes in
      let depends_counts = flat_map (λ (id : ℕ). limits.one_dependency ∷ []) header.depends in
      let profile_counts = flat_map (λ (text : List ℕ). limits.one_profile ∷ []) header.profiles in
      let links = tells_both (InHeader kind) (root_scope more) depends supersedes depends_facts superseded_facts depends_counts superseded_counts
      (ids_tell DependentOn (codes "Model.DependentOn") most_dependencies header.depends refl is.depends) (ids_tell Supersedes (codes "Model.Supersedes") most_superseded header.supersedes refl is.supersedes) in
      let lists = tells_both (InHeader kind) (root_scope more) profiles (λ behind. depends (supersedes behind)) profile_facts (depends_facts ++ superseded_facts) profile_counts (depends_counts ++ superseded_counts)
      (profiles_tell header.profiles is.profiles) links in
      let all = profile_counts ++ (depends_counts ++ superseded_counts) in
      let after_authority = profile_facts ++ (depends_facts ++ superseded_facts) in
      let after_description = text_facts Authority header.authority ++ after_authority in
      let after_version = text_facts Description header.description ++ after_description in
      let after_time = text_facts Version header.version ++ after_version in
      then_more created (λ behind. time (version (description (authority (profiles (depends (supersedes behind))))))) (text_facts Created header.created) (text_facts ScenarioTime header.scenario_time ++ after_time) all
      (optional_tells more kind Created (codes "Model.created") header.created refl refl is.created)
      (then_more time (λ behind. version (description (authority (profiles (depends (supersedes behind)))))) (text_facts ScenarioTime header.scenario_time) after_time all
      (optional_tells more kind ScenarioTime (codes "Model.scenarioTime") header.scenario_time refl refl is.scenario_time)
      (then_more version (λ behind. description (authority (profiles (depends (supersedes behind))))) (text_facts Version header.version) after_version all
      (optional_tells more kind Version (codes "Model.version") header.version refl refl is.version)
      (then_more description (λ behind. authority (profiles (depends (supersedes behind)))) (text_facts Description header.description) after_description all
      (optional_tells more kind Description (codes "Model.description") header.description refl refl is.description)
      (then_more authority (λ behind. profiles (depends (supersedes behind))) (text_facts Authority header.authority) after_authority all
      (optional_tells more kind Authority (codes "Model.modelingAuthoritySet") header.authority refl refl is.authority) lists))))

-- ---- the header that the facts make

eight_parts : {X : Type 0} (pick : Fact → Option X) (a b c d e f g h rest : List Fact) → filter_map pick ((a ++ (b ++ (c ++ (d ++ (e ++ (f ++ (g ++ h))))))) ++ rest)
    ≡ filter_map pick a ++ (filter_map pick b ++ (filter_map pick c ++ (filter_map pick d ++ (filter_map pick e ++ (filter_map pick f ++ (filter_map pick g ++ (filter_map pick h ++ filter_map pick rest)))))))
eight_parts pick a b c d e f g h rest = simp (filter_map-append, append_assoc)

module _ {X : Type 0} (pick : Fact → Option X) where
  no_text : (property : TextProperty) → ((text : List ℕ) → pick (TellsText property text) ≡ None) → (text : Option (List ℕ)) → filter_map pick (text_facts property text) ≡ []
  no_text property none None = refl
  no_text property none (Some text) = rw (none text) refl

  no_list : {Y : Type 0} (fact : Y → Fact) → ((y : Y) → pick (fact y) ≡ None) → (ys : List Y) → filter_map pick (flat_map (λ y. fact y ∷ []) ys) ≡ []
  no_list fact none [] = refl
  no_list fact none (y ∷ ys) = rw (none y) (no_list fact none ys)

  own_list : (fact : X → Fact) → ((x : X) → pick (fact x) ≡ Some x) → (xs : List X) → filter_map pick (flat_map (λ x. fact x ∷ []) xs) ≡ xs
  own_list fact some [] = refl
  own_list fact some (x ∷ xs) = rw (some x) (ap (λ (ys : List X). x ∷ ys) (own_list fact some xs))

own_text : (property : TextProperty) → ((text : List ℕ) → text_for property (TellsText property text) ≡ Some text) → (text : Option (List ℕ)) → filter_map (text_for property) (text_facts property text) ≡ option_to_list text
own_text property some None = refl
own_text property some (Some text) = rw (some text) refl

last_alone : (text : Option (List ℕ)) → last_of (option_to_list text ++ []) ≡ text
last_alone None = refl
last_alone (Some text) = refl

-- what stands behind the header is stated of parts
pub record IsOnlyStated (rest : List Fact) : Type 0 where
  pub texts : (property : TextProperty) → filter_map (text_for property) rest ≡ []
  pub links : (property : LinkProperty) → filter_map (link_for property) rest ≡ []

module _ (header : Header) (rest : List Fact) where
  abbrev split : {X : Type 0} → (Fact → Option X) → List X
  split pick =
      filter_map pick (text_facts Created header.created)
      ++ (filter_map pick (text_facts ScenarioTime header.scenario_time)
      ++ (filter_map pick (text_facts Version header.version)
      ++ (filter_map pick (text_facts Description header.description)
      ++ (filter_map pick (text_facts Authority header.authority)
      ++ (filter_map pick (flat_map (λ text. TellsText Profile text ∷ []) header.profiles)
      ++ (filter_map pick (flat_map (λ id. Links DependentOn id ∷ []) header.depends)
      ++ (filter_map pick (flat_map (λ id. Links Supersedes id ∷ []) header.supersedes)
      ++ filter_map pick rest)))))))

  splits : {X : Type 0} (pick : Fact → Option X) → filter_map pick (header_facts header ++ rest) ≡ split pick
  splits pick =
      eight_parts pick (text_facts Created header.created) (text_facts ScenarioTime header.scenario_time) (text_facts Version header.version) (text_facts Description header.description) (text_facts Authority header.authority)
      (flat_map (λ text. TellsText Profile text ∷ []) header.profiles) (flat_map (λ id. Links DependentOn id ∷ []) header.depends) (flat_map (λ id. Links Supersedes id ∷ []) header.supersedes) rest

  created_again : filter_map (text_for Created) rest ≡ [] → last_of (texts_of Created (header_facts header ++ rest)) ≡ header.created
  created_again none =
      ap last_of (splits (text_for Created) ∙ (λ i. own_text Created (λ text. refl) header.created i
      ++ (no_text (text_for Created) ScenarioTime (λ text. refl) header.scenario_time i
      ++ (no_text (text_for Created) Version (λ text. refl) header.version i
      ++ (no_text (text_for Created) Description (λ text. refl) header.description i
      ++ (no_text (text_for Created) Authority (λ text. refl) header.authority i
      ++ (no_list (text_for Created) (λ text. TellsText Profile text) (λ x. refl) header.profiles i
      ++ (no_list (text_for Created) (λ id. Links DependentOn id) (λ x. refl) header.depends i
      ++ (no_list (text_for Created) (λ id. Links Supersedes id) (λ x. refl) header.supersedes i
      ++ (none i))))))))))
      ∙ last_alone header.created

  scenario_time_again : filter_map (text_for ScenarioTime) rest ≡ [] → last_of (texts_of ScenarioTime (header_facts header ++ rest)) ≡ header.scenario_time
  scenario_time_again none =
      ap last_of (splits (text_for ScenarioTime) ∙ (λ i. no_text (text_for ScenarioTime) Created (λ text. refl) header.created i
      ++ (own_text ScenarioTime (λ text. refl) header.scenario_time i
      ++ (no_text (text_for ScenarioTime) Version (λ text. refl) header.version i
      ++ (no_text (text_for ScenarioTime) Description (λ text. refl) header.description i
      ++ (no_text (text_for ScenarioTime) Authority (λ text. refl) header.authority i
      ++ (no_list (text_for ScenarioTime) (λ text. TellsText Profile text) (λ x. refl) header.profiles i
      ++ (no_list (text_for ScenarioTime) (λ id. Links DependentOn id) (λ x. refl) header.depends i
      ++ (no_list (text_for ScenarioTime) (λ id. Links Supersedes id) (λ x. refl) header.supersedes i
      ++ (none i))))))))))
      ∙ last_alone header.scenario_time

  version_again : filter_map (text_for Version) rest ≡ [] → last_of (texts_of Version (header_facts header ++ rest)) ≡ header.version
  version_again none =
      ap last_of (splits (text_for Version) ∙ (λ i. no_text (text_for Version) Created (λ text. refl) header.created i
      ++ (no_text (text_for Version) ScenarioTime (λ text. refl) header.scenario_time i
      ++ (own_text Version (λ text. refl) header.version i
      ++ (no_text (text_for Version) Description (λ text. refl) header.description i
      ++ (no_text (text_for Version) Authority (λ text. refl) header.authority i
      ++ (no_list (text_for Version) (λ text. TellsText Profile text) (λ x. refl) header.profiles i
      ++ (no_list (text_for Version) (λ id. Links DependentOn id) (λ x. refl) header.depends i
      ++ (no_list (text_for Version) (λ id. Links Supersedes id) (λ x. refl) header.supersedes i
      ++ (none i))))))))))
      ∙ last_alone header.version

  description_again : filter_map (text_for Description) rest ≡ [] → last_of (texts_of Description (header_facts header ++ rest)) ≡ header.description
  description_again none =
      ap last_of (splits (text_for Description) ∙ (λ i. no_text (text_for Description) Created (λ text. refl) header.created i
      ++ (no_text (text_for Description) ScenarioTime (λ text. refl) header.scenario_time i
      ++ (no_text (text_for Description) Version (λ text. refl) header.version i
      ++ (own_text Description (λ text. refl) header.description i
      ++ (no_text (text_for Description) Authority (λ text. refl) header.authority i
      ++ (no_list (text_for Description) (λ text. TellsText Profile text) (λ x. refl) header.profiles i
      ++ (no_list (text_for Description) (λ id. Links DependentOn id) (λ x. refl) header.depends i
      ++ (no_list (text_for Description) (λ id. Links Supersedes id) (λ x. refl) header.supersedes i
      ++ (none i))))))))))
      ∙ last_alone header.description

  authority_again : filter_map (text_for Authority) rest ≡ [] → last_of (texts_of Authority (header_facts header ++ rest)) ≡ header.authority
  authority_again none =
      ap last_of (splits (text_for Authority) ∙ (λ i. no_text (text_for Authority) Created (λ text. refl) header.created i
      ++ (no_text (text_for Authority) ScenarioTime (λ text. refl) header.scenario_time i
      ++ (no_text (text_for Authority) Version (λ text. refl) header.version i
      ++ (no_text (text_for Authority) Description (λ text. refl) header.description i
      ++ (own_text Authority (λ text. refl) header.authority i
      ++ (no_list (text_for Authority) (λ text. TellsText Profile text) (λ x. refl) header.profiles i
      ++ (no_list (text_for Authority) (λ id. Links DependentOn id) (λ x. refl) header.depends i
      ++ (no_list (text_for Authority) (λ id. Links Supersedes id) (λ x. refl) header.supersedes i
      ++ (none i))))))))))
      ∙ last_alone header.authority

  profiles_again : filter_map (text_for Profile) rest ≡ [] → texts_of Profile (header_facts header ++ rest) ≡ header.profiles
  profiles_again none =
      splits (text_for Profile) ∙ (λ i. no_text (text_for Profile) Created (λ text. refl) header.created i
      ++ (no_text (text_for Profile) ScenarioTime (λ text. refl) header.scenario_time i
      ++ (no_text (text_for Profile) Version (λ text. refl) header.version i
      ++ (no_text (text_for Profile) Description (λ text. refl) header.description i
      ++ (no_text (text_for Profile) Authority (λ text. refl) header.authority i
      ++ (own_list (text_for Profile) (λ text. TellsText Profile text) (λ x. refl) header.profiles i
      ++ (no_list (text_for Profile) (λ id. Links DependentOn id) (λ x. refl) header.depends i
      ++ (no_list (text_for Profile) (λ id. Links Supersedes id) (λ x. refl) header.supersedes i
      ++ (none i)))))))))
      ∙ append-nil header.profiles

  depends_again : filter_map (link_for DependentOn) rest ≡ [] → links_of DependentOn (header_facts header ++ rest) ≡ header.depends
  depends_again none =
      splits (link_for DependentOn) ∙ (λ i. no_text (link_for DependentOn) Created (λ text. refl) header.created i
      ++ (no_text (link_for DependentOn) ScenarioTime (λ text. refl) header.scenario_time i
      ++ (no_text (link_for DependentOn) Version (λ text. refl) header.version i
      ++ (no_text (link_for DependentOn) Description (λ text. refl) header.description i
      ++ (no_text (link_for DependentOn) Authority (λ text. refl) header.authority i
      ++ (no_list (link_for DependentOn) (λ text. TellsText Profile text) (λ x. refl) header.profiles i
      ++ (own_list (link_for DependentOn) (λ id. Links DependentOn id) (λ x. refl) header.depends i
      ++ (no_list (link_for DependentOn) (λ id. Links Supersedes id) (λ x. refl) header.supersedes i
      ++ (none i)))))))))
      ∙ append-nil header.depends

  supersedes_again : filter_map (link_for Supersedes) rest ≡ [] → links_of Supersedes (header_facts header ++ rest) ≡ header.supersedes
  supersedes_again none =
      splits (link_for Supersedes) ∙ (λ i. no_text (link_for Supersedes) Created (λ text. refl) header.created i
      ++ (no_text (link_for Supersedes) ScenarioTime (λ text. refl) header.scenario_time i
      ++ (no_text (link_for Supersedes) Version (λ text. refl) header.version i
      ++ (no_text (link_for Supersedes) Description (λ text. refl) header.description i
      ++ (no_text (link_for Supersedes) Authority (λ text. refl) header.authority i
      ++ (no_list (link_for Supersedes) (λ text. TellsText Profile text) (λ x. refl) header.profiles i
      ++ (no_list (link_for Supersedes) (λ id. Links DependentOn id) (λ x. refl) header.depends i
      ++ (own_list (link_for Supersedes) (λ id. Links Supersedes id) (λ x. refl) header.supersedes i
      ++ (none i)))))))))
      ∙ append-nil header.supersedes

profiles_rise : (profiles : List (List ℕ)) → is_rising_by text_cmp profiles ≡ true → rising_by text_cmp profiles ≡ profiles
profiles_rise profiles rising = rising_by-members text_total exact_bytes profiles profiles (rises-from_test text_cmp text_total profiles rising) (λ x. refl)

ids_rise : (ids : List ℕ) → is_rising_by nat_cmp ids ≡ true → rising_ids ids ≡ ids
ids_rise ids rising = rising_by-members nat_cmp_total nat_cmp-equal ids ids (rises-from_test nat_cmp nat_cmp_total ids rising) (λ x. refl)

pub header_again : (header : Header) (rest : List Fact) → is_sound_header header ≡ true → IsOnlyStated rest → header_of header.id (header_facts header ++ rest) ≡ header
header_again header rest sound only =
    let is = header_parts header sound in
    let profiles = ap (rising_by text_cmp) (profiles_again header rest (only.texts Profile)) ∙ profiles_rise header.profiles (profiles_parts header.profiles is.profiles).1 in
    let depends = ap rising_ids (depends_again header rest (only.links DependentOn)) ∙ ids_rise header.depends (ids_parts most_dependencies header.depends is.depends).1 in
    let supersedes = ap rising_ids (supersedes_again header rest (only.links Supersedes)) ∙ ids_rise header.supersedes (ids_parts most_superseded header.supersedes is.supersedes).1 in
    λ i. record {
      id = header.id;
      created = created_again header rest (only.texts Created) i;
      scenario_time = scenario_time_again header rest (only.texts ScenarioTime) i;
      version = version_again header rest (only.texts Version) i;
      description = description_again header rest (only.texts Description) i;
      authority = authority_again header rest (only.texts Authority) i;
      profiles = profiles i;
      depends = depends i;
      supersedes = supersedes i;
    }

-- a test that passes over what headers tell
pub no_header : {X : Type 0} (pick : Fact → Option X) → ((property : TextProperty) (text : List ℕ) → pick (TellsText property text) ≡ None) → ((property : LinkProperty) (id : ℕ) → pick (Links property id) ≡ None)
    → (header : Header) → filter_map pick (header_facts header) ≡ []
no_header pick text link header =
    ap (filter_map pick) (sym (append-nil (header_facts header)))
    ∙ splits header [] pick
    ∙ (λ i. no_text pick Created (text Created) header.created i
    ++ (no_text pick ScenarioTime (text ScenarioTime) header.scenario_time i
    ++ (no_text pick Version (text Version) header.version i
    ++ (no_text pick Description (text Description) header.description i
    ++ (no_text pick Authority (text Authority) header.authority i
    ++ (no_list pick (λ value. TellsText Profile value) (text Profile) header.profiles i
    ++ (no_list pick (λ id. Links DependentOn id) (link DependentOn) header.depends i
    ++ (no_list pick (λ id. Links Supersedes id) (link Supersedes) header.supersedes i
    ++ []))))))))
