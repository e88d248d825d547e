-- What facts come to, one after another.
use Rattle.std.specs.Prelude.{ℕ, List, [], ◌∷◌, ◌++◌, Option, Some}
use Rattle.std.specs.List.{filter_map}
use Rattle.nm_statement.specs.declared.statement.Statement.{Statement}
use Rattle.nm_reader.specs.Model.{last_of, link_for, statement_for, text_for}
use Rattle.nm_reader.specs.declared.fact.Fact.{Fact}
use Rattle.nm_reader.specs.declared.fact.Fact.TheVariants.{Heads, Tells, Links, States}
use Rattle.nm_reader.specs.declared.fact.LinkProperty.TheVariants.{DependentOn, Supersedes}
use Rattle.nm_reader.specs.declared.fact.Part.TheVariants.{Whole, Preconditions, Forward, Reverse}
use Rattle.nm_reader.specs.declared.fact.TextProperty.TheVariants.{Created, ScenarioTime, Version, Description, Authority, Profile}

pub record Drafted : Type 0 where
  pub created : Option (List ℕ)
  pub scenario_time : Option (List ℕ)
  pub version : Option (List ℕ)
  pub description : Option (List ℕ)
  pub authority : Option (List ℕ)
  pub profiles : List (List ℕ)
  pub depends : List ℕ
  pub supersedes : List ℕ
  pub whole : List Statement
  pub preconditions : List Statement
  pub forward : List Statement
  pub reverse : List Statement

-- what has been told
abbrev pub drafted : List Fact → Drafted
drafted facts = record {
  created = last_of (filter_map (text_for Created) facts);
  scenario_time = last_of (filter_map (text_for ScenarioTime) facts);
  version = last_of (filter_map (text_for Version) facts);
  description = last_of (filter_map (text_for Description) facts);
  authority = last_of (filter_map (text_for Authority) facts);
  profiles = filter_map (text_for Profile) facts;
  depends = filter_map (link_for DependentOn) facts;
  supersedes = filter_map (link_for Supersedes) facts;
  whole = filter_map (statement_for Whole) facts;
  preconditions = filter_map (statement_for Preconditions) facts;
  forward = filter_map (statement_for Forward) facts;
  reverse = filter_map (statement_for Reverse) facts;
}

-- one fact more
abbrev pub with_fact : Drafted → Fact → Drafted
with_fact draft (Heads kind id) = draft
with_fact draft (Tells Created text) = record draft { created = Some text }
with_fact draft (Tells ScenarioTime text) = record draft { scenario_time = Some text }
with_fact draft (Tells Version text) = record draft { version = Some text }
with_fact draft (Tells Description text) = record draft { description = Some text }
with_fact draft (Tells Authority text) = record draft { authority = Some text }
with_fact draft (Tells Profile text) = record draft { profiles = draft.profiles ++ text ∷ [] }
with_fact draft (Links DependentOn id) = record draft { depends = draft.depends ++ id ∷ [] }
with_fact draft (Links Supersedes id) = record draft { supersedes = draft.supersedes ++ id ∷ [] }
with_fact draft (States Whole statement) = record draft { whole = draft.whole ++ statement ∷ [] }
with_fact draft (States Preconditions statement) = record draft { preconditions = draft.preconditions ++ statement ∷ [] }
with_fact draft (States Forward statement) = record draft { forward = draft.forward ++ statement ∷ [] }
with_fact draft (States Reverse statement) = record draft { reverse = draft.reverse ++ statement ∷ [] }
