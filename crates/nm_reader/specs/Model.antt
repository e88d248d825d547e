-- What a document tells, tag by tag, and the model that it makes (IEC 61970-552).
use Rattle.std.specs.Prelude.{ℕ, List, [], ◌∷◌, Option, None, Some}
use Rattle.std.specs.List.{filter_map}
use Rattle.nm_ident.specs.Order.{text_cmp}
use Rattle.nm_ident.specs.Rising.{rising_by}
use Rattle.nm_model.specs.Header.{rising_ids}
use Rattle.nm_model.specs.declared.header.Header.{Header}
use Rattle.nm_model.specs.declared.document.Document.{Document}
use Rattle.nm_model.specs.declared.document.Document.TheVariants as document
use Rattle.nm_statement.specs.Set.{set_of}
use Rattle.nm_statement.specs.declared.statement.Statement.{Statement}
use Rattle.nm_reader.specs.declared.fact.Fact.{Fact}
use Rattle.nm_reader.specs.declared.fact.Fact.TheVariants.{Heads, Tells, Links, States}
use Rattle.nm_reader.specs.declared.fact.Kind.{Kind}
use Rattle.nm_reader.specs.declared.fact.Kind.TheVariants.{Full, Difference}
use Rattle.nm_reader.specs.declared.fact.LinkProperty.{LinkProperty}
use Rattle.nm_reader.specs.declared.fact.LinkProperty.TheVariants.{DependentOn, Supersedes}
use Rattle.nm_reader.specs.declared.fact.Part.{Part}
use Rattle.nm_reader.specs.declared.fact.Part.TheVariants.{Whole, Preconditions, Forward, Reverse}
use Rattle.nm_reader.specs.declared.fact.TextProperty.{TextProperty}
use Rattle.nm_reader.specs.declared.fact.TextProperty.TheVariants.{Created, ScenarioTime, Version, Description, Authority, Profile}

-- the text of a fact of one property
abbrev pub text_for : TextProperty → Fact → Option (List ℕ)
text_for Created (Tells Created text) = Some text
text_for ScenarioTime (Tells ScenarioTime text) = Some text
text_for Version (Tells Version text) = Some text
text_for Description (Tells Description text) = Some text
text_for Authority (Tells Authority text) = Some text
text_for Profile (Tells Profile text) = Some text
text_for _ _ = None

abbrev pub link_for : LinkProperty → Fact → Option ℕ
link_for DependentOn (Links DependentOn id) = Some id
link_for Supersedes (Links Supersedes id) = Some id
link_for _ _ = None

abbrev pub statement_for : Part → Fact → Option Statement
statement_for Whole (States Whole statement) = Some statement
statement_for Preconditions (States Preconditions statement) = Some statement
statement_for Forward (States Forward statement) = Some statement
statement_for Reverse (States Reverse statement) = Some statement
statement_for _ _ = None

abbrev pub last_of : {X : Type 0} → List X → Option X
last_of [] = None
last_of (x ∷ []) = Some x
last_of (x ∷ y ∷ xs) = last_of (y ∷ xs)

abbrev pub texts_of : TextProperty → List Fact → List (List ℕ)
texts_of property facts = filter_map (text_for property) facts

abbrev pub links_of : LinkProperty → List Fact → List ℕ
links_of property facts = filter_map (link_for property) facts

-- the statements of a part are a set: what is stated twice counts once
abbrev pub statements_of : Part → List Fact → List Statement
statements_of part facts = set_of (filter_map (statement_for part) facts)

-- of a property with one text the last holds; profiles and links are sets
abbrev pub header_of : ℕ → List Fact → Header
header_of id facts = record {
  id = id;
  created = last_of (texts_of Created facts);
  scenario_time = last_of (texts_of ScenarioTime facts);
  version = last_of (texts_of Version facts);
  description = last_of (texts_of Description facts);
  authority = last_of (texts_of Authority facts);
  profiles = rising_by text_cmp (texts_of Profile facts);
  depends = rising_ids (links_of DependentOn facts);
  supersedes = rising_ids (links_of Supersedes facts);
}

abbrev pub model_of : Kind → ℕ → List Fact → Document
model_of Full id facts =
    document.Full (record { header = header_of id facts; statements = statements_of Whole facts })
model_of Difference id facts =
    document.Difference (record {
      header = header_of id facts;
      change = record {
        pre = statements_of Preconditions facts;
        rev = statements_of Reverse facts;
        fwd = statements_of Forward facts;
      };
    })

abbrev pub model_headed : Fact → List Fact → Option Document
model_headed (Heads kind id) facts = Some (model_of kind id facts)
model_headed _ facts = None

-- the model whose header comes first
abbrev pub document_of : List Fact → Option Document
document_of [] = None
document_of (fact ∷ facts) = model_headed fact facts
