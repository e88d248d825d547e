-- Worked examples of timelines and objects, computed: a substation that a project renames, with a precondition on
-- its class.
use Rattle.std.proofs.Common.{◌≡◌, ℕ, List, [], ◌∷◌, codes, None, refl}
use Rattle.nm_day.proofs.OnLiterals.{days_on_literals}
use Rattle.nm_ident.specs.declared.ident.Ident.{Ident}
use Rattle.nm_ident.specs.declared.ident.Ident.TheVariants.{Local}
use Rattle.nm_model.specs.declared.document.Full.{Full}
use Rattle.nm_stage.specs.Project.{PlainProject}
use Rattle.nm_statement.specs.declared.object.Object.TheVariants.{Iri, Literal, Resource}
use Rattle.nm_statement.specs.declared.statement.Statement.{Statement}
use Rattle.nm_timeline.specs.declared.part.Part.TheVariants.{Precondition, Reverse, Forward}
use Rattle.nm_version.specs.Objects.{object_at}
use Rattle.nm_version.specs.Timeline.{timeline_of}
use Rattle.nm_version.specs.declared.line.Line.TheVariants.{Base, Named}

abbrev substation : Ident
substation = Local (codes "substation")

abbrev line : Ident
line = Local (codes "line")

abbrev name : Ident → List ℕ → Statement
name subject text = record {
  subject = subject;
  predicate = record { ns = codes "http://iec.ch/#"; local = codes "name" };
  object = Literal text;
}

abbrev class : Statement
class = record {
  subject = substation;
  predicate = record { ns = codes "http://www.w3.org/#"; local = codes "type" };
  object = Iri (codes "http://iec.ch/#Substation");
}

-- the line ends at the substation
abbrev end : Statement
end = record {
  subject = line;
  predicate = record { ns = codes "http://iec.ch/#"; local = codes "end" };
  object = Resource substation;
}

abbrev north : Statement
north = name substation (codes "North")

abbrev north_2 : Statement
north_2 = name substation (codes "North 2")

abbrev base : Full
base = record {
  header = record {
    id = 5;
    created = None;
    scenario_time = None;
    version = None;
    description = None;
    authority = None;
    profiles = [];
    depends = [];
    supersedes = [];
  };
  statements = end ∷ north ∷ class ∷ [];
}

abbrev april : List ℕ
april = codes "2027-04-01"

abbrev may : List ℕ
may = codes "2027-05-01"

-- the renaming, filed behind a project of a later day, and revised once
abbrev live : List PlainProject
live =
    record { filing = 1; lineage = 11 ∷ []; day = may; dependencies = []; change = record { pre = north_2 ∷ []; rev = end ∷ []; fwd = name line (codes "West") ∷ [] } }
    ∷ record { filing = 2; lineage = 12 ∷ 13 ∷ []; day = april; dependencies = []; change = record { pre = class ∷ []; rev = north ∷ []; fwd = north_2 ∷ [] } }
    ∷ []

timeline : timeline_of base live substation
    ≡ Base north ∷ Named april 13 Reverse north
    ∷ Named april 13 Forward north_2 ∷ Named may 11 Precondition north_2
    ∷ Base class ∷ Named april 13 Precondition class
    ∷ []
unfolding days_on_literals
timeline = refl

timeline_of_nothing : timeline_of base live (Local (codes "nobody")) ≡ []
unfolding days_on_literals
timeline_of_nothing = refl

renamed : object_at base live april substation ≡ north_2 ∷ class ∷ []
unfolding days_on_literals
renamed = refl

not_yet_renamed : object_at base live (codes "2027-03-31") substation ≡ north ∷ class ∷ []
unfolding days_on_literals
not_yet_renamed = refl

line_on_the_day : object_at base live may line ≡ name line (codes "West") ∷ []
unfolding days_on_literals
line_on_the_day = refl

no_object : object_at base live may (Local (codes "nobody")) ≡ []
unfolding days_on_literals
no_object = refl
