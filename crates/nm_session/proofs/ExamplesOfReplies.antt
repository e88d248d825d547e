-- Worked examples of lines and replies with a UUID, computed.
use Rattle.std.proofs.Common.{◌≡◌, ◌∷◌, ◌++◌, [], ℕ, List, None, Some, codes, refl}
use Rattle.std.specs.Fmt.{digits}
use Rattle.uuid.proofs.OnLiterals.{uuid_on_literals}
use Rattle.nm_day.specs.Day.{is_day}
use Rattle.nm_ident.specs.UuidText.{uuid_of, uuid_text}
use Rattle.nm_ident.specs.declared.ident.Ident.TheVariants.{Local}
use Rattle.nm_statement.specs.declared.object.Object.TheVariants.{Literal}
use Rattle.nm_statement.specs.declared.statement.Statement.{Statement}
use Rattle.nm_version.specs.declared.refusal.Cause.TheVariants.{Dependency, Precondition}
use Rattle.nm_version.specs.declared.refusal.Refusal.TheVariants as refusal
use Rattle.nm_timeline.specs.declared.part.Part.TheVariants as part
use Rattle.nm_version.specs.Kept.{opened}
use Rattle.nm_version.specs.declared.command.Entry.TheVariants as entry
use Rattle.nm_version.specs.declared.line.Line.TheVariants as line
use Rattle.nm_model.specs.declared.header.Header.{Header}
use Rattle.nm_session.specs.Reply.{lines_reply, projects_reply, refused_reply, statements_reply}
use Rattle.nm_session.specs.Turn.{stays, turn_of}
use Rattle.nm_session.specs.declared.state.State.TheVariants.{Store}
use Rattle.nm_session.specs.Word.{dated_line, id_before_space, length_of, project_line, word_of}
use Rattle.nm_session.specs.PlainWord.{Log, Revise, Redate, Withdraw}

-- the number of 10000000-0000-4000-8000-000000000001
abbrev example_number : ℕ
example_number = 0x10000000000040008000000000000001

abbrev example_text : List ℕ
example_text = codes "10000000-0000-4000-8000-000000000001"

-- ---- lines

revise_line : word_of (codes "revise 10000000-0000-4000-8000-000000000001 1078") ≡ Some (Revise example_number 1078)
unfolding word_of dated_line project_line id_before_space length_of uuid_of uuid_on_literals
revise_line = refl

redate_line : word_of (codes "redate 10000000-0000-4000-8000-000000000001 2027-01-01") ≡ Some (Redate example_number (codes "2027-01-01"))
unfolding word_of dated_line project_line id_before_space is_day uuid_of uuid_on_literals
redate_line = refl

redate_to_no_day : word_of (codes "redate 10000000-0000-4000-8000-000000000001 2027-02-29") ≡ None
unfolding word_of dated_line project_line id_before_space is_day uuid_of uuid_on_literals
redate_to_no_day = refl

withdraw_line : word_of (codes "withdraw F81D4FAE-7DEC-11D0-A765-00A0C91E6BF6") ≡ Some (Withdraw 329800735698586629295641978511506172918)
unfolding word_of dated_line project_line uuid_of uuid_on_literals
withdraw_line = refl

word_behind_id : word_of (codes "withdraw 10000000-0000-4000-8000-000000000001 1") ≡ None
unfolding word_of dated_line project_line uuid_of uuid_on_literals
word_behind_id = refl

-- ---- replies

one_project : projects_reply (record { project = example_number; day = codes "2027-04-01"; current = example_number } ∷ [])
    ≡ codes "projects 1" ++ 10 ∷ example_text ++ codes " 2027-04-01 " ++ example_text ++ 10 ∷ []
unfolding digits uuid_text uuid_on_literals
one_project = refl

id_in_use : refused_reply (refusal.InUse example_number) ≡ codes "refused inuse " ++ example_text ++ 10 ∷ []
unfolding uuid_text uuid_on_literals
id_in_use = refl

unknown_id : refused_reply (refusal.Unknown example_number) ≡ codes "refused unknown " ++ example_text ++ 10 ∷ []
unfolding uuid_text uuid_on_literals
unknown_id = refl

id_not_superseded : refused_reply (refusal.NotSuperseding example_number) ≡ codes "refused superseding " ++ example_text ++ 10 ∷ []
unfolding uuid_text uuid_on_literals
id_not_superseded = refl

abbrev named : Statement
named = record {
  subject = Local (codes "a");
  predicate = record { ns = codes "http://iec.ch/#"; local = codes "name" };
  object = Literal (codes "North");
}

step_that_breaks : refused_reply (refusal.Step (codes "2027-01-01") example_number (Precondition named))
    ≡ codes "refused step 2027-01-01 " ++ example_text ++ codes " precondition #a <http://iec.ch/#name> \"North\"" ++ 10 ∷ []
unfolding uuid_text uuid_on_literals
step_that_breaks = refl

step_that_depends : refused_reply (refusal.Step (codes "2027-01-01") example_number (Dependency example_number))
    ≡ codes "refused step 2027-01-01 " ++ example_text ++ codes " dependency " ++ example_text ++ 10 ∷ []
unfolding uuid_text uuid_on_literals
step_that_depends = refl

-- the statements of an object behind their number
statements_of_an_object : statements_reply (named ∷ []) ≡ codes "statements 1\n#a <http://iec.ch/#name> \"North\"\n"
unfolding digits
statements_of_an_object = refl

no_statements : statements_reply [] ≡ codes "statements 0\n"
unfolding digits
no_statements = refl

-- a statement of the base that a project takes away
timeline_of_a_statement : lines_reply (line.Base named ∷ line.Named (codes "2027-04-01") example_number part.Reverse named ∷ [])
    ≡ codes "lines 2\nbase #a <http://iec.ch/#name> \"North\"\n2027-04-01 10000000-0000-4000-8000-000000000001 reverse #a <http://iec.ch/#name> \"North\"\n"
unfolding digits uuid_text uuid_on_literals
timeline_of_a_statement = refl

abbrev header : Header
header = record {
  id = 5;
  created = None;
  scenario_time = None;
  version = None;
  description = None;
  authority = None;
  profiles = [];
  depends = [];
  supersedes = [];
}

-- a log with a command in it
log_of_a_redate : turn_of (Store (record (opened (record { header = header; statements = [] }) (codes "base")) { log = entry.Redate example_number (codes "2027-05-01") ∷ [] })) Log []
    ≡ stays (Store (record (opened (record { header = header; statements = [] }) (codes "base")) { log = entry.Redate example_number (codes "2027-05-01") ∷ [] }))
    (codes "log 70\nbase 4\nbaseredate 10000000-0000-4000-8000-000000000001 2027-05-01\nend\n")
unfolding digits uuid_text uuid_on_literals
log_of_a_redate = refl
