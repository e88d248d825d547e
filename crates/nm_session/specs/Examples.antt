-- Worked examples of command lines, turns and replies, computed.
use Rattle.std.specs.Prelude.{◌≡◌, ℕ, [], ◌∷◌, ◌++◌, codes, true, false, None, Some, Ok, Err, refl}
use Rattle.std.specs.Fmt.{digits}
use Rattle.nm_base.specs.declared.outcome.Limit.TheVariants.{L4, L5}
use Rattle.nm_day.specs.Day.{is_day}
use Rattle.nm_ident.specs.UuidText.{uuid_of}
use Rattle.nm_model.specs.declared.document.Difference.{Difference}
use Rattle.nm_model.specs.declared.document.Document.TheVariants as document
use Rattle.nm_model.specs.declared.document.Full.{Full}
use Rattle.nm_model.specs.declared.header.Header.{Header}
use Rattle.nm_session.specs.declared.body.Body.TheVariants as body
use Rattle.nm_reader.specs.declared.fault.Code.TheVariants.{Prefix}
use Rattle.nm_version.specs.Kept.{Kept, opened}
use Rattle.nm_version.specs.declared.command.Command.TheVariants as command
use Rattle.nm_version.specs.declared.command.Entry.{Entry}
use Rattle.nm_version.specs.declared.command.Entry.TheVariants as entry
use Rattle.nm_version.specs.declared.refusal.Refusal.TheVariants as refusal
use Rattle.nm_session.specs.Laws.{replies_behind}
use Rattle.nm_session.specs.Reply.{document_reply, log_reply, numbered, refused_document_reply, refused_reply, summary_reply}
use Rattle.nm_session.specs.Turn.{allows, committed, stays, turn_of, with_base, with_body}
use Rattle.nm_session.specs.Word.{dated_line, day_before_space, length_of, object_line, project_line, word_of}
use Rattle.nm_session.specs.declared.state.State.TheVariants.{Empty, Store}
use Rattle.nm_session.specs.PlainWord.{Base, File, Assemble, Projects, Log, Summary, End}

-- ---- lengths and lines

longest : length_of (codes "67108864") ≡ Some 67108864
unfolding length_of
longest = refl

too_long : length_of (codes "67108865") ≡ None
unfolding length_of
too_long = refl

leading_zero : length_of (codes "0462") ≡ None
unfolding length_of
leading_zero = refl

nothing : length_of (codes "0") ≡ Some 0
unfolding length_of
nothing = refl

no_digits : length_of [] ≡ None
unfolding length_of
no_digits = refl

base_line : word_of (codes "base 462") ≡ Some (Base 462)
unfolding word_of length_of
base_line = refl

two_spaces : word_of (codes "base  462") ≡ None
unfolding word_of length_of
two_spaces = refl

file_line : word_of (codes "file 2027-01-01 1078") ≡ Some (File (codes "2027-01-01") 1078)
unfolding word_of dated_line day_before_space length_of is_day
file_line = refl

file_without_length : word_of (codes "file 2027-01-01") ≡ None
unfolding word_of dated_line day_before_space length_of is_day
file_without_length = refl

assemble_line : word_of (codes "assemble 2027-01-01") ≡ Some (Assemble (codes "2027-01-01"))
unfolding word_of dated_line is_day
assemble_line = refl

summary_line : word_of (codes "summary 2027-01-01") ≡ Some (Summary (codes "2027-01-01"))
unfolding word_of dated_line is_day
summary_line = refl

summary_of_no_day : word_of (codes "summary 3000-01-01") ≡ None
unfolding word_of dated_line is_day
summary_of_no_day = refl

file_on_no_day : word_of (codes "file 2027-02-31 1078") ≡ None
unfolding word_of dated_line day_before_space length_of is_day
file_on_no_day = refl

leap_day : word_of (codes "assemble 2028-02-29") ≡ Some (Assemble (codes "2028-02-29"))
unfolding word_of dated_line is_day
leap_day = refl

no_leap_day : word_of (codes "assemble 2027-02-29") ≡ None
unfolding word_of dated_line is_day
no_leap_day = refl

projects_line : word_of (codes "projects") ≡ Some Projects
unfolding word_of
projects_line = refl

log_line : word_of (codes "log") ≡ Some Log
unfolding word_of
log_line = refl

end_line : word_of (codes "end") ≡ Some End
unfolding word_of
end_line = refl

short_id : word_of (codes "withdraw 30000000") ≡ None
unfolding word_of dated_line project_line uuid_of
short_id = refl

space_behind : word_of (codes "end ") ≡ None
unfolding word_of dated_line project_line object_line
space_behind = refl

upper_case : word_of (codes "END") ≡ None
unfolding word_of dated_line project_line object_line
upper_case = refl

-- ---- turns

abbrev header : ℕ → Header
header id = record {
  id = id;
  created = None;
  scenario_time = None;
  version = None;
  description = None;
  authority = None;
  profiles = [];
  depends = [];
  supersedes = [];
}

abbrev base : Full
base = record { header = header 5; statements = [] }

abbrev difference : Difference
difference = record { header = header 6; change = record { pre = []; rev = []; fwd = [] } }

abbrev kept : Kept
kept = opened base (codes "base")

base_before_all : allows Empty (Base 462) ≡ true
base_before_all = refl

base_only_once : allows (Store kept) (Base 462) ≡ false
base_only_once = refl

nothing_without_base : allows Empty (File (codes "2027-01-01") 1078) ≡ false
nothing_without_base = refl

projects_without_base : allows Empty Projects ≡ false
projects_without_base = refl

projects_behind_base : allows (Store kept) Projects ≡ true
projects_behind_base = refl

base_taken : with_base (body.Document (document.Full base) (codes "base"))
    ≡ record { reply = codes "ok 0" ++ 10 ∷ []; state = Store kept }
unfolding digits
base_taken = refl

no_base : with_base (body.Document (document.Difference difference) (codes "file")) ≡ stays Empty (codes "refused kind" ++ 10 ∷ [])
no_base = refl

abbrev command_kept : Entry
command_kept = entry.File (codes "2027-01-01") (codes "file")

accepted_command : committed kept (Ok (record kept { log = command_kept ∷ [] }))
    ≡ record { reply = codes "ok 1" ++ 10 ∷ []; state = Store (record kept { log = command_kept ∷ [] }) }
unfolding digits
accepted_command = refl

refused_command : committed kept (Err (refusal.Limit L5)) ≡ stays (Store kept) (codes "refused limit L5" ++ 10 ∷ [])
refused_command = refl

faulty_file : with_body kept (command.File (codes "2027-01-01")) (body.Fault (record { at = 0; code = Prefix }))
    ≡ stays (Store kept) (codes "refused document 0 prefix" ++ 10 ∷ [])
unfolding digits
faulty_file = refl

faulty_revision : with_body kept (command.Revise 6) (body.Fault (record { at = 0; code = Prefix }))
    ≡ stays (Store kept) (codes "refused document 0 prefix" ++ 10 ∷ [])
unfolding digits
faulty_revision = refl

no_projects : turn_of (Store kept) Projects [] ≡ stays (Store kept) (codes "projects 0" ++ 10 ∷ [])
unfolding digits
no_projects = refl

log_of_a_base : turn_of (Store kept) Log [] ≡ stays (Store kept) (codes "log 15" ++ 10 ∷ codes "base 4" ++ 10 ∷ codes "baseend" ++ 10 ∷ [])
unfolding digits
log_of_a_base = refl

end_without_base : turn_of Empty End [] ≡ stays Empty (codes "end 0" ++ 10 ∷ [])
unfolding digits
end_without_base = refl

-- ---- replies

accepted : numbered (codes "ok") 12 ≡ codes "ok 12" ++ 10 ∷ []
unfolding digits
accepted = refl

log_behind_its_length : log_reply (codes "abc") ≡ codes "log 3" ++ 10 ∷ codes "abc"
unfolding digits
log_behind_its_length = refl

document_behind_its_length : document_reply (codes "abc") ≡ codes "document 3" ++ 10 ∷ codes "abc"
unfolding digits
document_behind_its_length = refl

summary : summary_reply 2 1 30 ≡ codes "summary commits 2 projects 1 statements 30" ++ 10 ∷ []
unfolding digits
summary = refl

faulty_document : refused_document_reply (record { at = 308; code = Prefix }) ≡ codes "refused document 308 prefix" ++ 10 ∷ []
unfolding digits
faulty_document = refl

refused_kind : refused_reply refusal.Kind ≡ codes "refused kind" ++ 10 ∷ []
refused_kind = refl

refused_limit : refused_reply (refusal.Limit L4) ≡ codes "refused limit L4" ++ 10 ∷ []
refused_limit = refl

-- the replies to a log of one command, behind that to its base
one_command_again : replies_behind 0 (command_kept ∷ []) ≡ codes "ok 1" ++ 10 ∷ codes "end 1" ++ 10 ∷ []
unfolding digits
one_command_again = refl
