-- What is written of a document.
use Rattle.std.specs.Prelude.{ℕ, List, [], ◌++◌, length, Result, Ok, Err, codes}
use Rattle.std.specs.Fmt.{decimal}
use Rattle.nm_base.specs.declared.outcome.Status.TheVariants.{Done, Refused, NoMemory}
use Rattle.nm_ident.specs.UuidText.{uuid_text}
use Rattle.nm_model.specs.declared.document.Document.{Document}
use Rattle.nm_model.specs.declared.document.Document.TheVariants as document
use Rattle.nm_reader.specs.declared.error.ReadError.{ReadError}
use Rattle.nm_reader.specs.declared.error.ReadError.TheVariants as read_error
use Rattle.nm_reader.specs.declared.fault.Fault.{Fault}
use Rattle.nm_writer.specs.Canonical.{canonical_of}
use Rattle.nm_session.specs.Answered.{Due}
use Rattle.nm_session.specs.Reply.{fault_line, reply_line}
use Rattle.nm_cli.specs.declared.report.Report.{Report}
use Rattle.nm_cli.specs.declared.report.Report.TheVariants.{Canonical, Counts}

-- the kind of a model, its identifier, and how many statements it has; of a difference model those of its
-- preconditions, its reverse and its forward differences
abbrev pub counts_line : Document → List ℕ
counts_line (document.Full full) =
    reply_line (codes "full " ++ uuid_text full.header.id ++ codes " " ++ decimal (length full.statements))
counts_line (document.Difference difference) =
    reply_line (codes "difference " ++ uuid_text difference.header.id ++ codes " " ++ decimal (length difference.change.pre)
    ++ codes " " ++ decimal (length difference.change.rev) ++ codes " " ++ decimal (length difference.change.fwd))

-- the place and the code of a fault
abbrev pub fault_report : Fault → List ℕ
fault_report fault = fault_line (codes "fault") fault

abbrev pub report_of : Report → Document → List ℕ
report_of Canonical model = canonical_of model
report_of Counts model = counts_line model

-- the report on the model that bytes state, or their fault. Want of memory is what no bytes are
abbrev pub reported : Report → Result Document ReadError → Due
reported report (Ok model) = record { replies = report_of report model; ending = Done }
reported report (Err (read_error.Fault fault)) = record { replies = fault_report fault; ending = Refused }
reported report (Err read_error.NoMemory) = record { replies = []; ending = NoMemory }
