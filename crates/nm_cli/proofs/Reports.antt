-- Lemmas on reports: what was read of an input tells of all of it, and how a report ends.
use Rattle.std.proofs.Common.{◌≡◌, ℕ, ◌<◌, List, ◌++◌, Option, None, Some, IfSome, Result, Ok, Err, cond, length, take, true, false, refl, sym, ap, ◌∙◌, subst, arith, inl, inr, ◌⊎◌, append-nil}
use Rattle.std.proofs.lemmas.Bool.{lt-leb}
use Rattle.std.proofs.lemmas.List.{length-append, take-append-le}
use Rattle.std.specs.Io.KnownBytes.{Consumes, IsAtEnd}
use Rattle.nm_base.specs.declared.outcome.Status.{Status}
use Rattle.nm_base.specs.declared.outcome.Status.TheVariants.{Done, Refused, Usage, ReadFault, WriteFault, NoMemory, BadSession, Cut, TooMuch, DoorFault}
use Rattle.nm_model.specs.Limits.{longest_document}
use Rattle.nm_reader.specs.Context.{after_all, beginning}
use Rattle.nm_reader.specs.Cutting.{Cutting, pieces_cut}
use Rattle.nm_reader.specs.Fault.{fault_of}
use Rattle.nm_reader.specs.Input.{cut, cutting_of}
use Rattle.nm_reader.specs.Model.{document_of}
use Rattle.nm_reader.specs.Read.{read_due, read_of}
use Rattle.nm_model.specs.declared.document.Document.{Document}
use Rattle.nm_reader.specs.declared.error.ReadError.{ReadError}
use Rattle.nm_reader.specs.declared.error.ReadError.TheVariants as read_error
use Rattle.nm_session.specs.Answered.{Due, Answers, AppendsPrefix, EndsAs, EndsUnlessFaults, NoneFailed, is_ending}
use Rattle.nm_cli.specs.Report.{reported}
use Rattle.nm_cli.specs.Reported.{ReportHasCause, WriteFails}
use Rattle.nm_cli.specs.Failures.{status_of}
use Rattle.nm_cli.specs.declared.report.Report.{Report}
use Rattle.nm_cli.specs.declared.failure.Failure.{Failure}
use Rattle.nm_cli.specs.declared.failure.Failure.TheVariants as failures
use Rattle.nm_session.proofs.Answered.{answers_part, answers_whole}

-- ---- the whole input

-- more bytes than a document may have are cut as a longer input that begins with them
cut_longer : (bytes rest : List ℕ) → longest_document < length bytes → cutting_of (bytes ++ rest) ≡ cutting_of bytes
cut_longer bytes rest long =
    ap (λ b. cond b (cut true (bytes ++ rest)) (cut false (take longest_document (bytes ++ rest))))
    (lt-leb (length (bytes ++ rest)) longest_document (omega (arith, length-append bytes rest)))
    ∙ ap (cut false) (take-append-le longest_document bytes rest (omega arith))
    ∙ sym (ap (λ b. cond b (cut true bytes) (cut false (take longest_document bytes))) (lt-leb (length bytes) longest_document long))

due_longer : (bytes rest : List ℕ) → longest_document < length bytes → read_due (bytes ++ rest) ≡ read_due bytes
unfolding read_due
due_longer bytes rest long =
    ap (λ (cutting : Cutting). read_of (fault_of cutting) (document_of (after_all beginning (pieces_cut cutting)).told)) (cut_longer bytes rest long)

-- what was read through is what the whole input is
body_read : (input : List ℕ) (after : Option (List ℕ)) (bytes : List ℕ) → Consumes (Some input) after bytes → IsAtEnd after ⊎ (longest_document < length bytes)
    → read_due bytes ≡ read_due input
body_read input None bytes taken through = absurd taken
body_read input (Some rest) bytes taken (inl end) = sym (ap read_due (taken ∙ ap (λ l. bytes ++ l) end ∙ append-nil bytes))
body_read input (Some rest) bytes taken (inr long) = sym (ap read_due taken ∙ due_longer bytes rest long)

-- ---- answers

-- the report was written whole
pub whole_report : (left after : Option (List ℕ)) (bytes seen : List ℕ) (report : Report) (status : Status) (written now : Option (List ℕ)) → seen ≡ bytes
    → Consumes left after bytes → IsAtEnd after ⊎ (longest_document < length bytes) → EndsAs (reported report (read_due seen)) status written now
    → IfSome left (λ input. Answers (reported report (read_due input)) status written now)
whole_report None after bytes seen report status written now same taken through ends = tt
whole_report (Some input) after bytes seen report status written now same taken through ends =
    subst (λ (body : Result Document ReadError). Answers (reported report body) status written now) (ap read_due same ∙ body_read input after bytes taken through)
    (answers_whole (reported report (read_due seen)) status written now ends)

-- what fails a writer does not tell of the input
tells_nothing : (failure : Failure) (before after : ℕ) → WriteFails failure before after → is_ending (status_of failure) ≡ false
tells_nothing failures.WriteFault before after why = refl
tells_nothing failures.NoMemory before after why = refl
tells_nothing failures.ReadFault before after why = absurd why

-- some of the first of the report was written
pub part_report : (left after : Option (List ℕ)) (bytes seen : List ℕ) (report : Report) (failure : Failure) (status : Status) (written now : Option (List ℕ)) (write_before write_after : ℕ)
    → seen ≡ bytes → status ≡ status_of failure → Consumes left after bytes → IsAtEnd after ⊎ (longest_document < length bytes)
    → AppendsPrefix written now (reported report (read_due seen)).replies → WriteFails failure write_before write_after
    → IfSome left (λ input. Answers (reported report (read_due input)) status written now)
part_report None after bytes seen report failure status written now b a same as_stopped taken through front why = tt
part_report (Some input) after bytes seen report failure status written now b a same as_stopped taken through front why =
    subst (λ (body : Result Document ReadError). Answers (reported report body) status written now) (ap read_due same ∙ body_read input after bytes taken through)
    (answers_part (reported report (read_due seen)) status written now (ap is_ending as_stopped ∙ tells_nothing failure b a why) front)

-- ---- completeness

-- what a report is due is an ending that it can have where no call failed
pub ending_cause : (report : Report) (body : Result Document ReadError) (status : Status) (read_before read_after write_before write_after : ℕ) → NoneFailed read_before read_after write_before write_after
    → status ≡ (reported report body).ending → ReportHasCause status read_before read_after write_before write_after
ending_cause report (Ok model) status a b c d none e = subst (λ (s : Status). ReportHasCause s a b c d) (sym e) none
ending_cause report (Err (read_error.Fault fault)) status a b c d none e = subst (λ (s : Status). ReportHasCause s a b c d) (sym e) none
ending_cause report (Err read_error.NoMemory) status a b c d none e = subst (λ (s : Status). ReportHasCause s a b c d) (sym e) none

-- without a fault that is told, what is due was written, or memory was wanting
complete_by : (due : Due) (status : Status) (written now : Option (List ℕ)) (read_before read_after write_before write_after : ℕ)
    → ReportHasCause status read_before read_after write_before write_after → Answers due status written now
    → EndsUnlessFaults due status written now read_before read_after write_before write_after
complete_by due ReadFault written now a b c d h answers no_read no_write = absurd (no_read h.0)
complete_by due WriteFault written now a b c d h answers no_read no_write = absurd (no_write h.1)
complete_by due Done written now a b c d h answers no_read no_write = inl (answers.whole refl)
complete_by due Refused written now a b c d h answers no_read no_write = inl (answers.whole refl)
complete_by due NoMemory written now a b c d h answers no_read no_write = inr refl
complete_by due Usage written now a b c d h answers no_read no_write = absurd h
complete_by due BadSession written now a b c d h answers no_read no_write = absurd h
complete_by due Cut written now a b c d h answers no_read no_write = absurd h
complete_by due TooMuch written now a b c d h answers no_read no_write = absurd h
complete_by due DoorFault written now a b c d h answers no_read no_write = absurd h

-- the same of the report on an input
pub is_complete : (left : Option (List ℕ)) (report : Report) (seen : List ℕ) (status : Status) (written now : Option (List ℕ)) (read_before read_after write_before write_after : ℕ)
    → NoneFailed read_before read_after write_before write_after → EndsAs (reported report (read_due seen)) status written now → IfSome left (λ input. Answers (reported report (read_due input)) status written now)
    → IfSome left (λ input. EndsUnlessFaults (reported report (read_due input)) status written now read_before read_after write_before write_after)
is_complete None report seen status written now a b c d none ends answers = tt
is_complete (Some input) report seen status written now a b c d none ends answers =
    complete_by (reported report (read_due input)) status written now a b c d (ending_cause report (read_due seen) status a b c d none ends.ending) answers
