use Rattle.std.proofs.Common.{sym, subst, Result, arith, length-take}
use Rattle.nm_model.specs.declared.document.Document.{Document}
use Rattle.nm_terms.specs.Due.{IsDue}
use Rattle.nm_reader.specs.Read.{wants_memory}
use Rattle.nm_reader.specs.declared.error.ReadError.{ReadError}
use Rattle.nm_reader.proofs.Ends.{due_long, due_short, kept_by, stated_by}
use Rattle.nm_reader.proofs.reading.read.Goals as goal

pub slice_bounds-read_pieces-end : goal.slice_bounds-read_pieces-end
slice_bounds-read_pieces-end c = omega (arith, length-take 67108864 c.args.bytes.now, c.if-bytes-le-LONGEST_DOCUMENT.false)

pub returns-then-bytes-le-LONGEST_DOCUMENT-clause-due : goal.returns-then-bytes-le-LONGEST_DOCUMENT-clause-due
returns-then-bytes-le-LONGEST_DOCUMENT-clause-due c =
    subst (λ (due : Result Document ReadError). IsDue wants_memory c.read_pieces.result due) (sym (due_short c.args.bytes.now c.if-bytes-le-LONGEST_DOCUMENT.true)) c.read_pieces.ensures

pub returns-then-bytes-le-LONGEST_DOCUMENT-clause-stated : goal.returns-then-bytes-le-LONGEST_DOCUMENT-clause-stated
returns-then-bytes-le-LONGEST_DOCUMENT-clause-stated c =
    stated_by c.args.bytes.now c.read_pieces.result (returns-then-bytes-le-LONGEST_DOCUMENT-clause-due c)

pub returns-else-bytes-le-LONGEST_DOCUMENT-clause-due : goal.returns-else-bytes-le-LONGEST_DOCUMENT-clause-due
returns-else-bytes-le-LONGEST_DOCUMENT-clause-due c =
    subst (λ (due : Result Document ReadError). IsDue wants_memory c.read_pieces-else-bytes-le-LONGEST_DOCUMENT.result due) (sym (due_long c.args.bytes.now c.if-bytes-le-LONGEST_DOCUMENT.false)) c.read_pieces-else-bytes-le-LONGEST_DOCUMENT.ensures

pub returns-else-bytes-le-LONGEST_DOCUMENT-clause-stated : goal.returns-else-bytes-le-LONGEST_DOCUMENT-clause-stated
returns-else-bytes-le-LONGEST_DOCUMENT-clause-stated c =
    stated_by c.args.bytes.now c.read_pieces-else-bytes-le-LONGEST_DOCUMENT.result (returns-else-bytes-le-LONGEST_DOCUMENT-clause-due c)

pub returns-then-bytes-le-LONGEST_DOCUMENT-clause-kept : goal.returns-then-bytes-le-LONGEST_DOCUMENT-clause-kept
returns-then-bytes-le-LONGEST_DOCUMENT-clause-kept c =
    kept_by c.args.bytes.now c.read_pieces.result (returns-then-bytes-le-LONGEST_DOCUMENT-clause-due c)

pub returns-else-bytes-le-LONGEST_DOCUMENT-clause-kept : goal.returns-else-bytes-le-LONGEST_DOCUMENT-clause-kept
returns-else-bytes-le-LONGEST_DOCUMENT-clause-kept c =
    kept_by c.args.bytes.now c.read_pieces-else-bytes-le-LONGEST_DOCUMENT.result (returns-else-bytes-le-LONGEST_DOCUMENT-clause-due c)
