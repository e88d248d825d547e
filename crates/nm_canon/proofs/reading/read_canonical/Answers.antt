use Rattle.std.proofs.Common.{sym, subst, ◌∙◌, Result}
use Rattle.std.proofs.lemmas.Result.{err_from_is_err_and}
use Rattle.std.specs.Cmp.Lexicographic.{same_text}
use Rattle.nm_model.specs.declared.document.Document.{Document}
use Rattle.nm_canon.specs.declared.error.CanonicalError.{CanonicalError}
use Rattle.nm_canon.specs.Reading.{IsReadBack}
use Rattle.nm_canon.proofs.ReadBack.{spelt_otherwise, unread}
use Rattle.nm_canon.proofs.reading.read_canonical.Goals as goal

pub returns-in_err-model-clause-back : goal.returns-in_err-model-clause-back
returns-in_err-model-clause-back c =
    let error = err_from_is_err_and c.from_residual.result c.from_residual.ensures.1 in
    subst (λ (result : Result Document CanonicalError). IsReadBack result c.args.bytes.now) (sym error.1) (unread c.args.bytes.now c.in_err-model.field-0.0 error.0 error.2 c.in_err-model.ensures.due)

pub returns-then-eq-clause-back : goal.returns-then-eq-clause-back
returns-then-eq-clause-back c = record {
  kept = c.in_ok-model.ensures.kept;
  short = c.in_ok-model.ensures.stated.short;
  spelt = sym c.in_ok-write_document.ensures ∙ sym c.as_slice.ensures.value ∙ same_text c.as_slice.result.now c.args.bytes.now c.if-eq.ensures;
}

pub returns-else-eq-clause-back : goal.returns-else-eq-clause-back
returns-else-eq-clause-back c =
    spelt_otherwise c.args.bytes.now c.as_slice.result.now c.in_ok-model.model c.in_ok-model.ensures.due (c.as_slice.ensures.value ∙ c.in_ok-write_document.ensures) (sym c.if-eq.ensures)
