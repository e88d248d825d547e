use Rattle.std.proofs.Common.{◌∙◌, ◌++◌, ap}
use Rattle.std.proofs.lemmas.Result.{IfOk-weaker}
use Rattle.nm_writer.specs.Canonical.{canonical_difference}
use Rattle.nm_gen.specs.Stream as spec
use Rattle.nm_gen.proofs.stream.filing.Goals as goal

pub returns : goal.returns
returns c =
    let document = c.deref-2.ensures.value ∙ c.in_ok-document.ensures ∙ ap canonical_difference c.in_ok-project_model.ensures in
    let words = c.deref.ensures.value ∙ c.in_ok-extend_from_slice.ensures.items ∙ ap (λ word. word ++ c.args.day.now) (c.in_ok-words.ensures.items_if_clones_equal (λ x y is. is)) in
    IfOk-weaker c.with_document.result _ _ (λ text is. is ∙ (λ i. spec.with_document (words i) (document i))) c.with_document.ensures
