use Rattle.std.proofs.Common.{◌∙◌, ap, codes}
use Rattle.std.proofs.lemmas.Result.{IfOk-weaker}
use Rattle.nm_writer.specs.Canonical.{canonical_full}
use Rattle.nm_gen.specs.Stream as spec
use Rattle.nm_gen.proofs.stream.base_command.Goals as goal

pub returns : goal.returns
returns c =
    let document = c.deref.ensures.value ∙ c.in_ok-document.ensures ∙ ap canonical_full c.in_ok-base_model.ensures in
    IfOk-weaker c.with_document.result _ _ (λ text is. is ∙ ap (spec.with_document (codes "base")) document) c.with_document.ensures
