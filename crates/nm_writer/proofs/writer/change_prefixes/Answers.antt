use Rattle.std.proofs.Common.{◌≡◌, ◌∙◌, ℕ, List, [], ◌∷◌, ap, fold}
use Rattle.std.proofs.lemmas.Result.{IfOk-weaker}
use Rattle.nm_writer.specs.Canonical.{namespaces_in, namespaces_of}
use Rattle.nm_writer.specs.Namespaces.{with_namespace}
use Rattle.nm_writer.proofs.Documents.{gathered_three}
use Rattle.nm_writer.proofs.writer.change_prefixes.Goals as goal

pub returns : goal.returns
returns c =
    let change = c.args.change.now in
    let is =
    c.in_ok-add_namespaces-3.ensures
    ∙ ap (λ (first : List (List ℕ)). fold with_namespace first (namespaces_in change.rev))
    (c.in_ok-add_namespaces-2.ensures
    ∙ ap (λ (first : List (List ℕ)). fold with_namespace first (namespaces_in change.fwd))
    (c.in_ok-add_namespaces.ensures ∙ ap (λ (first : List (List ℕ)). fold with_namespace first (namespaces_in change.pre)) c.new-namespaces.ensures))
    ∙ gathered_three change.pre change.fwd change.rev in
    IfOk-weaker c.new.result (λ namespaces. namespaces ≡ c.add_namespaces-3.new.namespaces) (λ namespaces. namespaces ≡ namespaces_of (change.pre ∷ change.fwd ∷ change.rev ∷ [])) (λ namespaces e. e ∙ is)
    c.new.ensures
