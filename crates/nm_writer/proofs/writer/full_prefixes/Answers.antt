use Rattle.std.proofs.Common.{◌≡◌, ◌∙◌, ℕ, List, [], ◌∷◌, ap, fold}
use Rattle.std.proofs.lemmas.Result.{IfOk-weaker}
use Rattle.nm_writer.specs.Canonical.{namespaces_in, namespaces_of}
use Rattle.nm_writer.specs.Namespaces.{with_namespace}
use Rattle.nm_writer.proofs.Documents.{gathered_one}
use Rattle.nm_writer.proofs.writer.full_prefixes.Goals as goal

pub returns : goal.returns
returns c =
    let statements = c.args.statements.now in
    let is =
    c.in_ok-add_namespaces.ensures ∙ ap (λ (first : List (List ℕ)). fold with_namespace first (namespaces_in statements)) c.new-namespaces.ensures
    ∙ gathered_one statements in
    IfOk-weaker c.new.result (λ namespaces. namespaces ≡ c.add_namespaces.new.namespaces) (λ namespaces. namespaces ≡ namespaces_of (statements ∷ [])) (λ namespaces e. e ∙ is) c.new.ensures
