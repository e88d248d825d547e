use Rattle.std.proofs.Common.{◌∙◌, subst, sym, ap, rules}
use Rattle.std.proofs.lemmas.List.Sorted.{answers_always}
use Rattle.std.specs.List.Sorted.{IsStrictlySortedBy}
use Rattle.nm_stage.specs.Live.{filing_cmp}
use Rattle.nm_stage.specs.Project.{key_of}
use Rattle.nm_stage.specs.Steps as spec
use Rattle.nm_stage.proofs.Orders.{ordered_is}
use Rattle.nm_stage.proofs.order.in_order.Goals as goal

pub returns : goal.returns
returns c =
    ordered_is c.in_ok-projects.projects.items _ (subst (IsStrictlySortedBy filing_cmp) (sym c.in_ok-projects.ensures) c.requires) c.sort_unstable_by_key.ensures.permutation
    (c.sort_unstable_by_key.ensures.sorted (λ r. key_of r.now) (answers_always _ _ _ (λ f a r q k. search rules)))
    ∙ ap spec.in_order c.in_ok-projects.ensures
