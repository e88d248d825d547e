use Rattle.std.proofs.Common.{◌∙◌, ap, sym, subst}
use Rattle.nm_statement.specs.Set.{IsRising, has}
use Rattle.nm_statement.proofs.Sets.{searched_by_cmp}
use Rattle.nm_statement.proofs.set.Set.contains.Goals as goal

pub returns : goal.returns
returns c =
    c.is_ok.ensures.value
    ∙ searched_by_cmp c.deref.result.now c.args.statement.now c.binary_search.result (subst IsRising (sym c.deref.ensures.value) c.self.invariant) c.binary_search.ensures.bound c.binary_search.ensures.position
    ∙ ap (λ xs. has xs c.args.statement.now) (c.deref.ensures.value ∙ c.self.view_is)
