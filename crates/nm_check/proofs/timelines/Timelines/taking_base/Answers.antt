use Rattle.std.proofs.Common.{◌∙◌, ap, map, subst}
use Rattle.nm_check.specs.Touched.{unchanged}
use Rattle.nm_check.proofs.Told.{kept_base, rising_base, timelines-base}
use Rattle.nm_statement.specs.Set.{IsRising}
use Rattle.nm_check.proofs.timelines.Timelines.taking_base.Goals as goal

pub from_sorted-requires : goal.from_sorted-requires
from_sorted-requires g c =
    rising_base c.args.base c.in_ok-pairs.pairs.items (subst IsRising c.into_list.ensures.statements c.into_list.ensures.rising)
    (c.in_ok-pairs.ensures ∙ ap (map (λ statement. (statement, unchanged))) c.into_list.ensures.statements)

pub invariant_of-result : goal.invariant_of-result
invariant_of-result g c =
    let rising = subst IsRising c.into_list.ensures.statements c.into_list.ensures.rising in
    kept_base c.args.base _ rising
    (c.in_ok-from_sorted.ensures.pairs ∙ c.in_ok-pairs.ensures ∙ ap (map (λ statement. (statement, unchanged))) c.into_list.ensures.statements ∙ timelines-base c.args.base rising)

pub returns-clause-timelines : goal.returns-clause-timelines
returns-clause-timelines g c =
    let rising = subst IsRising c.into_list.ensures.statements c.into_list.ensures.rising in
    c.in_ok-from_sorted.ensures.pairs ∙ c.in_ok-pairs.ensures ∙ ap (map (λ statement. (statement, unchanged))) c.into_list.ensures.statements ∙ timelines-base c.args.base rising
