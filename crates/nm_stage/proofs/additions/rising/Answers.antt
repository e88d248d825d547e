use Rattle.std.proofs.Common.{◌∙◌, ℕ, Bool, ap, eqb}
use Rattle.std.proofs.lemmas.Cmp.{nat_cmp_total}
use Rattle.std.proofs.lemmas.List.Filters.{dedup_is}
use Rattle.std.specs.Cmp.{unsigned_ties}
use Rattle.std.specs.List.{dedup}
use Rattle.nm_ident.proofs.Orders.{nat_cmp-equal}
use Rattle.nm_ident.proofs.Rising.{rising_by-sorted}
use Rattle.nm_ident.specs.Rising.{rising_by}
use Rattle.std.specs.Ordering.{nat_cmp}
use Rattle.nm_stage.proofs.additions.rising.Goals as goal

pub returns : goal.returns
returns c =
    dedup_is eqb _ _ c.dedup.ensures.filtered
    ∙ ap (λ (same : ℕ → ℕ → Bool). dedup same c.sort_unstable.new.self.items) (λ i x y. unsigned_ties x y i)
    ∙ rising_by-sorted nat_cmp_total nat_cmp-equal c.in_ok-made.made.items _ c.sort_unstable.ensures.permutation c.sort_unstable.ensures.sorted
    ∙ ap (rising_by nat_cmp) (c.in_ok-made.ensures.items_if_clones_equal (λ x y is. is))
