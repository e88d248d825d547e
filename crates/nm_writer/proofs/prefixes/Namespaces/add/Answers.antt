use Rattle.std.proofs.Common.{subst}
use Rattle.std.specs.List.Sorted.{IsStrictlySortedBy}
use Rattle.nm_ident.specs.Order.{text_cmp}
use Rattle.nm_writer.proofs.Namespaces.{text_total}
use Rattle.nm_ident.proofs.Rising.{rising-insert_key}
use Rattle.nm_writer.proofs.prefixes.Namespaces.add.Goals as goal

pub invariant_of-self : goal.invariant_of-self
invariant_of-self c =
    let rising = subst (IsStrictlySortedBy text_cmp) c.self.view_is c.self.invariant in
    rw (c.in_ok-insert.ensures.items, c.in_ok-text.ensures, c.self.view_is, c.in-Err.ensures.2)
    (rising-insert_key text_total c.args.self.now c.args.ns.now rising)
