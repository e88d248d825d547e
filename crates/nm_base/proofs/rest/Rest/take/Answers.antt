use Rattle.std.proofs.Common.{◌≤◌, ◌-◌, length, sym, ◌∙◌, arith, ap}
use Rattle.nm_base.proofs.Pieces.{front_and_rest}
use Rattle.nm_base.proofs.rest.Rest.take.Goals as goal

pub returns-clause-bytes : goal.returns-clause-bytes
returns-clause-bytes c =
    let bytes = c.self.inside.bytes.items in
    let at = c.self.inside.at in
    let read = c.deref.ensures.value in
    let fits : c.min-count.result ≤ length bytes - at = omega (arith, ap length read) in
    sym c.self.view_is ∙ front_and_rest bytes _ _ _ at _ c.self.invariant fits read c.copy_from_slice.ensures.after
