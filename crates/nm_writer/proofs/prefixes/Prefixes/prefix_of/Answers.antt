use Rattle.std.proofs.Common.{◌∙◌, rules, ap, arith, length, get_or, subst, List, ℕ, ◌≡◌}
use Rattle.nm_writer.proofs.Namespaces.{length-prefixes_of, prefix_of-is}
use Rattle.nm_writer.specs.Namespaces.{prefixes_of, prefix_of}
use Rattle.nm_writer.proofs.prefixes.Prefixes.prefix_of.Goals as goal

pub index-requires : goal.index-requires
index-requires c =
    omega (arith, c.in-Ok.ensures.0, ap length c.self.invariant, length-prefixes_of c.self.inside.namespaces, c.self.inside.prefixes.ok.0)

pub returns-in-Ok : goal.returns-in-Ok
returns-in-Ok c =
    let prefix = c.as_slice.result.now in
    let here : prefix ≡ c.index.result.now = c.as_slice.ensures in
    let read : prefix ≡ get_or (prefixes_of c.self.inside.namespaces) c.in-Ok.place prefix =
    here ∙ rw (← c.self.invariant, here) c.index.ensures in
    subst (λ (namespaces : List (List ℕ)). prefix ≡ prefix_of namespaces c.args.ns.now) c.self.view_is
    (prefix_of-is c.self.inside.namespaces c.args.ns.now prefix c.in-Ok.place (search rules) c.in-Ok.ensures.0 c.in-Ok.ensures.1 read)
