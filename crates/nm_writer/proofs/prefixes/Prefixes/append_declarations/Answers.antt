use Rattle.std.proofs.Common.{rules, ◌∙◌, ◌++◌, length, arith}
use Rattle.std.proofs.lemmas.List.{length_push}
use Rattle.std.proofs.lemmas.Slice.Zip.{zip_turn, zip_end}
use Rattle.nm_writer.proofs.Namespaces.{declarations_step, declarations_end, length-prefixes_of}
use Rattle.nm_writer.specs.Canonical.{declaration, declarations}
use Rattle.nm_writer.specs.Namespaces.{prefixes_of}
use Rattle.nm_writer.proofs.prefixes.Prefixes.append_declarations.Goals as goal

pub loop-ns-preserved : goal.loop-ns-preserved
loop-ns-preserved c =
    let turn = zip_turn c.args.self.now (prefixes_of c.args.self.now) c.loop-ns.yielded _ c.loop-ns.ns-iterator c.next.new.self c.next.result (search rules) (search rules) c.loop-ns.yielded_by (c.in-Some.ns, c.in-Some.prefix) c.in-Some.is c.next.ensures.steps in
    declarations_step c.args.self.now (length c.loop-ns.yielded) _ c.in-Some.ns.now c.in-Some.prefix.now c.loop-ns.out.items c.append_declaration.new.out.items
    (c.args.out.now.items ++ declarations c.args.self.now) (length_push c.loop-ns.yielded (c.in-Some.ns, c.in-Some.prefix)) turn.0 (turn.2 c.in-Some.ns.now) (turn.3 c.in-Some.prefix.now)
    (c.in_ok-append_declaration.ensures ∙ (λ i. c.loop-ns.out.items ++ declaration (c.as_slice-in-loop-ns.ensures i) (c.as_slice-in-loop-ns-2.ensures i))) c.loop-ns.invariant

pub returns : goal.returns
returns c =
    let namespaces = c.args.self.now in
    let turn = zip_end namespaces (prefixes_of namespaces) c.loop-ns.yielded _ c.loop-ns.ns-iterator c.next.new.self c.next.result (search rules) (search rules) c.loop-ns.yielded_by c.in-None.is c.next.ensures.steps in
    declarations_end namespaces (length c.loop-ns.yielded) c.loop-ns.out.items (c.args.out.now.items ++ declarations namespaces) (omega (arith, turn, length-prefixes_of namespaces)) c.loop-ns.invariant
