use Rattle.std.proofs.Common.{◌+◌, ◌∙◌, refl}
use Rattle.std.proofs.lemmas.List.{take_rest}
use Rattle.std.proofs.lemmas.Result.{on_ok_weaker}
use Rattle.nm_ident.specs.QualifiedName.{QualifiedName}
use Rattle.nm_writer.proofs.Elements.{named_written, plain_written}
use Rattle.nm_writer.proofs.element.append_element.Goals as goal

pub returns-in_ok-append_properties-in-Some-2 : goal.returns-in_ok-append_properties-in-Some-2
returns-in_ok-append_properties-in-Some-2 c =
    let name : QualifiedName = record { ns = c.in-Some.class.ns.now; local = c.in-Some.class.local.now } in
    on_ok_weaker c.append_closing.result
    (named_written c.args.is_full c.args.prefixes.now c.args.subject.now c.args.group.now c.args.out.now.items c.append_start.new.out.items
    c.append_properties.new.out.items c.append_properties-in-Some.new.out.items c.in-Some.place name c.append_closing.new.out.items
    c.deref.result.now c.deref-in-Some.result.now _ _ c.in-Some.ensures (c.deref.ensures.value ∙ c.in_ok-tag-in-Some.ensures)
    (c.deref-in-Some.ensures.value ∙ c.in_ok-tag-in-Some.ensures) refl (take_rest c.args.group.now (c.in-Some.place + 1)) c.in_ok-append_start-in-Some.ensures c.in_ok-append_properties-in-Some.ensures
    c.in_ok-append_properties-in-Some-2.ensures)
    c.append_closing.ensures

pub returns-in_ok-append_properties-in-None : goal.returns-in_ok-append_properties-in-None
returns-in_ok-append_properties-in-None c =
    on_ok_weaker c.append_closing-in-None.result
    (plain_written c.args.is_full c.args.prefixes.now c.args.subject.now c.args.group.now c.args.out.now.items c.append_start-in-None.new.out.items
    c.append_properties-in-None.new.out.items c.append_closing-in-None.new.out.items c.in-None.ensures.0 c.in-None.ensures.1
    c.in_ok-append_start-in-None.ensures c.in_ok-append_properties-in-None.ensures)
    c.append_closing-in-None.ensures
