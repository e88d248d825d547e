use Rattle.std.proofs.Common.{Some, ap, sym}
use Rattle.std.specs.Option.{option_map}
use Rattle.std.specs.Fmt.{option_append}
use Rattle.nm_text.specs.Meaning.{meaning_of}
use Rattle.nm_text.specs.declared.error.RefError.TheVariants.{At}
use Rattle.nm_text.proofs.Meanings.{IsReadOn, all_is_read, nothing_is_meant, reference_is_read, stray_is_first}
use Rattle.nm_text.proofs.meaning.append_as.Goals as goal

pub returns-in_default-clause-text : goal.returns-in_default-clause-text
returns-in_default-clause-text c =
    rw c.in_ok-append_plain.ensures
    (all_is_read c.args.form c.loop-name.out.items c.loop-name.rest.now c.split_before.result.0.now c.split_before.result.1.now _
    c.split_before.ensures c.in_default.ensures.cases c.loop-name.invariant.text)

pub returns-in_default-reference_at-clause-stray : goal.returns-in_default-reference_at-clause-stray
returns-in_default-reference_at-clause-stray c =
    ap (option_map At)
    (stray_is_first c.args.bytes.now c.loop-name.rest.now c.split_before.result.0.now c.split_before.result.1.now c.in-Some.name.now c.in-Some.field-0-0.now
    c.loop-name.invariant.reads c.split_before.ensures c.in-Some.ensures.cases.0 (sym c.in_default-reference_at.ensures))

pub returns-in_default-reference_at-clause-nothing : goal.returns-in_default-reference_at-clause-nothing
returns-in_default-reference_at-clause-nothing c =
    nothing_is_meant c.args.form c.loop-name.out.items c.args.out.now.items c.args.bytes.now c.loop-name.rest.now c.split_before.result.0.now c.split_before.result.1.now
    c.in-Some.name.now c.in-Some.field-0-0.now c.split_before.ensures c.in-Some.ensures.cases.0 (sym c.in_default-reference_at.ensures) c.loop-name.invariant.text

read_on : (c : goal.In_ok-append_character)
    → IsReadOn c.args.form c.args.bytes.now c.loop-name.rest.now c.in-Some-reference_at.behind.now c.loop-name.out.items c.append_character.new.out.items
    (option_append (Some c.args.out.now.items) (meaning_of c.args.form c.args.bytes.now))
read_on c =
    rw (c.in_ok-append_character.ensures, c.in_ok-append_plain.ensures)
    (reference_is_read c.args.form c.loop-name.out.items c.args.bytes.now c.loop-name.rest.now c.split_before.result.0.now c.split_before.result.1.now
    c.in-Some.name.now c.in-Some-reference_at.behind.now c.in-Some.field-0-0.now c.in-Some-reference_at.character _
    c.loop-name.invariant.reads c.split_before.ensures c.in-Some.ensures.cases.0 (sym c.in-Some-reference_at.ensures) c.loop-name.invariant.text)

pub loop-name-smaller : goal.loop-name-smaller
loop-name-smaller c = (read_on c).shorter

pub loop-name-preserved : goal.loop-name-preserved
loop-name-preserved c = record { text = (read_on c).text; reads = (read_on c).reads }
