use Rattle.std.proofs.Common.{◌∙◌, sym}
use Rattle.nm_piece.proofs.Fronts.{all_begin, open_is_last, reference_begins, stray_begins_none}
use Rattle.nm_piece.proofs.Splits.{none_is, some_is}
use Rattle.nm_piece.proofs.plain.begins_references.Goals as goal

pub returns-in_default : goal.returns-in_default
returns-in_default c =
    sym (c.loop-name.invariant ∙ all_begin c.loop-name.rest.now c.split_before.result.0.now c.split_before.result.1.now c.split_before.ensures c.in_default.ensures.cases)

pub returns-then-is_empty : goal.returns-then-is_empty
returns-then-is_empty c =
    c.begins_reference.ensures
    ∙ sym (c.loop-name.invariant
    ∙ open_is_last c.loop-name.rest.now c.split_before.result.0.now c.split_before.result.1.now c.in-Some.name.now c.split_before-in-loop-name.result.0.now c.split_before-in-loop-name.result.1.now c.in-Some.field-0-0.now
    c.split_before.ensures c.in-Some.ensures.cases.0 c.split_before-in-loop-name.ensures (none_is c.split_before-in-loop-name.result.1.now (sym c.is_empty.ensures ∙ c.if-is_empty.true)))

pub returns-in_default-reference_at : goal.returns-in_default-reference_at
returns-in_default-reference_at c =
    sym (c.loop-name.invariant
    ∙ stray_begins_none c.loop-name.rest.now c.split_before.result.0.now c.split_before.result.1.now c.in-Some.name.now c.split_before-in-loop-name.result.0.now c.split_before-in-loop-name.result.1.now c.in-Some.field-0-0.now
    c.split_before.ensures c.in-Some.ensures.cases.0 c.split_before-in-loop-name.ensures (some_is c.split_before-in-loop-name.result.1.now (sym c.is_empty.ensures ∙ c.if-is_empty.false)) (sym c.in_default-reference_at.ensures))

pub loop-name-smaller : goal.loop-name-smaller
loop-name-smaller c =
    (reference_begins c.loop-name.rest.now c.split_before.result.0.now c.split_before.result.1.now c.in-Some.name.now c.in-Some-reference_at.behind.now c.in-Some.field-0-0.now c.in-Some-reference_at.field-0-0
    c.split_before.ensures c.in-Some.ensures.cases.0 (sym c.in-Some-reference_at.ensures)).shorter

pub loop-name-preserved : goal.loop-name-preserved
loop-name-preserved c =
    c.loop-name.invariant
    ∙ (reference_begins c.loop-name.rest.now c.split_before.result.0.now c.split_before.result.1.now c.in-Some.name.now c.in-Some-reference_at.behind.now c.in-Some.field-0-0.now c.in-Some-reference_at.field-0-0
    c.split_before.ensures c.in-Some.ensures.cases.0 (sym c.in-Some-reference_at.ensures)).same
