use Rattle.std.proofs.Common.{◌≡◌, ◌∙◌, ℕ, List, [], ◌∷◌, Option, None, Some, refl, sym, ap, length, true, false}
use Rattle.std.specs.Fmt.{option_append}
use Rattle.std.specs.Prelude.{is_some, is_none}
use Rattle.nm_text.specs.Meaning.{meaning_of}
use Rattle.nm_text.specs.Reference.{first_stray}
use Rattle.nm_text.specs.Split.{IsSplitBefore}
use Rattle.nm_text.specs.declared.meaning.Form.{Form}
use Rattle.nm_text.specs.declared.meaning.Form.TheVariants.{Run, Value}
use Rattle.nm_text.proofs.Meanings.{IsReadOn, all_is_read, nothing_is_meant, reference_is_read, stray_is_first}
use Rattle.nm_text.proofs.Strays.{IsReadTo, later, strays_behind_plain}
use Rattle.nm_text.proofs.sound.are_references_sound.Goals as goal

is_some-append : (out : List ℕ) (rest : Option (List ℕ)) → is_some (option_append (Some out) rest) ≡ is_some rest
is_some-append out None = refl
is_some-append out (Some rest) = refl

sound_end : (form : Form) (c : goal.In_default) → is_some (meaning_of form c.loop-name.rest.now) ≡ true
sound_end form c =
    sym (is_some-append [] (meaning_of form c.loop-name.rest.now))
    ∙ ap is_some (all_is_read form [] c.loop-name.rest.now c.split_before.result.0.now c.split_before.result.1.now _ c.split_before.ensures c.in_default.ensures.cases refl)

pub returns-in_default-clause-run : goal.returns-in_default-clause-run
returns-in_default-clause-run c = sym (sound_end Run c) ∙ c.loop-name.invariant.run

pub returns-in_default-clause-value : goal.returns-in_default-clause-value
returns-in_default-clause-value c = sym (sound_end Value c) ∙ c.loop-name.invariant.value

stray : (form : Form) (c : goal.In_default-reference_at) → is_some (meaning_of form c.loop-name.rest.now) ≡ false
stray form c =
    ap is_some
    (nothing_is_meant form [] [] c.loop-name.rest.now c.loop-name.rest.now c.split_before.result.0.now c.split_before.result.1.now
    c.in-Some.name.now c.in-Some.field-0-0.now c.split_before.ensures c.in-Some.ensures.cases.0 (sym c.in_default-reference_at.ensures) refl)

pub returns-in_default-reference_at-clause-run : goal.returns-in_default-reference_at-clause-run
returns-in_default-reference_at-clause-run c = sym (stray Run c) ∙ c.loop-name.invariant.run

pub returns-in_default-reference_at-clause-value : goal.returns-in_default-reference_at-clause-value
returns-in_default-reference_at-clause-value c = sym (stray Value c) ∙ c.loop-name.invariant.value

read_on : (form : Form) (c : goal.In-Some-reference_at)
    → (more : List ℕ) × IsReadOn form c.args.bytes.now c.loop-name.rest.now c.in-Some-reference_at.behind.now [] more (option_append (Some []) (meaning_of form c.loop-name.rest.now))
read_on form c = (
  _,
  reference_is_read form [] c.args.bytes.now c.loop-name.rest.now c.split_before.result.0.now c.split_before.result.1.now
      c.in-Some.name.now c.in-Some-reference_at.behind.now c.in-Some.field-0-0.now c.in-Some-reference_at.field-0-0 _
      c.loop-name.invariant.reads c.split_before.ensures c.in-Some.ensures.cases.0 (sym c.in-Some-reference_at.ensures) refl,
)

stays : (form : Form) (c : goal.In-Some-reference_at) → is_some (meaning_of form c.in-Some-reference_at.behind.now) ≡ is_some (meaning_of form c.loop-name.rest.now)
stays form c =
    let r = read_on form c in
    sym (is_some-append r.0 (meaning_of form c.in-Some-reference_at.behind.now)) ∙ ap is_some r.1.text ∙ is_some-append [] (meaning_of form c.loop-name.rest.now)

pub loop-name-smaller : goal.loop-name-smaller
loop-name-smaller c = (read_on Run c).1.shorter

pub loop-name-preserved : goal.loop-name-preserved
loop-name-preserved c = record { reads = (read_on Run c).1.reads; run = stays Run c ∙ c.loop-name.invariant.run; value = stays Value c ∙ c.loop-name.invariant.value }

no_stray_later : (count : ℕ) (place : Option ℕ) → is_none place ≡ true → is_none (later count place) ≡ true
no_stray_later count None e = refl
no_stray_later count (Some place) e = absurd cc

no_stray_left : (bytes rest plain : List ℕ) (reference : List ℕ) → IsReadTo bytes rest → IsSplitBefore 38 rest plain reference → length reference ≡ 0 → is_none (first_stray bytes) ≡ true
no_stray_left bytes rest plain [] so_far split none =
    let here : first_stray rest ≡ later (length plain) (first_stray []) = ap first_stray (sym split.joined) ∙ strays_behind_plain plain [] split.lacked in
    ap is_none so_far.strays ∙ no_stray_later (length so_far.read) (first_stray rest) (ap is_none here ∙ no_stray_later (length plain) None refl)
no_stray_left bytes rest plain (byte ∷ reference) so_far split none = cc

pub returns-in_default-clause-strays : goal.returns-in_default-clause-strays
returns-in_default-clause-strays c =
    sym (no_stray_left c.args.bytes.now c.loop-name.rest.now c.split_before.result.0.now c.split_before.result.1.now c.loop-name.invariant.reads c.split_before.ensures c.in_default.ensures.cases)

pub returns-in_default-reference_at-clause-strays : goal.returns-in_default-reference_at-clause-strays
returns-in_default-reference_at-clause-strays c =
    ap is_none
    (sym (stray_is_first c.args.bytes.now c.loop-name.rest.now c.split_before.result.0.now c.split_before.result.1.now c.in-Some.name.now c.in-Some.field-0-0.now
    c.loop-name.invariant.reads c.split_before.ensures c.in-Some.ensures.cases.0 (sym c.in_default-reference_at.ensures)))
