-- What accepted commands have led to fits.
use Rattle.std.proofs.Common.{◌≡◌, ◌∙◌, ℕ, List, [], ◌∷◌, ◌++◌, Option, None, Some, map, refl, sym, ap}
use Rattle.std.specs.Option.{option_map, option_or}
use Rattle.nm_check.specs.Breaks.{breaks_at, first_of, statement_breaks}
use Rattle.nm_check.specs.declared.breaks.Break.{Break}
use Rattle.nm_model.specs.declared.document.Full.{Full}
use Rattle.nm_stage.specs.Dependencies.{least_of, missing_from, missing_or, unmet}
use Rattle.nm_stage.specs.Project.{PlainProject, step_of}
use Rattle.nm_stage.specs.Steps.{in_order}
use Rattle.nm_statement.specs.declared.statement.Statement.{Statement}
use Rattle.nm_version.proofs.Breaks.{cause_or, first_break_at, first_cause}
use Rattle.nm_version.proofs.Lesser.{causes_are}
use Rattle.nm_version.proofs.Reached.{AllAccepted, after_accepted, none_refused}
use Rattle.nm_version.specs.After.{accepted, after_all}
use Rattle.nm_version.specs.Changed.{live_after}
use Rattle.nm_version.specs.Kept.{Kept, opened}
use Rattle.nm_version.specs.Lesser.{Fits, WhatIsReachedFits, cause_of}
use Rattle.nm_version.specs.Refusal.{early_refusal, refusal_of}
use Rattle.nm_check.specs.Replay.{set_after}
use Rattle.nm_version.specs.Replay.{breaks, causes, first_break, known_before, refusal_at}
use Rattle.nm_version.specs.declared.command.Command.{Command}
use Rattle.nm_version.specs.declared.refusal.Cause.{Cause}
use Rattle.nm_version.specs.declared.refusal.Refusal.{Refusal}

-- ---- nothing breaks where no break is the first

module _ {X : Type 0} where
  first_none : (first other : Option X) → option_or first other ≡ None → first ≡ None
  first_none None other e = refl
  first_none (Some x) other e = absurd (let wrong = e in cc)

  other_none : (first other : Option X) → option_or first other ≡ None → other ≡ None
  other_none None other e = e
  other_none (Some x) other e = absurd (let wrong = e in cc)

unmapped : {X Y : Type 0} (f : X → Y) (found : Option X) → option_map f found ≡ None → found ≡ None
unmapped f None e = refl
unmapped f (Some x) e = absurd (let wrong = e in cc)

no_dependency : (least : Option ℕ) (other : Option Cause) → cause_or least other ≡ None → least ≡ None
no_dependency None other e = refl
no_dependency (Some id) other e = absurd (let wrong = e in cc)

no_break : (least : Option ℕ) (bs : List Break) → cause_or least (first_of (map cause_of bs)) ≡ None → bs ≡ []
no_break None [] e = refl
no_break None (b ∷ bs) e = absurd (let wrong = e in cc)
no_break (Some id) bs e = absurd (let wrong = e in cc)

nothing_breaks : (ps : List PlainProject) (known : List ℕ) (set : List Statement) → first_of (breaks known set ps) ≡ None
    → (missing_from known ps ≡ None) × (statement_breaks set (map step_of ps) ≡ [])
nothing_breaks [] known set e = (refl, refl)
nothing_breaks (p ∷ ps) known set e =
    let later = nothing_breaks ps (known ++ p.lineage) (set_after set p.change) (other_none own others whole) in (
      ap (λ l. missing_or p l (missing_from (known ++ p.lineage) ps)) (no_dependency least (first_of (map cause_of bs)) here) ∙ later.0,
      (λ i. no_break least bs here i ++ later.1 i),
    )
  where
    least : Option ℕ
    least = least_of (unmet known p.dependencies)

    bs : List Break
    bs = breaks_at set (step_of p)

    own : Option Refusal
    own = option_map (refusal_at p) (first_of (causes known set p))

    others : Option Refusal
    others = first_of (breaks (known ++ p.lineage) (set_after set p.change) ps)

    whole : option_or own others ≡ None
    whole = sym (first_break_at known set p ps) ∙ e

    here : cause_or least (first_of (map cause_of bs)) ≡ None
    here =
        ap (λ cs. cause_or least (first_of cs)) (sym (causes_are set (step_of p)))
        ∙ sym (first_cause known set p)
        ∙ unmapped (refusal_at p) (first_of (causes known set p)) (first_none own others whole)

pub fits-unbroken : (base : Full) (live : List PlainProject) → first_break base live ≡ None → Fits base live
unfolding first_break
fits-unbroken base live e =
    let both = nothing_breaks (in_order live) (known_before base.header) base.statements e in
    record { met = both.0; unbroken = both.1 }

-- ---- and none is the first after accepted commands

nothing_filed : (base : Full) → first_break base [] ≡ None
unfolding first_break
nothing_filed base = refl

after_one : (kept : Kept) (command : Command) → refusal_of kept command ≡ None → first_break kept.base (live_after kept command) ≡ None
unfolding refusal_of
after_one kept command e = other_none (early_refusal kept command) (first_break kept.base (live_after kept command)) e

unbroken_after_all : (kept : Kept) (commands : List Command) → first_break kept.base kept.live ≡ None → AllAccepted kept commands
    → first_break (after_all kept commands).base (after_all kept commands).live ≡ None
unbroken_after_all kept [] e all = e
unbroken_after_all kept (command ∷ commands) e all =
    ap (λ (k : Kept). first_break (after_all k commands).base (after_all k commands).live) (after_accepted kept command all.0)
    ∙ unbroken_after_all (accepted kept command) commands (after_one kept command all.0) all.1

pub what_is_reached_fits : WhatIsReachedFits
what_is_reached_fits kept r =
    fits-unbroken kept.base kept.live
    (sym (ap (λ (k : Kept). first_break k.base k.live) r.reached)
    ∙ unbroken_after_all (opened kept.base kept.bytes) r.commands (nothing_filed kept.base) (none_refused kept r))
