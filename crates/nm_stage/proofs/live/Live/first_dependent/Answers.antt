use Rattle.std.proofs.Common.{◌&&◌, ◌==◌, ℕ, List, Option, None, Some, not, sym, subst}
use Rattle.std.specs.List.Sorted.{IsStrictlySortedBy}
use Rattle.std.specs.Option.{option_map}
use Rattle.std.specs.Ordering.{is_lt}
use Rattle.nm_day.specs.Key.{key_cmp}
use Rattle.nm_day.specs.declared.key.Key.{Key}
use Rattle.nm_stage.proofs.Needs.{first_is_none, first_is_other, first_is_there}
use Rattle.nm_stage.specs.Listed.{dependent_cmp}
use Rattle.nm_stage.specs.Project.{PlainProject, has_id, key_of}
use Rattle.nm_stage.specs.Unmet.{IsFirst}
use Rattle.nm_stage.specs.declared.listed.Dependent.{Dependent}
use Rattle.nm_stage.proofs.live.Live.first_dependent.Goals as goal

-- what is claimed, of the lists as they are held
abbrev FirstOf : Dependent → List PlainProject → Option (Key × ℕ) → Type 0
FirstOf from live found = IsFirst live (λ q j. has_id q.dependencies j) (λ q j. has_id q.dependencies j && ((j == from.dependency) && not (is_lt (key_cmp (key_of q) from.key)))) found

pub returns-in_err-first : goal.returns-in_err-first
returns-in_err-first c =
    let from = c.args.from.now in
    let needs = c.self.inside.dependents in
    let rising = subst (IsStrictlySortedBy dependent_cmp) c.as_blocks-rising.ensures.items c.as_blocks-rising.ensures.rising.rising in
    subst (λ (found : Option Key). FirstOf from c.args.self.now (option_map (λ (key : Key). (key, from.dependency)) found)) (sym c.from_residual.ensures)
    (subst (λ live. FirstOf from live None) c.self.view_is (first_is_none needs c.self.inside.projects c.self.invariant.1.needed rising c.self.invariant.0 from (sym c.in_err-first.ensures)))

pub returns-then-first-from : goal.returns-then-first-from
returns-then-first-from c =
    let from = c.args.from.now in
    let needs = c.self.inside.dependents in
    let rising = subst (IsStrictlySortedBy dependent_cmp) c.as_blocks-rising.ensures.items c.as_blocks-rising.ensures.rising.rising in
    subst (λ live. FirstOf from live (Some (c.in_ok-first.first.now.key, from.dependency))) c.self.view_is
    (first_is_there needs c.self.inside.projects c.self.invariant.1.needed rising c.self.invariant.0 from c.in_ok-first.first.now (sym c.in_ok-first.ensures) c.if-first-from.true)

pub returns-else-first-from : goal.returns-else-first-from
returns-else-first-from c =
    let from = c.args.from.now in
    let needs = c.self.inside.dependents in
    let rising = subst (IsStrictlySortedBy dependent_cmp) c.as_blocks-rising.ensures.items c.as_blocks-rising.ensures.rising.rising in
    subst (λ live. FirstOf from live None) c.self.view_is
    (first_is_other needs c.self.inside.projects c.self.invariant.1.needed rising c.self.invariant.0 from c.in_ok-first.first.now (sym c.in_ok-first.ensures) c.if-first-from.false)
