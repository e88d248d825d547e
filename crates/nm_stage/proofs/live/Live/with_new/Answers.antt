use Rattle.std.proofs.Common.{◌≡◌, ◌∙◌, List, nat_cmp, sym, subst, ap}
use Rattle.nm_blocks.specs.Items.{IsRising, with_all, with_item}
use Rattle.nm_stage.proofs.Beside.{listed_by, listed_with, rising_dependents, rising_holders}
use Rattle.nm_stage.proofs.Filings.{filing_of, with_is}
use Rattle.nm_stage.proofs.Lives.{with-live}
use Rattle.nm_stage.specs.Listed.{dependent_cmp}
use Rattle.nm_stage.specs.Live.{CanJoin, IsLive, filed_as, with_project}
use Rattle.nm_stage.specs.Project.{PlainProject, key_of}
use Rattle.nm_stage.specs.declared.listed.Dependent.{Dependent}
use Rattle.nm_stage.specs.declared.listed.Holder.{Holder}
use Rattle.nm_stage.proofs.live.Live.with_new.Goals as goal

pub with_all-requires : goal.with_all-requires
with_all-requires c = subst (IsRising (λ (h : Holder). h.id) nat_cmp) (sym c.in_ok-holders_of.ensures) (rising_holders c.args.project.filing c.args.project.lineage)

pub with_all-requires-2 : goal.with_all-requires-2
with_all-requires-2 c = subst (IsRising (λ (d : Dependent). d) dependent_cmp) (sym c.in_ok-dependents_of.ensures) (rising_dependents (key_of c.args.project) c.args.project.dependencies)

made : (c : goal.In_ok-projects) → c.in_ok-projects.projects ≡ with_project c.args.project c.self.inside.projects
made c =
    c.in_ok-projects.ensures
    ∙ ap (λ (p : PlainProject). with_item filing_of nat_cmp p c.self.inside.projects) c.in_ok-of_project.ensures
    ∙ with_is c.args.project c.self.inside.projects c.self.invariant.0.rising

pub invariant_of-result : goal.invariant_of-result
invariant_of-result c =
    let live = c.self.inside.projects in
    let joins : CanJoin c.args.project live = subst (CanJoin c.args.project) (sym c.self.view_is) c.requires.joins in (
      subst IsLive (sym (made c)) (with-live c.args.project live c.self.invariant.0 joins),
      listed_by _ _ _ _ _ _
          (c.in_ok-ids.ensures ∙ ap (λ (items : List Holder). with_all (λ (h : Holder). h.id) nat_cmp items c.self.inside.ids) c.in_ok-holders_of.ensures)
          (c.in_ok-dependents.ensures ∙ ap (λ (items : List Dependent). with_all (λ (d : Dependent). d) dependent_cmp items c.self.inside.dependents) c.in_ok-dependents_of.ensures)
          (made c)
          (listed_with c.args.project live c.self.inside.ids c.self.inside.dependents c.self.invariant.0 joins c.self.invariant.1 (ap (filed_as c.args.project.filing) c.self.view_is ∙ c.requires.new)),
    )

pub returns : goal.returns
returns c = made c ∙ ap (with_project c.args.project) c.self.view_is
