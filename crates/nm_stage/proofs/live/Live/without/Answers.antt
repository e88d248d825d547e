use Rattle.std.proofs.Common.{◌≡◌, ◌∙◌, ℕ, List, nat_cmp, sym, subst, ap}
use Rattle.std.proofs.lemmas.Result.{IfOk-weaker}
use Rattle.std.specs.List.Sorted.{IsStrictlySortedBy}
use Rattle.nm_blocks.specs.Items.{without_all}
use Rattle.nm_stage.proofs.Beside.{listed_by, listed_without, rising_dependents, rising_lineage}
use Rattle.nm_stage.proofs.Filings.{without_is, without_none}
use Rattle.nm_stage.proofs.Lives.{without-live}
use Rattle.nm_stage.specs.Listed.{dependent_cmp}
use Rattle.nm_stage.specs.Live.{IsLive, filed_as, without_filing}
use Rattle.nm_stage.specs.Project.{key_of}
use Rattle.nm_stage.specs.declared.listed.Dependent.{Dependent}
use Rattle.nm_stage.specs.declared.listed.Holder.{Holder}
use Rattle.nm_stage.proofs.live.Live.without.Goals as goal

pub returns-in_default : goal.returns-in_default
returns-in_default c =
    IfOk-weaker c.share.result _ _ (λ made e. e ∙ sym (without_none c.args.filing c.args.self.now (sym c.in_default.ensures))) c.share.ensures

pub without_all-requires : goal.without_all-requires
without_all-requires c = rising_lineage c.deref.result.now c.in-Some.project.now.lineage (c.deref.ensures.value ∙ c.in_ok-lineage_of.ensures)

pub without_all-requires-2 : goal.without_all-requires-2
without_all-requires-2 c =
    subst (IsStrictlySortedBy dependent_cmp) (sym (c.deref-2.ensures.value ∙ c.in_ok-dependents_of.ensures)) (rising_dependents (key_of c.in-Some.project.now) c.in-Some.project.now.dependencies)

made : (c : goal.In_ok-without) → c.in_ok-without.field-0 ≡ without_filing c.args.filing c.self.inside.projects
made c = c.in_ok-without.ensures ∙ without_is c.args.filing c.self.inside.projects

pub invariant_of-result : goal.invariant_of-result
invariant_of-result c =
    let live = c.self.inside.projects in (
      subst IsLive (sym (made c)) (without-live c.args.filing live c.self.invariant.0),
      listed_by _ _ _ _ _ _
          (c.in_ok-ids.ensures ∙ ap (λ (ids : List ℕ). without_all (λ (h : Holder). h.id) nat_cmp ids c.self.inside.ids) (c.deref.ensures.value ∙ c.in_ok-lineage_of.ensures))
          (c.in_ok-dependents.ensures ∙ ap (λ (needs : List Dependent). without_all (λ (d : Dependent). d) dependent_cmp needs c.self.inside.dependents) (c.deref-2.ensures.value ∙ c.in_ok-dependents_of.ensures))
          (made c)
          (listed_without c.args.filing c.in-Some.project.now live c.self.inside.ids c.self.inside.dependents c.self.invariant.0 c.self.invariant.1 (ap (filed_as c.args.filing) c.self.view_is ∙ sym c.in-Some.ensures)),
    )
