use Rattle.std.proofs.Common.{◌∙◌, ◌++◌, ◌+◌, ℕ, List, [], Bor, Some, not, drop, map, nat_cmp, refl, sym, ap, subst}
use Rattle.std.specs.BTreeSet.{contains}
use Rattle.std.specs.List.{filter}
use Rattle.nm_stage.specs.Dependencies.{HasIds, least_of, missing_from, missing_or}
use Rattle.nm_stage.specs.Project.{PlainProject}
use Rattle.nm_stage.proofs.Missing.{has_none, missing_at}
use Rattle.nm_stage.proofs.dependencies.first_missing.Goals as goal

pub loop-project-init : goal.loop-project-init
loop-project-init c = (c.args.known.now, c.in_ok-add_ids.ensures [] (has_none c.new-reached.result c.new-reached.ensures.empty), refl)

pub returns-in-Some : goal.returns-in-Some
returns-in-Some c =
    let one = c.project-item.result in
    let ids = c.loop-project.invariant.0 in
    let dependencies = c.as_slice.ensures ∙ ap (λ (p : Bor PlainProject). p.now.dependencies) c.project.view_is in
    let unmet = c.in-Some.ensures ∙ ap (λ ds. least_of (filter (λ id. not (contains nat_cmp c.loop-project.reached id)) ds)) dependencies in
    ap (λ key. Some (key, c.in-Some.id)) c.key.ensures
    ∙ (λ i. missing_or one.now (unmet i) (missing_from (ids ++ one.now.lineage) (map (λ (p : Bor PlainProject). p.now) (drop (c.loop-project.project-index + 1) c.args.projects.now))))
    ∙ sym (missing_at c.loop-project.reached ids c.args.projects.now c.loop-project.project-index one c.loop-project-test.true c.project-item.is c.loop-project.invariant.1)
    ∙ sym c.loop-project.invariant.2

pub loop-project-preserved : goal.loop-project-preserved
loop-project-preserved c =
    let one = c.project-item.result in
    let ids = c.loop-project.invariant.0 in
    let dependencies = c.as_slice.ensures ∙ ap (λ (p : Bor PlainProject). p.now.dependencies) c.project.view_is in
    let lineage = c.as_slice-in-loop-project.ensures ∙ ap (λ (p : Bor PlainProject). p.now.lineage) c.project.view_is in
    let unmet = c.in_default.ensures ∙ ap (λ ds. least_of (filter (λ id. not (contains nat_cmp c.loop-project.reached id)) ds)) dependencies in (
      ids ++ one.now.lineage,
      subst (λ (l : List ℕ). HasIds c.add_ids-in-loop-project.new.reached (ids ++ l)) lineage (c.in_ok-add_ids-2.ensures ids c.loop-project.invariant.1),
      c.loop-project.invariant.2
          ∙ missing_at c.loop-project.reached ids c.args.projects.now c.loop-project.project-index one c.loop-project-test.true c.project-item.is c.loop-project.invariant.1
          ∙ (λ i. missing_or one.now (sym unmet i) (missing_from (ids ++ one.now.lineage) (map (λ (p : Bor PlainProject). p.now) (drop (c.loop-project.project-index + 1) c.args.projects.now)))),
    )
