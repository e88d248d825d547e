use Rattle.std.proofs.Common.{◌∙◌, ◌&&◌, ◌==◌, ℕ, sym, subst, ap}
use Rattle.nm_stage.proofs.AfterChange.{own_none}
use Rattle.nm_stage.proofs.Filings.{filed_has}
use Rattle.nm_stage.specs.Live.{filed_as}
use Rattle.nm_stage.specs.Unmet.{IsFirst, misses}
use Rattle.nm_stage.proofs.live.Live.missing_of_own.Goals as goal

pub returns-in_err-project : goal.returns-in_err-project
returns-in_err-project c =
    let missed = misses c.args.known.now c.args.self.now in
    subst (IsFirst c.args.self.now missed (λ q j. missed q j && (q.filing == c.args.filing))) (sym c.from_residual.ensures)
    (own_none c.args.known.now c.args.self.now c.args.filing (sym c.in_err-project.ensures))

pub missing_of_project-requires : goal.missing_of_project-requires
missing_of_project-requires c =
    ap (λ n. filed_as n c.args.self.now) (filed_has c.args.filing c.args.self.now c.in_ok-project.project.now (sym c.in_ok-project.ensures)) ∙ sym c.in_ok-project.ensures

pub returns : goal.returns
returns c =
    let missed = misses c.args.known.now c.args.self.now in
    subst (λ (n : ℕ). IsFirst c.args.self.now missed (λ q j. missed q j && (q.filing == n)) c.missing_of_project.result)
    (filed_has c.args.filing c.args.self.now c.in_ok-project.project.now (sym c.in_ok-project.ensures))
    c.missing_of_project.ensures
