use Rattle.std.proofs.Common.{◌≡◌, ◌∙◌, ◌≤◌, ◌+◌, ℕ, List, None, Result, Err, Ok, length, sym, ap, subst}
use Rattle.std.proofs.lemmas.Result.{err_from_is_err_and}
use Rattle.nm_stage.specs.Live.{without_filing}
use Rattle.nm_stage.specs.Project.{PlainProject, PlainStep}
use Rattle.nm_stage.specs.Steps.{steps_of}
use Rattle.nm_statement.specs.declared.statement.Statement.{Statement}
use Rattle.nm_terms.specs.Due.{IsDue, OrWant}
use Rattle.nm_timeline.specs.Timeline.{PlainTimeline}
use Rattle.nm_version.specs.After.{IsReached, accepted, commit_of}
use Rattle.nm_version.specs.ByTimelines.{filing_changed, timelines_due}
use Rattle.nm_version.specs.Changed.{live_after}
use Rattle.nm_version.specs.Command.{document_size, entry_of}
use Rattle.nm_version.specs.Edits.{IsEdit, taken_by}
use Rattle.nm_version.specs.Kept.{Kept, with_entry}
use Rattle.nm_version.specs.Refusal as refusal
use Rattle.nm_version.specs.Refusal.{wants_memory}
use Rattle.nm_version.specs.Replay.{first_break}
use Rattle.nm_version.specs.declared.command.Command.{Command}
use Rattle.nm_version.specs.Timelines.{steps_of_edit, timelines_over}
use Rattle.nm_version.specs.Within.{IsWithin}
use Rattle.nm_version.specs.declared.refusal.Refusal.{Refusal}
use Rattle.nm_version.proofs.ByTimelines.{refused_err, unrefused_ok, want_join}
use Rattle.nm_version.proofs.Commits.{accepts, refused_late, within_after}
use Rattle.nm_version.proofs.Others.{others_stay}
use Rattle.nm_version.proofs.Reached.{live}
use Rattle.nm_version.proofs.version.Version.commit_unless_broken.Goals as goal

late : (kept : Kept) (command : Command) (refused : Refusal) → refusal.early_refusal kept command ≡ None → OrWant (wants_memory refused) (timelines_due kept.base (live_after kept command) ≡ Err refused)
    → OrWant (wants_memory refused) (commit_of kept command ≡ Err refused)
late kept command refused early due =
    want_join (wants_memory refused) _ _ (λ h. refused_late kept command refused (sym early) (sym (refused_err _ _ refused h))) due

pub timelines_after-requires : goal.timelines_after-requires
timelines_after-requires g c =
    let kept = c.args.self.now in
    let command = c.args.command in
    let after = c.in_ok-live.field-0.live in
    let reached = subst IsReached c.self.view_is c.self.invariant.reached in
    let edited = c.commands_edit_steps.ensures kept command reached c.requires.spelt c.requires.early in
    let taken = c.deref.ensures.value ∙ c.in_ok-taken.ensures in
    let added = c.deref-2.ensures.value ∙ c.in_ok-live.ensures.added_are in
    let others = sym (others_stay kept command (live kept reached)) ∙ ap (without_filing (filing_changed kept command)) (sym c.in_ok-live.ensures.live_is) in
    record {
      edit = subst (λ (l : List PlainProject). IsEdit c.deref.result.now c.deref-2.result.now (steps_of kept.live) (steps_of l)) (sym c.in_ok-live.ensures.live_is)
          (subst (λ (steps : List PlainStep). IsEdit steps c.deref-2.result.now (steps_of kept.live) (steps_of (live_after kept command))) (sym taken)
          (subst (λ (steps : List PlainStep). IsEdit (taken_by kept command) steps (steps_of kept.live) (steps_of (live_after kept command))) (sym added) edited));
      others = subst (λ f. without_filing f kept.live ≡ without_filing f after) (sym c.filing_changed-filing.ensures) others;
    }

pub returns-in_err-timelines-clause-commit : goal.returns-in_err-timelines-clause-commit
returns-in_err-timelines-clause-commit g c =
    let kept = c.args.self.now in
    let refused = c.in_err-timelines.field-0.0 in
    let passed = err_from_is_err_and c.from_residual-in_err-timelines.result c.from_residual-in_err-timelines.ensures.1 in
    let due =
    late kept c.args.command refused c.requires.early
    (subst (λ (live : List PlainProject). OrWant (wants_memory refused) (timelines_due kept.base live ≡ Err refused)) c.in_ok-live.ensures.live_is c.in_err-timelines.ensures.timelines) in
    subst (λ (r : Result Kept Refusal). IsDue wants_memory r (commit_of kept c.args.command)) (sym (passed.1 ∙ ap Err passed.2)) due

-- what a command that no statement stands against leads to
module _ (kept : Kept) (command : Command) (live : List PlainProject) (timelines : List (Statement × PlainTimeline)) (early : refusal.early_refusal kept command ≡ None) (same : live ≡ live_after kept command)
    (given : timelines_due kept.base live ≡ Ok timelines) where
  given_after : (first_break kept.base (live_after kept command) ≡ None) × (timelines_over kept.base (live_after kept command) ≡ timelines)
  given_after = unrefused_ok _ _ timelines (ap (timelines_due kept.base) (sym same) ∙ given)

  commits : commit_of kept command ≡ Ok (accepted kept command)
  commits = accepts kept command (sym early) (sym given_after.0)

pub with_entry-requires : goal.with_entry-requires
with_entry-requires g c =
    let kept = c.args.self.now in
    let command = c.args.command in
    let live = c.in_ok-live.field-0.live in
    let within = subst (λ (k : Kept). IsWithin k c.self.inside.timelines c.self.inside.size) c.self.view_is c.self.invariant in
    let after = within_after kept command c.self.inside.timelines c.in_ok-timelines.timelines c.self.inside.size within c.requires.spelt c.has_line.ensures c.requires.early
    (commits kept command live c.in_ok-timelines.timelines c.requires.early c.in_ok-live.ensures.live_is c.in_ok-timelines.ensures.timelines)
    (sym (given_after kept command live c.in_ok-timelines.timelines c.requires.early c.in_ok-live.ensures.live_is c.in_ok-timelines.ensures.timelines).1) in
    subst (λ n. IsWithin (with_entry kept live c.in_ok-live.field-0.entry) c.in_ok-timelines.timelines (c.self.inside.size + n)) (sym c.document_size.ensures)
    (subst (λ (k : Kept). IsWithin k c.in_ok-timelines.timelines (c.self.inside.size + document_size (entry_of command)))
    (λ i. with_entry kept (sym c.in_ok-live.ensures.live_is i) (sym c.in_ok-live.ensures.entry_is i)) after)

pub returns-clause-commit : goal.returns-clause-commit
returns-clause-commit g c =
    let kept = c.args.self.now in
    commits kept c.args.command c.in_ok-live.field-0.live c.in_ok-timelines.timelines c.requires.early c.in_ok-live.ensures.live_is c.in_ok-timelines.ensures.timelines
    ∙ ap Ok (sym (c.in_ok-version.ensures ∙ (λ i. with_entry kept (c.in_ok-live.ensures.live_is i) (c.in_ok-live.ensures.entry_is i))))

pub returns-clause-steps : goal.returns-clause-steps
returns-clause-steps g c =
    let kept = c.args.self.now in
    subst (λ (n : ℕ). c.timelines_after.new.steps ≤ c.args.steps.now + n)
    (λ i. steps_of_edit (length (timelines_over kept.base kept.live)) ((c.deref.ensures.value ∙ c.in_ok-taken.ensures) i) ((c.deref-2.ensures.value ∙ c.in_ok-live.ensures.added_are) i))
    c.timelines_after.ensures.steps
