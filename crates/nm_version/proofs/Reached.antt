-- The commands that have led to what is kept: none was refused, they are within the limits, and they led to a live list.
use Rattle.std.proofs.Common.{◌≡◌, ◌∙◌, ℕ, ◌+◌, ◌≤◌, List, [], ◌∷◌, length, false, Option, None, Some, Ok, refl, sym, ap, subst, arith}
use Rattle.std.proofs.lemmas.List.{length-append, length-map}
use Rattle.std.specs.Option.{option_or}
use Rattle.nm_model.specs.declared.document.Document.{Document}
use Rattle.nm_model.specs.declared.document.Document.TheVariants as document
use Rattle.nm_stage.proofs.Joins.{joins_again, joins_revised, joins_with_new_id}
use Rattle.nm_stage.proofs.Lives.{empty-live, with-live, without-live}
use Rattle.nm_stage.specs.Live.{IsLive, holds, project_of}
use Rattle.nm_stage.specs.Project.{PlainProject}
use Rattle.nm_version.proofs.Commits.{IsAllowed, allowed, few_commits, fits_with, not_held, size_more}
use Rattle.nm_version.specs.After.{IsReached, accepted, after, after_all, commit_of, or_before, result_of}
use Rattle.nm_version.specs.Changed.{live_after, live_redated, live_revised, live_withdrawn, project_filed, project_redated, project_revised}
use Rattle.nm_version.specs.Command.{entry_of, header_of}
use Rattle.nm_version.specs.Kept.{Kept, number_of, opened, size_of}
use Rattle.nm_version.specs.Limits.{largest_store, most_commits}
use Rattle.nm_version.specs.Refusal.{early_refusal, refusal_of}
use Rattle.nm_version.specs.Replay.{first_break}
use Rattle.nm_version.specs.declared.command.Command.{Command}
use Rattle.nm_version.specs.declared.command.Command.TheVariants.{File, Revise, Redate, Withdraw}
use Rattle.nm_version.specs.declared.refusal.Refusal.{Refusal}

-- each of the commands, one after another, is accepted
abbrev pub AllAccepted : Kept → List Command → Type 0
AllAccepted kept [] = Unit {0}
AllAccepted kept (command ∷ commands) =
    (refusal_of kept command ≡ None) × AllAccepted (accepted kept command) commands

pub accepts_it : (kept : Kept) (command : Command) → refusal_of kept command ≡ None → commit_of kept command ≡ Ok (accepted kept command)
accepts_it kept command e = ap (λ refused. result_of refused (accepted kept command)) e

pub after_accepted : (kept : Kept) (command : Command) → refusal_of kept command ≡ None → after kept command ≡ accepted kept command
after_accepted kept command e = ap (λ refused. or_before kept (result_of refused (accepted kept command))) e

-- ---- none was refused

pub one_more : (kept : Kept) (command : Command) → length (accepted kept command).log ≡ length kept.log + 1
one_more kept command = length-append kept.log (entry_of command ∷ [])

after_one : (kept : Kept) (command : Command) (refused : Option Refusal) → length (or_before kept (result_of refused (accepted kept command))).log ≤ length kept.log + 1
after_one kept command None = omega (arith, one_more kept command)
after_one kept command (Some refusal) = omega arith

at_most : (kept : Kept) (commands : List Command) → length (after_all kept commands).log ≤ length kept.log + length commands
at_most kept [] = omega arith
at_most kept (command ∷ commands) =
    omega (arith, at_most (after kept command) commands, after_one kept command (refusal_of kept command))

pub all_accepted : (kept : Kept) (commands : List Command) → length (after_all kept commands).log ≡ length kept.log + length commands → AllAccepted kept commands
all_accepted kept [] e = tt
all_accepted kept (command ∷ commands) e =
    by (refusal_of kept command) refl (λ same. all_accepted (accepted kept command) commands same)
  where
    by : (refused : Option Refusal) → refusal_of kept command ≡ refused
        → (length (after_all (accepted kept command) commands).log ≡ length (accepted kept command).log + length commands → AllAccepted (accepted kept command) commands)
        → AllAccepted kept (command ∷ commands)
    by None is others =
        let same : length (after_all (after kept command) commands).log ≡ length (after_all (accepted kept command) commands).log = ap (λ (k : Kept). length (after_all k commands).log) (after_accepted kept command is) in
        (is, others (omega (arith, e, same, one_more kept command)))
    by (Some refusal) is others =
        let same : after kept command ≡ kept = ap (λ refused. or_before kept (result_of refused (accepted kept command))) is in
        absurd (omega (arith, e, at_most kept commands, ap (λ (k : Kept). length (after_all k commands).log) same))

-- ---- they are within the limits

pub record AreFew (kept : Kept) : Type 0 where
  pub number : number_of kept ≤ most_commits
  pub size : size_of kept ≤ largest_store

not_early : (early later : Option Refusal) → option_or early later ≡ None → early ≡ None
not_early None later e = refl
not_early (Some refusal) later e = absurd (let wrong = e in cc)

-- no row refuses a command that is not refused
pub is_allowed : (kept : Kept) (command : Command) → refusal_of kept command ≡ None → IsAllowed kept command
unfolding refusal_of
is_allowed kept command e = allowed kept command (not_early (early_refusal kept command) (first_break kept.base (live_after kept command)) e)

few_after : (kept : Kept) (command : Command) → AreFew kept → refusal_of kept command ≡ None → AreFew (accepted kept command)
few_after kept command few e =
    let a = is_allowed kept command e in
    record {
      number = omega (arith, one_more kept command, few_commits kept a.commits);
      size = omega (arith, size_more kept command, fits_with kept command a.bytes few.size);
    }

pub few_after_all : (kept : Kept) (commands : List Command) → AreFew kept → AllAccepted kept commands → AreFew (after_all kept commands)
few_after_all kept [] few all = few
few_after_all kept (command ∷ commands) few all =
    subst (λ (k : Kept). AreFew (after_all k commands)) (sym (after_accepted kept command all.0))
    (few_after_all (accepted kept command) commands (few_after kept command few all.0) all.1)

-- ---- they led to a live list

module _ (live : List PlainProject) (is : IsLive live) where
  revised : (id : ℕ) (model : Document) (found : Option PlainProject) → project_of id live ≡ found → holds live (header_of model).id ≡ false → IsLive (live_revised model found live)
  revised id model None e free = is
  revised id (document.Full full) (Some project) e free = is
  revised id (document.Difference difference) (Some project) e free =
      with-live (project_revised difference project) live is (joins_revised id project (project_revised difference project) live difference.header.id is e refl refl free)

  redated : (id : ℕ) (day : List ℕ) (found : Option PlainProject) → project_of id live ≡ found → IsLive (live_redated day found live)
  redated id day None e = is
  redated id day (Some project) e = with-live (project_redated day project) live is (joins_again id project (project_redated day project) live is e refl refl)

  withdrawn : (found : Option PlainProject) → IsLive (live_withdrawn found live)
  withdrawn None = is
  withdrawn (Some project) = without-live project.filing live is

pub stays_live : (kept : Kept) (command : Command) → IsLive kept.live → IsAllowed kept command → IsLive (live_after kept command)
stays_live kept (File day (document.Full full) bytes) is a = is
stays_live kept (File day (document.Difference difference) bytes) is a =
    let project = project_filed (number_of kept + 1) day difference in
    with-live project kept.live is (joins_with_new_id project kept.live difference.header.id is refl (not_held kept difference.header.id a.unused))
stays_live kept (Revise id model bytes) is a = revised kept.live is id model (project_of id kept.live) refl (not_held kept (header_of model).id a.unused)
stays_live kept (Redate id day) is a = redated kept.live is id day (project_of id kept.live) refl
stays_live kept (Withdraw id) is a = withdrawn kept.live is (project_of id kept.live)

live_after_all : (kept : Kept) (commands : List Command) → IsLive kept.live → AllAccepted kept commands → IsLive (after_all kept commands).live
live_after_all kept [] is all = is
live_after_all kept (command ∷ commands) is all =
    subst (λ (k : Kept). IsLive (after_all k commands).live) (sym (after_accepted kept command all.0))
    (live_after_all (accepted kept command) commands (stays_live kept command is (is_allowed kept command all.0)) all.1)

-- ---- what has been reached

module _ (kept : Kept) (r : IsReached kept) where
  pub none_refused : AllAccepted (opened kept.base kept.bytes) r.commands
  none_refused =
      let size : length (after_all (opened kept.base kept.bytes) r.commands).log ≡ length r.commands = ap (λ (k : Kept). length k.log) r.reached ∙ ap length (sym r.logged) ∙ length-map r.commands entry_of in
      all_accepted (opened kept.base kept.bytes) r.commands (omega (arith, size))

  pub few : AreFew kept
  few = subst AreFew r.reached (few_after_all (opened kept.base kept.bytes) r.commands (record { number = omega arith; size = omega (arith, r.base.short) }) none_refused)

  pub live : IsLive kept.live
  live = subst (λ (k : Kept). IsLive k.live) r.reached (live_after_all (opened kept.base kept.bytes) r.commands empty-live none_refused)
