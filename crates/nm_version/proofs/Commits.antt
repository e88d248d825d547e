-- What an allowed command leads to.
use Rattle.std.proofs.Common.{◌≡◌, ◌∙◌, ℕ, ◌+◌, ◌<◌, ◌≤◌, List, [], ◌∷◌, ◌++◌, Bool, true, false, ◌||◌, length, sum_by, Option, None, Some, Ok, Err, nat_lt, nat_le, refl, sym, ap, arith}
use Rattle.std.proofs.lemmas.Bool.Decides.{nat_tests}
use Rattle.std.proofs.lemmas.List.{length-append, map-append}
use Rattle.std.proofs.lemmas.List.Sums.{fold-append, sum_by-append}
use Rattle.std.specs.Option.{option_or}
use Rattle.nm_ident.proofs.Rising.{all_append}
use Rattle.nm_model.specs.declared.document.Document.TheVariants as document
use Rattle.nm_reader.specs.Input.{IsDocumentOf}
use Rattle.nm_terms.specs.Due.{OrWant}
use Rattle.nm_stage.specs.Live.{holds}
use Rattle.nm_statement.specs.declared.statement.Statement.{Statement}
use Rattle.nm_timeline.specs.Timeline.{PlainTimeline}
use Rattle.nm_version.specs.After.{IsReached, accepted, after, commit_of, or_before, result_of}
use Rattle.nm_version.specs.Changed.{live_after}
use Rattle.nm_version.specs.Command.{HasLine, IsSpelt, document_size, entry_of}
use Rattle.nm_version.specs.Kept.{Kept, number_of, opened, size_of}
use Rattle.nm_version.specs.Limits.{largest_store, most_commits}
use Rattle.nm_version.specs.Refusal.{bytes_refusal, commits_refusal, early_refusal, is_in_use, kind_refusal, refusal_of, refused_where, steps_refusal, superseding_refusal, unknown_refusal, use_refusal, wants_memory}
use Rattle.nm_version.specs.Replay.{first_break}
use Rattle.nm_version.specs.Timelines.{timelines_over}
use Rattle.nm_version.specs.Within.{IsWithin}
use Rattle.nm_version.specs.declared.command.Command.{Command}
use Rattle.nm_version.specs.declared.command.Command.TheVariants.{File, Revise, Redate, Withdraw}
use Rattle.nm_version.specs.declared.refusal.Refusal.{Refusal}
use Rattle.nm_version.specs.declared.refusal.Refusal.TheVariants as refusal

-- ---- what is known of a command that no early refusal meets

none_of_or : (a b : Option Refusal) → option_or a b ≡ None → (a ≡ None) × (b ≡ None)
none_of_or None b e = (refl, e)
none_of_or (Some x) b e = absurd (let wrong = e in cc)

pub not_refused : (test : Bool) (refused : Refusal) → refused_where test refused ≡ None → test ≡ false
not_refused true refused e = absurd (let wrong = e in cc)
not_refused false refused e = refl

neither : (a b : Bool) → (a || b) ≡ false → b ≡ false
neither true b e = absurd (let wrong = e in cc)
neither false b e = e

pub record IsAllowed (kept : Kept) (command : Command) : Type 0 where
  pub kind : kind_refusal command ≡ None
  pub unknown : unknown_refusal kept command ≡ None
  pub superseding : superseding_refusal kept command ≡ None
  pub unused : use_refusal kept command ≡ None
  pub steps : steps_refusal kept command ≡ None
  pub commits : commits_refusal kept ≡ None
  pub bytes : bytes_refusal kept command ≡ None

pub allowed : (kept : Kept) (command : Command) → early_refusal kept command ≡ None → IsAllowed kept command
unfolding early_refusal
allowed kept command e =
    let seventh = none_of_or _ _ e in
    let sixth = none_of_or _ _ seventh.0 in
    let fifth = none_of_or _ _ sixth.0 in
    let fourth = none_of_or _ _ fifth.0 in
    let third = none_of_or _ _ fourth.0 in
    let second = none_of_or _ _ third.0 in
    record {
      kind = second.0;
      unknown = second.1;
      superseding = third.1;
      unused = fourth.1;
      steps = fifth.1;
      commits = sixth.1;
      bytes = seventh.1;
    }

pub not_held : (kept : Kept) (id : ℕ) → refused_where (is_in_use kept id) (refusal.InUse id) ≡ None → holds kept.live id ≡ false
not_held kept id e = neither _ (holds kept.live id) (not_refused (is_in_use kept id) _ e)

below : (most n : ℕ) → nat_le most n ≡ false → n < most
below most n h = grind (arith, nat_tests)

at_most : (most n : ℕ) → nat_lt most n ≡ false → n ≤ most
at_most most n h = grind (arith, nat_tests)

pub few_commits : (kept : Kept) → commits_refusal kept ≡ None → number_of kept < most_commits
few_commits kept e = below most_commits (number_of kept) (not_refused _ _ e)

-- ---- the refusal that is due

pub due_is : (kept : Kept) (command : Command) (given : Refusal) → commit_of kept command ≡ Err given → OrWant (wants_memory given) (commit_of kept command ≡ Err given)
due_is kept command refusal.NoMemory e = tt
due_is kept command refusal.Kind e = e
due_is kept command (refusal.Unknown id) e = e
due_is kept command (refusal.NotSuperseding id) e = e
due_is kept command (refusal.InUse id) e = e
due_is kept command (refusal.Limit limit) e = e
due_is kept command (refusal.Step day model cause) e = e

module _ (kept : Kept) (command : Command) where
  pub refused_early : (given : Refusal) → Some given ≡ early_refusal kept command → OrWant (wants_memory given) (commit_of kept command ≡ Err given)
  unfolding refusal_of
  refused_early given e =
      due_is kept command given (ap (λ early. result_of (option_or early (first_break kept.base (live_after kept command))) (accepted kept command)) (sym e))

  pub after_replay : (found : Option Refusal) → None ≡ early_refusal kept command → found ≡ first_break kept.base (live_after kept command) → refusal_of kept command ≡ found
  unfolding refusal_of
  after_replay found early e = λ i. option_or (sym early i) (sym e i)

  pub refused_late : (given : Refusal) → None ≡ early_refusal kept command → Some given ≡ first_break kept.base (live_after kept command) → OrWant (wants_memory given) (commit_of kept command ≡ Err given)
  refused_late given early e =
      due_is kept command given (ap (λ refused. result_of refused (accepted kept command)) (after_replay (Some given) early e))

  pub accepts : None ≡ early_refusal kept command → None ≡ first_break kept.base (live_after kept command) → commit_of kept command ≡ Ok (accepted kept command)
  accepts early e = ap (λ refused. result_of refused (accepted kept command)) (after_replay None early e)

-- ---- what is kept after it

pub open_reached : (kept : Kept) → kept ≡ opened kept.base kept.bytes → IsDocumentOf kept.bytes (document.Full kept.base) → IsReached kept
open_reached kept e spelt = record {
  base = spelt;
  commands = [];
  spelt = tt;
  lines = tt;
  logged = ap (λ (k : Kept). k.log) (sym e);
  reached = sym e;
}

module _ (kept : Kept) (command : Command) where
  accepted_reached : IsReached kept → IsSpelt command → HasLine command → commit_of kept command ≡ Ok (accepted kept command) → IsReached (accepted kept command)
  accepted_reached r spelt line e = record {
    base = r.base;
    commands = r.commands ++ command ∷ [];
    spelt = all_append IsSpelt r.commands (command ∷ []) r.spelt (spelt, tt);
    lines = all_append HasLine r.commands (command ∷ []) r.lines (line, tt);
    logged = map-append entry_of r.commands (command ∷ []) ∙ ap (λ entries. entries ++ entry_of command ∷ []) r.logged;
    reached = fold-append after (opened kept.base kept.bytes) r.commands (command ∷ [])
        ∙ ap (λ k. after k command) r.reached
        ∙ ap (or_before kept) e;
  }

  pub size_more : size_of (accepted kept command) ≡ size_of kept + document_size (entry_of command)
  size_more =
      omega (arith, sum_by-append document_size kept.log (entry_of command ∷ []), one_more (sum_by document_size kept.log) (document_size (entry_of command)))
    where
      one_more : (m n : ℕ) → m + (n + 0) ≡ m + n
      one_more m n = omega arith

pub fits_with : (kept : Kept) (command : Command) → bytes_refusal kept command ≡ None → size_of kept ≤ largest_store → size_of kept + document_size (entry_of command) ≤ largest_store
fits_with kept (File day model bytes) e h = at_most largest_store (size_of kept + length bytes) (not_refused _ _ e)
fits_with kept (Revise id model bytes) e h = at_most largest_store (size_of kept + length bytes) (not_refused _ _ e)
fits_with kept (Redate id day) e h = omega arith
fits_with kept (Withdraw id) e h = omega arith

pub within_after : (kept : Kept) (command : Command) (old new : List (Statement × PlainTimeline)) (size : ℕ) → IsWithin kept old size → IsSpelt command → HasLine command
    → early_refusal kept command ≡ None → commit_of kept command ≡ Ok (accepted kept command) → new ≡ timelines_over kept.base (live_after kept command)
    → IsWithin (accepted kept command) new (size + document_size (entry_of command))
within_after kept command old new size w spelt line early e timed =
    let a = allowed kept command early in
    record {
      reached = accepted_reached kept command w.reached spelt line e;
      rising = w.rising;
      timed = timed;
      numbered = omega (arith, length-append kept.log (entry_of command ∷ []), few_commits kept a.commits);
      sized = omega (arith, size_more kept command, w.sized);
      fits = omega (arith, fits_with kept command a.bytes (omega (arith, w.sized, w.fits)), w.sized);
    }
