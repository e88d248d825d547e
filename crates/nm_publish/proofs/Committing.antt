-- A commit puts one command behind the history, and the version after it is told there.
use Rattle.std.proofs.Common.{◌≡◌, ℕ, ◌+◌, List, [], ◌∷◌, ◌++◌, Option, None, Some, Ok, refl, sym, ap, ◌∙◌, subst, arith, length-append}
use Rattle.logbook.specs.Pages.{Book, Named}
use Rattle.std.proofs.lemmas.Grind.{flat_map-append}
use Rattle.nm_publish.specs.History.{History, BeginsIn, GoesOn, and_then}
use Rattle.nm_publish.specs.Keeper.{IsKept}
use Rattle.nm_publish.specs.Piece.{IsTold, OnBaseOf, opening_of, piece_log}
use Rattle.nm_publish.specs.Shown.{Told, told}
use Rattle.nm_publish.specs.declared.piece.Piece.{Piece}
use Rattle.nm_publish.specs.declared.piece.Piece.TheVariants.{Opened, Accepted}
use Rattle.nm_version.specs.After.{accepted, commit_of, result_of}
use Rattle.nm_version.specs.Command.{entry_of}
use Rattle.nm_version.specs.Kept.{Kept, number_of}
use Rattle.nm_version.specs.Refusal.{refusal_of}
use Rattle.nm_version.specs.declared.command.Command.{Command}
use Rattle.nm_version.specs.declared.refusal.Refusal.{Refusal}
use Rattle.nm_publish.proofs.Belonging.{begins_later}

-- what a command that was accepted gives
accepted_of : (refusal : Option Refusal) (after version : Kept) → result_of refusal after ≡ Ok version → version ≡ after
accepted_of None after version due = cc due
accepted_of (Some refusal) after version due = absurd (cc due)

pub accepted_is : (kept : Kept) (command : Command) (version : Kept) → commit_of kept command ≡ Ok version → version ≡ accepted kept command
accepted_is kept command version due = accepted_of (refusal_of kept command) (accepted kept command) version due

same_opening : (pieces : List Piece) (piece : Piece) (kept : Kept) → OnBaseOf (opening_of pieces) kept → OnBaseOf (opening_of (pieces ++ piece ∷ [])) kept
same_opening [] piece kept based = absurd based
same_opening (Opened opening ∷ pieces) piece kept based = based
same_opening (Accepted entry ∷ pieces) piece kept based = absurd based

on_base : (opening : Option Kept) (kept : Kept) (command : Command) → OnBaseOf opening kept → OnBaseOf opening (accepted kept command)
on_base None kept command based = based
on_base (Some opening) kept command based = record { base = based.base; bytes = based.bytes }

told_next : (pieces : List Piece) (kept : Kept) (command : Command) → IsTold pieces kept → IsTold (pieces ++ Accepted (entry_of command) ∷ []) (accepted kept command)
told_next pieces kept command told = record {
  based = same_opening pieces (Accepted (entry_of command)) (accepted kept command) (on_base (opening_of pieces) kept command told.based);
  logged = ap (λ log. log ++ entry_of command ∷ []) told.logged ∙ sym (flat_map-append piece_log pieces (Accepted (entry_of command) ∷ []));
}

pub told_after : (before : Told) (front : History) (kept : Kept) (command : Command) → IsTold before.front.pieces before.kept
    → front ≡ and_then before.front (Accepted (entry_of command)) → kept ≡ accepted before.kept command → IsTold front.pieces kept
told_after before front kept command told grown new = rw (grown, new) (told_next before.front.pieces before.kept command told)

pub grows : (front : History) (piece : Piece) → GoesOn front (and_then front piece)
grows front piece = record { same = refl; begins = (piece ∷ [], refl) }

-- the keeper once the command stands in the history, and is published and counted
pub committed : (book : Book) (opening : Kept) (before next : Told) (shown : History) (word : Named) (commits more : ℕ) (command : Command) → IsKept book opening before shown word commits
    → next ≡ told (and_then before.front (Accepted (entry_of command))) (accepted before.kept command) → more ≡ commits + 1 → IsKept book opening next next.front word more
committed book opening before next shown word commits more command kept is one =
    let front : next.front ≡ and_then before.front (Accepted (entry_of command)) = ap (λ (t : Told). t.front) is in
    let number : number_of next.kept ≡ number_of before.kept + 1 = ap (λ (t : Told). number_of t.kept) is ∙ length-append before.kept.log (entry_of command ∷ []) in
    record {
      begins = subst (λ (h : History). BeginsIn book opening h) (sym front)
          (begins_later book opening before.front (and_then before.front (Accepted (entry_of command))) kept.begins (grows before.front (Accepted (entry_of command))));
      published = refl;
      ours = kept.ours;
      counted = omega (arith, number, one, kept.counted);
    }
