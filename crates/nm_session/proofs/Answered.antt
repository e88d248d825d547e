-- Lemmas on what is due of an input, and what was written of it.
use Rattle.std.proofs.Common.{◌≡◌, ℕ, List, Option, true, false, length, sym, ◌∙◌, subst, arith}
use Rattle.std.proofs.lemmas.List.{take_all}
use Rattle.std.specs.Io.KnownBytes.{Appends}
use Rattle.nm_base.specs.declared.outcome.Status.{Status}
use Rattle.nm_session.specs.Answered.{Due, Answers, AppendsPrefix, EndsAs, is_ending}

-- all that is due was written
pub answers_whole : (due : Due) (status : Status) (written now : Option (List ℕ)) → EndsAs due status written now → Answers due status written now
answers_whole due status written now ends = record {
  prefix = (length due.replies, subst (Appends written now) (sym (take_all (length due.replies) due.replies (omega arith))) ends.replies);
  whole = λ _. ends;
}

-- some of the first of it was written, at a status that does not tell of the input
pub answers_part : (due : Due) (status : Status) (written now : Option (List ℕ)) → is_ending status ≡ false → AppendsPrefix written now due.replies
    → Answers due status written now
answers_part due status written now no_ending front = record {
  prefix = front;
  whole = λ ends. absurd (let wrong : true ≡ false = sym ends ∙ no_ending in cc);
}
