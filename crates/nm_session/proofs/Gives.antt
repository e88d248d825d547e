-- Lemmas on the lines and documents that an input gives.
use Rattle.std.proofs.Common.{◌≡◌, ◌≢◌, ℕ, ◌+◌, ◌-◌, ◌<◌, ◌≤◌, List, [], ◌∷◌, ◌++◌, Option, None, Some, length, take, drop, get_or, min, sym, ap, ◌∙◌, subst, inl, inr, arith, take-append-drop}
use Rattle.std.specs.List.{position}
use Rattle.std.proofs.lemmas.List.{get_or-take, length-take, length-take-le, length-append, take_more, take-take, take_all, take-append-le}
use Rattle.std.proofs.lemmas.List.Quantifiers.{position-Some}
use Rattle.std.proofs.lemmas.Bool.{eqb-true}
use Rattle.std.proofs.lemmas.Bool.Decides.{eqb_tells}
use Rattle.std.proofs.KnownBytes.{prepend_known-read}
use Rattle.std.specs.Io.KnownBytes.{Consumes}
use Rattle.nm_session.specs.Limits.{longest_line, longest_session}
use Rattle.nm_session.specs.Stream.{is_line_feed}
use Rattle.nm_session.specs.Buffered.{Buffered}
use Rattle.nm_session.specs.Ahead.{NoLineFeedComes, ReadsAhead, ReadsNoMore}
use Rattle.nm_session.specs.Input.{coming, GivesLine, GivesBody, HaltTells, HasNoLine, NoLineBy}
use Rattle.nm_session.specs.declared.halt.Halt.{Halt}
use Rattle.nm_session.specs.declared.halt.Halt.TheVariants.{ReadFault, NoMemory, BadLine, Cut, TooMuch}
use Rattle.nm_session.proofs.LineFeeds.{none-before}

-- of what comes, the front of the buffered bytes was given
given_front : (old mid new : Buffered) (before after : Option (List ℕ)) (front : List ℕ) → ReadsAhead old mid before after → mid.ahead ≡ front ++ new.ahead
    → Consumes (coming old before) (coming new after) front
given_front old mid new before after front reads split =
    let given = prepend_known-read (coming old before) after mid.ahead new.ahead front ⊥ reads.coming split (λ x. absurd x) in given.0

pub gives_body : (old mid new : Buffered) (before after : Option (List ℕ)) (len room : ℕ) (body : List ℕ) → ReadsAhead old mid before after
    → room ≡ len → old.given + room ≤ longest_session → room ≤ length mid.ahead → body ≡ take room mid.ahead → new.ahead ≡ drop room mid.ahead → new.given ≡ mid.given + room
    → GivesBody old new before after len body
gives_body old mid new before after len room body reads same limit buffered is rest count =
    let split : mid.ahead ≡ body ++ new.ahead = sym (take-append-drop room mid.ahead) ∙ ap (λ l. l ++ drop room mid.ahead) (sym is) ∙ ap (λ l. body ++ l) (sym rest) in
    record {
      size = omega (arith, ap length is, length-take-le room mid.ahead buffered);
      taken = given_front old mid new before after body reads split;
      given = omega (arith, reads.given);
      limit = omega (arith, reads.given);
    }

pub gives_line : (old mid new : Buffered) (before after : Option (List ℕ)) (room place : ℕ) (line : List ℕ) → ReadsAhead old mid before after
    → room ≤ longest_line + 1 → old.given + room ≤ longest_session → position is_line_feed (take room mid.ahead) ≡ Some place → line ≡ take place mid.ahead
    → new.ahead ≡ drop (place + 1) mid.ahead → new.given ≡ mid.given + (place + 1)
    → GivesLine old new before after line
gives_line old mid new before after room place line reads short limit found is rest count =
    let at = position-Some is_line_feed (take room mid.ahead) place 0 found in
    let within : place < length (take room mid.ahead) = at.0 in
    let below : place < room = omega (arith, length-take room mid.ahead) in
    let buffered : place < length mid.ahead = omega (arith, length-take room mid.ahead) in
    let feed : get_or mid.ahead place 0 ≡ 10 = sym (get_or-take room mid.ahead place 0 below) ∙ eqb-true _ _ at.1 in
    let front : take (place + 1) mid.ahead ≡ line ++ 10 ∷ [] =
    take_more mid.ahead place 0 buffered ∙ ap (λ x. take place mid.ahead ++ x ∷ []) feed ∙ ap (λ l. l ++ 10 ∷ []) (sym is) in
    let split : mid.ahead ≡ (line ++ 10 ∷ []) ++ new.ahead =
    sym (take-append-drop (place + 1) mid.ahead) ∙ ap (λ l. l ++ drop (place + 1) mid.ahead) front ∙ ap (λ l. (line ++ 10 ∷ []) ++ l) (sym rest) in
    let size : length line ≡ place = ap length is ∙ length-take-le place mid.ahead (omega arith) in
    record {
      short = omega arith;
      whole = ap (position is_line_feed) (is ∙ sym (take-take place room mid.ahead (omega arith))) ∙ none-before is_line_feed (take room mid.ahead) place found;
      taken = given_front old mid new before after (line ++ 10 ∷ []) reads split;
      given = omega (arith, reads.given);
      limit = omega (arith, reads.given);
    }

no_line_in : (bytes : List ℕ) (given room : ℕ) → room ≡ min (longest_line + 1) (longest_session - given) → length bytes < room → position is_line_feed bytes ≡ None → HasNoLine (take (longest_session - given) bytes)
no_line_in bytes given room is few none =
    subst HasNoLine (sym (take_all (longest_session - given) bytes (omega arith)))
    (record { short = omega arith; none = ap (position is_line_feed) (take_all (longest_line + 1) bytes (omega arith)) ∙ none })

-- why the next line feed is not known is why no line was given
pub no_line_feed : (halt : Halt) (room : ℕ) (buffered : Buffered) (left : Option (List ℕ)) → room ≡ min (longest_line + 1) (longest_session - buffered.given) → ReadsNoMore (NoLineFeedComes room buffered left) halt
    → NoLineBy halt buffered left
no_line_feed Cut room buffered None is s = tt
no_line_feed Cut room buffered (Some xs) is s =
    (no_line_in (buffered.ahead ++ xs) buffered.given room is s.0 s.1, omega (arith, s.0))
no_line_feed ReadFault room buffered left is s = tt
no_line_feed NoMemory room buffered left is s = tt
no_line_feed (BadLine at) room buffered left is s = absurd s
no_line_feed TooMuch room buffered left is s = absurd s

-- no line feed is among the first of the buffered bytes, and so not among the first of those that come
none_coming : (bytes ahead left : List ℕ) (room : ℕ) → ahead ++ left ≡ bytes → room ≤ length ahead → position is_line_feed (take room ahead) ≡ None
    → position is_line_feed (take room bytes) ≡ None
none_coming bytes ahead left room e buffered none =
    ap (λ l. position is_line_feed (take room l)) (sym e) ∙ ap (position is_line_feed) (take-append-le room ahead left buffered) ∙ none

long_line : (old mid : Buffered) (before after : Option (List ℕ)) (room : ℕ) → ReadsAhead old mid before after
    → room ≡ min (longest_line + 1) (longest_session - old.given) → room ≡ longest_line + 1 → position is_line_feed (take room mid.ahead) ≡ None → room ≤ length mid.ahead
    → NoLineBy (BadLine mid.given) old before
long_line old mid None after room reads is long none buffered = (reads.given, tt)
long_line old mid (Some xs) None room reads is long none buffered = absurd reads.coming
long_line old mid (Some xs) (Some ys) room reads is long none buffered =
    let bytes = old.ahead ++ xs in
    let size : room ≤ length bytes = omega (arith, ap length reads.coming, length-append mid.ahead ys) in (
      reads.given,
      record {
        long = omega (arith, length-take (longest_session - old.given) bytes);
        none = ap (position is_line_feed) (take-take (longest_line + 1) (longest_session - old.given) bytes (omega arith) ∙ ap (λ n. take n bytes) (sym long))
            ∙ none_coming bytes mid.ahead ys room reads.coming buffered none;
      },
    )

no_more_lines : (old mid : Buffered) (before after : Option (List ℕ)) (room : ℕ) → ReadsAhead old mid before after
    → room ≡ min (longest_line + 1) (longest_session - old.given) → room ≢ longest_line + 1 → position is_line_feed (take room mid.ahead) ≡ None → room ≤ length mid.ahead
    → NoLineBy TooMuch old before
no_more_lines old mid None after room reads is long none buffered = tt
no_more_lines old mid (Some xs) None room reads is long none buffered = absurd reads.coming
no_more_lines old mid (Some xs) (Some ys) room reads is full none buffered =
    let bytes = old.ahead ++ xs in
    let left = longest_session - old.given in
    let size : room ≤ length bytes = omega (arith, ap length reads.coming, length-append mid.ahead ys) in
    let room_is : left ≡ room = omega arith in
    let few : length (take left bytes) ≤ longest_line = omega (arith, length-take left bytes) in (
      record {
        short = few;
        none = ap (position is_line_feed) (take_all (longest_line + 1) (take left bytes) (omega arith) ∙ ap (λ n. take n bytes) room_is)
            ∙ none_coming bytes mid.ahead ys room reads.coming buffered none;
      },
      omega arith,
    )

-- why nothing more is taken where no line ends within the room
pub record IsNoLine (halt : Halt) (room at : ℕ) : Type 0 where
  pub long : room ≡ longest_line + 1 → halt ≡ BadLine at
  pub full : room ≢ longest_line + 1 → halt ≡ TooMuch

pub no_line_within : (halt : Halt) (old mid : Buffered) (before after : Option (List ℕ)) (room : ℕ) → IsNoLine halt room mid.given → ReadsAhead old mid before after
    → room ≡ min (longest_line + 1) (longest_session - old.given) → position is_line_feed (take room mid.ahead) ≡ None → room ≤ length mid.ahead
    → NoLineBy halt old before
no_line_within halt old mid before after room no_line reads is none buffered =
    elim (eqb_tells room (longest_line + 1)) [
      | inl long ↦ subst (λ (h : Halt). NoLineBy h old before) (sym (no_line.long long.1)) (long_line old mid before after room reads is long.1 none buffered)
      | inr full ↦ subst (λ (h : Halt). NoLineBy h old before) (sym (no_line.full full.1)) (no_more_lines old mid before after room reads is full.1 none buffered)
    ]

-- where no line ends, no call failed
pub no_line_tells : (halt : Halt) (room at before after : ℕ) (left : Option (List ℕ)) → IsNoLine halt room at → after ≡ before → HaltTells halt before after left
no_line_tells halt room at before after left no_line same =
    elim (eqb_tells room (longest_line + 1)) [
      | inl long ↦ subst (λ (h : Halt). HaltTells h before after left) (sym (no_line.long long.1)) same
      | inr full ↦ subst (λ (h : Halt). HaltTells h before after left) (sym (no_line.full full.1)) same
    ]
