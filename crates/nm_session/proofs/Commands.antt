-- Lemmas on the next command of a stream, from its line and its document.
use Rattle.std.proofs.Common.{◌≡◌, ℕ, ◌+◌, ◌-◌, ◌<◌, ◌≤◌, List, [], ◌∷◌, ◌++◌, Bool, Option, None, Some, IfSome, cond, length, take, drop, get_or, refl, sym, ap, ◌∙◌, subst, arith, append_assoc}
use Rattle.std.proofs.lemmas.List.{get_or-take, length-take, length-append, take-take, take_at, drop_at, drop-take, get_or_append_left, get_or-append_right}
use Rattle.std.proofs.lemmas.Bool.{le-leb, lt-leb}
use Rattle.std.specs.List.{position}
use Rattle.nm_session.specs.Turn.{turn_of}
use Rattle.nm_session.specs.Turns.{TakesCommand, TakesTurn, NoTurnBy}
use Rattle.nm_session.specs.Buffered.{Buffered}
use Rattle.nm_session.specs.Limits.{longest_line, longest_session}
use Rattle.nm_session.specs.Input.{coming, in_session, GivesLine, GivesBody, NoLineBy, NoBodyBy}
use Rattle.nm_session.specs.Stream.{Command, NotACommand, Short, by_line, by_word, command_with_body, next_in, is_line_feed, line_end}
use Rattle.nm_session.specs.Word.{word_of, body_length, is_end}
use Rattle.nm_session.specs.declared.halt.Halt.{Halt}
use Rattle.nm_session.specs.declared.halt.Halt.TheVariants.{BadLine, Cut, TooMuch, ReadFault, NoMemory}
use Rattle.nm_session.specs.declared.state.State.{State}
use Rattle.nm_session.specs.PlainWord.{PlainWord}
use Rattle.nm_session.proofs.LineFeeds.{none-each, some-at}

-- the front of a list was given, and what the session may take of the rest is what it might take behind it
session_rest : (front rest bytes : List ℕ) (given n : ℕ) → bytes ≡ front ++ rest → length front ≡ n → given + n ≤ longest_session
    → drop n (take (longest_session - given) bytes) ≡ take (longest_session - (given + n)) rest
session_rest front rest bytes given n e size limit =
    let sum : longest_session - given ≡ n + (longest_session - (given + n)) = omega arith in
    ap (λ m. drop n (take m bytes)) sum ∙ drop-take n (longest_session - (given + n)) bytes
    ∙ ap (take (longest_session - (given + n))) (ap (drop n) e ∙ drop_at front rest n size)

session_front : (front rest bytes : List ℕ) (given n : ℕ) → bytes ≡ front ++ rest → length front ≡ n → given + n ≤ longest_session
    → take n (take (longest_session - given) bytes) ≡ front
session_front front rest bytes given n e size limit =
    take-take n (longest_session - given) bytes (omega arith) ∙ ap (take n) e ∙ take_at front rest n size

-- a line and its line feed stand next
line_stands : (line rest bytes : List ℕ) (given : ℕ) → bytes ≡ line ++ 10 ∷ rest → length line ≤ longest_line → position is_line_feed line ≡ None → given + length line < longest_session
    → line_end (take (longest_session - given) bytes) ≡ Some (length line)
line_stands line rest bytes given e short whole limit =
    let n = length line in
    let session = take (longest_session - given) bytes in
    let within : n < length (take (longest_line + 1) session) =
    omega (arith, length-take (longest_line + 1) session, length-take (longest_session - given) bytes, ap length e, length-append line (10 ∷ rest)) in
    let at : (k : ℕ) → k ≤ n → get_or (take (longest_line + 1) session) k 0 ≡ get_or (line ++ 10 ∷ rest) k 0 = λ k h.
    get_or-take (longest_line + 1) session k 0 (omega arith) ∙ get_or-take (longest_session - given) bytes k 0 (omega arith) ∙ ap (λ l. get_or l k 0) e in
    let nothing : n - n ≡ 0 = omega arith in
    let feed : get_or (take (longest_line + 1) session) n 0 ≡ 10 =
    at n (omega arith) ∙ get_or-append_right line (10 ∷ rest) n n 0 refl (omega arith) ∙ ap (λ i. get_or (10 ∷ rest) i 0) nothing in
    some-at is_line_feed (take (longest_line + 1) session) n within (ap is_line_feed feed)
    (λ k h. ap is_line_feed (at k (omega arith) ∙ get_or_append_left line (10 ∷ rest) 0 k h) ∙ none-each is_line_feed line whole k h)

-- what stands next, once its line was given
pub next_by_line : (state : State) (line rest bytes : List ℕ) (given : ℕ) → bytes ≡ (line ++ 10 ∷ []) ++ rest → length line ≤ longest_line → position is_line_feed line ≡ None → given + length line + 1 ≤ longest_session
    → next_in state (take (longest_session - given) bytes) ≡ by_word state (word_of line) (take (longest_session - (given + (length line + 1))) rest)
next_by_line state line rest bytes given e short whole limit =
    let session = take (longest_session - given) bytes in
    let split : bytes ≡ line ++ 10 ∷ rest = e ∙ append_assoc line (10 ∷ []) rest in
    let feed = line_stands line rest bytes given split short whole (omega arith) in
    let front = session_front line (10 ∷ rest) bytes given (length line) split refl (omega arith) in
    let behind = session_rest (line ++ 10 ∷ []) rest bytes given (length line + 1) e (length-append line (10 ∷ [])) (omega arith) in
    ap (λ o. by_line state o session) feed
    ∙ ap (λ l. by_word state (word_of l) (drop (length line + 1) session)) front
    ∙ ap (by_word state (word_of line)) behind

-- the same over an input
next_is : (state : State) (old mid : Buffered) (line xs ys : List ℕ) → xs ≡ (line ++ 10 ∷ []) ++ ys → length line ≤ longest_line → position is_line_feed line ≡ None
    → mid.given ≡ old.given + length line + 1 → mid.given ≤ longest_session
    → next_in state (in_session old xs) ≡ by_word state (word_of line) (in_session mid ys)
next_is state old mid line xs ys e short whole given limit =
    let behind : old.given + (length line + 1) ≡ mid.given = omega arith in
    next_by_line state line ys xs old.given e short whole (omega arith)
    ∙ ap (λ n. by_word state (word_of line) (take (longest_session - n) ys)) behind

-- no line was given
pub no_line : (state : State) (buffered : Buffered) (left : Option (List ℕ)) (halt : Halt) → NoLineBy halt buffered left
    → IfSome (coming buffered left) (λ bytes. NoTurnBy halt state buffered bytes)
no_line state buffered None halt why = tt
no_line state buffered (Some xs) (BadLine at) why =
    let session = in_session buffered (buffered.ahead ++ xs) in (
      why.0,
      ap (λ o. by_line state o session) why.1.none ∙ ap (λ b. cond b Short NotACommand) (lt-leb (length session) longest_line why.1.long),
    )
no_line state buffered (Some xs) Cut why =
    let session = in_session buffered (buffered.ahead ++ xs) in
    (ap (λ o. by_line state o session) why.0.none ∙ ap (λ b. cond b Short NotACommand) (le-leb (length session) longest_line why.0.short), why.1)
no_line state buffered (Some xs) TooMuch why =
    let session = in_session buffered (buffered.ahead ++ xs) in
    (ap (λ o. by_line state o session) why.0.none ∙ ap (λ b. cond b Short NotACommand) (le-leb (length session) longest_line why.0.short), why.1)
no_line state buffered (Some xs) ReadFault why = tt
no_line state buffered (Some xs) NoMemory why = tt

-- a line that is no command here
pub bad_word : (state : State) (old mid : Buffered) (before after : Option (List ℕ)) (line : List ℕ) (halt : Halt) (at : ℕ) → GivesLine old mid before after line → at ≡ old.given
    → halt ≡ BadLine at → ((bytes : List ℕ) → by_word state (word_of line) bytes ≡ NotACommand)
    → IfSome (coming old before) (λ bytes. NoTurnBy halt state old bytes)
bad_word state old mid None after line halt at gives here is bad = tt
bad_word state old mid (Some xs) None line halt at gives here is bad = absurd gives.taken
bad_word state old mid (Some xs) (Some ys) line halt at gives here is bad =
    subst (λ (h : Halt). NoTurnBy h state old (old.ahead ++ xs)) (sym is)
    (here, next_is state old mid line _ _ gives.taken gives.short gives.whole gives.given gives.limit ∙ bad _)

short_of : (word : PlainWord) (bytes : List ℕ) → length bytes < body_length word → command_with_body word bytes ≡ Short
short_of word bytes h = ap (λ b. cond b (Command word (take (body_length word) bytes) (drop (body_length word) bytes)) Short) (lt-leb (body_length word) (length bytes) h)

pub whole_of : (word : PlainWord) (bytes : List ℕ) → body_length word ≤ length bytes → command_with_body word bytes ≡ Command word (take (body_length word) bytes) (drop (body_length word) bytes)
whole_of word bytes h = ap (λ b. cond b (Command word (take (body_length word) bytes) (drop (body_length word) bytes)) Short) (le-leb (body_length word) (length bytes) h)

line_size : (line xs ys : List ℕ) → xs ≡ (line ++ 10 ∷ []) ++ ys → length xs ≡ length line + 1 + length ys
line_size line xs ys e = ap length e ∙ length-append (line ++ 10 ∷ []) ys ∙ ap (λ n. n + length ys) (length-append line (10 ∷ []))

-- a document that does not stand whole behind its line
pub no_body : (state : State) (old mid : Buffered) (before after : Option (List ℕ)) (line : List ℕ) (word : PlainWord) (halt : Halt) (len : ℕ) → GivesLine old mid before after line
    → ((bytes : List ℕ) → by_word state (word_of line) bytes ≡ command_with_body word bytes) → len ≡ body_length word → NoBodyBy halt len mid after
    → IfSome (coming old before) (λ bytes. NoTurnBy halt state old bytes)
no_body state old mid None after line word halt len gives by is why = tt
no_body state old mid (Some xs) None line word halt len gives by is why = absurd gives.taken
no_body state old mid (Some xs) (Some ys) line word Cut len gives by is why =
    let size = line_size line (old.ahead ++ xs) (mid.ahead ++ ys) gives.taken in (
      next_is state old mid line _ _ gives.taken gives.short gives.whole gives.given gives.limit ∙ by _ ∙ short_of word (in_session mid (mid.ahead ++ ys)) (omega (arith, why.0)),
      omega (arith, why.1, gives.given),
    )
no_body state old mid (Some xs) (Some ys) line word TooMuch len gives by is why =
    let size = line_size line (old.ahead ++ xs) (mid.ahead ++ ys) gives.taken in (
      next_is state old mid line _ _ gives.taken gives.short gives.whole gives.given gives.limit ∙ by _ ∙ short_of word (in_session mid (mid.ahead ++ ys)) (omega (arith, why.0)),
      omega (arith, why.1, gives.given),
    )
no_body state old mid (Some xs) (Some ys) line word ReadFault len gives by is why = tt
no_body state old mid (Some xs) (Some ys) line word NoMemory len gives by is why = tt
no_body state old mid (Some xs) (Some ys) line word (BadLine at) len gives by is why = absurd why

-- a whole command
pub takes_command : (state : State) (old mid new : Buffered) (before between after : Option (List ℕ)) (line body : List ℕ) (word : PlainWord) (len : ℕ) → GivesLine old mid before between line
    → ((bytes : List ℕ) → by_word state (word_of line) bytes ≡ command_with_body word bytes) → len ≡ body_length word → GivesBody mid new between after len body
    → IfSome (coming old before) (λ bytes. TakesCommand state old new bytes after word body)
takes_command state old mid new None between after line body word len gives by is whole = tt
takes_command state old mid new (Some xs) None after line body word len gives by is whole = absurd gives.taken
takes_command state old mid new (Some xs) (Some ys) None line body word len gives by is whole = absurd whole.taken
takes_command state old mid new (Some xs) (Some ys) (Some zs) line body word len gives by is whole =
    let behind = mid.ahead ++ ys in
    let rest = new.ahead ++ zs in
    let size = line_size line (old.ahead ++ xs) behind gives.taken in
    let more : length behind ≡ length body + length rest = ap length whole.taken ∙ length-append body rest in
    let n : length body ≡ body_length word = whole.size ∙ is in
    let limit : mid.given + body_length word ≤ longest_session = omega (arith, whole.given, whole.limit) in
    let last : mid.given + body_length word ≡ new.given = omega (arith, whole.given) in
    let session = in_session mid behind in
    let fits : body_length word ≤ length session = omega (arith, length-take (longest_session - mid.given) behind) in
    let front : take (body_length word) session ≡ body = session_front body rest behind mid.given (body_length word) whole.taken n limit in
    let left : drop (body_length word) session ≡ in_session new rest =
    session_rest body rest behind mid.given (body_length word) whole.taken n limit ∙ ap (λ k. take (longest_session - k) rest) last in
    record {
      rest = rest;
      known = refl;
      size = omega (arith, gives.given, whole.given, whole.size);
      next = next_is state old mid line _ _ gives.taken gives.short gives.whole gives.given gives.limit ∙ by session ∙ whole_of word session fits
          ∙ ap (λ l. Command word l (drop (body_length word) session)) front ∙ ap (Command word body) left;
    }

pub same_line : (old mid : Buffered) (before after : Option (List ℕ)) (seen line : List ℕ) → seen ≡ line → GivesLine old mid before after line → GivesLine old mid before after seen
same_line old mid before after seen line e gives = subst (GivesLine old mid before after) (sym e) gives

-- .. and answered
pub takes_turn : (before after : State) (old new : Buffered) (known left : Option (List ℕ)) (word : PlainWord) (body reply : List ℕ) (is_last : Bool)
    → IfSome known (λ bytes. TakesCommand before old new bytes left word body) → after ≡ (turn_of before word body).state → reply ≡ (turn_of before word body).reply → is_last ≡ is_end word
    → IfSome known (λ bytes. TakesTurn before after old new bytes left reply is_last)
takes_turn before after old new None left word body reply is_last taken state replied last = tt
takes_turn before after old new (Some bytes) left word body reply is_last taken state replied last =
    record { word = word; body = body; taken = taken; state = state; replied = replied; last = last }
