-- The documents of commands, as they are taken.
use Rattle.std.proofs.Common.{◌≡◌, ℕ, ◌≤◌, List, [], Option, None, Some, refl, sym, ap, ◌∙◌, subst, arith}
use Rattle.nm_session.specs.Body.{body_of, body_spelt, stated}
use Rattle.nm_session.specs.Buffered.{Buffered}
use Rattle.nm_session.specs.Input.{GivesBody, GivesSpelling, Spells}
use Rattle.nm_session.specs.Limits.{longest_session}
use Rattle.nm_session.specs.Turn.{turn_with}
use Rattle.nm_session.specs.Turns.{TakesBody}
use Rattle.nm_session.specs.Word.{body_length, length_asked}
use Rattle.nm_session.specs.declared.body.Body.{Body}
use Rattle.nm_session.specs.declared.body.Body.TheVariants as body
use Rattle.nm_session.specs.declared.body.Spelling.{Spelling}
use Rattle.nm_session.specs.declared.body.Spelling.TheVariants.{Good, Bad}
use Rattle.nm_session.specs.declared.state.State.{State}
use Rattle.nm_session.specs.declared.state.State.TheVariants.{Empty, Store}
use Rattle.nm_session.specs.PlainWord.{PlainWord, Base, File, Revise, Redate, Withdraw, Assemble, Object, Timeline, Projects, Log, Summary, End}

-- a command without a document is answered whatever stands for one
same_without : (state : State) (word : PlainWord) (b c : Body) → length_asked word ≡ None → turn_with state word b ≡ turn_with state word c
same_without Empty (Base len) b c none = cc
same_without Empty (File day len) b c none = cc
same_without Empty (Revise project len) b c none = cc
same_without Empty (Redate project day) b c none = refl
same_without Empty (Withdraw project) b c none = refl
same_without Empty (Assemble day) b c none = refl
same_without Empty (Object day id) b c none = refl
same_without Empty (Timeline id) b c none = refl
same_without Empty Projects b c none = refl
same_without Empty Log b c none = refl
same_without Empty (Summary day) b c none = refl
same_without Empty End b c none = refl
same_without (Store kept) (Base len) b c none = cc
same_without (Store kept) (File day len) b c none = cc
same_without (Store kept) (Revise project len) b c none = cc
same_without (Store kept) (Redate project day) b c none = refl
same_without (Store kept) (Withdraw project) b c none = refl
same_without (Store kept) (Assemble day) b c none = refl
same_without (Store kept) (Object day id) b c none = refl
same_without (Store kept) (Timeline id) b c none = refl
same_without (Store kept) Projects b c none = refl
same_without (Store kept) Log b c none = refl
same_without (Store kept) (Summary day) b c none = refl
same_without (Store kept) End b c none = refl

no_bytes : (word : PlainWord) → length_asked word ≡ None → body_length word ≡ 0
no_bytes (Base len) none = cc
no_bytes (File day len) none = cc
no_bytes (Revise project len) none = cc
no_bytes (Redate project day) none = refl
no_bytes (Withdraw project) none = refl
no_bytes (Assemble day) none = refl
no_bytes (Object day id) none = refl
no_bytes (Timeline id) none = refl
no_bytes Projects none = refl
no_bytes Log none = refl
no_bytes (Summary day) none = refl
no_bytes End none = refl

or_zero : Option ℕ → ℕ
or_zero None = 0
or_zero (Some n) = n

asked_length : (word : PlainWord) (len : ℕ) → length_asked word ≡ Some len → body_length word ≡ len
unfolding or_zero
asked_length (Base n) len is = ap or_zero is
asked_length (File day n) len is = ap or_zero is
asked_length (Revise project n) len is = ap or_zero is
asked_length (Redate project day) len is = cc
asked_length (Withdraw project) len is = cc
asked_length (Assemble day) len is = cc
asked_length (Object day id) len is = cc
asked_length (Timeline id) len is = cc
asked_length Projects len is = cc
asked_length Log len is = cc
asked_length (Summary day) len is = cc
asked_length End len is = cc

nothing_given : (buffered : Buffered) (left : Option (List ℕ)) → buffered.given ≤ longest_session → GivesBody buffered buffered left left 0 []
nothing_given buffered None limit = record { size = refl; taken = tt; given = omega arith; limit = limit }
nothing_given buffered (Some bytes) limit = record { size = refl; taken = refl; given = omega arith; limit = limit }

pub takes_nothing : (word : PlainWord) (buffered : Buffered) (left : Option (List ℕ)) → length_asked word ≡ None → buffered.given ≤ longest_session
    → TakesBody word buffered buffered left left body.Absent
takes_nothing word buffered left none limit = record {
  bytes = [];
  given = subst (λ n. GivesBody buffered buffered left left n []) (sym (no_bytes word none)) (nothing_given buffered left limit);
  same = λ state. same_without state word body.Absent (body_of []) none;
}

-- the body that was read is that of its bytes
spelt_of : (spelling : Spelling) (bytes : List ℕ) → Spells spelling bytes → body_spelt spelling ≡ body_of bytes
spelt_of (Good document given) bytes spells = ap (body.Document document) spells.0 ∙ sym (ap (stated bytes) spells.1)
spelt_of (Bad fault) bytes spells = sym (ap (stated bytes) spells)

pub takes_spelling : (word : PlainWord) (old new : Buffered) (before after : Option (List ℕ)) (len : ℕ) (spelling : Spelling) (given : Body) → length_asked word ≡ Some len
    → GivesSpelling old new before after len spelling → given ≡ body_spelt spelling → TakesBody word old new before after given
takes_spelling word old new before after len spelling given is gives same = record {
  bytes = gives.bytes;
  given = subst (λ n. GivesBody old new before after n gives.bytes) (sym (asked_length word len is)) gives.body;
  same = λ state. ap (turn_with state word) (same ∙ spelt_of spelling gives.bytes gives.spells);
}
