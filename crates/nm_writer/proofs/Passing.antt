-- Bytes that are given to a sink part by part.
use Rattle.std.proofs.Common.{◌≡◌, ◌∙◌, ℕ, ◌+◌, ◌<◌, List, [], ◌++◌, length, take, drop, Option, Result, Ok, Err, OnErr, refl, sym, ap, subst, arith, append_assoc, append-nil, length-append, length-drop, take-append-drop}
use Rattle.std.proofs.KnownBytes.{Appends-nil, Appends-trans}
use Rattle.std.proofs.Math.Seq.{take-append_seam}
use Rattle.std.specs.Io.KnownBytes.{Appends}
use Rattle.nm_base.specs.Written.{AppendsFront}
use Rattle.nm_writer.specs.Passing.{Leaves, LeavesSome}

pub on_err : {T E : Type 0} (r : Result T E) (P : Type 0) → P → OnErr r P
on_err (Ok value) P p = tt
on_err (Err error) P p = p

pub nothing_given : (a : Option (List ℕ)) (bytes : List ℕ) → Leaves a a bytes bytes
nothing_given a bytes = record { given = []; appended = Appends-nil a; whole = refl }

pub and_then : (a b c : Option (List ℕ)) (bytes middle left : List ℕ) → Leaves a b bytes middle → Leaves b c middle left → Leaves a c bytes left
and_then a b c bytes middle left first second = record {
  given = first.given ++ second.given;
  appended = Appends-trans a b c first.given second.given first.appended second.appended;
  whole = append_assoc first.given second.given left ∙ ap (λ (bytes : List ℕ). first.given ++ bytes) second.whole ∙ first.whole;
}

pub with_more : (a b : Option (List ℕ)) (bytes left more : List ℕ) → Leaves a b bytes left → Leaves a b (bytes ++ more) (left ++ more)
with_more a b bytes left more some = record {
  given = some.given;
  appended = some.appended;
  whole = sym (append_assoc some.given left more) ∙ ap (λ (bytes : List ℕ). bytes ++ more) some.whole;
}

pub some_given : (a b : Option (List ℕ)) (bytes : List ℕ) → AppendsFront a b bytes → LeavesSome a b bytes
some_given a b bytes front = (drop front.0 bytes, record { given = take front.0 bytes; appended = front.2; whole = take-append-drop front.0 bytes })

pub all_given : (a b : Option (List ℕ)) (bytes : List ℕ) → Leaves a b bytes [] → Appends a b bytes
all_given a b bytes some = subst (Appends a b) (sym (append-nil some.given) ∙ some.whole) some.appended

-- not all of the bytes were given
pub not_all : (a b : Option (List ℕ)) (bytes left : List ℕ) → Leaves a b bytes left → 0 < length left → AppendsFront a b bytes
not_all a b bytes left some more =
    let size : length some.given + length left ≡ length bytes = sym (length-append some.given left) ∙ ap length some.whole in
    let front : some.given ≡ take (length some.given) bytes =
    sym (take-append_seam some.given left) ∙ ap (take (length some.given)) some.whole in
    (length some.given, omega arith, subst (Appends a b) front some.appended)

pub last_given : (a b c : Option (List ℕ)) (bytes left : List ℕ) → Leaves a b bytes left → AppendsFront b c left → AppendsFront a c bytes
last_given a b c bytes left some front =
    let rest : Leaves b c left (drop front.0 left) = record { given = take front.0 left; appended = front.2; whole = take-append-drop front.0 left } in
    not_all a c bytes (drop front.0 left) (and_then a b c bytes left (drop front.0 left) some rest) (omega (arith, length-drop front.0 left, front.1))

pub last_whole : (a b c : Option (List ℕ)) (bytes left : List ℕ) → Leaves a b bytes left → Appends b c left → Appends a c bytes
last_whole a b c bytes left some last = subst (Appends a c) some.whole (Appends-trans a b c some.given left some.appended last)

-- ---- one part behind another

pub next_part : (a b c : Option (List ℕ)) (bytes left more rest : List ℕ) → Leaves a b bytes left → Leaves b c (left ++ more) rest → Leaves a c (bytes ++ more) rest
next_part a b c bytes left more rest some next = and_then a b c (bytes ++ more) (left ++ more) rest (with_more a b bytes left more some) next

pub next_some : (a b c : Option (List ℕ)) (bytes left more : List ℕ) → Leaves a b bytes left → LeavesSome b c (left ++ more) → LeavesSome a c (bytes ++ more)
next_some a b c bytes left more some next = (next.0, next_part a b c bytes left more next.0 some next.1)

pub some_with_more : (a b : Option (List ℕ)) (bytes more : List ℕ) → LeavesSome a b bytes → LeavesSome a b (bytes ++ more)
some_with_more a b bytes more some = (some.0 ++ more, with_more a b bytes some.0 more some.1)

-- some of what the block holds was given, before the rest
pub block_passed : (a b c : Option (List ℕ)) (bytes before block rest left : List ℕ) → Leaves a b bytes before → block ++ rest ≡ before → Leaves b c block left → Leaves a c bytes (left ++ rest)
block_passed a b c bytes before block rest left some is passed =
    and_then a b c bytes before (left ++ rest) some (subst (λ (whole : List ℕ). Leaves b c whole (left ++ rest)) is (with_more b c block left rest passed))

pub block_passed_some : (a b c : Option (List ℕ)) (bytes before block rest : List ℕ) → Leaves a b bytes before → block ++ rest ≡ before → LeavesSome b c block → LeavesSome a c bytes
block_passed_some a b c bytes before block rest some is passed = (passed.0 ++ rest, block_passed a b c bytes before block rest passed.0 some is passed.1)

-- what was given is some of the bytes, since more stand behind
pub not_all_with_more : (a b : Option (List ℕ)) (bytes more : List ℕ) → LeavesSome a b bytes → 0 < length more → AppendsFront a b (bytes ++ more)
not_all_with_more a b bytes more some is =
    not_all a b (bytes ++ more) (some.0 ++ more) (with_more a b bytes some.0 more some.1) (omega (arith, length-append some.0 more))
