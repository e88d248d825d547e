-- A withdrawal that is accepted, and two runs of commands side by side: one begins with a project that is filed, and the
-- other has none of the commands that name it.
use Rattle.std.proofs.Common.{◌≡◌, ◌≢◌, ◌∙◌, ℕ, ◌+◌, ◌<◌, ◌≤◌, ◌==◌, List, [], ◌∷◌, ◌++◌, length, map, Bool, true, false, not, ◌||◌, cond, nat_le, if◌then◌else◌, Option, None, Some, Ok, refl, sym, ap, subst, arith}
use Rattle.std.proofs.lemmas.Bool.{eqb-true}
use Rattle.std.proofs.lemmas.Bool.Decides.{nat_tests}
use Rattle.std.proofs.lemmas.List.{append-nil}
use Rattle.std.proofs.lemmas.List.Elements.{filter-append, recursion_from_All}
use Rattle.std.proofs.lemmas.List.Folds.{find-append}
use Rattle.std.specs.List.{AllByRecursion}
use Rattle.std.specs.Option.{option_map, option_or}
use Rattle.std.specs.Prelude.{slice_index}
use Rattle.nm_ident.proofs.Rising.{all_append, all_weaker}
use Rattle.nm_model.specs.declared.document.Difference.{Difference}
use Rattle.nm_model.specs.declared.document.Document.{Document}
use Rattle.nm_model.specs.declared.document.Document.TheVariants as document
use Rattle.nm_stage.proofs.Lives.{without-live}
use Rattle.nm_stage.specs.Live.{IsLive, holds, project_of, with_project, without_filing}
use Rattle.nm_stage.specs.Project.{PlainProject, has_id, id_of}
use Rattle.nm_version.proofs.Commits.{IsAllowed, not_held}
use Rattle.nm_version.proofs.Filings.{UpTo, are_numbers, changed, filed_projects_come_last, last_of_all, of_found}
use Rattle.nm_version.proofs.Reached as reached
use Rattle.nm_version.proofs.Reached.{AllAccepted, after_accepted, all_accepted, is_allowed, one_more, stays_live}
use Rattle.nm_version.proofs.Unnumbered.{filing_numbers_stay_inside}
use Rattle.nm_version.specs.After.{IsReached, accepted, after, after_all, commit_of, result_of}
use Rattle.nm_version.specs.Changed.{live_after, live_redated, live_revised, live_withdrawn, project_filed, project_redated, project_revised}
use Rattle.nm_version.specs.Command.{project_named}
use Rattle.nm_version.specs.Kept.{Kept, number_of}
use Rattle.nm_version.specs.Laws.{unnumbered}
use Rattle.nm_version.specs.Refusal.{refusal_of, unknown_of}
use Rattle.nm_version.specs.Withdrawal.{WithdrawalsTakeAway, WithdrawnAsIfNotFiled, names, others_than}
use Rattle.nm_version.specs.declared.command.Command.{Command}
use Rattle.nm_version.specs.declared.command.Command.TheVariants.{File, Revise, Redate, Withdraw}
use Rattle.nm_version.specs.declared.refusal.Refusal.{Refusal}
use Rattle.nm_version.proofs.Beside.{Beside, IsOwn, TellsApart, beside_changed, beside_filed, beside_replaced, beside_withdrawn, found_in_both, found_passes, moved, moved_is, same_is}

-- ---- a withdrawal

-- what is kept after a command that is accepted
record IsAccepted (before after : Kept) (command : Command) : Type 0 where
  free : refusal_of before command ≡ None
  same : after ≡ accepted before command

is_accepted : (before after : Kept) (command : Command) → commit_of before command ≡ Ok after → IsAccepted before after command
is_accepted before after command e = by (refusal_of before command) refl e
  where
    by : (refused : Option Refusal) → refusal_of before command ≡ refused → result_of refused (accepted before command) ≡ Ok after → IsAccepted before after command
    by None free e = record { free = free; same = let same = e in cc }
    by (Some refusal) free e = absurd (let wrong = e in cc)

was_known : (id : ℕ) (found : Option PlainProject) → unknown_of id found ≡ None → (project : PlainProject) × (found ≡ Some project)
was_known id None e = absurd (let wrong = e in cc)
was_known id (Some project) e = (project, refl)

pub withdrawals_take_away : WithdrawalsTakeAway
withdrawals_take_away before after id e =
    let was = is_accepted before after (Withdraw id) e in
    let known = was_known id (project_of id before.live) (is_allowed before (Withdraw id) was.free).unknown in (
      known.0,
      known.1,
      record {
        base = ap (λ (k : Kept). k.base) was.same;
        bytes = ap (λ (k : Kept). k.bytes) was.same;
        live = ap (λ (k : Kept). k.live) was.same ∙ ap (λ found. live_withdrawn found before.live) known.1;
      },
    )

-- ---- what is not there

neither : (a b : Bool) → (a || b) ≡ false → (a ≡ false) × (b ≡ false)
neither true b e = absurd (let wrong = e in cc)
neither false b e = (refl, e)

first_not : (lineage : List ℕ) (id : ℕ) → 0 < length lineage → has_id lineage id ≡ false → (slice_index lineage 0 == id) ≡ false
first_not [] id some free = absurd (omega arith)
first_not (first ∷ others) id some free = other first id (neither (id == first) (has_id others id) free).0
  where
    other : (a b : ℕ) → (b == a) ≡ false → (a == b) ≡ false
    other a b e = grind (arith, nat_tests)

abbrev HaveLineages : List PlainProject → Type 0
HaveLineages live = AllByRecursion (λ project. 0 < length project.lineage) live

have_lineages : (live : List PlainProject) → IsLive live → HaveLineages live
have_lineages live is = recursion_from_All (λ project. 0 < length project.lineage) live is.lineages

not_found : (id : ℕ) (live : List PlainProject) → HaveLineages live → holds live id ≡ false → project_of id live ≡ None
not_found id [] some free = refl
not_found id (project ∷ others) some free =
    let parts = neither (has_id project.lineage id) (holds others id) free in
    λ i. cond (first_not project.lineage id some.0 parts.0 i) (Some project) (not_found id others some.1 parts.1 i)

first_stays : (lineage : List ℕ) (id : ℕ) → 0 < length lineage → slice_index (lineage ++ id ∷ []) 0 ≡ slice_index lineage 0
first_stays [] id some = absurd (omega arith)
first_stays (first ∷ others) id some = refl

-- ---- one command

-- two states, of which one has a project more; the numbers of its others are told by `f`
record Apart (id place : ℕ) (f : ℕ → ℕ) (project : PlainProject) (a b : Kept) : Type 0 where
  base : a.base ≡ b.base
  tells : TellsApart f
  later : (n : ℕ) → number_of b < n → f n + number_of b ≡ n + number_of a
  late : place ≤ number_of a
  beside : Beside f id place project a.live b.live
  numbers : UpTo (number_of a) a.live
  numbers_too : UpTo (number_of b) b.live
  live : IsLive a.live
  live_too : IsLive b.live

module _ (id place : ℕ) (f : ℕ → ℕ) (project : PlainProject) (a b : Kept) (r : Apart id place f project a b) where
  filed_beside : (day : List ℕ) (model : Document) (bytes : List ℕ) → IsAllowed a (File day model bytes) → Beside f id place project (live_after a (File day model bytes)) (live_after b (File day model bytes))
  filed_beside day (document.Full full) bytes allowed = r.beside
  filed_beside day (document.Difference difference) bytes allowed =
      let new = project_filed (number_of a + 1) day difference in
      let old = project_filed (number_of b + 1) day difference in
      let first : live_after a (File day (document.Difference difference) bytes) ≡ a.live ++ new ∷ [] =
      last_of_all new a.live (all_weaker (λ one. one.filing ≤ number_of a) (λ one. one.filing < number_of a + 1) (λ one h. omega arith) a.live r.numbers) in
      let second : live_after b (File day (document.Difference difference) bytes) ≡ b.live ++ old ∷ [] =
      last_of_all old b.live (all_weaker (λ one. one.filing ≤ number_of b) (λ one. one.filing < number_of b + 1) (λ one h. omega arith) b.live r.numbers_too) in
      let next : f (number_of b + 1) + number_of b ≡ number_of b + 1 + number_of a = r.later (number_of b + 1) (omega arith) in
      let number : number_of a + 1 ≡ f (number_of b + 1) = omega (arith, next) in
      let same : new ≡ moved f old = (λ i. project_filed (number i) day difference) ∙ sym (moved_is f old) in
      let other : difference.header.id ≢ id = λ h.
      let gone = not_found id a.live (have_lineages a.live r.live) (ap (holds a.live) (sym h) ∙ not_held a difference.header.id allowed.unused) in
      let there = r.beside.there in
      cc in
      subst (λ xs. Beside f id place project xs (live_after b (File day (document.Difference difference) bytes))) (sym first)
      (subst (λ ys. Beside f id place project (a.live ++ new ∷ []) ys) (sym second)
      (beside_filed f r.tells id place project a.live b.live r.beside new old same (λ h. omega (arith, h, r.late)) other))

  module _ (asked : ℕ) (other : asked ≢ id) where
    in_first : (found : Option PlainProject) → project_of asked b.live ≡ found → project_of asked a.live ≡ option_map (moved f) found
    in_first found e = found_in_both f r.tells id place project a.live b.live r.beside asked other ∙ ap (option_map (moved f)) e

    replaced : (new found : PlainProject) → project_of asked b.live ≡ Some found → new.filing ≡ found.filing → id_of new ≡ id_of found
        → Beside f id place project (with_project (moved f new) a.live) (with_project new b.live)
    replaced new found e number name = beside_replaced f r.tells id place project a.live b.live r.beside asked other found e new number name r.live.rising r.live_too.rising

    revised_beside : (model : Document) (found : Option PlainProject) → project_of asked b.live ≡ found
        → Beside f id place project (live_revised model (option_map (moved f) found) a.live) (live_revised model found b.live)
    revised_beside model None e = r.beside
    revised_beside (document.Full full) (Some found) e = r.beside
    revised_beside (document.Difference difference) (Some found) e =
        let new = project_revised difference found in
        let some = of_found (λ one. 0 < length one.lineage) (λ one. id_of one == asked) b.live found (have_lineages b.live r.live_too) e in
        let same : moved f new ≡ project_revised difference (moved f found) = moved_is f new ∙ ap (project_revised difference) (sym (moved_is f found)) in
        subst (λ (p : PlainProject). Beside f id place project (with_project p a.live) (with_project new b.live)) same
        (replaced new found e refl (first_stays found.lineage difference.header.id some))

    redated_beside : (day : List ℕ) (found : Option PlainProject) → project_of asked b.live ≡ found
        → Beside f id place project (live_redated day (option_map (moved f) found) a.live) (live_redated day found b.live)
    redated_beside day None e = r.beside
    redated_beside day (Some found) e =
        let new = project_redated day found in
        let same : moved f new ≡ project_redated day (moved f found) = moved_is f new ∙ ap (project_redated day) (sym (moved_is f found)) in
        subst (λ (p : PlainProject). Beside f id place project (with_project p a.live) (with_project new b.live)) same
        (replaced new found e refl refl)

    withdrawn_beside : (found : Option PlainProject) → project_of asked b.live ≡ found
        → Beside f id place project (live_withdrawn (option_map (moved f) found) a.live) (live_withdrawn found b.live)
    withdrawn_beside None e = r.beside
    withdrawn_beside (Some found) e = beside_withdrawn f r.tells id place project a.live b.live r.beside asked other found e

  stays_beside : (command : Command) → project_named command ≢ Some id → IsAllowed a command → Beside f id place project (live_after a command) (live_after b command)
  stays_beside (File day model bytes) other allowed = filed_beside day model bytes allowed
  stays_beside (Revise asked model bytes) other allowed =
      let apart : asked ≢ id = λ e. other (ap Some e) in
      subst (λ found. Beside f id place project (live_revised model found a.live) (live_revised model (project_of asked b.live) b.live)) (sym (in_first asked apart (project_of asked b.live) refl))
      (revised_beside asked apart model (project_of asked b.live) refl)
  stays_beside (Redate asked day) other allowed =
      let apart : asked ≢ id = λ e. other (ap Some e) in
      subst (λ found. Beside f id place project (live_redated day found a.live) (live_redated day (project_of asked b.live) b.live)) (sym (in_first asked apart (project_of asked b.live) refl))
      (redated_beside asked apart day (project_of asked b.live) refl)
  stays_beside (Withdraw asked) other allowed =
      let apart : asked ≢ id = λ e. other (ap Some e) in
      subst (λ found. Beside f id place project (live_withdrawn found a.live) (live_withdrawn (project_of asked b.live) b.live)) (sym (in_first asked apart (project_of asked b.live) refl))
      (withdrawn_beside asked apart (project_of asked b.live) refl)

  -- a command of both
  stays_apart : (command : Command) → project_named command ≢ Some id → refusal_of a command ≡ None → refusal_of b command ≡ None → Apart id place f project (accepted a command) (accepted b command)
  stays_apart command other free free_too = record {
    base = r.base;
    tells = r.tells;
    later = λ n h. let was : f n + number_of b ≡ n + number_of a = r.later n (omega (arith, one_more b command)) in omega (arith, was, one_more a command, one_more b command);
    late = omega (arith, one_more a command, r.late);
    beside = stays_beside command other (is_allowed a command free);
    numbers = subst (λ n. UpTo n (live_after a command)) (sym (one_more a command)) (changed a command r.numbers);
    numbers_too = subst (λ n. UpTo n (live_after b command)) (sym (one_more b command)) (changed b command r.numbers_too);
    live = stays_live a command r.live (is_allowed a command free);
    live_too = stays_live b command r.live_too (is_allowed b command free_too);
  }

-- ---- a command of one alone

-- the numbers that come later move on
further : ℕ → (ℕ → ℕ) → ℕ → ℕ
further last f n = if nat_le n last then f n else f n + 1

abbrev further_by : Bool → (ℕ → ℕ) → ℕ → ℕ
further_by early f n = if early then f n else f n + 1

further_is : (last : ℕ) (f : ℕ → ℕ) (n : ℕ) (early : Bool) → nat_le n last ≡ early → further last f n ≡ further_by early f n
unfolding further
further_is last f n early e = ap (λ b. further_by b f n) e

further_early : (last : ℕ) (f : ℕ → ℕ) (n : ℕ) → n ≤ last → further last f n ≡ f n
further_early last f n h = further_is last f n true (grind (arith, nat_tests))

further_late : (last : ℕ) (f : ℕ → ℕ) (n : ℕ) → last < n → further last f n ≡ f n + 1
further_late last f n h = further_is last f n false (grind (arith, nat_tests))

-- an early number is not one that a later one moves to
not_mixed : (last k : ℕ) (f : ℕ → ℕ) → TellsApart f → ((n : ℕ) → last < n → f n + last ≡ n + k) → (m n : ℕ) → m ≤ last → last < n → f m ≢ f n + 1
not_mixed last k f tells later m n early late e =
    let here : f n + last ≡ n + k = later n late in
    let next : f (n + 1) + last ≡ n + 1 + k = later (n + 1) (omega arith) in
    let same : m ≡ n + 1 = tells m (n + 1) (omega (arith, here, next, e)) in
    omega (arith, same)

further_tells : (last k : ℕ) (f : ℕ → ℕ) → TellsApart f → ((n : ℕ) → last < n → f n + last ≡ n + k) → TellsApart (further last f)
further_tells last k f tells later m n e = by (nat_le m last) refl (nat_le n last) refl
  where
    is_early : (n : ℕ) → nat_le n last ≡ true → n ≤ last
    is_early n h = grind (arith, nat_tests)

    is_late : (n : ℕ) → nat_le n last ≡ false → last < n
    is_late n h = grind (arith, nat_tests)

    by : (x : Bool) → nat_le m last ≡ x → (y : Bool) → nat_le n last ≡ y → m ≡ n
    by true p true q = tells m n (sym (further_is last f m true p) ∙ e ∙ further_is last f n true q)
    by false p false q =
        let same : f m + 1 ≡ f n + 1 = sym (further_is last f m false p) ∙ e ∙ further_is last f n false q in
        tells m n (omega (arith, same))
    by true p false q = absurd (not_mixed last k f tells later m n (is_early m p) (is_late n q) (sym (further_is last f m true p) ∙ e ∙ further_is last f n false q))
    by false p true q = absurd (not_mixed last k f tells later n m (is_early n q) (is_late m p) (sym (further_is last f n true q) ∙ sym e ∙ further_is last f m false p))

further_moves : (last : ℕ) (f : ℕ → ℕ) (ys : List PlainProject) → UpTo last ys → map (moved f) ys ≡ map (moved (further last f)) ys
further_moves last f [] few = refl
further_moves last f (y ∷ ys) few =
    let early = further_early last f y.filing few.0 in
    λ i. (moved_is f y ∙ (λ j. record y { filing = sym early j }) ∙ sym (moved_is (further last f) y)) i ∷ further_moves last f ys few.1 i

module _ (id place : ℕ) (f : ℕ → ℕ) (project : PlainProject) (a b : Kept) (r : Apart id place f project a b) where
  -- a command that names the project and does not take it away
  abbrev Changes : Command → Type 0
  Changes command = (new : PlainProject) × Beside f id place new (live_after a command) b.live

  is_changed : (new : PlainProject) → new.filing ≡ project.filing → id_of new ≡ id_of project → Beside f id place new (with_project new a.live) b.live
  is_changed new number name = beside_changed f r.tells id place project a.live b.live r.beside new number name r.live.rising

  revised_alone : (model : Document) → (new : PlainProject) × Beside f id place new (live_revised model (Some project) a.live) b.live
  revised_alone (document.Full full) = (project, r.beside)
  revised_alone (document.Difference difference) =
      let some = of_found (λ one. 0 < length one.lineage) (λ one. id_of one == id) a.live project (have_lineages a.live r.live) r.beside.there in
      (project_revised difference project, is_changed (project_revised difference project) refl (first_stays project.lineage difference.header.id some))

  changes : (command : Command) → project_named command ≡ Some id → command ≢ Withdraw id → Changes command
  changes (File day model bytes) named stays = absurd (let wrong = named in cc)
  changes (Revise asked model bytes) named stays =
      let same : asked ≡ id = let here = named in cc in
      subst (λ found. (new : PlainProject) × Beside f id place new (live_revised model found a.live) b.live) (sym (ap (λ n. project_of n a.live) same ∙ r.beside.there)) (revised_alone model)
  changes (Redate asked day) named stays =
      let same : asked ≡ id = let here = named in cc in
      subst (λ found. (new : PlainProject) × Beside f id place new (live_redated day found a.live) b.live) (sym (ap (λ n. project_of n a.live) same ∙ r.beside.there))
      (project_redated day project, is_changed (project_redated day project) refl refl)
  changes (Withdraw asked) named stays = absurd (stays (ap Withdraw (let here = named in cc)))

  changes_alone : (command : Command) → refusal_of a command ≡ None → (c : Changes command) → Apart id place (further (number_of b) f) c.0 (accepted a command) b
  changes_alone command free c = record {
    base = r.base;
    tells = further_tells (number_of b) (number_of a) f r.tells r.later;
    later = λ n h. let was : f n + number_of b ≡ n + number_of a = r.later n h in omega (arith, was, further_late (number_of b) f n h, one_more a command);
    late = omega (arith, one_more a command, r.late);
    beside = record { own = c.1.own; there = c.1.there; others = c.1.others ∙ further_moves (number_of b) f b.live r.numbers_too };
    numbers = subst (λ n. UpTo n (live_after a command)) (sym (one_more a command)) (changed a command r.numbers);
    numbers_too = r.numbers_too;
    live = stays_live a command r.live (is_allowed a command free);
    live_too = r.live_too;
  }

-- ---- more of them

-- two states of which one has a project more
record OneMore (id place : ℕ) (a b : Kept) : Type 0 where
  f : ℕ → ℕ
  project : PlainProject
  apart : Apart id place f project a b

named_is : (id : ℕ) (command : Command) → names id command ≡ true → project_named command ≡ Some id
named_is id (File day model bytes) e = absurd (let wrong = e in cc)
named_is id (Revise asked model bytes) e = ap Some (eqb-true asked id e)
named_is id (Redate asked day) e = ap Some (eqb-true asked id e)
named_is id (Withdraw asked) e = ap Some (eqb-true asked id e)

not_named : (id : ℕ) (command : Command) → names id command ≡ false → project_named command ≢ Some id
not_named id (File day model bytes) e h = let wrong = h in cc
not_named id (Revise asked model bytes) e h = let same : asked ≡ id = (let here = h in cc) in let wrong = sym e ∙ same_is asked id same in cc
not_named id (Redate asked day) e h = let same : asked ≡ id = (let here = h in cc) in let wrong = sym e ∙ same_is asked id same in cc
not_named id (Withdraw asked) e h = let same : asked ≡ id = (let here = h in cc) in let wrong = sym e ∙ same_is asked id same in cc

all_more : (id place : ℕ) (a b : Kept) (commands : List Command) → OneMore id place a b → AllByRecursion (λ command. command ≢ Withdraw id) commands
    → AllAccepted a commands → AllAccepted b (others_than id commands) → OneMore id place (after_all a commands) (after_all b (others_than id commands))
all_more id place a b [] r stay all all_too = r
all_more id place a b (command ∷ commands) r stay all all_too =
    by (λ a b r all all_too. all_more id place a b commands r stay.1 all all_too) (names id command) refl
  where
    by : ((a b : Kept) → OneMore id place a b → AllAccepted a commands → AllAccepted b (others_than id commands) → OneMore id place (after_all a commands) (after_all b (others_than id commands)))
        → (c : Bool) → names id command ≡ c → OneMore id place (after_all a (command ∷ commands)) (after_all b (cond (not (names id command)) (command ∷ others_than id commands) (others_than id commands)))
    by rest true e =
        let c = changes id place r.f r.project a b r.apart command (named_is id command e) stay.0 in
        let next : OneMore id place (accepted a command) b = record { f = further (number_of b) r.f; project = c.0; apart = changes_alone id place r.f r.project a b r.apart command all.0 c } in
        let left : AllAccepted b (others_than id commands) = subst (λ t. AllAccepted b (cond (not t) (command ∷ others_than id commands) (others_than id commands))) e all_too in
        subst (λ (k : Kept). OneMore id place (after_all k commands) (after_all b (cond (not (names id command)) (command ∷ others_than id commands) (others_than id commands)))) (sym (after_accepted a command all.0))
        (subst (λ t. OneMore id place (after_all (accepted a command) commands) (after_all b (cond (not t) (command ∷ others_than id commands) (others_than id commands)))) (sym e)
        (rest (accepted a command) b next all.1 left))
    by rest false e =
        let left : AllAccepted b (command ∷ others_than id commands) = subst (λ t. AllAccepted b (cond (not t) (command ∷ others_than id commands) (others_than id commands))) e all_too in
        let next : OneMore id place (accepted a command) (accepted b command) =
        record { f = r.f; project = r.project; apart = stays_apart id place r.f r.project a b r.apart command (not_named id command e) all.0 left.0 } in
        subst (λ (k : Kept). OneMore id place (after_all k commands) (after_all b (cond (not (names id command)) (command ∷ others_than id commands) (others_than id commands)))) (sym (after_accepted a command all.0))
        (subst (λ t. OneMore id place (after_all (accepted a command) commands) (after_all b (cond (not t) (command ∷ others_than id commands) (others_than id commands)))) (sym e)
        (subst (λ (k : Kept). OneMore id place (after_all (accepted a command) commands) (after_all k (others_than id commands))) (sym (after_accepted b command left.0))
        (rest (accepted a command) (accepted b command) next all.1 left.1)))

-- ---- the first of them

none_own : (id number : ℕ) (live : List PlainProject) → UpTo number live → HaveLineages live → holds live id ≡ false → AllByRecursion (IsOwn id (number + 1)) live
none_own id number [] few some free = tt
none_own id number (one ∷ others) few some free =
    let parts = neither (has_id one.lineage id) (holds others id) free in
    let not_it = first_not one.lineage id some.0 parts.0 in (
      record { at = λ e. absurd (omega (arith, e, few.0)); of = λ e. absurd (differ (slice_index one.lineage 0) id e not_it) },
      none_own id number others few.1 some.1 parts.1,
    )
  where
    differ : (a b : ℕ) → a ≡ b → (a == b) ≡ false → ⊥
    differ a b e n = grind (arith, nat_tests)

all_stay : (number : ℕ) (live : List PlainProject) → UpTo number live → without_filing (number + 1) live ≡ live
all_stay number [] few = refl
all_stay number (one ∷ others) few = λ i. cond (other one.filing number few.0 i) (one ∷ all_stay number others few.1 i) (all_stay number others few.1 i)
  where
    other : (a number : ℕ) → a ≤ number → not (a == (number + 1)) ≡ true
    other a number few = grind (arith, nat_tests)

not_moved : (xs : List PlainProject) → map (moved (λ n. n)) xs ≡ xs
not_moved [] = refl
not_moved (x ∷ xs) = λ i. moved_is (λ n. n) x i ∷ not_moved xs i

same_number : (n : ℕ) → (n == n) ≡ true
same_number n = grind (arith, nat_tests)

-- ---- filed and withdrawn

module _ (before : Kept) (day : List ℕ) (difference : Difference) (bytes : List ℕ) (r : IsReached before) where
  begins : refusal_of before (File day (document.Difference difference) bytes) ≡ None
      → Apart difference.header.id (number_of before + 1) (further (number_of before) (λ n. n)) (project_filed (number_of before + 1) day difference) (accepted before (File day (document.Difference difference) bytes)) before
  begins free =
      let id = difference.header.id in
      let command = File day (document.Difference difference) bytes in
      let project = project_filed (number_of before + 1) day difference in
      let allowed = is_allowed before command free in
      let is = reached.live before r in
      let numbers = are_numbers before r in
      let some = have_lineages before.live is in
      let unheld = not_held before id allowed.unused in
      let none = not_found id before.live some unheld in
      record {
        base = refl;
        tells = further_tells (number_of before) (number_of before) (λ n. n) (λ m n e. e) (λ n h. refl);
        later = λ n h. omega (arith, further_late (number_of before) (λ m. m) n h, one_more before command);
        late = omega (arith, one_more before command);
        beside = subst (λ xs. Beside (further (number_of before) (λ n. n)) id (number_of before + 1) project xs before.live) (sym (filed_projects_come_last before day difference bytes r)) (record {
          own = all_append (IsOwn id (number_of before + 1)) before.live (project ∷ []) (none_own id (number_of before) before.live numbers some unheld) (record { at = λ e. refl; of = λ e. refl }, tt);
          there = find-append (λ one. id_of one == id) before.live (project ∷ []) ∙ (λ i. option_or (none i) (cond (same_number id i) (Some project) None));
          others = filter-append (λ one. not (one.filing == (number_of before + 1))) before.live (project ∷ [])
              ∙ (λ i. all_stay (number_of before) before.live numbers i ++ cond (not (same_number (number_of before + 1) i)) (project ∷ []) [])
              ∙ append-nil before.live
              ∙ sym (not_moved before.live)
              ∙ further_moves (number_of before) (λ n. n) before.live numbers;
        });
        numbers = subst (λ n. UpTo n (live_after before command)) (sym (one_more before command)) (changed before command numbers);
        numbers_too = numbers;
        live = stays_live before command is allowed;
        live_too = is;
      }

unnumbered_moved : (f : ℕ → ℕ) (xs : List PlainProject) → map unnumbered (map (moved f) xs) ≡ map unnumbered xs
unnumbered_moved f [] = refl
unnumbered_moved f (x ∷ xs) = λ i. unnumbered (moved_is f x i) ∷ unnumbered_moved f xs i

its_place : (id place : ℕ) (a b : Kept) (r : OneMore id place a b) → r.project.filing ≡ place
its_place id place a b r =
    let own = of_found (IsOwn id place) (λ one. id_of one == id) a.live r.project r.apart.beside.own r.apart.beside.there in
    own.of (eqb-true (id_of r.project) id (found_passes (λ one. id_of one == id) a.live r.project r.apart.beside.there))

pub withdrawn_as_if_not_filed : WithdrawnAsIfNotFiled
withdrawn_as_if_not_filed before filed after day difference bytes since r first all stay last all_too =
    let id = difference.header.id in
    let command = File day (document.Difference difference) bytes in
    let others = others_than id since in
    let was = is_accepted before filed command first in
    let start : OneMore id (number_of before + 1) filed before =
    subst (λ (k : Kept). OneMore id (number_of before + 1) k before) (sym was.same)
    (record { f = further (number_of before) (λ n. n); project = project_filed (number_of before + 1) day difference; apart = begins before day difference bytes r was.free }) in
    let run = all_more id (number_of before + 1) filed before since start stay (all_accepted filed since all) (all_accepted before others all_too) in
    let taken = withdrawals_take_away (after_all filed since) after id last in
    let same : taken.0 ≡ run.project = let here = taken.1 in let there = run.apart.beside.there in cc in
    let live : after.live ≡ map (moved run.f) (after_all before others).live =
    taken.2.live ∙ ap (λ (p : PlainProject). without_filing p.filing (after_all filed since).live) same
    ∙ ap (λ n. without_filing n (after_all filed since).live) (its_place id (number_of before + 1) (after_all filed since) (after_all before others) run) ∙ run.apart.beside.others in
    let alike = ap (map unnumbered) live ∙ unnumbered_moved run.f (after_all before others).live in
    record {
      base = taken.2.base ∙ run.apart.base;
      live = alike;
      answers = filing_numbers_stay_inside after.base after.live (after_all before others).live
          (subst IsLive (sym taken.2.live) (without-live taken.0.filing (after_all filed since).live run.apart.live)) run.apart.live_too alike;
    }
