-- What a reader's calls keep.
use Rattle.std.proofs.Common.{◌≡◌, ℕ, ◌+◌, ◌≤◌, Bool, true, false, List, nat_lt, refl, sym, ap, subst, arith}
use Rattle.std.proofs.lemmas.Bool.Decides.{nat_tests}
use mathlib.Core.List.{IsPrefix}
use Rattle.logbook.specs.Pages.{Book}
use Rattle.nm_publish.specs.History.{History, BeginsIn, GoesOn}
use Rattle.nm_publish.specs.Piece.{IsTold, log_of}
use Rattle.nm_publish.specs.Reader.{IsPlaced, standing, TriesOnce, LearnsOne}
use Rattle.nm_publish.specs.Shown.{Told}
use Rattle.nm_publish.specs.Sight.{Enters}
use Rattle.nm_publish.specs.Store.{choose}
use Rattle.nm_publish.specs.declared.sight.Sight.{Sight}
use Rattle.nm_version.specs.Kept.{Kept, number_of}
use Rattle.nm_version.specs.declared.command.Entry.{Entry}
use Rattle.nm_publish.proofs.Belonging.{begun, begins_later, log_goes_on}
use Rattle.nm_publish.proofs.Fronts.{front_self, shorter_front}
use Rattle.nm_publish.proofs.Seats.{goes_on_self, goes_on_twice}

front_after_is : (before : Sight) (shown : History) (after : Sight) → Enters before shown after → after.front ≡ shown
front_after_is before shown after enters = ap (λ (s : Sight). s.front) enters.seen

-- what is found goes on from what the seat has seen ..
pub found_later : (book : Book) (opening : Kept) (front : History) (before : Sight) (parts : ℕ) (shown : History) (after : Sight)
    → IsPlaced book opening front before parts → Enters before shown after → GoesOn before.front shown
found_later book opening front before parts shown after placed enters =
    enters.goes_on (begun book opening before.front (begins_later book opening front before.front placed.begins placed.within))

-- .. so that the reader stays in its place with the version that it kept ..
pub entering_keeps : (book : Book) (opening : Kept) (front : History) (before : Sight) (parts : ℕ) (shown : History) (after : Sight)
    → IsPlaced book opening front before parts → Enters before shown after → IsPlaced book opening front after parts
entering_keeps book opening front before parts shown after placed enters = record {
  begins = placed.begins;
  within = subst (λ (h : History). GoesOn front h) (sym (front_after_is before shown after enters))
      (goes_on_twice front before.front shown placed.within (found_later book opening front before parts shown after placed enters));
  one = placed.one;
}

-- .. and with the one that it found
pub found_keeps : (book : Book) (opening : Kept) (front : History) (before : Sight) (parts : ℕ) (shown : History) (after : Sight)
    → IsPlaced book opening front before parts → Enters before shown after → IsPlaced book opening shown after parts
found_keeps book opening front before parts shown after placed enters =
    let later = goes_on_twice front before.front shown placed.within (found_later book opening front before parts shown after placed enters) in
    record {
      begins = begins_later book opening front shown placed.begins later;
      within = subst (λ (h : History). GoesOn shown h) (sym (front_after_is before shown after enters)) (goes_on_self shown);
      one = placed.one;
    }

-- the log of a front that goes on begins with the log of the version that the earlier front tells
pub told_goes_on : (earlier later : History) (kept next : Kept) → GoesOn earlier later → IsTold earlier.pieces kept → IsTold later.pieces next → IsPrefix kept.log next.log
told_goes_on earlier later kept next on told new =
    subst (λ (log : List Entry). IsPrefix log next.log) (sym told.logged)
    (subst (λ (log : List Entry). IsPrefix (log_of earlier.pieces) log) (sym new.logged) (log_goes_on earlier.pieces later.pieces on.begins))

-- a version that is told by a front before the view is within it
pub told_within : (front : History) (kept : Kept) (seen : Sight) → GoesOn front seen.front → IsTold front.pieces kept → IsPrefix kept.log (log_of seen.front.pieces)
told_within front kept seen on told = subst (λ (log : List Entry). IsPrefix log (log_of seen.front.pieces)) (sym told.logged) (log_goes_on front.pieces seen.front.pieces on.begins)

-- the try of a look that was granted an entering, whatever the reader then keeps within its view
entering_tries : (before after : Sight) (shown : History) (old new : Kept) (misses more learnt share : ℕ) → GoesOn before.front shown → Enters before shown after
    → more ≡ misses → IsPrefix new.log (log_of after.front.pieces) → TriesOnce (standing old before misses learnt share) (standing new after more learnt share)
entering_tries before after shown old new misses more learnt share on enters same within =
    let count : after.enterings ≡ before.enterings + 1 = ap (λ (s : Sight). s.enterings) enters.seen in
    record {
      once = omega (arith, count, same);
      enterings = omega (arith, count);
      misses = omega (arith, same);
      learnt = refl;
      share = refl;
      view = subst (λ (h : History). IsPrefix (log_of before.front.pieces) (log_of h.pieces)) (sym (front_after_is before shown after enters)) (log_goes_on before.front.pieces shown.pieces on.begins);
      within = within;
    }

-- .. the version that it kept ..
pub kept_tries : (book : Book) (opening : Kept) (mine : Told) (before : Sight) (parts : ℕ) (shown : History) (after : Sight) (misses more learnt share : ℕ)
    → IsPlaced book opening mine.front before parts → IsTold mine.front.pieces mine.kept → Enters before shown after → more ≡ misses
    → TriesOnce (standing mine.kept before misses learnt share) (standing mine.kept after more learnt share)
kept_tries book opening mine before parts shown after misses more learnt share placed told enters same =
    entering_tries before after shown mine.kept mine.kept misses more learnt share (found_later book opening mine.front before parts shown after placed enters) enters same
    (told_within mine.front mine.kept after (entering_keeps book opening mine.front before parts shown after placed enters).within told)

-- .. or the one that it found
pub found_tries : (book : Book) (opening : Kept) (mine found : Told) (before : Sight) (parts : ℕ) (shown : History) (after : Sight) (misses more learnt share : ℕ)
    → IsPlaced book opening mine.front before parts → IsTold found.front.pieces found.kept → found.front ≡ shown → Enters before shown after → more ≡ misses
    → TriesOnce (standing mine.kept before misses learnt share) (standing found.kept after more learnt share)
found_tries book opening mine found before parts shown after misses more learnt share placed told is enters same =
    entering_tries before after shown mine.kept found.kept misses more learnt share (found_later book opening mine.front before parts shown after placed enters) enters same
    (told_within found.front found.kept after (subst (λ (h : History). GoesOn h after.front) (sym is) (found_keeps book opening mine.front before parts shown after placed enters).within) told)

pub found_begins : (book : Book) (opening : Kept) (mine found : Told) (before : Sight) (parts : ℕ) (shown : History) (after : Sight)
    → IsPlaced book opening mine.front before parts → IsTold mine.front.pieces mine.kept → IsTold found.front.pieces found.kept → found.front ≡ shown → Enters before shown after
    → IsPrefix mine.kept.log found.kept.log
found_begins book opening mine found before parts shown after placed told new is enters =
    told_goes_on mine.front found.front mine.kept found.kept
    (goes_on_twice mine.front before.front found.front placed.within (subst (λ (h : History). GoesOn before.front h) (sym is) (found_later book opening mine.front before parts shown after placed enters))) told new

-- the try of a look that missed
pub miss_tries : (before after : Sight) (mine : Told) (misses more learnt share : ℕ) → after ≡ before → more ≡ misses + 1 → GoesOn mine.front before.front → IsTold mine.front.pieces mine.kept
    → TriesOnce (standing mine.kept before misses learnt share) (standing mine.kept after more learnt share)
miss_tries before after mine misses more learnt share same one within told =
    let count : after.enterings ≡ before.enterings = ap (λ (s : Sight). s.enterings) same in
    let views : log_of before.front.pieces ≡ log_of after.front.pieces = ap (λ (s : Sight). log_of s.front.pieces) (sym same) in
    record {
      once = omega (arith, count, one);
      enterings = omega (arith, count);
      misses = omega (arith, one);
      learnt = refl;
      share = refl;
      view = subst (λ (log : List Entry). IsPrefix (log_of before.front.pieces) log) views (front_self (log_of before.front.pieces));
      within = subst (λ (log : List Entry). IsPrefix mine.kept.log log) views (told_within mine.front mine.kept before within told);
    }

-- ---- a receipt that is learnt

-- the version with the longer log of the two: the reader stays in its place with it, and its log begins with both
pub record Learns (book : Book) (opening : Kept) (mine other next : Told) (after : Sight) (parts : ℕ) : Type 0 where
  pub placed : IsPlaced book opening next.front after parts
  pub begins : IsPrefix mine.kept.log next.kept.log
  pub joins : IsPrefix other.kept.log next.kept.log
  pub within : IsPrefix next.kept.log (log_of after.front.pieces)

pub learns : (book : Book) (opening : Kept) (mine other : Told) (before : Sight) (parts : ℕ) (found : History) (after : Sight)
    → IsPlaced book opening mine.front before parts → BeginsIn book opening other.front → IsTold mine.front.pieces mine.kept → IsTold other.front.pieces other.kept
    → Enters before found after → GoesOn other.front found → (b : Bool) → nat_lt (number_of mine.kept) (number_of other.kept) ≡ b
    → Learns book opening mine other (choose b mine other) after parts
learns book opening mine other before parts found after placed begins told new enters on b is =
    let kept = entering_keeps book opening mine.front before parts found after placed enters in
    let there : GoesOn other.front after.front = subst (λ (h : History). GoesOn other.front h) (sym (front_after_is before found after enters)) on in
    let one : IsPrefix mine.kept.log (log_of after.front.pieces) = told_within mine.front mine.kept after kept.within told in
    let two : IsPrefix other.kept.log (log_of after.front.pieces) = told_within other.front other.kept after there new in
    by_length mine other begins kept there one two b is
  where
    by_length : (mine other : Told) → BeginsIn book opening other.front → IsPlaced book opening mine.front after parts → GoesOn other.front after.front → IsPrefix mine.kept.log (log_of after.front.pieces)
        → IsPrefix other.kept.log (log_of after.front.pieces) → (b : Bool) → nat_lt (number_of mine.kept) (number_of other.kept) ≡ b
        → Learns book opening mine other (choose b mine other) after parts
    by_length mine other begins kept there one two true is = record {
      placed = record { begins = begins; within = there; one = kept.one };
      begins = shorter_front mine.kept.log other.kept.log (log_of after.front.pieces) one two (grind (arith, nat_tests));
      joins = front_self other.kept.log;
      within = two;
    }
    by_length mine other begins kept there one two false is = record {
      placed = kept;
      begins = front_self mine.kept.log;
      joins = shorter_front other.kept.log mine.kept.log (log_of after.front.pieces) two one (grind (arith, nat_tests));
      within = one;
    }

-- what a reader that learns counts
pub learning_counts : (before after : Sight) (found : History) (old new : Kept) (misses more learnt share : ℕ) → GoesOn before.front found → Enters before found after → misses ≤ more
    → IsPrefix new.log (log_of after.front.pieces) → LearnsOne (standing old before misses learnt share) (standing new after more (learnt + 1) share)
learning_counts before after found old new misses more learnt share on enters most within =
    record {
      enterings = ap (λ (s : Sight). s.enterings) enters.seen;
      misses = most;
      learnt = refl;
      share = refl;
      view = subst (λ (h : History). IsPrefix (log_of before.front.pieces) (log_of h.pieces)) (sym (front_after_is before found after enters)) (log_goes_on before.front.pieces found.pieces on.begins);
      within = within;
    }
