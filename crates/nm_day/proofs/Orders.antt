-- Days stand in the order of their texts, and keys by day, filing and stage.
use Rattle.std.proofs.Common.{◌≡◌, ◌∙◌, ◌⊎◌, inl, inr, ℕ, ◌+◌, ◌/◌, ◌%◌, ◌<◌, List, [], ◌∷◌, ◌++◌, true, pos, Ordering, nat_cmp, int_cmp, refl, sym, ap, arith}
use Rattle.std.proofs.lemmas.Bool.{cases_order}
use Rattle.std.proofs.lemmas.Cmp.{int_cmp_total, nat_cmp_total, nat_list_cmp_total, on_total, then_total, tied_itself}
use Rattle.std.specs.Cmp.{IsTotalOrder, nat_cmp_is, int_cmp_is, ranked}
use Rattle.std.specs.Cmp.Lexicographic.{slice_cmp}
use Rattle.std.specs.Ordering.{ordering_reverse, ordering_then}
use Rattle.std.specs.declared.cmp.Ordering.TheVariants.{Less, Equal, Greater}
use Rattle.jiff_core.proofs.DateLemmas.{IsEarlier, cases_date, epoch_day-lt}
use Rattle.jiff_core.proofs.SignedLemmas.{signed_arith}
use Rattle.jiff_core.specs.Date.{epoch_day}
use Rattle.jiff_core.specs.declared.civil.date.Date.{Date}
use Rattle.nm_day.proofs.Dates.{IsCivil, are_digits, both_so, is_civil-facts, is_spelt-facts}
use Rattle.nm_day.specs.Calendar.{is_civil, is_spelt, month_day_of, month_of, text_of, two_digits, year_of}
use Rattle.nm_day.specs.Day.{day_cmp, is_day, number_of}
use Rattle.nm_day.specs.Key.{key_cmp}
use Rattle.nm_day.specs.Laws.{DayOrderTellsApart, DaysAreInTextOrder, KeyOrderTellsApart}
use Rattle.nm_day.specs.declared.key.Key.{Key}

abbrev text_cmp : List ℕ → List ℕ → Ordering
text_cmp = slice_cmp nat_cmp

day_cmp-total : IsTotalOrder day_cmp
day_cmp-total = on_total number_of int_cmp_total

text_cmp-total : IsTotalOrder text_cmp
text_cmp-total = nat_list_cmp_total

less : (x y : ℕ) → x < y → nat_cmp x y ≡ Less
less x y h = sym (nat_cmp_is x y Less h)

level : (x y : ℕ) → x ≡ y → nat_cmp x y ≡ Equal
level x y h = sym (nat_cmp_is x y Equal h)

pair_less : (n m : ℕ) (s t : List ℕ) → n < m → m < 100 → text_cmp (two_digits n ++ s) (two_digits m ++ t) ≡ Less
pair_less n m s t below bound =
    elim (cases_order (n / 10) (m / 10)) [
      | inl same ↦ (λ i. ordering_then (level (48 + n / 10) (48 + m / 10) (omega arith) i) (ordering_then (less (48 + n % 10) (48 + m % 10) (omega arith) i) (text_cmp s t)))
      | inr (inl before) ↦ (λ i. ordering_then (less (48 + n / 10) (48 + m / 10) (omega arith) i) (ordering_then (nat_cmp (48 + n % 10) (48 + m % 10)) (text_cmp s t)))
      | inr (inr after) ↦ absurd (omega arith)
    ]

pair_level : (n m : ℕ) (s t : List ℕ) → n ≡ m → text_cmp (two_digits n ++ s) (two_digits m ++ t) ≡ text_cmp s t
pair_level n m s t same =
    λ i. ordering_then (level (48 + n / 10) (48 + m / 10) (omega arith) i) (ordering_then (level (48 + n % 10) (48 + m % 10) (omega arith) i) (text_cmp s t))

-- one date comes before another, by year, month and day
abbrev IsBefore : (y m d y' m' d' : ℕ) → Type 0
IsBefore y m d y' m' d' = (y < y') ⊎ ((y ≡ y') × ((m < m') ⊎ ((m ≡ m') × (d < d'))))

years_less : (y y' : ℕ) (s t : List ℕ) → y < y' → y' < 10000 → text_cmp (two_digits (y / 100) ++ two_digits (y % 100) ++ s) (two_digits (y' / 100) ++ two_digits (y' % 100) ++ t) ≡ Less
years_less y y' s t below bound =
    elim (cases_order (y / 100) (y' / 100)) [
      | inl same ↦ pair_level (y / 100) (y' / 100) (two_digits (y % 100) ++ s) (two_digits (y' % 100) ++ t) same ∙ pair_less (y % 100) (y' % 100) s t (omega arith) (omega arith)
      | inr (inl before) ↦ pair_less (y / 100) (y' / 100) (two_digits (y % 100) ++ s) (two_digits (y' % 100) ++ t) before (omega arith)
      | inr (inr after) ↦ absurd (omega arith)
    ]

years_level : (y y' : ℕ) (s t : List ℕ) → y ≡ y' → text_cmp (two_digits (y / 100) ++ two_digits (y % 100) ++ s) (two_digits (y' / 100) ++ two_digits (y' % 100) ++ t) ≡ text_cmp s t
years_level y y' s t same =
    pair_level (y / 100) (y' / 100) (two_digits (y % 100) ++ s) (two_digits (y' % 100) ++ t) (ap (λ n. n / 100) same)
    ∙ pair_level (y % 100) (y' % 100) s t (ap (λ n. n % 100) same)

texts_less : (y m d y' m' d' : ℕ) → IsBefore y m d y' m' d' → y' < 10000 → m' < 100 → d' < 100 → text_cmp (text_of y m d) (text_of y' m' d') ≡ Less
texts_less y m d y' m' d' (inl year) a b c = years_less y y' (45 ∷ two_digits m ++ 45 ∷ two_digits d) (45 ∷ two_digits m' ++ 45 ∷ two_digits d') year a
texts_less y m d y' m' d' (inr (year, inl month)) a b c =
    years_level y y' (45 ∷ two_digits m ++ 45 ∷ two_digits d) (45 ∷ two_digits m' ++ 45 ∷ two_digits d') year
    ∙ pair_less m m' (45 ∷ two_digits d) (45 ∷ two_digits d') month b
texts_less y m d y' m' d' (inr (year, inr (month, day))) a b c =
    years_level y y' (45 ∷ two_digits m ++ 45 ∷ two_digits d) (45 ∷ two_digits m' ++ 45 ∷ two_digits d') year
    ∙ pair_level m m' (45 ∷ two_digits d) (45 ∷ two_digits d') month
    ∙ pair_less d d' [] [] day c

-- what a day is
pub record IsDay (text : List ℕ) : Type 0 where
  pub civil : IsCivil (year_of text) (month_of text) (month_day_of text)
  pub again : text_of (year_of text) (month_of text) (month_day_of text) ≡ text

pub is_day-facts : (text : List ℕ) → is_day text ≡ true → IsDay text
unfolding is_day
is_day-facts text h =
    let parts = both_so (is_spelt text) (is_civil (year_of text) (month_of text) (month_day_of text)) h in
    record {
      civil = is_civil-facts (year_of text) (month_of text) (month_day_of text) parts.1;
      again = (are_digits text (is_spelt-facts text parts.0)).again;
    }

abbrev pub date_of : (text : List ℕ) → IsDay text → Date
date_of text h = record {
  year = pos (year_of text);
  month = month_of text;
  day = month_day_of text;
  year_in = (omega (arith, signed_arith, h.civil.last), omega (arith, signed_arith, h.civil.last));
  month_in = (h.civil.month_low, h.civil.month_high);
  day_in = (h.civil.day_low, h.civil.day_in_month);
}

pub epoch_day-date_of : (text : List ℕ) (h : IsDay text) → epoch_day (date_of text h) ≡ number_of text
unfolding number_of
epoch_day-date_of text h = refl

before : (x y : List ℕ) (h : IsDay x) (k : IsDay y) → IsEarlier (date_of x h) (date_of y k) → (day_cmp x y ≡ Less) × (text_cmp x y ≡ Less)
before x y h k earlier = (by_number, by_text)
  where
    earlier_parts : IsEarlier (date_of x h) (date_of y k) → IsBefore (year_of x) (month_of x) (month_day_of x) (year_of y) (month_of y) (month_day_of y)
    earlier_parts (inl year) = inl (omega (arith, signed_arith, year))
    earlier_parts (inr (year, others)) = inr (omega (arith, signed_arith, year), others)

    by_number : day_cmp x y ≡ Less
    by_number =
        (λ i. int_cmp (sym (epoch_day-date_of x h) i) (sym (epoch_day-date_of y k) i))
        ∙ sym (int_cmp_is (epoch_day (date_of x h)) (epoch_day (date_of y k)) Less (epoch_day-lt (date_of x h) (date_of y k) earlier))

    by_text : text_cmp x y ≡ Less
    by_text =
        (λ i. text_cmp (sym h.again i) (sym k.again i))
        ∙ texts_less (year_of x) (month_of x) (month_day_of x) (year_of y) (month_of y) (month_day_of y) (earlier_parts earlier)
        (omega (arith, k.civil.last)) (omega (arith, k.civil.month_high)) (omega (arith, k.civil.day_high))

-- of two days one comes first in both orders, or they are one day
data Stand (x y : List ℕ) : Type 0 where
  First : day_cmp x y ≡ Less → text_cmp x y ≡ Less → Stand x y
  Last : day_cmp x y ≡ Greater → text_cmp x y ≡ Greater → Stand x y
  One : x ≡ y → Stand x y

stand : (x y : List ℕ) → is_day x ≡ true → is_day y ≡ true → Stand x y
stand x y h k =
    let first = is_day-facts x h in
    let second = is_day-facts y k in
    elim (cases_date (date_of x first) (date_of y second)) [
      | inl earlier ↦ (let both = before x y first second earlier in First both.0 both.1)
      | inr (inl later) ↦ (let both = before y x second first later in
          Last (day_cmp-total.antisymm x y ∙ ap ordering_reverse both.0) (text_cmp-total.antisymm x y ∙ ap ordering_reverse both.1))
      | inr (inr same) ↦ One (sym first.again ∙ (λ i. text_of (parts same.0 i) (same.1 i) (same.2 i)) ∙ second.again)
    ]
  where
    parts : {m n : ℕ} → pos m ≡ pos n → m ≡ n
    parts e = cc

pub days_are_in_text_order : DaysAreInTextOrder
days_are_in_text_order x y h k =
    elim (stand x y h k) [
      | First number text ↦ number ∙ sym text
      | Last number text ↦ number ∙ sym text
      | One same ↦ (λ i. day_cmp x (sym same i)) ∙ tied_itself day_cmp-total x ∙ sym (tied_itself text_cmp-total x) ∙ (λ i. text_cmp x (same i))
    ]

pub day_order_tells_apart : DayOrderTellsApart
day_order_tells_apart x y h k tie =
    elim (stand x y h k) [ First number text ↦ absurd (let wrong = sym number ∙ tie in cc) | Last number text ↦ absurd (let wrong = sym number ∙ tie in cc) | One same ↦ same ]

pub key_cmp-total : IsTotalOrder key_cmp
key_cmp-total = then_total (on_total (λ (k : Key). k.day) day_cmp-total) (then_total (on_total (λ (k : Key). k.filing) nat_cmp_total) (on_total (λ (k : Key). k.stage) nat_cmp_total))

then_equal : (first second : Ordering) → ordering_then first second ≡ Equal → (first ≡ Equal) × (second ≡ Equal)
then_equal Less second tie = absurd cc
then_equal Equal second tie = (refl, tie)
then_equal Greater second tie = absurd cc

pub key_order_tells_apart : KeyOrderTellsApart
key_order_tells_apart x y h k tie =
    let first = then_equal (day_cmp x.day y.day) (ordering_then (nat_cmp x.filing y.filing) (nat_cmp x.stage y.stage)) tie in
    let others = then_equal (nat_cmp x.filing y.filing) (nat_cmp x.stage y.stage) first.1 in
    let day : x.day ≡ y.day = day_order_tells_apart x.day y.day h k first.0 in
    let filing : x.filing ≡ y.filing = ranked x.filing y.filing Equal (sym others.0) in
    let stage : x.stage ≡ y.stage = ranked x.stage y.stage Equal (sym others.1) in
    λ i. record { day = day i; filing = filing i; stage = stage i }
