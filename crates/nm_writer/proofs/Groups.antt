-- A set stands grouped by subject: what is stated of the first subject, and then of the others.
use Rattle.std.proofs.Common.{◌≡◌, ℕ, zero, suc, ◌+◌, List, [], ◌∷◌, ◌++◌, take, drop, length, arith, Bool, true, false, not, cond, Ordering, filter, flat_map, sym, ◌∙◌, ap, refl, ◌<◌, ◌≤◌, take-append-drop, length-drop}
use Rattle.std.specs.declared.cmp.Ordering.TheVariants.{Less, Equal, Greater}
use Rattle.std.specs.Ordering.{is_eq, is_gt, ordering_then, ordering_reverse}
use Rattle.std.specs.List.{AllByRecursion, prefix_len}
use Rattle.std.specs.List.Sorted.{IsStrictlySortedBy}
use Rattle.std.proofs.lemmas.Cmp.{alike_right, tied_itself}
use Rattle.std.proofs.lemmas.List.Elements.{filter-append}
use Rattle.nm_ident.proofs.Orders.{ident_cmp-total, ident_cmp-equal, equal_from}
use Rattle.nm_ident.proofs.Rising.{one_plus}
use Rattle.nm_ident.specs.Order.{ident_cmp, name_cmp}
use Rattle.nm_ident.specs.declared.ident.Ident.{Ident}
use Rattle.nm_statement.specs.Order.{statement_cmp, object_cmp}
use Rattle.nm_statement.specs.Set.{IsRising}
use Rattle.nm_statement.specs.declared.statement.Statement.{Statement}
use Rattle.nm_writer.specs.Canonical.{group_length, is_about, own, subjects_of}

-- ---- filters

module _ {X : Type 0} (p : X → Bool) where
  filter_none : (xs : List X) → AllByRecursion (λ x. p x ≡ false) xs → filter p xs ≡ []
  filter_none [] a = refl
  filter_none (x ∷ xs) a = ap (λ b. cond b (x ∷ filter p xs) (filter p xs)) a.0 ∙ filter_none xs a.1

  filter_every : (xs : List X) → AllByRecursion (λ x. p x ≡ true) xs → filter p xs ≡ xs
  filter_every [] a = refl
  filter_every (x ∷ xs) a = ap (λ b. cond b (x ∷ filter p xs) (filter p xs)) a.0 ∙ ap (λ (ys : List X). x ∷ ys) (filter_every xs a.1)

  pub every-filter : (P : X → Type 0) (xs : List X) → AllByRecursion P xs → AllByRecursion P (filter p xs)
  every-filter P [] a = tt
  every-filter P (x ∷ xs) a = by (p x) (every-filter P xs a.1)
    where
      by : (b : Bool) → AllByRecursion P (filter p xs) → AllByRecursion P (cond b (x ∷ filter p xs) (filter p xs))
      by true h = (a.0, h)
      by false h = h

  -- a second time it keeps all
  filter-filter : (xs : List X) → filter p (filter p xs) ≡ filter p xs
  filter-filter [] = refl
  filter-filter (x ∷ xs) = by (filter-filter xs) (p x) refl
    where
      by : filter p (filter p xs) ≡ filter p xs → (b : Bool) → p x ≡ b → filter p (cond b (x ∷ filter p xs) (filter p xs)) ≡ cond b (x ∷ filter p xs) (filter p xs)
      by twice true e = ap (λ b. cond b (x ∷ filter p (filter p xs)) (filter p (filter p xs))) e ∙ ap (λ (ys : List X). x ∷ ys) twice
      by twice false e = twice

  -- the front of them passes
  every-front : (xs : List X) → AllByRecursion (λ x. p x ≡ true) (take (prefix_len p xs) xs)
  every-front [] = tt
  every-front (x ∷ xs) = by (p x) refl (every-front xs)
    where
      by : (b : Bool) → p x ≡ b → AllByRecursion (λ y. p y ≡ true) (take (prefix_len p xs) xs) → AllByRecursion (λ y. p y ≡ true) (take (cond b (1 + prefix_len p xs) 0) (x ∷ xs))
      by true e h = rw one_plus (e, h)
      by false e h = tt

every_weaker : {X : Type 0} (P Q : X → Type 0) → ((x : X) → P x → Q x) → (xs : List X) → AllByRecursion P xs → AllByRecursion Q xs
every_weaker P Q f [] a = tt
every_weaker P Q f (x ∷ xs) a = (f x a.0, every_weaker P Q f xs a.1)

flat_map_alike : {X A : Type 0} (f g : X → List A) (xs : List X) → AllByRecursion (λ x. f x ≡ g x) xs → flat_map f xs ≡ flat_map g xs
flat_map_alike f g [] a = refl
flat_map_alike f g (x ∷ xs) a = λ i. a.0 i ++ flat_map_alike f g xs a.1 i

-- ---- the order of subjects

less_from : (r : Ordering) → is_gt r ≡ false → is_eq r ≡ false → r ≡ Less
less_from Less g e = refl
less_from Equal g e = cc
less_from Greater g e = cc

not_gt_then : (first second : Ordering) → ordering_then first second ≡ Less → is_gt first ≡ false
not_gt_then Less second e = refl
not_gt_then Equal second e = refl
not_gt_then Greater second e = cc

subject_not_gt : (x y : Statement) → statement_cmp x y ≡ Less → is_gt (ident_cmp x.subject y.subject) ≡ false
subject_not_gt x y e = not_gt_then (ident_cmp x.subject y.subject) (ordering_then (name_cmp x.predicate y.predicate) (object_cmp x.object y.object)) e

less_upto : (s x y : Ident) → ident_cmp s x ≡ Less → is_gt (ident_cmp x y) ≡ false → ident_cmp s y ≡ Less
less_upto s x y less upward = by (ident_cmp x y) refl upward
  where
    by : (r : Ordering) → ident_cmp x y ≡ r → is_gt r ≡ false → ident_cmp s y ≡ Less
    by Less e g = ident_cmp-total.trans s x y less e
    by Equal e g = sym (alike_right ident_cmp-total x y s e) ∙ less
    by Greater e g = cc

-- ---- the statements of one subject, which stand in front

-- none of the statements is of a lower subject
abbrev IsUpFrom : Ident → List Statement → Type 0
IsUpFrom s xs = AllByRecursion (λ y. is_gt (ident_cmp s y.subject) ≡ false) xs

-- each is of a higher one
abbrev IsPast : Ident → List Statement → Type 0
IsPast s xs = AllByRecursion (λ y. ident_cmp s y.subject ≡ Less) xs

up_from_first : (x : Statement) (xs : List Statement) → IsRising (x ∷ xs) → IsUpFrom x.subject xs
unfolding IsStrictlySortedBy
up_from_first x xs rising = every_weaker (λ y. statement_cmp x y ≡ Less) (λ y. is_gt (ident_cmp x.subject y.subject) ≡ false) (λ y e. subject_not_gt x y e) xs rising.0

past_first : (s : Ident) (x : Statement) (xs : List Statement) → ident_cmp s x.subject ≡ Less → IsRising (x ∷ xs) → IsPast s (x ∷ xs)
unfolding IsStrictlySortedBy
past_first s x xs less rising =
    (less, every_weaker (λ y. statement_cmp x y ≡ Less) (λ y. ident_cmp s y.subject ≡ Less) (λ y e. less_upto s x.subject y.subject less (subject_not_gt x y e)) xs rising.0)

tail_rises : (x : Statement) (xs : List Statement) → IsRising (x ∷ xs) → IsRising xs
unfolding IsStrictlySortedBy
tail_rises x xs rising = rising.1

pub drop_rises : (n : ℕ) (xs : List Statement) → IsRising xs → IsRising (drop n xs)
drop_rises zero xs rising = rising
drop_rises (suc n) [] rising = rising
drop_rises (suc n) (x ∷ xs) rising = drop_rises n xs (tail_rises x xs rising)

module _ (s : Ident) where
  not_about : (xs : List Statement) → IsPast s xs → AllByRecursion (λ y. is_about s y ≡ false) xs
  not_about = every_weaker (λ y. ident_cmp s y.subject ≡ Less) (λ y. is_about s y ≡ false) (λ y e. ap is_eq e)

  own-front : (xs : List Statement) → IsRising xs → IsUpFrom s xs → filter (is_about s) xs ≡ take (prefix_len (is_about s) xs) xs
  own-front [] rising up = refl
  own-front (x ∷ xs) rising up = by (own-front xs (tail_rises x xs rising) up.1) (is_about s x) refl
    where
      by : filter (is_about s) xs ≡ take (prefix_len (is_about s) xs) xs → (b : Bool) → is_about s x ≡ b → cond b (x ∷ filter (is_about s) xs) (filter (is_about s) xs) ≡ take (cond b (1 + prefix_len (is_about s) xs) 0) (x ∷ xs)
      by others true e = rw one_plus (ap (λ (ys : List Statement). x ∷ ys) others)
      by others false e = filter_none (is_about s) xs (not_about xs (past_first s x xs (less_from (ident_cmp s x.subject) up.0 e) rising).1)

  past-front : (xs : List Statement) → IsRising xs → IsUpFrom s xs → IsPast s (drop (prefix_len (is_about s) xs) xs)
  past-front [] rising up = tt
  past-front (x ∷ xs) rising up = by (past-front xs (tail_rises x xs rising) up.1) (is_about s x) refl
    where
      by : IsPast s (drop (prefix_len (is_about s) xs) xs) → (b : Bool) → is_about s x ≡ b → IsPast s (drop (cond b (1 + prefix_len (is_about s) xs) 0) (x ∷ xs))
      by others true e = rw one_plus others
      by others false e = past_first s x xs (less_from (ident_cmp s x.subject) up.0 e) rising

pub every-subjects_of : (P : Ident → Type 0) (xs : List Statement) → AllByRecursion (λ y. P y.subject) xs → AllByRecursion P (subjects_of xs)
every-subjects_of P [] a = tt
every-subjects_of P (x ∷ xs) a = (a.0, every-filter (λ t. not (is_eq (ident_cmp x.subject t))) P (subjects_of xs) (every-subjects_of P xs a.1))

abbrev is_other : Ident → Ident → Bool
is_other s t = not (is_eq (ident_cmp s t))

subjects-front : (s : Ident) (xs : List Statement) → IsRising xs → IsUpFrom s xs → filter (is_other s) (subjects_of xs) ≡ subjects_of (drop (prefix_len (is_about s) xs) xs)
subjects-front s [] rising up = refl
subjects-front s (x ∷ xs) rising up = by (subjects-front s xs (tail_rises x xs rising) up.1) (is_about s x) refl
  where
    by : filter (is_other s) (subjects_of xs) ≡ subjects_of (drop (prefix_len (is_about s) xs) xs) → (b : Bool) → is_about s x ≡ b → filter (is_other s) (subjects_of (x ∷ xs)) ≡ subjects_of (drop (cond b (1 + prefix_len (is_about s) xs) 0) (x ∷ xs))
    by others true e =
        let same : s ≡ x.subject = ident_cmp-equal s x.subject (equal_from (ident_cmp s x.subject) e) in
        ap (λ b. cond (not b) (x.subject ∷ filter (is_other s) (filter (is_other x.subject) (subjects_of xs))) (filter (is_other s) (filter (is_other x.subject) (subjects_of xs)))) e
        ∙ ap (λ (t : Ident). filter (is_other s) (filter (is_other t) (subjects_of xs))) (sym same)
        ∙ filter-filter (is_other s) (subjects_of xs)
        ∙ others
        ∙ rw one_plus refl
    by others false e =
        filter_every (is_other s) (subjects_of (x ∷ xs))
        (every-subjects_of (λ t. is_other s t ≡ true) (x ∷ xs)
        (every_weaker (λ y. ident_cmp s y.subject ≡ Less) (λ y. is_other s y.subject ≡ true) (λ y l. ap (λ r. not (is_eq r)) l) (x ∷ xs)
        (past_first s x xs (less_from (ident_cmp s x.subject) up.0 e) rising)))

-- of a higher subject only what stands behind is stated
own-past : (s t : Ident) (xs : List Statement) (n : ℕ) → ident_cmp s t ≡ Less → AllByRecursion (λ y. is_about s y ≡ true) (take n xs) → own xs t ≡ own (drop n xs) t
own-past s t xs n less about =
    ap (filter (is_about t)) (sym (take-append-drop n xs))
    ∙ filter-append (is_about t) (take n xs) (drop n xs)
    ∙ ap (λ (ys : List Statement). ys ++ filter (is_about t) (drop n xs))
    (filter_none (is_about t) (take n xs) (every_weaker (λ y. is_about s y ≡ true) (λ y. is_about t y ≡ false) apart (take n xs) about))
  where
    apart : (y : Statement) → is_about s y ≡ true → is_about t y ≡ false
    apart y e =
        let same : s ≡ y.subject = ident_cmp-equal s y.subject (equal_from (ident_cmp s y.subject) e) in
        ap (λ (u : Ident). is_eq (ident_cmp t u)) (sym same) ∙ ap is_eq (ident_cmp-total.antisymm t s ∙ ap ordering_reverse less)

-- what is made of each subject and its statements
abbrev pub by_subject : {A : Type 0} → (Ident → List Statement → List A) → List Statement → List A
by_subject f xs = flat_map (λ t. f t (own xs t)) (subjects_of xs)

-- it is made of the first group, and then of what stands behind it
pub by_subject-first : {A : Type 0} (f : Ident → List Statement → List A) (x : Statement) (xs : List Statement) → IsRising (x ∷ xs)
    → by_subject f (x ∷ xs) ≡ f x.subject (take (group_length (x ∷ xs)) (x ∷ xs)) ++ by_subject f (drop (group_length (x ∷ xs)) (x ∷ xs))
by_subject-first f x xs rising =
    let s = x.subject in
    let n = prefix_len (is_about s) xs in
    let up = up_from_first x xs rising in
    let risen = tail_rises x xs rising in
    let itself : is_about s x ≡ true = ap is_eq (tied_itself ident_cmp-total s) in
    let first : own (x ∷ xs) s ≡ take (1 + n) (x ∷ xs) =
    ap (λ b. cond b (x ∷ filter (is_about s) xs) (filter (is_about s) xs)) itself
    ∙ rw one_plus (ap (λ (ys : List Statement). x ∷ ys) (own-front s xs risen up)) in
    let behind : subjects_of (drop (1 + n) (x ∷ xs)) ≡ filter (is_other s) (subjects_of xs) =
    rw one_plus (sym (subjects-front s xs risen up)) in
    let past : AllByRecursion (λ t. ident_cmp s t ≡ Less) (subjects_of (drop (1 + n) (x ∷ xs))) =
    every-subjects_of (λ t. ident_cmp s t ≡ Less) (drop (1 + n) (x ∷ xs)) (rw one_plus (past-front s xs risen up)) in
    let about : AllByRecursion (λ y. is_about s y ≡ true) (take (1 + n) (x ∷ xs)) = rw one_plus (itself, every-front (is_about s) xs) in
    let others : flat_map (λ t. f t (own (x ∷ xs) t)) (subjects_of (drop (1 + n) (x ∷ xs))) ≡ by_subject f (drop (1 + n) (x ∷ xs)) =
    flat_map_alike (λ t. f t (own (x ∷ xs) t)) (λ t. f t (own (drop (1 + n) (x ∷ xs)) t)) (subjects_of (drop (1 + n) (x ∷ xs)))
    (every_weaker (λ t. ident_cmp s t ≡ Less) (λ t. f t (own (x ∷ xs) t) ≡ f t (own (drop (1 + n) (x ∷ xs)) t)) (λ t less. ap (f t) (own-past s t (x ∷ xs) (1 + n) less about)) (subjects_of (drop (1 + n) (x ∷ xs))) past) in
    ap (λ (ys : List Statement). f s ys ++ flat_map (λ t. f t (own (x ∷ xs) t)) (filter (is_other s) (subjects_of xs))) first
    ∙ ap (λ (ts : List Ident). f s (take (1 + n) (x ∷ xs)) ++ flat_map (λ t. f t (own (x ∷ xs) t)) ts) (sym behind)
    ∙ ap (λ ys. f s (take (1 + n) (x ∷ xs)) ++ ys) others

-- a group is not empty
pub drop_group-shorter : (xs : List Statement) → 1 ≤ length xs → length (drop (group_length xs) xs) < length xs
drop_group-shorter [] some = absurd (omega arith)
drop_group-shorter (x ∷ xs) some = omega (arith, length-drop (group_length (x ∷ xs)) (x ∷ xs))
