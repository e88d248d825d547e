-- How many statements are touched, how many timelines there are after changes, and what that costs.
use Rattle.std.proofs.Common.{◌≡◌, ◌∙◌, ℕ, ◌+◌, ◌*◌, ◌≤◌, List, [], ◌∷◌, ◌++◌, length, Bool, true, false, ◌||◌, not, cond, if◌then◌else◌, Ordering, refl, sym, ap, subst, arith}
use Rattle.std.proofs.lemmas.List.{length-append}
use Rattle.std.proofs.lemmas.List.Folds.{list_any-append}
use Rattle.std.proofs.Math.Nat.{mul_assoc, mul_comm}
use Rattle.std.proofs.lemmas.Nat.{mul-le}
use Rattle.std.specs.BTreeSet.{insert_key}
use Rattle.std.specs.List.{filter}
use Rattle.std.specs.Ordering.{is_eq, is_gt, is_lt, match_ordering}
use Rattle.std.specs.declared.cmp.Ordering.TheVariants.{Less, Equal, Greater}
use Rattle.nm_check.specs.Timelines.{named_by_steps, names_of}
use Rattle.nm_check.specs.Touched.{is_blank, named_count, touched_by, with_timeline}
use Rattle.nm_stage.specs.Project.{PlainStep}
use Rattle.nm_statement.proofs.Sets.{has-set_of, set_of-alike}
use Rattle.nm_statement.specs.Order.{statement_cmp}
use Rattle.nm_statement.specs.Set.{has, is_same, set_of}
use Rattle.nm_statement.specs.declared.statement.Statement.{Statement}
use Rattle.nm_timeline.specs.Timeline.{PlainTimeline}
use Rattle.nm_tree.proofs.Depths.{depth_of-is}
use Rattle.nm_tree.specs.Depth.{depth_of}
use Rattle.nm_tree.specs.Pairs.{with_pair, without}

-- more pairs have no lower depth
pub depth-grows : (m n : ℕ) → m ≤ n → depth_of m ≤ depth_of n
depth-grows m n more =
    let less = depth_of-is m in
    let greater = depth_of-is n in
    let square : (m + 1) * (m + 1) ≤ (n + 1) * (n + 1) = mul-le (m + 1) (m + 1) (n + 1) (n + 1) (omega (arith, more)) (omega (arith, more)) in
    greater.greatest (depth_of m) (let fits = less.fits in omega (arith, fits, square))

-- ---- sets

-- a statement that is put into a set adds one, unless it is there
put_length : (xs : List Statement) (s : Statement) → length (insert_key statement_cmp xs s) ≤ length xs + 1
put_length [] s = omega arith
put_length (x ∷ xs) s = by (statement_cmp s x) (put_length xs s)
  where
    by : (r : Ordering) → length (insert_key statement_cmp xs s) ≤ length xs + 1
        → length (match_ordering r (s ∷ x ∷ xs) (x ∷ xs) (x ∷ insert_key statement_cmp xs s)) ≤ length (x ∷ xs) + 1
    by Less h = omega arith
    by Equal h = omega arith
    by Greater h = omega (arith, h)

set_length : (xs : List Statement) → length (set_of xs) ≤ length xs
set_length [] = omega arith
set_length (x ∷ xs) = omega (arith, set_length xs, put_length (set_of xs) x)

-- the sets of statements that the steps name, one behind another
abbrev sets_named : List PlainStep → List Statement
sets_named [] = []
sets_named (step ∷ steps) = set_of (names_of step.change) ++ sets_named steps

has-sets_named : (steps : List PlainStep) (s : Statement) → has (named_by_steps steps) s ≡ has (sets_named steps) s
has-sets_named [] s = refl
has-sets_named (step ∷ steps) s =
    list_any-append (is_same s) (names_of step.change) (named_by_steps steps)
    ∙ (λ i. sym (has-set_of (names_of step.change) s) i || has-sets_named steps s i)
    ∙ sym (list_any-append (is_same s) (set_of (names_of step.change)) (sets_named steps))

length-sets_named : (steps : List PlainStep) → length (sets_named steps) ≡ named_count steps
length-sets_named [] = refl
length-sets_named (step ∷ steps) =
    length-append (set_of (names_of step.change)) (sets_named steps)
    ∙ ap (λ n. length (set_of (names_of step.change)) + n) (length-sets_named steps)

pub touched_length : (remove add : List PlainStep) → length (touched_by remove add) ≤ named_count remove + named_count add
touched_length remove add =
    let all = sets_named remove ++ sets_named add in
    let same : touched_by remove add ≡ set_of all =
    set_of-alike (named_by_steps remove ++ named_by_steps add) all
    (λ s.
    list_any-append (is_same s) (named_by_steps remove) (named_by_steps add)
    ∙ (λ i. has-sets_named remove s i || has-sets_named add s i)
    ∙ sym (list_any-append (is_same s) (sets_named remove) (sets_named add)))
    in
    let most : length (set_of all) ≤ length all = set_length all in
    let parts : length all ≡ named_count remove + named_count add =
    length-append (sets_named remove) (sets_named add) ∙ (λ i. length-sets_named remove i + length-sets_named add i)
    in
    let is : length (touched_by remove add) ≡ length (set_of all) = ap length same in
    omega (arith, most, parts, is)

-- ---- changes

filter_length : {X : Type 0} (p : X → Bool) (xs : List X) → length (filter p xs) ≤ length xs
filter_length p [] = omega arith
filter_length p (x ∷ xs) = by (p x) (filter_length p xs)
  where
    by : (b : Bool) → length (filter p xs) ≤ length xs → length (cond b (x ∷ filter p xs) (filter p xs)) ≤ length (x ∷ xs)
    by true h = omega (arith, h)
    by false h = omega (arith, h)

some_of_either : {X : Type 0} (p q : X → Bool) (xs : List X) → ((x : X) → p x ≡ true → q x ≡ false) → length (filter p xs) + length (filter q xs) ≤ length xs
some_of_either p q [] apart = omega arith
some_of_either p q (x ∷ xs) apart = by (p x) (q x) (apart x) (some_of_either p q xs apart)
  where
    by : (b c : Bool) → (b ≡ true → c ≡ false) → length (filter p xs) + length (filter q xs) ≤ length xs
        → length (cond b (x ∷ filter p xs) (filter p xs)) + length (cond c (x ∷ filter q xs) (filter q xs)) ≤ length (x ∷ xs)
    by true true e h = absurd (let wrong = e refl in cc)
    by true false e h = omega (arith, h)
    by false true e h = omega (arith, h)
    by false false e h = omega (arith, h)

greater_not_less : (r : Ordering) → is_gt r ≡ true → is_lt r ≡ false
greater_not_less Less e = absurd (let wrong = e in cc)
greater_not_less Equal e = refl
greater_not_less Greater e = refl

pub with_length : (s : Statement) (timeline : PlainTimeline) (timelines : List (Statement × PlainTimeline))
    → length (with_timeline s timeline timelines) ≤ length timelines + 1
with_length s timeline timelines = by (is_blank timeline)
  where
    by : (b : Bool) → length (if b then without statement_cmp s timelines else with_pair statement_cmp (s, timeline) timelines) ≤ length timelines + 1
    by true = let most = filter_length (λ (p : Statement × PlainTimeline). not (is_eq (statement_cmp s p.0))) timelines in omega (arith, most)
    by false =
        let below = filter (λ (p : Statement × PlainTimeline). is_gt (statement_cmp s p.0)) timelines in
        let above = filter (λ (p : Statement × PlainTimeline). is_lt (statement_cmp s p.0)) timelines in
        let both : length below + length above ≤ length timelines =
        some_of_either (λ (p : Statement × PlainTimeline). is_gt (statement_cmp s p.0)) (λ (p : Statement × PlainTimeline). is_lt (statement_cmp s p.0)) timelines (λ p. greater_not_less (statement_cmp s p.0))
        in
        let parts : length (below ++ (s, timeline) ∷ above) ≡ length below + length ((s, timeline) ∷ above) = length-append below ((s, timeline) ∷ above) in
        omega (arith, both, parts)

-- ---- what all of them cost

abbrev pub unit_of : ℕ → ℕ
unit_of n = 4 * (depth_of n + 2)

-- a look-up and a change, while the timelines are still few enough
pub one_more : (now after old n most : ℕ) → after ≤ now + (depth_of old + (3 * depth_of n + 8)) → old ≤ most → n ≤ most → after ≤ now + unit_of most
one_more now after old n most cost few low =
    let a = depth-grows old most few in
    let b = depth-grows n most low in
    omega (arith, cost, a, b)

-- t touched statements of at most k
pub all_of : (now begun n t k : ℕ) → now ≤ begun + t * unit_of (n + t) → t ≤ k → now ≤ begun + 4 * k * (depth_of (n + k) + 2)
all_of now begun n t k cost few =
    let deep : depth_of (n + t) ≤ depth_of (n + k) = depth-grows (n + t) (n + k) (omega (arith, few)) in
    let wide : unit_of (n + t) ≤ unit_of (n + k) = omega (arith, deep) in
    let product : t * unit_of (n + t) ≤ k * unit_of (n + k) = mul-le t (unit_of (n + t)) k (unit_of (n + k)) few wide in
    let same : k * (4 * (depth_of (n + k) + 2)) ≡ 4 * k * (depth_of (n + k) + 2) = sym (mul_assoc k 4 (depth_of (n + k) + 2)) ∙ ap (λ m. m * (depth_of (n + k) + 2)) (mul_comm k 4) in
    omega (arith, cost, product, same)

pub le_from_sum : (a b c : ℕ) → a + b ≤ c → a ≤ c
le_from_sum a b c h = omega (arith, h)

-- what an edit costs
pub edit_cost : (now begun : ℕ) (touched : List Statement) (inside timelines : List (Statement × PlainTimeline)) (remove add : List PlainStep)
    → now ≤ begun + length touched * unit_of (length inside + length touched) → touched ≡ touched_by remove add → inside ≡ timelines
    → now ≤ begun + 4 * (named_count remove + named_count add) * (depth_of (length timelines + (named_count remove + named_count add)) + 2)
edit_cost now begun touched inside timelines remove add cost is same =
    let few : length touched ≤ named_count remove + named_count add = rw is (touched_length remove add) in
    all_of now begun (length timelines) (length touched) (named_count remove + named_count add)
    (subst (λ (ts : List (Statement × PlainTimeline)). now ≤ begun + length touched * unit_of (length ts + length touched)) same cost) few
