-- What the lists beside the live projects say of them as projects come and go.
use Rattle.std.proofs.Common.{◌≡◌, ◌∙◌, ℕ, List, [], ◌∷◌, ◌++◌, Bool, true, false, ◌&&◌, ◌||◌, ◌==◌, cond, Option, None, Some, Ordering, nat_cmp, refl, sym, ap, subst}
use Rattle.std.proofs.lemmas.Cmp.{nat_cmp_total, on_total, then_total}
use Rattle.std.specs.Cmp.{IsTotalOrder, tied_then, unsigned_ties}
use Rattle.std.specs.List.{AllByRecursion, find, list_any}
use Rattle.std.specs.List.Sorted.{IsStrictlySortedBy}
use Rattle.std.specs.Option.{is_some, option_map}
use Rattle.std.specs.Ordering.{is_eq, ordering_reverse, ordering_then}
use Rattle.std.specs.declared.cmp.Ordering.TheVariants.{Less, Equal, Greater}
use Rattle.nm_blocks.specs.Items.{IsRising, item_at, with_all, without_all}
use Rattle.nm_day.proofs.Orders.{key_cmp-total}
use Rattle.nm_day.specs.Day.{day_cmp}
use Rattle.nm_day.specs.Key.{key_cmp}
use Rattle.nm_day.specs.declared.key.Key.{Key}
use Rattle.nm_ident.proofs.Orders.{nat_cmp-equal}
use Rattle.nm_ident.proofs.Rising.{has-rising_of, rising_by-is, rising-rising_of}
use Rattle.nm_ident.specs.Rising.{rising_by}
use Rattle.nm_stage.proofs.Filings.{IsSingle, elsewhere, filed_own, found_with, found_without, single_holder, unheld, without_none}
use Rattle.nm_stage.proofs.Found.{all_so, any_alike, item_at-with_all, item_at-without_all, rising-map}
use Rattle.nm_stage.proofs.Lists.{list_any-map, numbers_laws, numbers_same}
use Rattle.nm_stage.specs.Listed.{AreDependents, AreHolders, AreListed, dependent, dependent_cmp, dependents, depends, holder, holders}
use Rattle.nm_stage.specs.Live.{AreApart, CanJoin, IsLive, filed_as, filing_cmp, holder_of, ids_of, with_project, without_filing}
use Rattle.nm_stage.specs.Project.{PlainProject, has_id, key_of}
use Rattle.nm_stage.specs.declared.listed.Dependent.{Dependent}
use Rattle.nm_stage.specs.declared.listed.Holder.{Holder}

pub dependent_cmp-total : IsTotalOrder dependent_cmp
dependent_cmp-total = then_total (on_total (λ (d : Dependent). d.dependency) nat_cmp_total) (on_total (λ (d : Dependent). d.key) key_cmp-total)

-- ---- ids in order

rising_ids : (ids : List ℕ) → IsStrictlySortedBy nat_cmp (rising_by nat_cmp ids)
rising_ids ids = subst (IsStrictlySortedBy nat_cmp) (sym (rising_by-is nat_cmp_total nat_cmp-equal ids)) (rising-rising_of nat_cmp_total ids)

pub rising_lineage : (ids lineage : List ℕ) → ids ≡ rising_by nat_cmp lineage → IsStrictlySortedBy nat_cmp ids
rising_lineage ids lineage e = subst (IsStrictlySortedBy nat_cmp) (sym e) (rising_ids lineage)

pub rising_holders : (filing : ℕ) (lineage : List ℕ) → IsRising (λ (h : Holder). h.id) nat_cmp (holders filing lineage)
rising_holders filing lineage = rising-map (holder filing) nat_cmp (λ (x y : Holder). nat_cmp x.id y.id) (λ i j e. e) (rising_by nat_cmp lineage) (rising_ids lineage)

pub rising_dependents : (key : Key) (ids : List ℕ) → IsStrictlySortedBy dependent_cmp (dependents key ids)
rising_dependents key ids = rising-map (dependent key) nat_cmp dependent_cmp (λ i j e. ap (λ r. ordering_then r (key_cmp key key)) e) (rising_by nat_cmp ids) (rising_ids ids)

has_level : (ids : List ℕ) (id : ℕ) → list_any (λ i. is_eq (nat_cmp id i)) (rising_by nat_cmp ids) ≡ has_id ids id
has_level ids id =
    ap (list_any (λ i. is_eq (nat_cmp id i))) (rising_by-is nat_cmp_total nat_cmp-equal ids)
    ∙ has-rising_of nat_cmp_total ids id
    ∙ any_alike (λ i. is_eq (nat_cmp id i)) (λ i. id == i) (λ i. sym (unsigned_ties id i)) ids

turned : {K : Type 0} {cmp : K → K → Ordering} → IsTotalOrder cmp → (x y : K) → is_eq (cmp x y) ≡ is_eq (cmp y x)
turned o x y = ap is_eq (o.antisymm x y) ∙ by (_)
  where
    by : (r : Ordering) → is_eq (ordering_reverse r) ≡ is_eq r
    by Less = refl
    by Equal = refl
    by Greater = refl

-- ---- any list beside the projects

module _ {T : Type 0} (t : PlainProject → Bool) (g : PlainProject → T) (live : List PlainProject) (rising : IsStrictlySortedBy filing_cmp live) where
  pub kept_without : (filing : ℕ) (old : PlainProject) (found : Option T) (b : Bool) → IsSingle t live → filed_as filing live ≡ Some old → found ≡ option_map g (find t live) → b ≡ t old
      → cond b None found ≡ option_map g (find t (without_filing filing live))
  kept_without filing old found b single e f h = (λ i. cond (h i) None (f i)) ∙ by (t old) (find t live) ∙ sym (ap (option_map g) (found_without t filing old live rising single e))
    where
      by : (c : Bool) (one : Option PlainProject) → cond c None (option_map g one) ≡ option_map g (cond c None one)
      by true one = refl
      by false one = refl

  pub kept_with : (p : PlainProject) (found : Option T) (b : Bool) → filed_as p.filing live ≡ None → (t p ≡ true → find t live ≡ None) → found ≡ option_map g (find t live) → b ≡ t p
      → cond b (Some (g p)) found ≡ option_map g (find t (with_project p live))
  kept_with p found b new none f h = (λ i. cond (h i) (Some (g p)) (f i)) ∙ by (t p) (find t live) ∙ sym (ap (option_map g) (found_with t p live rising new none))
    where
      by : (c : Bool) (one : Option PlainProject) → cond c (Some (g p)) (option_map g one) ≡ option_map g (cond c (Some p) one)
      by true one = refl
      by false one = refl

-- ---- the ids in use

pub no_holders : AreHolders [] []
no_holders id = refl

pub holders_without : (filing : ℕ) (old : PlainProject) (live : List PlainProject) (ids : List Holder) → IsLive live → AreHolders ids live → filed_as filing live ≡ Some old
    → AreHolders (without_all (λ (h : Holder). h.id) nat_cmp (rising_by nat_cmp old.lineage) ids) (without_filing filing live)
holders_without filing old live ids l kept e id =
    item_at-without_all (λ (h : Holder). h.id) nat_cmp_total id (rising_by nat_cmp old.lineage) ids
    ∙ kept_without (λ x. has_id x.lineage id) (λ x. holder x.filing id) live l.rising filing old (item_at (λ (h : Holder). h.id) nat_cmp id ids) (list_any (λ i. is_eq (nat_cmp i id)) (rising_by nat_cmp old.lineage))
    (single_holder id live l.apart) e (kept id)
    (any_alike (λ i. is_eq (nat_cmp i id)) (λ i. is_eq (nat_cmp id i)) (λ i. turned nat_cmp_total i id) (rising_by nat_cmp old.lineage) ∙ has_level old.lineage id)

pub holders_with : (p : PlainProject) (live : List PlainProject) (ids : List Holder) → IsLive live → CanJoin p live → AreHolders ids live → filed_as p.filing live ≡ None
    → AreHolders (with_all (λ (h : Holder). h.id) nat_cmp (holders p.filing p.lineage) ids) (with_project p live)
holders_with p live ids l joins kept new id =
    item_at-with_all (λ (h : Holder). h.id) nat_cmp_total (holder p.filing) id (holder p.filing id) (λ i e. ap (holder p.filing) (sym (same i e))) (rising_by nat_cmp p.lineage) ids
    ∙ kept_with (λ x. has_id x.lineage id) (λ x. holder x.filing id) live l.rising p (item_at (λ (h : Holder). h.id) nat_cmp id ids) (list_any (λ i. is_eq (nat_cmp id i)) (rising_by nat_cmp p.lineage))
    new (λ e. unheld id live (elsewhere p live id (subst (λ (others : List PlainProject). AreApart (p.lineage ++ ids_of others)) (without_none p.filing live new) joins.apart) e)) (kept id) (has_level p.lineage id)
  where
    same : (i : ℕ) → is_eq (nat_cmp id i) ≡ true → id ≡ i
    same i e = numbers_same id i (unsigned_ties id i ∙ e)

-- ---- the dependents

pub then_level : (a b : Ordering) → is_eq (ordering_then a b) ≡ true → (is_eq a ≡ true) × (is_eq b ≡ true)
then_level Less b e = absurd (let wrong = e in cc)
then_level Equal b e = (refl, e)
then_level Greater b e = absurd (let wrong = e in cc)

pub same_numbers : (m n : ℕ) → is_eq (nat_cmp m n) ≡ true → m ≡ n
same_numbers m n e = numbers_same m n (unsigned_ties m n ∙ e)

-- level keys are of one filing
pub level_filing : (x y : Key) → is_eq (key_cmp x y) ≡ true → x.filing ≡ y.filing
level_filing x y e =
    same_numbers x.filing y.filing (then_level (nat_cmp x.filing y.filing) (nat_cmp x.stage y.stage) (then_level (day_cmp x.day y.day) (ordering_then (nat_cmp x.filing y.filing) (nat_cmp x.stage y.stage)) e).1).0

pub and_true : (a b : Bool) → (a && b) ≡ true → (a ≡ true) × (b ≡ true)
and_true true b e = (refl, e)
and_true false b e = absurd (let wrong = e in cc)

pub depends_filing : (need : Dependent) (x : PlainProject) → depends need x ≡ true → need.key.filing ≡ x.filing
depends_filing need x e = level_filing need.key (key_of x) (and_true (has_id x.dependencies need.dependency) (is_eq (key_cmp need.key (key_of x))) e).1

pub single_dependent : (need : Dependent) (live : List PlainProject) → IsSingle (depends need) live
single_dependent need live =
    all_so (λ x. AllByRecursion (λ y. depends need x ≡ true → depends need y ≡ true → x.filing ≡ y.filing) live)
    (λ x. all_so (λ y. depends need x ≡ true → depends need y ≡ true → x.filing ≡ y.filing) (λ y e f. sym (depends_filing need x e) ∙ depends_filing need y f) live) live

any_and : (p : ℕ → Bool) (c : Bool) (ids : List ℕ) → list_any (λ i. p i && c) ids ≡ (list_any p ids && c)
any_and p c [] = refl
any_and p c (i ∷ is) = ap (λ b. (p i && c) || b) (any_and p c is) ∙ by (p i) (list_any p is) c
  where
    by : (a b d : Bool) → ((a && d) || (b && d)) ≡ ((a || b) && d)
    by true b true = refl
    by true true false = refl
    by true false false = refl
    by false b d = refl

depends_level : (need : Dependent) (p : PlainProject) → list_any (λ i. is_eq (dependent_cmp need (dependent (key_of p) i))) (rising_by nat_cmp p.dependencies) ≡ depends need p
depends_level need p =
    let c = is_eq (key_cmp need.key (key_of p)) in
    any_alike (λ i. is_eq (dependent_cmp need (dependent (key_of p) i))) (λ i. is_eq (nat_cmp need.dependency i) && c)
    (λ i. sym (tied_then (nat_cmp need.dependency i) (key_cmp need.key (key_of p)))) (rising_by nat_cmp p.dependencies)
    ∙ any_and (λ i. is_eq (nat_cmp need.dependency i)) c (rising_by nat_cmp p.dependencies)
    ∙ ap (λ b. b && c) (has_level p.dependencies need.dependency)

pub no_dependents : AreDependents [] []
no_dependents need = refl

pub dependents_without : (filing : ℕ) (old : PlainProject) (live : List PlainProject) (needs : List Dependent) → IsLive live → AreDependents needs live → filed_as filing live ≡ Some old
    → AreDependents (without_all (λ (d : Dependent). d) dependent_cmp (dependents (key_of old) old.dependencies) needs) (without_filing filing live)
dependents_without filing old live needs l kept e need =
    let ids = rising_by nat_cmp old.dependencies in
    let taken = dependents (key_of old) old.dependencies in
    item_at-without_all (λ (d : Dependent). d) dependent_cmp-total need taken needs
    ∙ kept_without (depends need) (λ x. dependent (key_of x) need.dependency) live l.rising filing old (item_at (λ (d : Dependent). d) dependent_cmp need needs) (list_any (λ d. is_eq (dependent_cmp d need)) taken)
    (single_dependent need live) e (kept need)
    (sym (list_any-map (λ d. is_eq (dependent_cmp d need)) (dependent (key_of old)) ids)
    ∙ any_alike (λ i. is_eq (dependent_cmp (dependent (key_of old) i) need)) (λ i. is_eq (dependent_cmp need (dependent (key_of old) i))) (λ i. turned dependent_cmp-total (dependent (key_of old) i) need) ids
    ∙ depends_level need old)

none_at : (need : Dependent) (p : PlainProject) (live : List PlainProject) → filed_as p.filing live ≡ None → depends need p ≡ true → find (depends need) live ≡ None
none_at need p [] new e = refl
none_at need p (x ∷ xs) new e = by (λ h. none_at need p xs h e) (depends need x) refl (x.filing == p.filing) refl new
  where
    by : (filed_as p.filing xs ≡ None → find (depends need) xs ≡ None) → (d : Bool) → depends need x ≡ d → (b : Bool) → (x.filing == p.filing) ≡ b → cond b (Some x) (filed_as p.filing xs) ≡ None
        → cond d (Some x) (find (depends need) xs) ≡ None
    by later d f true g h = absurd (let wrong = h in cc)
    by later true f false g h =
        absurd (let same : x.filing ≡ p.filing = sym (depends_filing need x f) ∙ depends_filing need p e in let wrong : false ≡ true = sym g ∙ ap (λ n. n == p.filing) same ∙ numbers_laws.refl p.filing in cc)
    by later false f false g h = later h

pub dependents_with : (p : PlainProject) (live : List PlainProject) (needs : List Dependent) → IsLive live → AreDependents needs live → filed_as p.filing live ≡ None
    → AreDependents (with_all (λ (d : Dependent). d) dependent_cmp (dependents (key_of p) p.dependencies) needs) (with_project p live)
dependents_with p live needs l kept new need =
    item_at-with_all (λ (d : Dependent). d) dependent_cmp-total (dependent (key_of p)) need (dependent (key_of p) need.dependency)
    (λ i e. ap (dependent (key_of p)) (sym (same_numbers need.dependency i (then_level (nat_cmp need.dependency i) (key_cmp need.key (key_of p)) e).0))) (rising_by nat_cmp p.dependencies) needs
    ∙ kept_with (depends need) (λ x. dependent (key_of x) need.dependency) live l.rising p (item_at (λ (d : Dependent). d) dependent_cmp need needs)
    (list_any (λ i. is_eq (dependent_cmp need (dependent (key_of p) i))) (rising_by nat_cmp p.dependencies))
    new (none_at need p live new) (kept need) (depends_level need p)

-- ---- the lists that the calls make

-- lists that are equal to such
pub listed_by : (ids ids' : List Holder) (needs needs' : List Dependent) (live live' : List PlainProject) → ids ≡ ids' → needs ≡ needs' → live ≡ live' → AreListed ids' needs' live' → AreListed ids needs live
listed_by ids ids' needs needs' live live' a b c listed =
    subst (λ (t : List Holder × List Dependent × List PlainProject). AreListed t.0 t.1 t.2) (λ i. (sym a i, sym b i, sym c i)) listed

pub none_listed : AreListed [] [] []
none_listed = record { held = no_holders; needed = no_dependents }

pub listed_without : (filing : ℕ) (old : PlainProject) (live : List PlainProject) (ids : List Holder) (needs : List Dependent) → IsLive live → AreListed ids needs live → filed_as filing live ≡ Some old
    → AreListed (without_all (λ (h : Holder). h.id) nat_cmp (rising_by nat_cmp old.lineage) ids) (without_all (λ (d : Dependent). d) dependent_cmp (dependents (key_of old) old.dependencies) needs) (without_filing filing live)
listed_without filing old live ids needs l listed e = record { held = holders_without filing old live ids l listed.held e; needed = dependents_without filing old live needs l listed.needed e }

pub listed_with : (p : PlainProject) (live : List PlainProject) (ids : List Holder) (needs : List Dependent) → IsLive live → CanJoin p live → AreListed ids needs live → filed_as p.filing live ≡ None
    → AreListed (with_all (λ (h : Holder). h.id) nat_cmp (holders p.filing p.lineage) ids) (with_all (λ (d : Dependent). d) dependent_cmp (dependents (key_of p) p.dependencies) needs) (with_project p live)
listed_with p live ids needs l joins listed new = record { held = holders_with p live ids l joins listed.held new; needed = dependents_with p live needs l listed.needed new }

-- ---- what a look-up of an id finds

pub held_at : (id : ℕ) (h : Holder) (live : List PlainProject) → IsStrictlySortedBy filing_cmp live → Some h ≡ option_map (λ project. holder project.filing id) (holder_of id live) → filed_as h.filing live ≡ holder_of id live
held_at id h live s e = by (holder_of id live) refl e
  where
    by : (found : Option PlainProject) → holder_of id live ≡ found → Some h ≡ option_map (λ project. holder project.filing id) found → filed_as h.filing live ≡ found
    by None f g = absurd (let wrong = g in cc)
    by (Some p) f g =
        let same : h ≡ holder p.filing id = cc in
        ap (λ (k : Holder). filed_as k.filing live) same ∙ filed_own (λ x. has_id x.lineage id) p live s f

pub held_by_none : (id : ℕ) (live : List PlainProject) → None ≡ option_map (λ project. holder project.filing id) (holder_of id live) → None ≡ holder_of id live
held_by_none id live e = by (holder_of id live) e
  where
    by : (found : Option PlainProject) → None ≡ option_map (λ project. holder project.filing id) found → None ≡ found
    by None g = refl
    by (Some p) g = absurd (let wrong = g in cc)

pub is_some-map : {X Y : Type 0} (f : X → Y) (found : Option X) → is_some (option_map f found) ≡ is_some found
is_some-map f None = refl
is_some-map f (Some x) = refl
