-- What a change of one project can leave unmet.
use Rattle.std.proofs.Common.{◌≡◌, ◌∙◌, ⊎_elim, ℕ, ◌+◌, ◌<◌, List, [], ◌∷◌, length, take, get_or, Bool, true, false, ◌&&◌, ◌||◌, ◌==◌, not, Option, None, Some, refl, sym, ap, subst}
use Rattle.std.proofs.lemmas.Cmp.{tied_itself}
use Rattle.std.proofs.lemmas.List.{take_more}
use Rattle.std.proofs.lemmas.List.Elements.{All-contains_itself, Contains-get_or, recursion_from_All}
use Rattle.std.proofs.lemmas.List.Folds.{list_any-append}
use Rattle.std.specs.List.{Contains, find, list_any}
use Rattle.std.specs.Option.{is_some}
use Rattle.std.specs.Ordering.{is_gt, is_lt, ordering_reverse}
use Rattle.std.specs.declared.cmp.Ordering.TheVariants.{Less}
use Rattle.nm_day.proofs.Orders.{key_cmp-total}
use Rattle.nm_day.specs.Key.{key_cmp}
use Rattle.nm_day.specs.declared.key.Key.{Key}
use Rattle.nm_stage.proofs.Beside.{and_true}
use Rattle.nm_stage.proofs.FirstUnmet.{any_passes, claims_less, filed_among, first_of_both, first_of_missing, kept, kept_of, less_is, missing_cmp-total, not_both, not_is, one_filing, only_one, or_is, or_false, or_true, passing}
use Rattle.nm_stage.proofs.Found.{found_all, list_any-find}
use Rattle.nm_stage.proofs.Lists.{numbers_laws, numbers_same}
use Rattle.nm_stage.proofs.Lives.{other}
use Rattle.nm_stage.specs.Dependencies.{missing_of}
use Rattle.nm_stage.specs.Live.{IsLive, filed_as, without_filing}
use Rattle.nm_stage.specs.Project.{PlainProject, has_id, key_of}
use Rattle.nm_stage.specs.Unmet.{IsFirst, IsFound, earlier, is_met, meets, misses, missing_cmp}

-- a dependency that the old project met
pub record IsDisplaced (filing : ℕ) (before : List PlainProject) (q : PlainProject) (id : ℕ) : Type 0 where
  pub old : PlainProject
  pub filed : filed_as filing before ≡ Some old
  pub had : has_id old.lineage id ≡ true
  pub under : is_lt (key_cmp (key_of old) (key_of q)) ≡ true

module _ (known : List ℕ) (before live : List PlainProject) (filing : ℕ) (l : IsLive before) (none : missing_of known before ≡ None) (same : without_filing filing before ≡ without_filing filing live) where
  -- what another project misses now was met by the old one
  pub displaced : (q : PlainProject) (id : ℕ) → Contains live q → other filing q ≡ true → misses known live q id ≡ true → IsDisplaced filing before q id
  displaced q id m e missed = by (is_met known before (key_of q) id) refl
    where
      parts : (has_id q.dependencies id ≡ true) × (not (is_met known live (key_of q) id) ≡ true)
      parts = and_true (has_id q.dependencies id) (not (is_met known live (key_of q) id)) missed

      now : is_met known live (key_of q) id ≡ false
      now = not_is (is_met known live (key_of q) id) parts.1

      there : Contains before q
      there = kept_of (other filing) q before (subst (λ (ps : List PlainProject). Contains ps q) (sym same) (kept (other filing) q e live m))

      complete : misses known before q id ≡ true → ⊥
      complete k = (subst (IsFirst before (misses known before) (misses known before)) none (first_of_missing known before l)).first q id there k

      not_known : has_id known id ≡ true → ⊥
      not_known k = not_both (is_met known live (key_of q) id) (ap (λ b. b || list_any (meets (key_of q) id) live) k) now

      not_held : (r : PlainProject) → Contains live r → meets (key_of q) id r ≡ true → ⊥
      not_held r n k =
          not_both (is_met known live (key_of q) id) (ap (λ b. has_id known id || b) (any_passes (meets (key_of q) id) live r n k) ∙ or_true (has_id known id)) now

      of_one : (r : PlainProject) → Contains before r → meets (key_of q) id r ≡ true → (b : Bool) → (r.filing == filing) ≡ b → IsDisplaced filing before q id
      of_one r n k true f =
          let halves = and_true (has_id r.lineage id) (is_lt (key_cmp (key_of r) (key_of q))) k in
          record {
            old = r;
            filed = ap (λ i. filed_as i before) (sym (numbers_same r.filing filing f)) ∙ filed_among r before l.rising n;
            had = halves.0;
            under = halves.1;
          }
      of_one r n k false f =
          absurd (not_held r (kept_of (other filing) r live (subst (λ (ps : List PlainProject). Contains ps r) same (kept (other filing) r (ap not f) before n))) k)

      by : (b : Bool) → is_met known before (key_of q) id ≡ b → IsDisplaced filing before q id
      by false f = absurd (complete ((λ i. parts.0 i && not (f i))))
      by true f =
          ⊎_elim (λ k. absurd (not_known k))
          (λ k. let (r, n, k') = passing (meets (key_of q) id) before k in of_one r n k' (r.filing == filing) refl)
          (or_is (has_id known id) (list_any (meets (key_of q) id) before) f)

  abbrev missed : PlainProject → ℕ → Bool
  missed = misses known live

  -- of other projects, where there was none with the filing number
  pub others_none : filed_as filing before ≡ None → IsFirst live missed (λ q id. missed q id && other filing q) None
  others_none e = record {
    sound = λ found f. absurd (let wrong = f in cc);
    first = λ q id m f.
        let parts = and_true (missed q id) (other filing q) f in
        let one = displaced q id m parts.1 parts.0 in
        let wrong : None ≡ Some one.old = sym e ∙ one.filed in
        absurd cc;
  }

  -- and where there was one
  pub others_some : (old : PlainProject) (found : Option (Key × ℕ)) → filed_as filing before ≡ Some old
      → IsFirst live missed (λ q id. missed q id && (has_id old.lineage id && not (is_lt (key_cmp (key_of q) (key_of old))))) found
      → IsFirst live missed (λ q id. missed q id && other filing q) found
  others_some old found e h =
      claims_less live missed (λ q id. missed q id && (has_id old.lineage id && not (is_lt (key_cmp (key_of q) (key_of old))))) (λ q id. missed q id && other filing q) found
      (λ q id m f.
      let parts = and_true (missed q id) (other filing q) f in
      let one = displaced q id m parts.1 parts.0 in
      let same_old : one.old ≡ old = (let s : Some one.old ≡ Some old = sym one.filed ∙ e in cc) in
      let had : has_id old.lineage id ≡ true = ap (λ (p : PlainProject). has_id p.lineage id) (sym same_old) ∙ one.had in
      let under : key_cmp (key_of one.old) (key_of q) ≡ Less = less_is (key_cmp (key_of one.old) (key_of q)) one.under in
      let above : is_lt (key_cmp (key_of q) (key_of old)) ≡ false =
      ap (λ (p : PlainProject). is_lt (key_cmp (key_of q) (key_of p))) (sym same_old) ∙ ap is_lt (key_cmp-total.antisymm (key_of q) (key_of one.old) ∙ ap ordering_reverse under)
      in
      λ i. parts.0 i && (had i && not (above i)))
      h

-- own and others together
pub own_and_others : (known : List ℕ) (live : List PlainProject) (filing : ℕ) (own others : Option (Key × ℕ)) → IsLive live
    → IsFirst live (misses known live) (λ q id. misses known live q id && (q.filing == filing)) own
    → IsFirst live (misses known live) (λ q id. misses known live q id && other filing q) others
    → earlier own others ≡ missing_of known live
own_and_others known live filing own others l f g =
    only_one live missed l.rising (earlier own others) (missing_of known live)
    (claims_less live missed (λ q id. (missed q id && (q.filing == filing)) || (missed q id && other filing q)) missed (earlier own others)
    (λ q id m e. ap (λ b. (b && (q.filing == filing)) || (b && other filing q)) e ∙ either (q.filing == filing))
    (first_of_both live missed (λ q id. missed q id && (q.filing == filing)) (λ q id. missed q id && other filing q) own others f g))
    (first_of_missing known live l)
  where
    missed : PlainProject → ℕ → Bool
    missed = misses known live

    either : (b : Bool) → ((true && b) || (true && not b)) ≡ true
    either true = refl
    either false = refl

-- ---- id by id

-- what is missing of those ids, and of one id more
module _ (live : List PlainProject) (test : PlainProject → ℕ → Bool) (extra : PlainProject → Bool) (ids : List ℕ) (i : ℕ) (within : i < length ids) where
  abbrev pub of_ids : List ℕ → PlainProject → ℕ → Bool
  of_ids those q id = test q id && (has_id those id && extra q)

  abbrev pub of_id : ℕ → PlainProject → ℕ → Bool
  of_id one q id = test q id && ((id == one) && extra q)

  more : (id : ℕ) → has_id (take (i + 1) ids) id ≡ (has_id (take i ids) id || (id == get_or ids i 0))
  more id =
      ap (λ l. has_id l id) (take_more ids i 0 within)
      ∙ list_any-append (λ other. id == other) (take i ids) (get_or ids i 0 ∷ [])
      ∙ ap (λ b. has_id (take i ids) id || b) (or_false (id == get_or ids i 0))

  split : (a b c d : Bool) → (a && ((b || c) && d)) ≡ ((a && (b && d)) || (a && (c && d)))
  split true true c true = refl
  split true true true false = refl
  split true true false false = refl
  split true false c d = refl
  split false b c d = refl

  pub one_more : (first found : Option (Key × ℕ)) → IsFirst live test (of_ids (take i ids)) first → IsFirst live test (of_id (get_or ids i 0)) found
      → IsFirst live test (of_ids (take (i + 1) ids)) (earlier first found)
  one_more first found f g =
      claims_less live test (λ q id. of_ids (take i ids) q id || of_id (get_or ids i 0) q id) (of_ids (take (i + 1) ids)) (earlier first found)
      (λ q id m e. sym (ap (λ b. test q id && (b && extra q)) (more id) ∙ split (test q id) (has_id (take i ids) id) (id == get_or ids i 0) (extra q)) ∙ e)
      (first_of_both live test (of_ids (take i ids)) (of_id (get_or ids i 0)) first found f g)

  pub none_more : (first : Option (Key × ℕ)) → IsFirst live test (of_ids (take i ids)) first → IsFirst live test (of_id (get_or ids i 0)) None
      → IsFirst live test (of_ids (take (i + 1) ids)) first
  none_more first f g = subst (IsFirst live test (of_ids (take (i + 1) ids))) (as_it_is first) (one_more first None f g)
    where
      as_it_is : (o : Option (Key × ℕ)) → earlier o None ≡ o
      as_it_is None = refl
      as_it_is (Some x) = refl

pub none_of_none : (live : List PlainProject) (test : PlainProject → ℕ → Bool) (extra : PlainProject → Bool) → IsFirst live test (λ q id. test q id && (has_id [] id && extra q)) None
none_of_none live test extra = record {
  sound = λ found e. absurd (let wrong = e in cc);
  first = λ q id m e. absurd (not_both false (and_true (test q id) false e).1 refl);
}

-- an item of some ids is one of them
pub item_has : (ids : List ℕ) (i : ℕ) → i < length ids → has_id ids (get_or ids i 0) ≡ true
item_has ids i within = any_passes (λ other. get_or ids i 0 == other) ids (get_or ids i 0) (Contains-get_or ids i 0 within) (numbers_laws.refl (get_or ids i 0))

-- ---- one project

pub found_among : {X : Type 0} (test : X → Bool) (xs : List X) (y : X) → find test xs ≡ Some y → Contains xs y
found_among test xs y e = found_all (Contains xs) test xs y e (recursion_from_All (Contains xs) xs (All-contains_itself xs))

module _ (known : List ℕ) (live : List PlainProject) (p : PlainProject) (l : IsLive live) (filed : filed_as p.filing live ≡ Some p) where
  own_among : Contains live p
  own_among = found_among (λ x. x.filing == p.filing) live p filed

  own_one : (q : PlainProject) → Contains live q → (q.filing == p.filing) ≡ true → p ≡ q
  own_one q m e = one_filing p q live l.rising own_among m (sym (numbers_same q.filing p.filing e))

  module _ (id : ℕ) where
    abbrev of_own : PlainProject → ℕ → Bool
    of_own q j = misses known live q j && ((j == id) && (q.filing == p.filing))

    record IsOwn (q : PlainProject) (j : ℕ) : Type 0 where
      missed : misses known live q j ≡ true
      at : id ≡ j
      one : p ≡ q

    own_is : (q : PlainProject) (j : ℕ) → Contains live q → of_own q j ≡ true → IsOwn q j
    own_is q j m e =
        let parts = and_true (misses known live q j) ((j == id) && (q.filing == p.filing)) e in
        let others = and_true (j == id) (q.filing == p.filing) parts.1 in
        record { missed = parts.0; at = sym (numbers_same j id others.0); one = own_one q m others.1 }

    -- a dependency that is not met
    pub own_unmet : has_id p.dependencies id ≡ true → is_met known live (key_of p) id ≡ false → IsFirst live (misses known live) of_own (Some (key_of p, id))
    own_unmet has unmet = record {
      sound = λ found e.
          let same : (key_of p, id) ≡ found = cc in
          subst (IsFound live (misses known live)) same (record { project = p; among = own_among; passes = λ i. has i && not (unmet i); at = refl });
      first = λ q j m e.
          let own = own_is q j m e in
          (λ i. is_gt (missing_cmp (key_of p, id) (key_of (sym own.one i), sym own.at i))) ∙ ap is_gt (tied_itself missing_cmp-total (key_of p, id));
    }

    -- and one that is
    pub own_met : is_met known live (key_of p) id ≡ true → IsFirst live (misses known live) of_own None
    own_met met = record {
      sound = λ found e. absurd (let wrong = e in cc);
      first = λ q j m e.
          let own = own_is q j m e in
          let unmet = not_is (is_met known live (key_of q) j) (and_true (has_id q.dependencies j) (not (is_met known live (key_of q) j)) own.missed).1 in
          absurd (not_both (is_met known live (key_of p) id) met ((λ i. is_met known live (key_of (own.one i)) (own.at i)) ∙ unmet));
    }

  -- after all of them
  pub own_all : (found : Option (Key × ℕ)) → IsFirst live (misses known live) (λ q j. misses known live q j && (has_id p.dependencies j && (q.filing == p.filing))) found
      → IsFirst live (misses known live) (λ q j. misses known live q j && (q.filing == p.filing)) found
  own_all found h =
      claims_less live (misses known live) (λ q j. misses known live q j && (has_id p.dependencies j && (q.filing == p.filing))) (λ q j. misses known live q j && (q.filing == p.filing)) found
      (λ q j m e.
      let parts = and_true (misses known live q j) (q.filing == p.filing) e in
      let has : has_id p.dependencies j ≡ true =
      ap (λ (x : PlainProject). has_id x.dependencies j) (own_one q m parts.1) ∙ (and_true (has_id q.dependencies j) (not (is_met known live (key_of q) j)) parts.0).0
      in
      λ i. parts.0 i && (has i && parts.1 i))
      h

pub own_none : (known : List ℕ) (live : List PlainProject) (filing : ℕ) → filed_as filing live ≡ None → IsFirst live (misses known live) (λ q j. misses known live q j && (q.filing == filing)) None
own_none known live filing none = record {
  sound = λ found e. absurd (let wrong = e in cc);
  first = λ q j m e.
      let parts = and_true (misses known live q j) (q.filing == filing) e in
      absurd (not_both (list_any (λ (x : PlainProject). x.filing == filing) live) (any_passes (λ (x : PlainProject). x.filing == filing) live q m parts.1) (sym (list_any-find (λ (x : PlainProject). x.filing == filing) live) ∙ ap is_some none));
}
