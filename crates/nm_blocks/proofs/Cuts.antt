-- Lists of lists, joined to one that rises, and the list in which a key has its place.
use Rattle.std.proofs.Common.{◌≡◌, ◌<◌, ◌+◌, ◌-◌, ℕ, Bool, true, false, cond, None, Some, List, [], ◌∷◌, ◌++◌, refl, sym, ap, ◌∙◌, subst, length, take, drop, length-append, append_assoc, append-nil, arith}
use Rattle.std.proofs.lemmas.List.{length-map, take-append-drop}
use Rattle.std.specs.Cmp.{IsTotalOrder}
use Rattle.std.specs.Global.{Global, Vec}
use Rattle.std.specs.List.{AllByRecursion, prefix_len, slice_get}
use Rattle.std.specs.List.Sorted.{IsStrictlySortedBy}
use Rattle.std.specs.Ordering.{is_le, is_lt}
use Rattle.std.specs.declared.cmp.Ordering.{Ordering}
use Rattle.std.specs.declared.cmp.Ordering.TheVariants.{Less}
use Rattle.std.specs.declared.sync.Arc.{Arc}
use Rattle.nm_blocks.specs.Blocks.{AreBlocks, AreRising, IsBlock, joined, lists_of}
use Rattle.nm_blocks.specs.Cut.{AllBelow, AllAbove, IsCut, IsGroup}
use Rattle.nm_blocks.specs.Items.{item_cmp, IsRising, ends_below, first_from, with_all, without_all}
use Rattle.nm_blocks.proofs.Lists.{all_weaker, all_front, all_back, all_both, Across, rising_front, rising_back, rising_across, rising_first}
use Rattle.nm_blocks.proofs.Around.{early_through, not_up_to, all_with_all, all_without_all, with_all-append, with_all-behind, with_all-before, without_all-append, without_all-behind, without_all-before}
use Rattle.nm_blocks.proofs.Places.{Falls, all_ends, above_all, at_last, ends_all, ends_by_last, found_behind, found_here, front_passes, one_plus, rest_fails, stops, take_whole, drop_whole}

module _ {T : Type 0} where
  pub joined-append : (ls ms : List (List T)) → joined (ls ++ ms) ≡ joined ls ++ joined ms
  joined-append [] ms = refl
  joined-append (l ∷ ls) ms = ap (λ xs. l ++ xs) (joined-append ls ms) ∙ sym (append_assoc l (joined ls) (joined ms))

  pub joined_parts : (lists before : List (List T)) (block : List T) (behind : List (List T)) → lists ≡ before ++ block ∷ behind → joined lists ≡ joined before ++ (block ++ joined behind)
  joined_parts lists before block behind parts = ap joined parts ∙ joined-append before (block ∷ behind)

  -- each of these beside each of those, the other way round
  module _ {C : Type 0} (R : T → C → Type 0) where
    swap_first : (c : C) (cs : List C) (xs : List T) → AllByRecursion (λ x. AllByRecursion (R x) (c ∷ cs)) xs → AllByRecursion (λ x. R x c) xs × AllByRecursion (λ x. AllByRecursion (R x) cs) xs
    swap_first c cs xs all = (all_weaker _ _ (λ x h. h.0) xs all, all_weaker _ _ (λ x h. h.1) xs all)

    pub swapped : (xs : List T) (cs : List C) → AllByRecursion (λ x. AllByRecursion (R x) cs) xs → AllByRecursion (λ c. AllByRecursion (λ x. R x c) xs) cs
    swapped xs [] all = tt
    swapped xs (c ∷ cs) all = let parts = swap_first c cs xs all in (parts.0, swapped xs cs parts.1)

pub all_none : {C : Type 0} (cs : List C) → AllByRecursion (λ c. Unit {0}) cs
all_none [] = tt
all_none (c ∷ cs) = (tt, all_none cs)

module _ {T K : Type 0} (key : T → K) {cmp : K → K → Ordering} (o : IsTotalOrder cmp) where
  -- the parts of a joined list that rises
  module _ (lists before : List (List T)) (block : List T) (behind : List (List T)) (parts : lists ≡ before ++ block ∷ behind) (s : IsRising key cmp (joined lists)) where
    whole : IsRising key cmp (joined before ++ (block ++ joined behind))
    whole = subst (IsRising key cmp) (joined_parts lists before block behind parts) s

    from_block : IsRising key cmp (block ++ joined behind)
    from_block = rising_back (item_cmp key cmp) (joined before) (block ++ joined behind) whole

    pub rising_block : IsRising key cmp block
    rising_block = rising_front (item_cmp key cmp) block (joined behind) from_block

    pub rising_behind : IsRising key cmp (joined behind)
    rising_behind = rising_back (item_cmp key cmp) block (joined behind) from_block

    pub block_across : Across (item_cmp key cmp) block (joined behind)
    block_across = rising_across (item_cmp key cmp) block (joined behind) from_block

  -- the blocks that are passed lie below the key
  pub passed_below : (k : K) (lists : List (List T)) → IsRising key cmp (joined lists) → AllBelow key cmp k (joined (take (prefix_len (ends_below key cmp k) lists) lists))
  passed_below k [] s = tt
  passed_below k (l ∷ ls) s = by (ends_below key cmp k l) refl (passed_below k ls (rising_back (item_cmp key cmp) l (joined ls) s))
    where
      by : (b : Bool) → ends_below key cmp k l ≡ b → AllBelow key cmp k (joined (take (prefix_len (ends_below key cmp k) ls) ls)) → AllBelow key cmp k (joined (take (cond b (1 + prefix_len (ends_below key cmp k) ls) 0) (l ∷ ls)))
      by true e others = rw (one_plus (prefix_len (ends_below key cmp k) ls)) (all_both _ l _ (ends_all key o k l (rising_front (item_cmp key cmp) l (joined ls) s) e) others)
      by false e others = tt

  -- a search over blocks may be by their last items
  module _ (k : K) where
    abbrev pub arc_ends : Arc (Vec T) Global → Bool
    arc_ends block = ends_below key cmp k block.value.items

    ends_before : (l m : List T) → IsBlock m → IsRising key cmp m → Across (item_cmp key cmp) l m → ends_below key cmp k m ≡ true → ends_below key cmp k l ≡ true
    ends_before l [] size s across h = absurd (let some = size.0 in omega (arith, some))
    ends_before l (y ∷ ys) size s across h =
        let below = ends_all key o k (y ∷ ys) s h in
        all_ends key o k l (all_weaker _ _ (λ x less. o.trans (key x) (key y) k less.0 below.0) l across)

    later : (l : List T) (blocks : List (Arc (Vec T) Global)) → AreBlocks (lists_of blocks) → IsRising key cmp (joined (lists_of blocks)) → Across (item_cmp key cmp) l (joined (lists_of blocks))
        → AllByRecursion (λ b. arc_ends b ≡ true → ends_below key cmp k l ≡ true) blocks
    later l [] sizes s across = tt
    later l (b ∷ bs) sizes s across =
        let m = b.value.items in
        let others = joined (lists_of bs) in (
          ends_before l m sizes.0 (rising_front (item_cmp key cmp) m others s) (all_weaker _ _ (λ x all. all_front _ m others all) l across),
          later l bs sizes.1 (rising_back (item_cmp key cmp) m others s) (all_weaker _ _ (λ x all. all_back _ m others all) l across),
        )

    pub falls_blocks : (blocks : List (Arc (Vec T) Global)) → AreRising key cmp (lists_of blocks) → Falls arc_ends blocks
    falls_blocks [] kept = tt
    falls_blocks (b ∷ bs) kept =
        let l = b.value.items in
        let others = joined (lists_of bs) in
        let rest : IsRising key cmp others = rising_back (item_cmp key cmp) l others kept.rising in
        (later l bs kept.sizes.1 rest (rising_across (item_cmp key cmp) l others kept.rising), falls_blocks bs (record { sizes = kept.sizes.1; rising = rest }))

  -- the cut, by the place of the key
  module _ (k : K) (lists : List (List T)) (before : List (List T)) (block : List T) where
    pub cut_within : (behind : List (List T)) → IsRising key cmp (joined lists) → before ≡ take (prefix_len (ends_below key cmp k) lists) lists → drop (prefix_len (ends_below key cmp k) lists) lists ≡ block ∷ behind
        → IsCut key cmp k lists before block behind
    cut_within behind s front back =
        let n = prefix_len (ends_below key cmp k) lists in
        let parts : lists ≡ before ++ block ∷ behind = sym (take-append-drop n lists) ∙ (λ i. sym front i ++ back i) in
        record {
          parts = parts;
          below = subst (λ ls. AllBelow key cmp k (joined ls)) (sym front) (passed_below k lists s);
          above = above_all key o k block (joined behind) (stops (ends_below key cmp k) lists block behind back) (block_across lists before block behind parts s);
        }

    pub cut_behind : (behind : List (List T)) → IsRising key cmp (joined lists) → lists ≡ before ++ block ∷ [] → behind ≡ drop (prefix_len (ends_below key cmp k) lists) lists → behind ≡ [] → IsCut key cmp k lists before block behind
    cut_behind behind s parts back none =
        let n = prefix_len (ends_below key cmp k) lists in
        let all : take n lists ≡ lists = sym (append-nil (take n lists)) ∙ ap (λ ls. take n lists ++ ls) (sym none ∙ back) ∙ take-append-drop n lists in
        record {
          parts = parts ∙ ap (λ ls. before ++ block ∷ ls) (sym none);
          below = all_front _ (joined before) (block ++ []) (subst (AllBelow key cmp k) (joined_parts lists before block [] parts) (subst (λ ls. AllBelow key cmp k (joined ls)) all (passed_below k lists s)));
          above = subst (λ ls. AllAbove key cmp k (joined ls)) (sym none) tt;
        }

  -- what a search from a key on finds
  pub found_in_block : (k : K) (lists : List (List T)) (block : List T) (behind : List (List T)) → IsRising key cmp (joined lists) → drop (prefix_len (ends_below key cmp k) lists) lists ≡ block ∷ behind
      → first_from key cmp k (joined lists) ≡ first_from key cmp k block
  found_in_block k lists block behind s back =
      let n = prefix_len (ends_below key cmp k) lists in
      ap (first_from key cmp k) (ap joined (sym (take-append-drop n lists)) ∙ joined-append (take n lists) (drop n lists) ∙ ap (λ ls. joined (take n lists) ++ joined ls) back)
      ∙ found_behind key o k (joined (take n lists)) (block ++ joined behind) (passed_below k lists s)
      ∙ found_here key o k block (joined behind) (stops (ends_below key cmp k) lists block behind back)

  pub found_in_none : (k : K) (lists : List (List T)) → IsRising key cmp (joined lists) → drop (prefix_len (ends_below key cmp k) lists) lists ≡ [] → first_from key cmp k (joined lists) ≡ None
  found_in_none k lists s back =
      let n = prefix_len (ends_below key cmp k) lists in
      ap (first_from key cmp k) (ap joined (sym (take-append-drop n lists)) ∙ joined-append (take n lists) (drop n lists) ∙ ap (λ ls. joined (take n lists) ++ joined ls) back)
      ∙ found_behind key o k (joined (take n lists)) [] (passed_below k lists s)

  -- a group of changes
  module _ {C : Type 0} (of : C → K) where
    abbrev pub change_cmp : C → C → Ordering
    change_cmp x y = cmp (of x) (of y)

    abbrev pub is_early : K → C → Bool
    is_early k c = is_le (cmp (of c) k)

    below_first : (c : C) (cs : List C) (xs : List T) → IsStrictlySortedBy change_cmp (c ∷ cs) → AllBelow key cmp (of c) xs → AllByRecursion (λ d. AllBelow key cmp (of d) xs) (c ∷ cs)
    below_first c cs xs s below = (below, all_weaker _ _ (λ d less. all_weaker _ _ (λ x under. o.trans (key x) (of c) (of d) under less) xs below) cs (rising_first change_cmp c cs s))

    module _ (lists before : List (List T)) (block : List T) (behind : List (List T)) (c : C) (cs : List C) (cut : IsCut key cmp (of c) lists before block behind) (s : IsStrictlySortedBy change_cmp (c ∷ cs)) where
      -- at the end of the list
      pub whole_group : (those others : List C) → length behind ≡ 0 → those ≡ c ∷ cs → others ≡ [] → IsGroup key cmp of (c ∷ cs) lists before block behind those others
      whole_group those others none all rest = record {
        parts = cut.parts;
        split = sym (append-nil (c ∷ cs)) ∙ (λ i. sym all i ++ sym rest i);
        below = below_first c cs (joined before) s cut.below;
        above = above_none behind those none;
        apart = subst (AllByRecursion (λ d. AllBelow key cmp (of d) block)) (sym rest) tt;
      }
        where
          above_none : (ls : List (List T)) (ds : List C) → length ls ≡ 0 → AllByRecursion (λ d. AllAbove key cmp (of d) (joined ls)) ds
          above_none [] ds e = all_none ds
          above_none (l ∷ ls) ds e = absurd (omega (arith, e))

      -- up to the last item of the block
      pub early_group : (last : T) (those others : List C) → slice_get block (length block - 1) ≡ Some last → IsRising key cmp (joined lists) → Falls (is_early (key last)) (c ∷ cs)
          → those ≡ take (prefix_len (is_early (key last)) (c ∷ cs)) (c ∷ cs) → others ≡ drop (prefix_len (is_early (key last)) (c ∷ cs)) (c ∷ cs) → IsGroup key cmp of (c ∷ cs) lists before block behind those others
      early_group last those others at rising falls front back =
          let m = prefix_len (is_early (key last)) (c ∷ cs) in
          let last_across : AllByRecursion (λ z. cmp (key last) (key z) ≡ Less) (joined behind) = at_last key o (λ x. AllByRecursion (λ z. cmp (key x) (key z) ≡ Less) (joined behind)) block last at (block_across lists before block behind cut.parts rising) in
          record {
            parts = cut.parts;
            split = sym (take-append-drop m (c ∷ cs)) ∙ (λ i. sym front i ++ sym back i);
            below = below_first c cs (joined before) s cut.below;
            above = subst (AllByRecursion (λ d. AllAbove key cmp (of d) (joined behind))) (sym front)
                (all_weaker _ _ (λ d h. all_weaker _ _ (λ z less. early_through o (of d) (key last) (key z) (cmp (of d) (key last)) refl h less) (joined behind) last_across) (take m (c ∷ cs)) (front_passes (is_early (key last)) (c ∷ cs)));
            apart = subst (AllByRecursion (λ d. AllBelow key cmp (of d) block)) (sym back)
                (all_weaker _ _ (λ d h. ends_all key o (of d) block (rising_block lists before block behind cut.parts rising) (ends_by_last key o (of d) block last at ∙ ap is_lt (not_up_to o (of d) (key last) (cmp (of d) (key last)) refl h))) (drop m (c ∷ cs)) (rest_fails (is_early (key last)) (c ∷ cs) falls));
          }

    module _ (lists before : List (List T)) (block : List T) (behind : List (Arc (Vec T) Global)) (changes : List C) (first : C) (e : Some first ≡ slice_get changes 0) (cut : IsCut key cmp (of first) lists before block (lists_of behind)) (s : IsStrictlySortedBy change_cmp changes) (those others : List C) (n : ℕ) (front : those ≡ take n changes) (back : others ≡ drop n changes) where
      pub whole_at : length behind ≡ 0 → n ≡ length changes → IsGroup key cmp of changes lists before block (lists_of behind) those others
      whole_at none all = by changes e s front back all
        where
          by : (ds : List C) → Some first ≡ slice_get ds 0 → IsStrictlySortedBy change_cmp ds → those ≡ take n ds → others ≡ drop n ds → n ≡ length ds → IsGroup key cmp of ds lists before block (lists_of behind) those others
          by [] e s front back all = absurd cc
          by (d ∷ ds) e s front back all =
              let same : first ≡ d = cc in
              whole_group lists before block (lists_of behind) d ds (subst (λ x. IsCut key cmp (of x) lists before block (lists_of behind)) same cut) s those others
              (length-map behind (λ b. b.value.items) ∙ none) (front ∙ ap (λ m. take m (d ∷ ds)) all ∙ take_whole (d ∷ ds)) (back ∙ ap (λ m. drop m (d ∷ ds)) all ∙ drop_whole (d ∷ ds))

      pub early_at : (last : T) (k : K) → Some last ≡ slice_get block (length block - 1) → k ≡ key last → IsRising key cmp (joined lists) → Falls (is_early (key last)) changes → n ≡ prefix_len (is_early k) changes → IsGroup key cmp of changes lists before block (lists_of behind) those others
      early_at last k at at_key rising falls count = by changes e s front back falls (count ∙ ap (λ j. prefix_len (is_early j) changes) at_key)
        where
          by : (ds : List C) → Some first ≡ slice_get ds 0 → IsStrictlySortedBy change_cmp ds → those ≡ take n ds → others ≡ drop n ds → Falls (is_early (key last)) ds → n ≡ prefix_len (is_early (key last)) ds
              → IsGroup key cmp of ds lists before block (lists_of behind) those others
          by [] e s front back falls count = absurd cc
          by (d ∷ ds) e s front back falls count =
              let same : first ≡ d = cc in
              early_group lists before block (lists_of behind) d ds (subst (λ x. IsCut key cmp (of x) lists before block (lists_of behind)) same cut) s last those others (sym at) rising falls
              (front ∙ ap (λ m. take m (d ∷ ds)) count) (back ∙ ap (λ m. drop m (d ∷ ds)) count)

  -- what a group's changes make of the list
  module _ (ys : List T) (lists before : List (List T)) (block : List T) (behind : List (List T)) (those others : List T) (group : IsGroup key cmp key ys lists before block behind those others) where
    pub group_with : IsRising key cmp ys → with_all key cmp ys (joined lists) ≡ (joined before ++ with_all key cmp those block) ++ with_all key cmp others (joined behind)
    group_with s =
        let split : IsRising key cmp (those ++ others) = subst (IsRising key cmp) group.split s in
        let below : AllByRecursion (λ y. AllBelow key cmp (key y) (joined before)) (those ++ others) = subst (AllByRecursion (λ y. AllBelow key cmp (key y) (joined before))) group.split group.below in
        let made = with_all key cmp those block in
        let passed : AllByRecursion (λ y. AllBelow key cmp (key y) (joined before ++ made)) others =
        all_three (joined before) those block others (all_back _ those others below) (swapped (λ x y. cmp (key x) (key y) ≡ Less) those others (rising_across (item_cmp key cmp) those others split)) group.apart in
        (λ i. with_all key cmp (group.split i) (joined_parts lists before block behind group.parts i))
        ∙ with_all-append key o those others (joined before ++ (block ++ joined behind))
        ∙ ap (with_all key cmp others)
        (with_all-behind key o those (joined before) (block ++ joined behind) (all_front _ those others below) ∙ ap (λ xs. joined before ++ xs) (with_all-before key o those block (joined behind) group.above)
        ∙ sym (append_assoc (joined before) made (joined behind)))
        ∙ with_all-behind key o others (joined before ++ made) (joined behind) passed
      where
        all_three : (xs those block others : List T) → AllByRecursion (λ y. AllBelow key cmp (key y) xs) others → AllByRecursion (λ y. AllBelow key cmp (key y) those) others → AllByRecursion (λ y. AllBelow key cmp (key y) block) others
            → AllByRecursion (λ y. AllBelow key cmp (key y) (xs ++ with_all key cmp those block)) others
        all_three xs those block [] a b c = tt
        all_three xs those block (y ∷ others) a b c = (all_both _ xs (with_all key cmp those block) a.0 (all_with_all key o _ those block b.0 c.0), all_three xs those block others a.1 b.1 c.1)

  module _ (ks : List K) (lists before : List (List T)) (block : List T) (behind : List (List T)) (those others : List K) (group : IsGroup key cmp (λ k. k) ks lists before block behind those others) where
    pub group_without : without_all key cmp ks (joined lists) ≡ (joined before ++ without_all key cmp those block) ++ without_all key cmp others (joined behind)
    group_without =
        let below : AllByRecursion (λ k. AllBelow key cmp k (joined before)) (those ++ others) = subst (AllByRecursion (λ k. AllBelow key cmp k (joined before))) group.split group.below in
        let made = without_all key cmp those block in
        let passed : AllByRecursion (λ k. AllBelow key cmp k (joined before ++ made)) others = all_two (joined before) those block others (all_back _ those others below) group.apart in
        (λ i. without_all key cmp (group.split i) (joined_parts lists before block behind group.parts i))
        ∙ without_all-append key o those others (joined before ++ (block ++ joined behind))
        ∙ ap (without_all key cmp others)
        (without_all-behind key o those (joined before) (block ++ joined behind) (all_front _ those others below) ∙ ap (λ xs. joined before ++ xs) (without_all-before key o those block (joined behind) group.above)
        ∙ sym (append_assoc (joined before) made (joined behind)))
        ∙ without_all-behind key o others (joined before ++ made) (joined behind) passed
      where
        all_two : (xs : List T) (those : List K) (block : List T) (others : List K) → AllByRecursion (λ k. AllBelow key cmp k xs) others → AllByRecursion (λ k. AllBelow key cmp k block) others → AllByRecursion (λ k. AllBelow key cmp k (xs ++ without_all key cmp those block)) others
        all_two xs those block [] a b = tt
        all_two xs those block (k ∷ others) a b = (all_both _ xs (without_all key cmp those block) a.0 (all_without_all key o _ those block b.0), all_two xs those block others a.1 b.1)

  -- what is left behind a group rises too
  pub kept_behind : (lists before : List (List T)) (block : List T) (behind : List (List T)) → lists ≡ before ++ block ∷ behind → AreRising key cmp lists → AreRising key cmp behind
  kept_behind lists before block behind parts kept = record {
    sizes = (all_back IsBlock before (block ∷ behind) (subst AreBlocks parts kept.sizes)).1;
    rising = rising_behind lists before block behind parts kept.rising;
  }

  pub kept_before : (lists before : List (List T)) (block : List T) (behind : List (List T)) → lists ≡ before ++ block ∷ behind → AreRising key cmp lists → AreBlocks before
  kept_before lists before block behind parts kept = all_front IsBlock before (block ∷ behind) (subst AreBlocks parts kept.sizes)

  pub kept_block : (lists before : List (List T)) (block : List T) (behind : List (List T)) → lists ≡ before ++ block ∷ behind → AreRising key cmp lists → IsBlock block
  kept_block lists before block behind parts kept = (all_back IsBlock before (block ∷ behind) (subst AreBlocks parts kept.sizes)).0

  -- the blocks behind are fewer
  pub fewer : (blocks : List (Arc (Vec T) Global)) (before : List (List T)) (block : List T) (behind : List (Arc (Vec T) Global)) → lists_of blocks ≡ before ++ block ∷ lists_of behind → length behind < length blocks
  fewer blocks before block behind parts =
      let all = ap length parts ∙ length-append before (block ∷ lists_of behind) in
      omega (arith, all, length-map blocks (λ b. b.value.items), length-map behind (λ b. b.value.items))

pub no_blocks : {X : Type 0} (xs : List X) → length xs ≡ 0 → xs ≡ []
no_blocks [] e = refl
no_blocks (x ∷ xs) e = absurd (omega (arith, e))
