-- A list of blocks with more of them behind it.
use Rattle.std.proofs.Common.{◌≡◌, ◌<◌, ◌+◌, ℕ, List, [], ◌∷◌, ◌++◌, refl, ap, sym, ◌∙◌, subst, length, length-append, take, get_or, append-nil, append_assoc, arith, ◌≤◌}
use Rattle.std.proofs.lemmas.List.{map-append, take_more}
use Rattle.std.specs.Global.{Global, Vec}
use Rattle.std.specs.declared.sync.Arc.{Arc}
use Rattle.nm_blocks.specs.Blocks.{AreBlocks, IsBlock, items_of, joined, lists_of}
use Rattle.nm_blocks.proofs.Cuts.{joined-append}
use Rattle.nm_blocks.proofs.Lists.{all_both, all_front}

module _ {T : Type 0} (old new : List (Arc (Vec T) Global)) where
  pub more_items : (more : List (Arc (Vec T) Global)) → lists_of new ≡ lists_of old ++ lists_of more → items_of new ≡ items_of old ++ items_of more
  more_items more e = ap joined e ∙ joined-append (lists_of old) (lists_of more)

  pub more_sizes : (more : List (Arc (Vec T) Global)) → lists_of new ≡ lists_of old ++ lists_of more → AreBlocks (lists_of old) → AreBlocks (lists_of more) → AreBlocks (lists_of new)
  more_sizes more e sizes others = subst AreBlocks (sym e) (all_both IsBlock (lists_of old) (lists_of more) sizes others)

  pub one_more : (block : Arc (Vec T) Global) → new ≡ old ++ block ∷ [] → lists_of new ≡ lists_of old ++ lists_of (block ∷ [])
  one_more block e = ap lists_of e ∙ map-append (λ b. b.value.items) old (block ∷ [])

  pub pushed_items : (block : Arc (Vec T) Global) (items : List T) → new ≡ old ++ block ∷ [] → block.value.items ≡ items → items_of new ≡ items_of old ++ items
  pushed_items block items e is = more_items (block ∷ []) (one_more block e) ∙ ap (λ xs. items_of old ++ xs) (append-nil block.value.items ∙ is)

  pub pushed_sizes : (block : Arc (Vec T) Global) (items : List T) → new ≡ old ++ block ∷ [] → block.value.items ≡ items → AreBlocks (lists_of old) → IsBlock items → AreBlocks (lists_of new)
  pushed_sizes block items e is sizes size = more_sizes (block ∷ []) (one_more block e) sizes (subst IsBlock (sym is) size, tt)

-- a turn of a loop over blocks
pub one_further : {T : Type 0} (blocks : List (Arc (Vec T) Global)) (i : ℕ) (block : Arc (Vec T) Global) → i < length blocks → block ≡ get_or blocks i block → items_of (take (i + 1) blocks) ≡ items_of (take i blocks) ++ block.value.items
one_further blocks i block within is = pushed_items (take i blocks) (take (i + 1) blocks) block block.value.items (take_more blocks i block within ∙ ap (λ b. take i blocks ++ b ∷ []) (sym is)) refl

-- the last block, with another one joined to it
module _ {T : Type 0} (old popped new : List (Arc (Vec T) Global)) (before both : Arc (Vec T) Global) (block : List T) (old_is : old ≡ popped ++ before ∷ []) (new_is : new ≡ popped ++ both ∷ []) (both_is : both.value.items ≡ before.value.items ++ block) where
  pub joined_items : items_of new ≡ items_of old ++ block
  joined_items =
      pushed_items popped new both (before.value.items ++ block) new_is both_is ∙ sym (append_assoc (items_of popped) before.value.items block)
      ∙ ap (λ xs. xs ++ block) (sym (pushed_items popped old before before.value.items old_is refl))

  pub joined_sizes : AreBlocks (lists_of old) → IsBlock block → length before.value.items + length block ≤ 64 → AreBlocks (lists_of new)
  joined_sizes sizes size most =
      let some = size.0 in
      let all = length-append before.value.items block in
      let fits : IsBlock (before.value.items ++ block) = (omega (arith, some, all), omega (arith, most, all)) in
      pushed_sizes popped new both (before.value.items ++ block) new_is both_is (all_front IsBlock (lists_of popped) (before.value.items ∷ []) (subst AreBlocks (one_more popped old before old_is) sizes)) fits
