use Rattle.std.proofs.Common.{◌≡◌, ◌≤◌, ◌+◌, ◌∙◌, ◌++◌, ap, sym, length, arith, rules}
use Rattle.nm_blocks.specs.Blocks.{items_of}
use Rattle.nm_blocks.proofs.Pushed.{joined_items, joined_sizes, pushed_items}
use Rattle.nm_blocks.proofs.building.append_joined.Goals as goal

pub returns-then-len-gt-BLOCK_LENGTH-clause-items :
    goal.returns-then-len-gt-BLOCK_LENGTH-clause-items
returns-then-len-gt-BLOCK_LENGTH-clause-items g c =
    let block = c.args.block.now.value.items in
    pushed_items c.push-then-len-gt-BLOCK_LENGTH.new.self.items c.push-then-len-gt-BLOCK_LENGTH-2.new.self.items c.in_ok-try_clone-2.field-0 block c.in_ok-push-3.ensures.items (ap (λ v. v.items) c.in_ok-try_clone-2.ensures)
    ∙ ap (λ bs. items_of bs ++ block) (c.in_ok-push-2.ensures.items ∙ sym c.in-Some.ensures.items)

pub returns-clause-items : goal.returns-clause-items
returns-clause-items g c =
    let before = c.in-Some.before in
    let one : c.share_items.new.made.items ≡ before.value.items = c.in_ok-share_items.ensures ∙ (λ i. c.in_ok-joined.ensures.items i ++ (c.deref-4.ensures.value ∙ ap (λ v. v.items) c.deref-3.ensures) i) in
    let two : c.share_items-2.new.made.items ≡ before.value.items ++ c.args.block.now.value.items = c.in_ok-share_items-2.ensures ∙ (λ i. one i ++ (c.deref-6.ensures.value ∙ ap (λ v. v.items) c.deref-5.ensures) i) in
    joined_items c.args.made.now.items c.pop.new.self.items c.push-2.new.self.items before c.in_ok-new.field-0 c.args.block.now.value.items c.in-Some.ensures.items c.in_ok-push-4.ensures.items (ap (λ v. v.items) c.in_ok-new.ensures.ok ∙ two)

pub returns-clause-sizes : goal.returns-clause-sizes
returns-clause-sizes g c =
    let before = c.in-Some.before in
    let one : c.share_items.new.made.items ≡ before.value.items = c.in_ok-share_items.ensures ∙ (λ i. c.in_ok-joined.ensures.items i ++ (c.deref-4.ensures.value ∙ ap (λ v. v.items) c.deref-3.ensures) i) in
    let two : c.share_items-2.new.made.items ≡ before.value.items ++ c.args.block.now.value.items = c.in_ok-share_items-2.ensures ∙ (λ i. one i ++ (c.deref-6.ensures.value ∙ ap (λ v. v.items) c.deref-5.ensures) i) in
    let many : c.len.result ≡ length before.value.items = search rules in
    let more : c.len-2.result ≡ length c.args.block.now.value.items = search rules in
    let most : length before.value.items + length c.args.block.now.value.items ≤ 64 = omega (arith, many, more, c.if-len-gt-BLOCK_LENGTH.false) in
    joined_sizes c.args.made.now.items c.pop.new.self.items c.push-2.new.self.items before c.in_ok-new.field-0 c.args.block.now.value.items c.in-Some.ensures.items c.in_ok-push-4.ensures.items (ap (λ v. v.items) c.in_ok-new.ensures.ok ∙ two) c.requires.sizes c.requires.size most
