use Rattle.std.proofs.Common.{◌≡◌, ◌+◌, ◌-◌, ◌/◌, ◌≤◌, ◌∷◌, ◌++◌, [], ap, sym, ◌∙◌, subst, length, append_assoc, arith, rules, length-append}
use Rattle.std.proofs.lemmas.Result.{IfOk-weaker}
use Rattle.nm_tree.specs.Pairs.{IsRising, pair_cmp}
use Rattle.nm_tree.specs.Sight.{IsFull}
use Rattle.nm_tree.proofs.Fulls.{IsFull-fork_of, full_sides}
use Rattle.nm_tree.proofs.Rising.{rising_back, rising_front}
use Rattle.nm_tree.proofs.sorted.+build.Goals as goal

pub build-requires-2 : goal.build-requires-2
build-requires-2 g t c =
    let split = ap length c.in_ok-right.ensures.taken in
    let split_more = ap length c.in-Some.ensures.items in
    let front : IsRising g.K.Ord.cmp c.build.new.pairs.items = rising_front (pair_cmp g.K.Ord.cmp) c.build.new.pairs.items c.in_ok-right.right.pairs (rw c.in_ok-right.ensures.taken at c.requires.rising) in
    let rising : IsRising g.K.Ord.cmp c.pop.new.self.items = rising_front (pair_cmp g.K.Ord.cmp) c.pop.new.self.items (c.in-Some.pair ∷ []) (rw c.in-Some.ensures.items at front) in
    let enough : (c.args.count - 1) / 2 ≤ length c.pop.new.self.items = omega (arith, split, split_more, c.in_ok-right.ensures.count, length-append c.build.new.pairs.items c.in_ok-right.right.pairs, length-append c.pop.new.self.items (c.in-Some.pair ∷ [])) in
    search rules

pub make-requires : goal.make-requires
make-requires g t c =
    let low : length c.in_ok-left.left.pairs ≤ length c.in_ok-right.right.pairs = omega (arith, c.in_ok-left.ensures.count, c.in_ok-right.ensures.count) in
    let near : length c.in_ok-right.right.pairs ≤ length c.in_ok-left.left.pairs + 1 = omega (arith, c.in_ok-left.ensures.count, c.in_ok-right.ensures.count) in
    let sides = full_sides c.in_ok-left.left c.in-Some.pair c.in_ok-right.right c.in_ok-left.ensures.full c.in_ok-right.ensures.full low near in
    let all = c.in_ok-right.ensures.taken ∙ ap (λ xs. xs ++ c.in_ok-right.right.pairs) c.in-Some.ensures.items ∙ ap (λ xs. (xs ++ c.in-Some.pair ∷ []) ++ c.in_ok-right.right.pairs) c.in_ok-left.ensures.taken
    ∙ append_assoc (c.build-2.new.pairs.items ++ c.in_ok-left.left.pairs) (c.in-Some.pair ∷ []) c.in_ok-right.right.pairs ∙ append_assoc c.build-2.new.pairs.items c.in_ok-left.left.pairs (c.in-Some.pair ∷ c.in_ok-right.right.pairs) in
    let pair_is : c.in_ok-new.field-0.value ≡ c.in-Some.pair = c.in_ok-new.ensures.ok in
    rw pair_is (record { rising = rising_back (pair_cmp g.K.Ord.cmp) c.build-2.new.pairs.items (c.in_ok-left.left.pairs ++ c.in-Some.pair ∷ c.in_ok-right.right.pairs) (subst (IsRising g.K.Ord.cmp) all c.requires.rising); balanced = sides })

pub returns-clause-full : goal.returns-clause-full
returns-clause-full g t c =
    let low : length c.in_ok-left.left.pairs ≤ length c.in_ok-right.right.pairs = omega (arith, c.in_ok-left.ensures.count, c.in_ok-right.ensures.count) in
    let near : length c.in_ok-right.right.pairs ≤ length c.in_ok-left.left.pairs + 1 = omega (arith, c.in_ok-left.ensures.count, c.in_ok-right.ensures.count) in
    IfOk-weaker c.make-2.result _ _ (λ b e. subst IsFull (sym e) (IsFull-fork_of c.in_ok-left.left c.in_ok-new.field-0.value c.in_ok-right.right c.in_ok-left.ensures.full c.in_ok-right.ensures.full low near)) c.make-2.ensures.fork
