use Rattle.std.proofs.Common.{◌∙◌, arith, rules}
use Rattle.nm_blocks.specs.Blocks.{lists_of}
use Rattle.nm_blocks.proofs.Cuts.{early_at, kept_block, whole_at}
use Rattle.nm_blocks.proofs.Places.{falls_up_to, has_last}
use Rattle.nm_blocks.proofs.groups.key_group_at.Goals as goal
use Rattle.nm_blocks.proofs.groups.key_group_at.Goals.{in-Some, in_default, in_default-2}

pub split_at-requires : goal.split_at-requires
split_at-requires g c = elim c.match-last.branch [ in-Some w ↦ omega (arith, w.count-is, w.keys_up_to-count.ensures.bound) | in_default-2 w ↦ omega (arith, w.count-is) | in_default w ↦ omega (arith, w.count-is) ]

pub returns : goal.returns
returns g c =
    let key = g.T.Keyed.key in
    let o = g.met.T.Key.Ord.total in
    let cut = c.in_ok-before.ensures in
    let lists = lists_of c.args.blocks.now in
    let before = lists_of c.in_ok-before.field-0.before.now in
    let block = c.in_ok-before.field-0.block.now in
    let behind = c.in_ok-before.field-0.behind.now in
    elim c.match-last.branch [
      | in-Some w ↦ early_at key o (λ k. k) lists before block behind c.args.keys.now c.in_ok-first.field-0.now c.in_ok-first.ensures.value cut c.requires.keys c.split_at.result.0.now c.split_at.result.1.now c.match-last.count
          c.split_at.ensures.front c.split_at.ensures.back w.in-Some.last.now w.key.result.now w.in-Some.ensures.value w.key.ensures c.requires.blocks.rising (falls_up_to (λ k. k) o (key w.in-Some.last.now) c.args.keys.now c.requires.keys)
          (w.count-is ∙ w.keys_up_to-count.ensures.place)
      | in_default-2 w ↦ whole_at key o (λ k. k) lists before block behind c.args.keys.now c.in_ok-first.field-0.now c.in_ok-first.ensures.value cut c.requires.keys c.split_at.result.0.now c.split_at.result.1.now c.match-last.count
          c.split_at.ensures.front c.split_at.ensures.back (search rules) w.count-is
      | in_default w ↦ absurd (has_last key o block (kept_block key o lists before block (lists_of behind) cut.parts c.requires.blocks).0 w.in_default.in-None-own.ensures.0)
    ]
