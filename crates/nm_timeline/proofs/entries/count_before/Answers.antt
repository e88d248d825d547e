use Rattle.std.proofs.Common.{◌≡◌, ◌∙◌, ap, rules}
use Rattle.std.specs.Ordering.{is_ge, partial_ge}
use Rattle.std.specs.List.{prefix_len}
use borrow.Author.Tests.{tests}
use Rattle.std.proofs.lemmas.Iterator.{YieldsList-from_slice}
use Rattle.std.proofs.lemmas.Iterator.Search.{position_from_yields_List}
use Rattle.nm_day.specs.Key.{key_cmp}
use Rattle.nm_day.specs.contracts.key.KeyPartialOrd.TheImpl as key_partial_ord
use Rattle.nm_timeline.proofs.Places.{found_or_length, key_ge, not_ge}
use Rattle.nm_timeline.proofs.entries.count_before.Goals as goal

pub returns : goal.returns
returns c =
    c.unwrap_or.ensures
    ∙ found_or_length (λ e. is_ge (key_cmp e.0 c.args.key.now)) c.args.entries.now c.position.result
    (position_from_yields_List (λ e. is_ge (key_cmp e.0 c.args.key.now)) _ _ c.position.result c.position.ensures.ran
    (YieldsList-from_slice c.args.entries.now c.iter.ensures.rest) (λ x b q k. (search (rules, tests), (let told : b ≡ partial_ge key_partial_ord.ghosts.partial_cmp x.now.0 c.args.key.now = search (rules, tests) in told ∙ key_ge x.now.0 c.args.key.now))))
    ∙ ap (λ p. prefix_len p c.args.entries.now) (λ i e. not_ge (key_cmp e.0 c.args.key.now) i)
