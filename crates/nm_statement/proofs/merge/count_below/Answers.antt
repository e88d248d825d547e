use Rattle.std.proofs.Common.{◌≡◌, ◌∙◌, rules}
use Rattle.std.specs.Ordering.{is_ge, partial_ge}
use borrow.Author.Tests.{tests}
use Rattle.std.proofs.lemmas.Iterator.{YieldsList-from_slice}
use Rattle.std.proofs.lemmas.Iterator.Search.{position_from_yields_List}
use Rattle.nm_statement.specs.Order.{statement_cmp}
use Rattle.nm_statement.specs.contracts.statement.StatementPartialOrd.TheImpl as statement_partial_ord
use Rattle.nm_statement.proofs.Merges.{found_or_length, ge_is}
use Rattle.nm_statement.proofs.merge.count_below.Goals as goal

pub returns : goal.returns
returns c =
    c.unwrap_or.ensures
    ∙ found_or_length (λ s. is_ge (statement_cmp s c.args.limit.now)) c.args.statements.now c.position.result
    (position_from_yields_List (λ s. is_ge (statement_cmp s c.args.limit.now)) _ _ c.position.result c.position.ensures.ran
    (YieldsList-from_slice c.args.statements.now c.iter.ensures.rest) (λ x b q k. (search (rules, tests), (let told : b ≡ partial_ge statement_partial_ord.ghosts.partial_cmp x.now c.args.limit.now = search (rules, tests) in told ∙ ge_is x.now c.args.limit.now))))
