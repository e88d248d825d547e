use Rattle.nm_ident.specs.Order.{names_tied}
use Rattle.nm_ident.proofs.laws.names_are_ordered.Goals as goal

pub returns-clause-by_eq : goal.returns-clause-by_eq
returns-clause-by_eq c = names_tied
