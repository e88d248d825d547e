use Rattle.nm_statement.proofs.Orders as lemma
use Rattle.nm_statement.proofs.laws.statements_are_ordered.Goals as goal

pub returns-clause-total : goal.returns-clause-total
returns-clause-total c = lemma.statement_cmp-total

pub returns-clause-apart : goal.returns-clause-apart
returns-clause-apart c = lemma.statement_cmp-equal

pub returns-clause-by_cmp : goal.returns-clause-by_cmp
returns-clause-by_cmp c = lemma.derived-statement_cmp

pub returns-clause-by_eq : goal.returns-clause-by_eq
returns-clause-by_eq c = lemma.derived-eq
