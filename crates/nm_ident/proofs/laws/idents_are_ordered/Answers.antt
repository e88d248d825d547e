use Rattle.nm_ident.proofs.Orders as lemma
use Rattle.nm_ident.proofs.laws.idents_are_ordered.Goals as goal

pub returns-clause-by_cmp : goal.returns-clause-by_cmp
returns-clause-by_cmp c = lemma.derived-ident_cmp

pub returns-clause-by_partial_cmp : goal.returns-clause-by_partial_cmp
returns-clause-by_partial_cmp c = lemma.derived-ident_partial_cmp

pub returns-clause-by_eq : goal.returns-clause-by_eq
returns-clause-by_eq c = lemma.derived-ident_eq
