use Rattle.nm_statement.specs.Order.{statement_cmp}
use Rattle.nm_ident.proofs.Rising.{is_rising_by-so}
use Rattle.nm_statement.proofs.set.Set.is_sound.Goals as goal

pub returns : goal.returns
returns c = rw (is_rising_by-so statement_cmp c.args.self.now c.as_slice.ensures.rising, ← c.as_slice.ensures.statements) c.are_sound.ensures
