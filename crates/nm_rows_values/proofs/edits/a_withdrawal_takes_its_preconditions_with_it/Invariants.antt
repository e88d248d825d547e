use Rattle.nm_rows_values.proofs.edits.a_withdrawal_takes_its_preconditions_with_it.Given as goal

abbrev pub ghosts-told_after_a_withdrawal : goal.ghosts-told_after_a_withdrawal
ghosts-told_after_a_withdrawal g a = record { name = a.blank.name; parts = a.blank.parts }
