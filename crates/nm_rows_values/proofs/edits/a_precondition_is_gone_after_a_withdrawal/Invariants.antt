use Rattle.nm_rows_values.proofs.edits.a_precondition_is_gone_after_a_withdrawal.Given as goal

abbrev pub ghosts-lost_precondition : goal.ghosts-lost_precondition
ghosts-lost_precondition g a = record { name = a.blank.name; parts = a.blank.parts }
