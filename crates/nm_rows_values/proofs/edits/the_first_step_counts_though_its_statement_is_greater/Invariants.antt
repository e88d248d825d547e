use Rattle.nm_rows_values.proofs.edits.the_first_step_counts_though_its_statement_is_greater.Given as goal

abbrev pub ghosts-first_step : goal.ghosts-first_step
ghosts-first_step g a = record { name = a.blank.name; parts = a.blank.parts }
