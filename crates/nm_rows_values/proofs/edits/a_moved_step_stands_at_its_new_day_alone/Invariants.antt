use Rattle.nm_rows_values.proofs.edits.a_moved_step_stands_at_its_new_day_alone.Given as goal

abbrev pub ghosts-told_after_a_move : goal.ghosts-told_after_a_move
ghosts-told_after_a_move g a = record { name = a.blank.name; parts = a.blank.parts }
