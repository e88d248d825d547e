use Rattle.nm_rows_values.proofs.edits.of_two_breaks_of_a_step_the_first_part_counts.Given as goal

abbrev pub ghosts-least_part : goal.ghosts-least_part
ghosts-least_part g a = record { name = a.blank.name; parts = a.blank.parts }
