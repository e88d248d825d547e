use Rattle.nm_rows_values.proofs.trees.an_old_tree_stays_and_an_absent_key_takes_nothing_out.Given as goal

abbrev pub ghosts-sizes : goal.ghosts-sizes
ghosts-sizes g a = record { name = a.blank.name; parts = a.blank.parts }
