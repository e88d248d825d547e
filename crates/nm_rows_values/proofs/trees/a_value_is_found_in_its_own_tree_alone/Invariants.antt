use Rattle.nm_rows_values.proofs.trees.a_value_is_found_in_its_own_tree_alone.Given as goal

abbrev pub ghosts-values : goal.ghosts-values
ghosts-values g a = record { name = a.blank.name; parts = a.blank.parts }
