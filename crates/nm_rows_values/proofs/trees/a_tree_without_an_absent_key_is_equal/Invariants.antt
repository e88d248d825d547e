use Rattle.nm_rows_values.proofs.trees.a_tree_without_an_absent_key_is_equal.Given as goal

abbrev pub ghosts-stays_equal : goal.ghosts-stays_equal
ghosts-stays_equal g a = record { name = a.blank.name; parts = a.blank.parts }
