use Rattle.nm_rows_values.proofs.trees.walks_begin_and_end_where_they_should.Given as goal

abbrev pub ghosts-walks : goal.ghosts-walks
ghosts-walks g a = record { name = a.blank.name; parts = a.blank.parts }
