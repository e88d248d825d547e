use Rattle.nm_rows_values.proofs.edits.a_forward_statement_may_not_be_there_though_it_is_reverse_too.Given as goal

abbrev pub ghosts-both_parts : goal.ghosts-both_parts
ghosts-both_parts g a = record { name = a.blank.name; parts = a.blank.parts }
