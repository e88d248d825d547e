use Rattle.nm_rows_versions.proofs.versions.a_version_that_is_held_stays_as_it_is.Given as goal

-- the store that was just opened
abbrev pub ghosts-a_hundred-H-Site : goal.ghosts-a_hundred-H-Site
ghosts-a_hundred-H-Site g a = record { book = a.opening.book; opening = a.opening.kept }

abbrev pub ghosts-a_hundred-H-Ledger : goal.ghosts-a_hundred-H-Ledger
ghosts-a_hundred-H-Ledger g a = record { name = a.opening.ledger; parts = a.opening.readers }
