use Rattle.nm_rows_versions.proofs.versions.numbers_never_fall_while_a_thousand_commits_are_made.Given as goal

-- the store that was just opened
abbrev pub ghosts-race-H-Site : goal.ghosts-race-H-Site
ghosts-race-H-Site g a = record { book = a.opening.book; opening = a.opening.kept }

abbrev pub ghosts-race-H-Ledger : goal.ghosts-race-H-Ledger
ghosts-race-H-Ledger g a = record { name = a.opening.ledger; parts = a.opening.readers }
