use Rattle.nm_check.proofs.timelines.Timelines.of_subject.Given as goal

abbrev pub ghosts-within : goal.ghosts-within
ghosts-within a = record { name = a.blank.name; parts = a.blank.parts }
