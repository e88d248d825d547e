use Rattle.nm_version.proofs.version.Version.open.Given as goal

abbrev pub ghosts-timelines_of_base : goal.ghosts-timelines_of_base
ghosts-timelines_of_base a = record { name = a.blank.name; parts = a.blank.parts }
