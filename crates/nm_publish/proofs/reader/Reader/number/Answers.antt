use Rattle.nm_publish.proofs.Reading.{told_within}
use Rattle.nm_publish.proofs.reader.Reader.number.Goals as goal

pub returns-clause-begins : goal.returns-clause-begins
returns-clause-begins g c =
    rw (← c.self.view_is) (told_within c.self.inside.exhibit.front c.self.inside.exhibit.kept c.self.inside.gate c.self.invariant.within c.front-front.ensures.told)
