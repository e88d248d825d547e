use Rattle.nm_publish.proofs.Reading.{miss_tries, kept_tries, found_tries, found_begins, found_keeps}
use Rattle.nm_publish.proofs.reader.Reader.look_once.Goals as goal

pub returns-in_err-try_clone-in-None-clause-tried : goal.returns-in_err-try_clone-in-None-clause-tried
returns-in_err-try_clone-in-None-clause-tried g c =
    rw (← c.self.view_is) (miss_tries c.self.inside.gate c.enter.new.self c.self.inside.exhibit c.self.inside.misses c.enter.new.misses c.self.inside.learnt c.self.inside.share.amount
    c.in-None.ensures.missed c.in-None.ensures.counted c.self.invariant.within c.front-front.ensures.told)

pub returns-in_err-exhibit-in-Some-clause-tried : goal.returns-in_err-exhibit-in-Some-clause-tried
returns-in_err-exhibit-in-Some-clause-tried g c =
    rw (← c.self.view_is) (kept_tries _ _ c.self.inside.exhibit c.self.inside.gate c.self.inside.share.parts c.in-Some.shown.front c.enter.new.self c.self.inside.misses c.enter.new.misses c.self.inside.learnt c.self.inside.share.amount
    c.self.invariant c.front-front.ensures.told c.in-Some.ensures.entered c.in-Some.ensures.counted)

pub returns-in_err-held-in-Some-clause-tried : goal.returns-in_err-held-in-Some-clause-tried
returns-in_err-held-in-Some-clause-tried g c =
    rw (← c.self.view_is) (kept_tries _ _ c.self.inside.exhibit c.self.inside.gate c.self.inside.share.parts c.in-Some.shown.front c.enter.new.self c.self.inside.misses c.enter.new.misses c.self.inside.learnt c.self.inside.share.amount
    c.self.invariant c.front-front.ensures.told c.in-Some.ensures.entered c.in-Some.ensures.counted)

pub returns-in_ok-try_clone-in-None-clause-tried : goal.returns-in_ok-try_clone-in-None-clause-tried
returns-in_ok-try_clone-in-None-clause-tried g c =
    rw (← c.self.view_is) (miss_tries c.self.inside.gate c.enter.new.self c.self.inside.exhibit c.self.inside.misses c.enter.new.misses c.self.inside.learnt c.self.inside.share.amount
    c.in-None.ensures.missed c.in-None.ensures.counted c.self.invariant.within c.front-front.ensures.told)

pub returns-in_ok-held-in-Some-clause-begins : goal.returns-in_ok-held-in-Some-clause-begins
returns-in_ok-held-in-Some-clause-begins g c =
    rw (← c.self.view_is) (found_begins _ _ c.self.inside.exhibit c.in_ok-exhibit-in-Some.exhibit c.self.inside.gate c.self.inside.share.parts c.in-Some.shown.front c.enter.new.self
    c.self.invariant c.front-front.ensures.told c.held-in-Some.ensures.told c.in_ok-exhibit-in-Some.ensures c.in-Some.ensures.entered)

pub returns-in_ok-held-in-Some-clause-tried : goal.returns-in_ok-held-in-Some-clause-tried
returns-in_ok-held-in-Some-clause-tried g c =
    rw (← c.self.view_is) (found_tries _ _ c.self.inside.exhibit c.in_ok-exhibit-in-Some.exhibit c.self.inside.gate c.self.inside.share.parts c.in-Some.shown.front c.enter.new.self c.self.inside.misses c.enter.new.misses c.self.inside.learnt c.self.inside.share.amount
    c.self.invariant c.held-in-Some.ensures.told c.in_ok-exhibit-in-Some.ensures c.in-Some.ensures.entered c.in-Some.ensures.counted)

pub invariant_of-self-in-Some : goal.invariant_of-self-in-Some
invariant_of-self-in-Some g c =
    rw c.in_ok-exhibit-in-Some.ensures
    (found_keeps _ _ c.self.inside.exhibit.front c.self.inside.gate c.self.inside.share.parts c.in-Some.shown.front c.enter.new.self c.self.invariant c.in-Some.ensures.entered)
