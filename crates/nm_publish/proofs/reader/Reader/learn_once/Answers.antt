use Rattle.std.proofs.Common.{nat_lt, refl}
use Rattle.nm_publish.proofs.Reading.{learns, learning_counts, found_later}
use Rattle.nm_version.specs.Kept.{number_of}
use Rattle.nm_publish.proofs.reader.Reader.learn_once.Goals as goal

pub invariant_of-self : goal.invariant_of-self
invariant_of-self g c =
    let mine = c.self.inside.exhibit in
    let other = c.into_exhibit-exhibit.result in
    rw c.keep_longer.ensures.kept (learns _ _ mine other c.self.inside.gate c.self.inside.share.parts c.enter_at_last-found.result c.enter_at_last-found.new.self c.self.invariant c.into_exhibit-exhibit.ensures.begins
    c.keep_longer.ensures.told.0 c.keep_longer.ensures.told.1 c.enter_at_last-found.ensures.entered c.not_later.ensures (nat_lt (number_of mine.kept) (number_of other.kept)) refl).placed

pub returns-clause-begins : goal.returns-clause-begins
returns-clause-begins g c =
    let mine = c.self.inside.exhibit in
    let other = c.into_exhibit-exhibit.result in
    let both =
    learns _ _ mine other c.self.inside.gate c.self.inside.share.parts c.enter_at_last-found.result c.enter_at_last-found.new.self c.self.invariant c.into_exhibit-exhibit.ensures.begins
    c.keep_longer.ensures.told.0 c.keep_longer.ensures.told.1 c.enter_at_last-found.ensures.entered c.not_later.ensures (nat_lt (number_of mine.kept) (number_of other.kept)) refl in
    rw (c.keep_longer.ensures.kept, ← c.self.view_is, ← c.into_exhibit-exhibit.ensures.kept) (both.begins, both.joins)

pub returns-clause-counted : goal.returns-clause-counted
returns-clause-counted g c =
    let mine = c.self.inside.exhibit in
    let other = c.into_exhibit-exhibit.result in
    let before = c.self.inside.gate in
    let after = c.enter_at_last-found.new.self in
    let found = c.enter_at_last-found.result in
    let both =
    learns _ _ mine other before c.self.inside.share.parts found after c.self.invariant c.into_exhibit-exhibit.ensures.begins
    c.keep_longer.ensures.told.0 c.keep_longer.ensures.told.1 c.enter_at_last-found.ensures.entered c.not_later.ensures (nat_lt (number_of mine.kept) (number_of other.kept)) refl in
    rw (← c.self.view_is, c.keep_longer.ensures.kept, c.rise.ensures)
    (learning_counts before after found mine.kept _ c.self.inside.misses c.enter_at_last-found.new.misses c.self.inside.learnt c.self.inside.share.amount
    (found_later _ _ mine.front before c.self.inside.share.parts found after c.self.invariant c.enter_at_last-found.ensures.entered) c.enter_at_last-found.ensures.entered c.enter_at_last-found.ensures.misses both.within)
