use Rattle.nm_check.proofs.Edits as lemma
use Rattle.nm_check.proofs.laws.edits_touch_what_is_named.Goals as goal

pub returns-clause-steps : goal.returns-clause-steps
returns-clause-steps c = lemma.edited_steps_are_steps

pub returns-clause-edited : goal.returns-clause-edited
returns-clause-edited c = lemma.timelines_are_edited

pub returns-clause-stay : goal.returns-clause-stay
returns-clause-stay c = lemma.other_timelines_stay

pub returns-clause-breaks : goal.returns-clause-breaks
returns-clause-breaks c = lemma.only_touched_timelines_break
