use Rattle.std.proofs.Common.{◌∙◌, ap}
use Rattle.nm_publish.proofs.Seats.{last_is_shown, goes_on_to_last}
use Rattle.nm_publish.proofs.desk.Desk.show.Goals as goal

pub publish-requires-clause-goes_on : goal.publish-requires-clause-goes_on
publish-requires-clause-goes_on g c =
    goes_on_to_last c.args.self.now c.appended.new.writer.desk.shown.value.front _ _ c.args.exhibit c.requires (ap (λ d. d.shown.value.front) c.appended.ensures.desk ∙ c.self.view_is)
    c.self.invariant.1 c.appended.ensures.pending

pub returns : goal.returns
returns g c = c.publish.ensures.shown ∙ last_is_shown _ _ _ c.args.exhibit c.self.invariant.1 c.appended.ensures.pending
