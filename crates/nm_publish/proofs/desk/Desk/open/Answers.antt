use Rattle.std.proofs.Common.{◌∙◌, ◌++◌, ◌∷◌, [], ap}
use Rattle.nm_publish.proofs.Seats.{published_again}
use Rattle.nm_publish.proofs.desk.Desk.open.Goals as goal

-- what is shown is the exhibit's front already
pub published-requires-clause-goes_on : goal.published-requires-clause-goes_on
published-requires-clause-goes_on g c =
    published_again c.append.new.self.desk.shown.value.front _ c.args.exhibit
    (ap (λ d. d.shown.value.front) c.in-Ok.ensures.desk ∙ (ap (λ s. s.front) c.in_ok-writer.ensures.0 ∙ c.shown-first.ensures))
    (c.in-Ok.ensures.pending ∙ ap (λ pending. pending ++ c.args.exhibit ∷ []) c.in_ok-writer.ensures.1)
