use Rattle.std.proofs.Common.{◌∙◌, Bool, ap}
use Rattle.std.specs.List.{list_any}
use Rattle.nm_day.specs.declared.key.Key.{Key}
use Rattle.nm_timeline.proofs.Places.{same_key}
use Rattle.nm_timeline.proofs.entries.has_key.Goals as goal

pub returns : goal.returns
returns c = c.contains.ensures.value ∙ ap (λ (same : Key → Key → Bool). list_any (λ other. same other c.args.key.now) c.args.keys.now) (λ i x y. same_key x y i)
