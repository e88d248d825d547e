use Rattle.std.proofs.Common.{◌∙◌, ap}
use Rattle.nm_reader.specs.Lent.{prefix_of}
use Rattle.nm_reader.specs.Namespaces.{declared}
use Rattle.nm_reader.specs.Opened.{Opened}
use Rattle.nm_reader.proofs.Scopes.{declared_outside}
use Rattle.nm_reader.proofs.namespaces.in_force.Goals as goal

pub loop-rest-preserved : goal.loop-rest-preserved
loop-rest-preserved c = declared_outside c.loop-rest.rest.now c.opened-item.result (prefix_of c.args.prefix) c.in-len1-up.len_at_least c.opened-item.is (c.in-None.ensures ∙ ap (λ (o : Opened). declared o.declared (prefix_of c.args.prefix)) c.opened.view_is) ∙ c.loop-rest.invariant
