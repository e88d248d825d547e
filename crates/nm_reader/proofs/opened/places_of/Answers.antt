use Rattle.std.proofs.Common.{◌-◌, ap, arith}
use Rattle.nm_reader.specs.Opened.{Declaration}
use Rattle.nm_reader.proofs.Leading.{one_more}
use Rattle.nm_reader.proofs.opened.places_of.Goals as goal

pub loop-place-preserved : goal.loop-place-preserved
loop-place-preserved c = record {
  within = omega arith;
  leads = one_more c.args.declarations.now (c.loop-place.place - 1) c.loop-place.place c.index-declarations-place.result c.declaration.inside.prefix (omega arith) (omega arith) c.index-declarations-place.is (ap (λ (d : Declaration). d.prefix) c.declaration.view_is)
      c.loop-place.places c.insert.new.self c.in_ok-insert.ensures.updates c.loop-place.invariant.leads;
}
