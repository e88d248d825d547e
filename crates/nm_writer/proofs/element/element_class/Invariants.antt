use Rattle.std.proofs.Common.{◌≡◌, ◌++◌, take, drop}
use Rattle.nm_writer.specs.Canonical.{element_of, properties_of}
use Rattle.nm_writer.proofs.element.element_class.Given as goal

-- no statement so far names the element
abbrev pub invariant-loop-place : goal.invariant-loop-place
invariant-loop-place l = record {
  class : element_of l.group ≡ element_of (drop l.place l.group);
  others : properties_of l.group ≡ take l.place l.group ++ properties_of (drop l.place l.group);
}
