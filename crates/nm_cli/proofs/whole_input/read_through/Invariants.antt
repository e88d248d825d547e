-- What was read is the front of the input, and no read failed.
use Rattle.std.proofs.Common.{◌≡◌, ◌+◌, ◌-◌, length}
use Rattle.std.specs.Io.KnownBytes.{Consumes}
use Rattle.nm_model.specs.Limits.{longest_document}
use Rattle.nm_cli.proofs.whole_input.read_through.Given as goal

abbrev pub invariant-reading : goal.invariant-reading
invariant-reading g l =
    let source = g.S.Source in
    record {
      taken : Consumes (source.left l.fn.source) (source.left l.source) l.bytes.items;
      unfailed : source.faults l.source ≡ source.faults l.fn.source;
      beside_stays : source.beside l.source ≡ source.beside l.fn.source;
    }

-- how many more bytes are read at most
abbrev pub decreases-reading : goal.decreases-reading
decreases-reading g l = longest_document + 1 - length l.bytes.items
