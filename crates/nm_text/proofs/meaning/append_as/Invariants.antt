use Rattle.std.proofs.Common.{◌≡◌, Some, length}
use Rattle.std.specs.Fmt.{option_append}
use Rattle.nm_text.specs.Meaning.{meaning_of}
use Rattle.nm_text.proofs.Strays.{IsReadTo}
use Rattle.nm_text.proofs.meaning.append_as.Given as goal

abbrev pub invariant-loop-name : goal.invariant-loop-name
invariant-loop-name l = record {
  text : option_append (Some l.out.items) (meaning_of l.form l.rest) ≡ option_append (Some l.initial.out.items) (meaning_of l.form l.bytes);
  reads : IsReadTo l.bytes l.rest;
}

abbrev pub decreases-loop-name : goal.decreases-loop-name
decreases-loop-name l = length l.rest
