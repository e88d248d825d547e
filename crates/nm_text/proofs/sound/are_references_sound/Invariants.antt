use Rattle.std.proofs.Common.{◌≡◌, length}
use Rattle.std.specs.Prelude.{is_some}
use Rattle.nm_text.specs.Meaning.{meaning_of}
use Rattle.nm_text.specs.declared.meaning.Form.TheVariants.{Run, Value}
use Rattle.nm_text.proofs.Strays.{IsReadTo}
use Rattle.nm_text.proofs.sound.are_references_sound.Given as goal

abbrev pub invariant-loop-name : goal.invariant-loop-name
invariant-loop-name l = record {
  reads : IsReadTo l.bytes l.rest;
  run : is_some (meaning_of Run l.rest) ≡ is_some (meaning_of Run l.bytes);
  value : is_some (meaning_of Value l.rest) ≡ is_some (meaning_of Value l.bytes);
}

abbrev pub decreases-loop-name : goal.decreases-loop-name
decreases-loop-name l = length l.rest
