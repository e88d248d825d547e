-- Which errors of edits are want of memory.
use Rattle.std.specs.Prelude.{Bool, true, false}
use Rattle.nm_check.specs.declared.breaks.EditError.{EditError}
use Rattle.nm_check.specs.declared.breaks.EditError.TheVariants.{Break, NoMemory}

abbrev pub wants_memory : EditError → Bool
wants_memory (Break found) = false
wants_memory NoMemory = true
