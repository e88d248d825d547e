-- Which errors of texts are want of memory.
use Rattle.std.specs.Prelude.{Bool, true, false}
use Rattle.nm_statement.specs.declared.error.TextError.{TextError}
use Rattle.nm_statement.specs.declared.error.TextError.TheVariants.{Bad, Long, NoMemory}

abbrev pub wants_memory : TextError → Bool
wants_memory Bad = false
wants_memory Long = false
wants_memory NoMemory = true
