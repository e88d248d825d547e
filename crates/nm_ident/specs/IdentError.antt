-- Which errors of the readers of identifiers are want of memory.
use Rattle.std.specs.Prelude.{Bool, true, false}
use Rattle.nm_ident.specs.declared.error.IdentError.{IdentError}
use Rattle.nm_ident.specs.declared.error.IdentError.TheVariants.{Bad, NoMemory}

abbrev pub wants_memory : IdentError → Bool
wants_memory Bad = false
wants_memory NoMemory = true
