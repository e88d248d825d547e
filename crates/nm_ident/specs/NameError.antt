-- Which errors of the readers of names are want of memory.
use Rattle.std.specs.Prelude.{Bool, true, false}
use Rattle.nm_ident.specs.declared.error.NameError.{NameError}
use Rattle.nm_ident.specs.declared.error.NameError.TheVariants.{Bad, NoMemory}

abbrev pub wants_memory : NameError → Bool
wants_memory Bad = false
wants_memory NoMemory = true
