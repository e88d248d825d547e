-- Which errors of requests are want of memory.
use Rattle.std.specs.Prelude.{Bool, true, false}
use Rattle.nm_http.specs.declared.error.HttpError.{HttpError}
use Rattle.nm_http.specs.declared.error.HttpError.TheVariants.{Status, NoMemory}

abbrev pub wants_memory : HttpError → Bool
wants_memory (Status status) = false
wants_memory NoMemory = true
