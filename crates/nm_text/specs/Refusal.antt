-- Why a text with references is not read.
use Rattle.std.specs.Prelude.{ℕ, Bool, true, false, List, Option}
use Rattle.std.specs.Option.{option_map}
use Rattle.nm_text.specs.Reference.{first_stray}
use Rattle.nm_text.specs.declared.error.RefError.{RefError}
use Rattle.nm_text.specs.declared.error.RefError.TheVariants.{At, NoMemory}

abbrev pub wants_memory : RefError → Bool
wants_memory (At place) = false
wants_memory NoMemory = true

-- the refusal that is due: the place of the first `&` that begins no reference
abbrev pub refusal_of : List ℕ → Option RefError
refusal_of bytes = option_map At (first_stray bytes)
