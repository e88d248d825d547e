-- The code of a tag, by what is asked of it.
use Rattle.std.specs.Prelude.{◌≡◌, Bool, false, true, ◌&&◌, ◌||◌, not, if◌then◌else◌, Option, None, Some}
use Rattle.nm_reader.specs.Limits.{is_within_limits, plus}
use Rattle.nm_reader.specs.Rules.{is_header, is_header_property, is_nested, is_of_object, is_stray, lacks_header}
use Rattle.nm_reader.specs.declared.counts.Counts.{Counts}
use Rattle.nm_reader.specs.declared.fault.Code.{Code}
use Rattle.nm_reader.specs.declared.fault.Code.TheVariants as code
use Rattle.nm_reader.specs.declared.place.Role.{Role}

-- the code of a tag by its name, its place and the names of its attributes
abbrev pub shape_code : Role → (once declared kept allowed : Bool) → Option Code
shape_code role once declared kept allowed =
    if is_nested role then Some code.Nesting
    else if not once then Some code.Attribute
    else if not declared then Some code.Prefix
    else if not kept then Some code.Namespace
    else if lacks_header role allowed then Some code.Header
    else if is_stray role then Some code.Stray
    else if not allowed then Some code.Attribute
    else None

-- .. by the values of its attributes, ..
abbrev pub value_code : Role → (means : Bool) → Option Code
value_code role means =
    if is_header role && not means then Some code.Header
    else if is_of_object role && not means then Some code.Identifier
    else if is_header_property role && not means then Some code.Header
    else None

-- .. and by what it states
abbrev pub limit_code : (within short : Bool) → Option Code
limit_code within short = if not within || not short then Some code.Limit else None

abbrev pub or_code : Option Code → Option Code → Option Code
or_code None later = later
or_code (Some code) later = Some code

-- the counts together, or none where they pass a limit
abbrev pub IsSum : Option Counts → Counts → Counts → Type 0
IsSum None x y = is_within_limits (plus x y) ≡ false
IsSum (Some sum) x y = (sum ≡ plus x y) × (is_within_limits (plus x y) ≡ true)
