-- How contracts see what stands in the input.
use Rattle.std.specs.Prelude.{ℕ, List, Option}
use Rattle.std.specs.Option.{option_map}
use denote.Ref.{Bor}
use Rattle.nm_reader.specs.declared.tag.Value.{Value}
use Rattle.nm_reader.specs.declared.tag.Value.TheVariants.{Lent, Made}

abbrev pub prefix_of : Option (Bor (List ℕ)) → Option (List ℕ)
prefix_of prefix = option_map (λ p. p.now) prefix

abbrev pub value_of : Value → List ℕ
value_of (Lent value) = value.now
value_of (Made text) = text
