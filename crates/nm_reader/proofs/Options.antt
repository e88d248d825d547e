-- What an answer tells of the option that it was made of.
use Rattle.std.proofs.Common.{◌≡◌, Option, None, Some, Ok}
use Rattle.std.specs.Option.{ok_or}

pub some_from_ok : {X E : Type 0} (value : Option X) (error : E) (x : X) → ok_or value error ≡ Ok x → Some x ≡ value
some_from_ok None error x is = absurd (cc)
some_from_ok (Some y) error x is = cc
