-- A name in a namespace (Namespaces in XML).
use Rattle.std.specs.Prelude.{ℕ, List}

pub record QualifiedName : Type 0 where
  pub ns : List ℕ
  pub local : List ℕ
