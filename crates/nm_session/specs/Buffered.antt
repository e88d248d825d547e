-- What an input has read ahead of its commands, and how far it has given the stream.
use Rattle.std.specs.Prelude.{ℕ, List}

-- ahead: the bytes that were read and not given yet; given: how many were given as lines and documents
pub record Buffered : Type 0 where
  pub ahead : List ℕ
  pub given : ℕ
