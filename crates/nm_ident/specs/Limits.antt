-- The limits of names, in bytes.
use Rattle.std.specs.Prelude.{ℕ}

abbrev pub longest_name : ℕ
longest_name = 128

abbrev pub longest_namespace : ℕ
longest_namespace = 256
