-- The limits of texts, in bytes.
use Rattle.std.specs.Prelude.{ℕ}

abbrev pub longest_literal : ℕ
longest_literal = 65536

abbrev pub longest_iri : ℕ
longest_iri = 2048
