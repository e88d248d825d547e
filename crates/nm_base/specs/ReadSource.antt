-- A reader as a source.
use Rattle.std.specs.Prelude.{ℕ}
use Rattle.nm_base.specs.declared.adapters.ReadSource.{ReadSource}

-- the reader
abbrev pub reader_of : {R : Type 0} → ReadSource R → R
reader_of source = source.inner

-- how many calls of the reader failed
abbrev pub read_faults : {R : Type 0} → ReadSource R → ℕ
read_faults source = source.faults
