-- A writer as a sink.
use Rattle.std.specs.Prelude.{ℕ}
use Rattle.nm_base.specs.declared.adapters.WriteSink.{WriteSink}

-- the writer
abbrev pub writer_of : {W : Type 0} → WriteSink W → W
writer_of sink = sink.inner

-- how many calls of the sink failed
abbrev pub write_faults : {W : Type 0} → WriteSink W → ℕ
write_faults sink = sink.faults
