-- What an input holds: what it has read ahead and given, and why it gives nothing more, once it does not.
use Rattle.std.specs.Prelude.{Option}
use Rattle.nm_session.specs.Buffered.{Buffered}
use Rattle.nm_session.specs.declared.halt.Halt.{Halt}

pub record Received : Type 0 where
  pub buffered : Buffered
  pub halted : Option Halt
