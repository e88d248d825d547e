-- How a run ends whose report was not written whole.
use Rattle.nm_base.specs.declared.outcome.Status.{Status}
use Rattle.nm_base.specs.declared.outcome.Status.TheVariants as statuses
use Rattle.nm_writer.specs.declared.error.WriteError.{WriteError}
use Rattle.nm_writer.specs.declared.error.WriteError.TheVariants as write_error
use Rattle.nm_cli.specs.declared.failure.Failure.{Failure}
use Rattle.nm_cli.specs.declared.failure.Failure.TheVariants.{ReadFault, WriteFault, NoMemory}

abbrev pub status_of : Failure → Status
status_of ReadFault = statuses.ReadFault
status_of WriteFault = statuses.WriteFault
status_of NoMemory = statuses.NoMemory

abbrev pub failure_of : WriteError → Failure
failure_of write_error.Fault = WriteFault
failure_of write_error.NoMemory = NoMemory
