-- Calls that take a document.
use Rattle.std.specs.Prelude.{Bool, true, false}
use Rattle.nm_http.specs.declared.call.Call.{Call}
use Rattle.nm_http.specs.declared.call.Call.TheVariants.{Assemble, Object, Timeline, Projects, Log, File, Revise, Redate, Withdraw}

abbrev pub takes_document : Call → Bool
takes_document Assemble = false
takes_document Object = false
takes_document Timeline = false
takes_document Projects = false
takes_document Log = false
takes_document File = true
takes_document Revise = true
takes_document Redate = false
takes_document Withdraw = false
