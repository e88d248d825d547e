-- Worked examples of the definitions, computed.
use Rattle.std.specs.Prelude.{◌≡◌, [], codes, None, Ok, Err, refl}
use Rattle.nm_model.specs.declared.document.Document.{Document}
use Rattle.nm_model.specs.declared.document.Document.TheVariants as document
use Rattle.nm_reader.specs.declared.error.ReadError.TheVariants as read_error
use Rattle.nm_reader.specs.declared.fault.Fault.{Fault}
use Rattle.nm_canon.specs.Laws.{number_stated}
use Rattle.nm_canon.specs.Reading.{if_canonical}
use Rattle.nm_canon.specs.declared.error.CanonicalError.TheVariants as canonical_error

-- a model that states nothing
abbrev bare : Document
bare = document.Full (record {
  header = record { id = 1; created = None; scenario_time = None; version = None; description = None; authority = None; profiles = []; depends = []; supersedes = [] };
  statements = [];
})

none_stated : number_stated bare ≡ 0
none_stated = refl

no_document : (fault : Fault) → if_canonical (codes "<a>") (Err (read_error.Fault fault)) ≡ Err canonical_error.NotCanonical
no_document fault = refl

another_spelling : if_canonical (codes "<rdf:RDF") (Ok bare) ≡ Err canonical_error.NotCanonical
another_spelling = refl
