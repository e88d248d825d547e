-- The entries of a log with one more.
use Rattle.std.proofs.Common.{◌≡◌, ◌∙◌, List, [], ◌∷◌, ◌++◌, append_assoc, sym, ap}
use Rattle.std.proofs.lemmas.Grind.{flat_map-append}
use Rattle.std.proofs.lemmas.List.{append-nil}
use Rattle.std.specs.Arc.{arc_value}
use Rattle.std.specs.Global.{Global}
use Rattle.std.specs.List.{flat_map}
use Rattle.std.specs.declared.sync.Arc.{Arc}
use Rattle.nm_version.specs.Log.{entries_of}
use Rattle.nm_version.specs.declared.command.Entry.{Entry}

pub one_more : (full shared : List (Arc (List Entry) Global)) (last new : List Entry) (entry : Entry) → flat_map arc_value shared ≡ flat_map arc_value full → new ≡ last ++ entry ∷ []
    → entries_of shared new ≡ entries_of full last ++ entry ∷ []
one_more full shared last new entry e f = (λ i. e i ++ f i) ∙ sym (append_assoc (flat_map arc_value full) last (entry ∷ []))

pub closed : (full pushed : List (Arc (List Entry) Global)) (last none : List Entry) (shared : Arc (List Entry) Global) → pushed ≡ full ++ shared ∷ [] → arc_value shared ≡ last → none ≡ []
    → entries_of pushed none ≡ entries_of full last
closed full pushed last none shared e f n =
    (λ i. flat_map arc_value (e i) ++ n i)
    ∙ append-nil (flat_map arc_value (full ++ shared ∷ []))
    ∙ flat_map-append arc_value full (shared ∷ [])
    ∙ ap (λ l. flat_map arc_value full ++ l) (append-nil (arc_value shared) ∙ f)
