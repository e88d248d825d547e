-- One fact more changes the draft at one place.
use Rattle.std.proofs.Common.{◌≡◌, List, [], ◌∷◌, ◌++◌, Some, refl}
use Rattle.std.proofs.lemmas.List.{append-nil}
use Rattle.std.proofs.lemmas.List.Elements.{filter_map-append}
use Rattle.nm_reader.specs.Draft.{drafted, with_fact}
use Rattle.nm_reader.specs.Model.{last_of}
use Rattle.nm_reader.specs.declared.fact.Fact.{Fact}
use Rattle.nm_reader.specs.declared.fact.Fact.TheVariants.{Heads, Tells, Links, States}
use Rattle.nm_reader.specs.declared.fact.LinkProperty.TheVariants.{DependentOn, Supersedes}
use Rattle.nm_reader.specs.declared.fact.Part.TheVariants.{Whole, Preconditions, Forward, Reverse}
use Rattle.nm_reader.specs.declared.fact.TextProperty.TheVariants.{Created, ScenarioTime, Version, Description, Authority, Profile}

last_behind : {X : Type 0} (xs : List X) (x : X) → last_of (xs ++ x ∷ []) ≡ Some x
last_behind [] x = refl
last_behind (y ∷ []) x = refl
last_behind (y ∷ z ∷ xs) x = last_behind (z ∷ xs) x

pub one_more : (facts : List Fact) (fact : Fact) → drafted (facts ++ fact ∷ []) ≡ with_fact (drafted facts) fact
one_more facts (Heads kind id) = simp (filter_map-append, append-nil) refl
one_more facts (Tells Created text) = simp (filter_map-append, append-nil, last_behind) refl
one_more facts (Tells ScenarioTime text) = simp (filter_map-append, append-nil, last_behind) refl
one_more facts (Tells Version text) = simp (filter_map-append, append-nil, last_behind) refl
one_more facts (Tells Description text) = simp (filter_map-append, append-nil, last_behind) refl
one_more facts (Tells Authority text) = simp (filter_map-append, append-nil, last_behind) refl
one_more facts (Tells Profile text) = simp (filter_map-append, append-nil) refl
one_more facts (Links DependentOn id) = simp (filter_map-append, append-nil) refl
one_more facts (Links Supersedes id) = simp (filter_map-append, append-nil) refl
one_more facts (States Whole statement) = simp (filter_map-append, append-nil) refl
one_more facts (States Preconditions statement) = simp (filter_map-append, append-nil) refl
one_more facts (States Forward statement) = simp (filter_map-append, append-nil) refl
one_more facts (States Reverse statement) = simp (filter_map-append, append-nil) refl
