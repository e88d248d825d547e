-- A canonical document has the shape of a document, and tells its model.
use Rattle.std.proofs.Common.{◌≡◌, ◌∙◌, ℕ, ◌-◌, ◌^◌, ◌<◌, true, false, List, [], ◌∷◌, ◌++◌, length, map, Option, refl, ap, append-nil}
use Rattle.std.specs.Prelude.{codes}
use Rattle.std.specs.List.{AllByRecursion}
use Rattle.std.specs.Option.{option_map}
use Rattle.nm_ident.specs.Name.{dm_namespace, md_namespace}
use Rattle.nm_ident.specs.QualifiedName.{QualifiedName}
use Rattle.nm_ident.specs.declared.ident.Ident.{Ident}
use Rattle.nm_statement.specs.declared.statement.Statement.{Statement}
use Rattle.nm_statement.specs.declared.set.Change.{Change}
use Rattle.nm_model.specs.Sound.{is_sound_header}
use Rattle.nm_model.specs.declared.document.Full.{Full}
use Rattle.nm_model.specs.declared.document.Difference.{Difference}
use Rattle.nm_piece.specs.declared.piece.Attribute.{Attribute}
use Rattle.nm_reader.specs.Blocks.{Blocks, counted, fits, place_after, told, End}
use Rattle.nm_reader.specs.declared.counts.Counts.{Counts}
use Rattle.nm_reader.specs.Limits as limits
use Rattle.nm_reader.specs.Meaning.{about_name, header_meaning, only_inside, parse_type_name, part_counts, uuid_in}
use Rattle.nm_reader.specs.declared.fact.Fact.{Fact}
use Rattle.nm_reader.specs.declared.fact.Part.{Part}
use Rattle.nm_reader.specs.declared.fact.Fact.TheVariants.{Heads, States}
use Rattle.nm_reader.specs.declared.fact.Kind.TheVariants.{Full as FullKind, Difference as DifferenceKind}
use Rattle.nm_reader.specs.declared.fact.Part.TheVariants.{Whole, Preconditions, Forward, Reverse}
use Rattle.nm_reader.specs.Opened.{Declaration}
use Rattle.nm_reader.specs.Place.{role_of}
use Rattle.nm_reader.specs.declared.place.Place.TheVariants.{AfterRoot, BeforeRoot, InBody, InHeader, InRest, InRoot, InSection}
use Rattle.nm_reader.specs.declared.place.Role.TheVariants.{ModelHeader, SectionElement}
use Rattle.nm_writer.specs.Canonical.{subjects_of}
use Rattle.nm_canon.proofs.Headers.{header_counts, header_facts, header_tells}
use Rattle.nm_canon.proofs.Made.{declaring, header_block, headed, md, objects_of, qname, rdf_attribute, root, section_block, sections_block, namespace_attributes, urn_of}
use Rattle.nm_canon.proofs.Made as made
use Rattle.nm_canon.proofs.Models.{stated_in}
use Rattle.nm_canon.proofs.Objects.{CanBeTold, HoldsObjects, objects_tell, told_of_all}
use Rattle.nm_canon.proofs.Prefixes.{declaration, root_scope, namespace_declarations}
use Rattle.nm_canon.proofs.Properties.{in_header, urn_again}
use Rattle.nm_canon.proofs.Roots.{IsSome, difference_root, full_root}
use Rattle.nm_canon.proofs.Telling.{IsTag, Tells, element_leads, inside_led, adding, inside_of_blocks, quiet, tag_is, tells_both, tells_element, tells_nothing}

-- ---- what a document tells

pub record IsShaped (blocks : Blocks) (facts : List Fact) (counts : List Counts) : Type 0 where
  pub fit : fits BeforeRoot [] blocks ≡ true
  pub after : place_after BeforeRoot [] blocks ≡ AfterRoot
  pub tell : told BeforeRoot [] blocks ≡ facts
  pub count : counted BeforeRoot [] blocks ≡ adding counts limits.nothing

in_body : HoldsObjects InBody Whole
in_body = record { roles = λ element. refl; white = record { takes = refl; stays = refl } }

in_section : (part : Part) → HoldsObjects (InSection part) part
in_section part = record { roles = λ element. refl; white = record { takes = refl; stays = refl } }

-- ---- headers

abbrev dm_scope : List Declaration → List Declaration
dm_scope more = root_scope (declaration (codes "dm") dm_namespace ∷ more)

full_header : (more : List Declaration) (id : ℕ) → id < 2 ^ 128
    → IsTag InRoot (root_scope more) (root_scope more) (md (codes "FullModel")) (rdf_attribute (codes "about") (urn_of id) ∷ []) (InHeader FullKind) InBody (Heads FullKind id ∷ []) []
full_header more id small =
    quiet InRoot (root_scope more) (root_scope more) (md (codes "FullModel")) (rdf_attribute (codes "about") (urn_of id) ∷ []) (InHeader FullKind) InBody (Heads FullKind id ∷ [])
    (tag_is InRoot (root_scope more) (md (codes "FullModel")) (rdf_attribute (codes "about") (urn_of id) ∷ []) (record { ns = md_namespace; local = codes "FullModel" }) (record { name = about_name; value = urn_of id } ∷ [])
    (ModelHeader FullKind) (header_meaning FullKind id) refl refl refl refl refl refl refl refl
    (ap (λ (found : Option Ident). option_map (header_meaning FullKind) (uuid_in found)) (urn_again id small)) refl)

difference_header : (more : List Declaration) (id : ℕ) → id < 2 ^ 128
    → IsTag InRoot (root_scope (declaration (codes "dm") dm_namespace ∷ more)) (root_scope (declaration (codes "dm") dm_namespace ∷ more)) (made.dm (codes "DifferenceModel")) (rdf_attribute (codes "about") (urn_of id) ∷ [])
    (InHeader DifferenceKind) InRest (Heads DifferenceKind id ∷ []) []
difference_header more id small =
    quiet InRoot (dm_scope more) (dm_scope more) (made.dm (codes "DifferenceModel")) (rdf_attribute (codes "about") (urn_of id) ∷ []) (InHeader DifferenceKind) InRest (Heads DifferenceKind id ∷ [])
    (tag_is InRoot (root_scope (declaration (codes "dm") dm_namespace ∷ more)) (made.dm (codes "DifferenceModel")) (rdf_attribute (codes "about") (urn_of id) ∷ []) (record { ns = dm_namespace; local = codes "DifferenceModel" })
    (record { name = about_name; value = urn_of id } ∷ []) (ModelHeader DifferenceKind) (header_meaning DifferenceKind id) refl refl refl refl refl refl refl refl
    (ap (λ (found : Option Ident). option_map (header_meaning DifferenceKind) (uuid_in found)) (urn_again id small)) refl)

-- ---- full models

module _ (full : Full) (sound : is_sound_header full.header ≡ true) (small_id : full.header.id < 2 ^ 128) (namespaces : List (List ℕ)) (few : length namespaces < 10 ^ 64 - 1) (some : AllByRecursion IsSome namespaces)
    (tellable : AllByRecursion (CanBeTold (namespace_declarations namespaces) namespaces full.statements) (subjects_of full.statements)) where
  abbrev pub full_counted : List Counts
  full_counted = header_counts full.header ++ map (λ (statement : Statement). limits.one_statement) (told_of_all full.statements)

  abbrev pub full_told : List Fact
  full_told = (Heads FullKind full.header.id ∷ header_facts full.header) ++ map (States Whole) (told_of_all full.statements)

  pub full_shaped : IsShaped (root [] namespaces (headed (md (codes "FullModel")) full.header.id (header_block full.header End) (objects_of true namespaces full.statements End))) full_told full_counted
  full_shaped =
      let more = namespace_declarations namespaces in
      let scope = root_scope more in
      let head = headed (md (codes "FullModel")) full.header.id (header_block full.header End) in
      let leads = element_leads InRoot InBody scope scope (md (codes "FullModel")) (rdf_attribute (codes "about") (urn_of full.header.id) ∷ []) (made.feed (header_block full.header End)) (InHeader FullKind)
      (Heads FullKind full.header.id ∷ []) (header_facts full.header) [] (header_counts full.header) (full_header more full.header.id small_id) (record { takes = refl; stays = refl })
      (inside_of_blocks (InHeader FullKind) scope (header_block full.header) (header_facts full.header) (header_counts full.header) (header_tells more FullKind full.header sound) (in_header FullKind) refl refl) in
      let inner = inside_led InRoot InBody scope head (objects_of true namespaces full.statements) (Heads FullKind full.header.id ∷ header_facts full.header) (map (States Whole) (told_of_all full.statements))
      (header_counts full.header) (map (λ (statement : Statement). limits.one_statement) (told_of_all full.statements)) leads (objects_tell more namespaces InBody Whole true full.statements in_body tellable) (record { takes = refl; stays = refl }) refl refl in
      let whole = element_leads BeforeRoot AfterRoot [] scope (qname (codes "rdf") (codes "RDF")) _ (made.feed (head (objects_of true namespaces full.statements End))) InRoot [] full_told [] full_counted
      (full_root namespaces few some) (record { takes = refl; stays = refl }) inner in
      record { fit = whole.fit End; after = whole.after End; tell = whole.tell End ∙ append-nil full_told; count = whole.count End }

-- ---- difference models

abbrev dm_name : List ℕ → QualifiedName
dm_name local = record { ns = dm_namespace; local = local }

abbrev saying : List Attribute
saying = rdf_attribute (codes "parseType") (codes "Statements") ∷ []

section_tells : (more : List Declaration) (namespaces : List (List ℕ)) (part : Part) (local : List ℕ) (statements : List Statement) → role_of (InHeader DifferenceKind) (dm_name local) ≡ SectionElement part
    → AllByRecursion (CanBeTold (declaration (codes "dm") dm_namespace ∷ more) namespaces statements) (subjects_of statements)
    → Tells (InHeader DifferenceKind) (dm_scope more) (section_block namespaces (made.dm local) statements) (map (States part) (told_of_all statements)) (map (λ (statement : Statement). part_counts part) (told_of_all statements))
section_tells more namespaces part local statements plays tellable =
    let tag = quiet (InHeader DifferenceKind) (dm_scope more) (dm_scope more) (made.dm local) saying (InSection part) (InHeader DifferenceKind) [] (tag_is (InHeader DifferenceKind) (dm_scope more) (made.dm local) saying (dm_name local) (record { name = parse_type_name; value = codes "Statements" } ∷ []) (SectionElement part) (only_inside (InSection part))
    refl refl refl refl refl refl plays refl refl refl) in
    let holds = in_section part in
    tells_element (InHeader DifferenceKind) (dm_scope more) (made.dm local) saying (made.feed (objects_of false namespaces statements End)) (InSection part) [] (map (States part) (told_of_all statements)) []
    (map (λ (statement : Statement). part_counts part) (told_of_all statements)) tag (in_header DifferenceKind)
    (inside_of_blocks (InSection part) (dm_scope more) (objects_of false namespaces statements) (map (States part) (told_of_all statements)) (map (λ (statement : Statement). part_counts part) (told_of_all statements))
    (objects_tell (declaration (codes "dm") dm_namespace ∷ more) namespaces (InSection part) part false statements holds tellable) holds.white refl refl)

abbrev pub change_counted : Change → List Counts
change_counted change =
    map (λ (statement : Statement). limits.one_change) (told_of_all change.pre)
    ++ (map (λ (statement : Statement). limits.one_change) (told_of_all change.fwd) ++ map (λ (statement : Statement). limits.one_change) (told_of_all change.rev))

-- what is stated of all subjects can be told
abbrev pub IsTellable : List (List ℕ) → List Statement → Type 0
IsTellable namespaces statements = AllByRecursion (CanBeTold (declaration (codes "dm") dm_namespace ∷ namespace_declarations namespaces) namespaces statements) (subjects_of statements)

sections_tell : (namespaces : List (List ℕ)) (change : Change) → IsTellable namespaces change.pre → IsTellable namespaces change.fwd → IsTellable namespaces change.rev
    → Tells (InHeader DifferenceKind) (dm_scope (namespace_declarations namespaces)) (sections_block namespaces change) (stated_in change) (change_counted change)
sections_tell namespaces change pre fwd rev =
    let more = namespace_declarations namespaces in
    let place = InHeader DifferenceKind in
    let scope = dm_scope more in
    let in_pre = section_block namespaces (made.dm (codes "preconditions")) change.pre in
    let in_fwd = section_block namespaces (made.dm (codes "forwardDifferences")) change.fwd in
    let in_rev = section_block namespaces (made.dm (codes "reverseDifferences")) change.rev in
    let counts = λ (statements : List Statement). map (λ (statement : Statement). limits.one_change) (told_of_all statements) in
    tells_both place scope in_pre (λ behind. in_fwd (in_rev behind)) (map (States Preconditions) (told_of_all change.pre)) (map (States Forward) (told_of_all change.fwd) ++ map (States Reverse) (told_of_all change.rev))
    (counts change.pre) (counts change.fwd ++ counts change.rev) (section_tells more namespaces Preconditions (codes "preconditions") change.pre refl pre)
    (tells_both place scope in_fwd in_rev (map (States Forward) (told_of_all change.fwd)) (map (States Reverse) (told_of_all change.rev)) (counts change.fwd) (counts change.rev)
    (section_tells more namespaces Forward (codes "forwardDifferences") change.fwd refl fwd) (section_tells more namespaces Reverse (codes "reverseDifferences") change.rev refl rev))

module _ (difference : Difference) (sound : is_sound_header difference.header ≡ true) (small_id : difference.header.id < 2 ^ 128) (namespaces : List (List ℕ)) (few : length namespaces < 10 ^ 64 - 1) (some : AllByRecursion IsSome namespaces)
    (pre : IsTellable namespaces difference.change.pre) (fwd : IsTellable namespaces difference.change.fwd) (rev : IsTellable namespaces difference.change.rev) where
  abbrev pub difference_counted : List Counts
  difference_counted = header_counts difference.header ++ change_counted difference.change

  abbrev pub difference_told : List Fact
  difference_told = Heads DifferenceKind difference.header.id ∷ (header_facts difference.header ++ stated_in difference.change)

  pub difference_shaped : IsShaped (root (declaring (codes "dm") dm_namespace ∷ []) namespaces
      (headed (made.dm (codes "DifferenceModel")) difference.header.id (header_block difference.header (sections_block namespaces difference.change End)) End)) difference_told difference_counted
  difference_shaped =
      let header = difference.header in
      let change = difference.change in
      let more = namespace_declarations namespaces in
      let scope = dm_scope more in
      let place = InHeader DifferenceKind in
      let below = λ (behind : Blocks). header_block header (sections_block namespaces change behind) in
      let head = headed (made.dm (codes "DifferenceModel")) header.id (below End) in
      let tells = tells_both place scope (header_block header) (sections_block namespaces change) (header_facts header) (stated_in change) (header_counts header) (change_counted change)
      (header_tells (declaration (codes "dm") dm_namespace ∷ more) DifferenceKind header sound) (sections_tell namespaces change pre fwd rev) in
      let leads = element_leads InRoot InRest scope scope (made.dm (codes "DifferenceModel")) (rdf_attribute (codes "about") (urn_of header.id) ∷ []) (made.feed (below End)) place
      (Heads DifferenceKind header.id ∷ []) (header_facts header ++ stated_in change) [] difference_counted (difference_header more header.id small_id) (record { takes = refl; stays = refl })
      (inside_of_blocks place scope below (header_facts header ++ stated_in change) difference_counted tells (in_header DifferenceKind) refl refl) in
      let inner = inside_led InRoot InRest scope head (λ behind. behind) difference_told [] difference_counted [] leads (tells_nothing InRest scope) (record { takes = refl; stays = refl }) refl refl in
      let whole = element_leads BeforeRoot AfterRoot [] scope (qname (codes "rdf") (codes "RDF")) _ (made.feed (head End)) InRoot [] (difference_told ++ []) [] (difference_counted ++ [])
      (difference_root namespaces few some) (record { takes = refl; stays = refl }) inner in
      record {
        fit = whole.fit End;
        after = whole.after End;
        tell = whole.tell End ∙ append-nil (difference_told ++ []) ∙ append-nil difference_told;
        count = whole.count End ∙ ap (λ (counts : List Counts). adding counts limits.nothing) (append-nil difference_counted);
      }
