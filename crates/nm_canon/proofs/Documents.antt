-- A canonical document is an XML declaration and what is written of its blocks.
use Rattle.std.proofs.Common.{◌≡◌, ◌∙◌, ℕ, ◌+◌, Bool, true, false, ◌&&◌, cond, List, [], ◌∷◌, ◌++◌, Option, is_some, map, refl, sym, ap, append_assoc, append-nil}
use Rattle.std.specs.Prelude.{codes}
use Rattle.std.specs.List.{AllByRecursion, enumerate_from, flat_map, list_all}
use Rattle.std.proofs.lemmas.List.Concat.{flat_map-append}
use Rattle.nm_ident.specs.Ident.{is_sound_ident}
use Rattle.nm_ident.specs.Name.{dm_namespace, is_predicate}
use Rattle.nm_ident.specs.UuidText.{uuid_text}
use Rattle.nm_ident.specs.declared.ident.Ident.{Ident}
use Rattle.nm_statement.specs.Set.{is_rising}
use Rattle.nm_statement.specs.Sound.{is_sound_object, is_sound_set, is_sound_statement}
use Rattle.nm_statement.specs.declared.set.Change.{Change}
use Rattle.nm_statement.specs.declared.statement.Statement.{Statement}
use Rattle.nm_model.specs.Sound.{is_sound_document, is_sound_change, is_sound_difference, is_sound_full, is_sound_header}
use Rattle.nm_model.specs.declared.header.Header.{Header}
use Rattle.nm_model.specs.declared.document.Full.{Full}
use Rattle.nm_model.specs.declared.document.Difference.{Difference}
use Rattle.nm_model.specs.declared.document.Document.{Document}
use Rattle.nm_model.specs.declared.document.Document.TheVariants as document
use Rattle.nm_piece.specs.declared.piece.Attribute.{Attribute}
use Rattle.nm_piece.specs.declared.piece.QName.{QName}
use Rattle.nm_piece.specs.Name.{qname_text}
use Rattle.nm_reader.specs.Blocks.{Blocks, End}
use Rattle.nm_text.specs.Escape.{attribute_spelling}
use Rattle.nm_writer.specs.Canonical.{canonical_difference, canonical_full, canonical_of, class_of, closing, declaration, declarations, element, elements, front, header_lines, header_start, is_about, line_feed, model_line, optional_line, own, properties_of, root_start, section, sections, namespaces_of, subjects_of, value_line}
use Rattle.nm_writer.specs.Namespaces.{cim_place, prefix_at}
use Rattle.nm_writer.proofs.Groups.{every-filter, every-subjects_of}
use Rattle.nm_canon.proofs.Lines.{element_written, frame_opened, list_written, model_written, optional_written, spelt_urn, value_written, SoundObject}
use Rattle.nm_canon.proofs.Made.{blocks_of, declaring, difference_blocks, dm, document_blocks, full_blocks, header_block, headed, md, model_block, object_of, objects_of, optional_block, root, section_block, sections_block, namespace_attributes, namespace_entry, urn_of, value_block}
use Rattle.nm_canon.proofs.Tags.{attribute_bytes}
use Rattle.nm_canon.proofs.Written.{bytes_of}

-- ---- soundness, part by part

pub both : (a b : Bool) → (a && b) ≡ true → (a ≡ true) × (b ≡ true)
both true b holds = (refl, holds)
both false b holds = absurd cc

pub subject_kept : (statement : Statement) → is_sound_statement statement ≡ true → is_sound_ident statement.subject ≡ true
subject_kept statement sound = (both (is_sound_ident statement.subject) (is_predicate statement.predicate) (both (is_sound_ident statement.subject && is_predicate statement.predicate) (is_sound_object statement.object) sound).0).0

pub predicate_kept : (statement : Statement) → is_sound_statement statement ≡ true → is_predicate statement.predicate ≡ true
predicate_kept statement sound = (both (is_sound_ident statement.subject) (is_predicate statement.predicate) (both (is_sound_ident statement.subject && is_predicate statement.predicate) (is_sound_object statement.object) sound).0).1

pub object_sound : (statement : Statement) → is_sound_statement statement ≡ true → is_sound_object statement.object ≡ true
object_sound statement sound = (both (is_sound_ident statement.subject && is_predicate statement.predicate) (is_sound_object statement.object) sound).1

pub each_sound : (statements : List Statement) → list_all is_sound_statement statements ≡ true → AllByRecursion (λ statement. is_sound_statement statement ≡ true) statements
each_sound [] sound = tt
each_sound (statement ∷ statements) sound =
    let parts = both (is_sound_statement statement) (list_all is_sound_statement statements) sound in (parts.0, each_sound statements parts.1)

pub every_weaker : {X : Type 0} (P Q : X → Type 0) → ((x : X) → P x → Q x) → (xs : List X) → AllByRecursion P xs → AllByRecursion Q xs
every_weaker P Q f [] a = tt
every_weaker P Q f (x ∷ xs) a = (f x a.0, every_weaker P Q f xs a.1)

pub every-properties_of : (P : Statement → Type 0) (statements : List Statement) → AllByRecursion P statements → AllByRecursion P (properties_of statements)
every-properties_of P [] all = tt
every-properties_of P (statement ∷ statements) all = by (is_some (class_of statement)) (every-properties_of P statements all.1)
  where
    by : (named : Bool) → AllByRecursion P (properties_of statements) → AllByRecursion P (cond named statements (statement ∷ properties_of statements))
    by true others = all.1
    by false others = (all.0, others)

-- ---- objects

abbrev IsWritable : List Statement → Ident → Type 0
IsWritable statements subject = (is_sound_ident subject ≡ true) × AllByRecursion SoundObject (properties_of (own statements subject))

elements_written : (is_full : Bool) (namespaces : List (List ℕ)) (statements : List Statement) (behind : Blocks) → list_all is_sound_statement statements ≡ true
    → elements is_full namespaces statements ++ bytes_of behind ≡ bytes_of (objects_of is_full namespaces statements behind)
elements_written is_full namespaces statements behind sound =
    let each = each_sound statements sound in
    let objects = every_weaker (λ statement. is_sound_statement statement ≡ true) SoundObject object_sound statements each in
    let writable = every-subjects_of (IsWritable statements) statements
    (every_weaker (λ statement. is_sound_statement statement ≡ true) (λ statement. IsWritable statements statement.subject)
    (λ statement is. (subject_kept statement is, every-properties_of SoundObject (own statements statement.subject) (every-filter (is_about statement.subject) SoundObject statements objects))) statements each) in
    list_written (IsWritable statements) (λ subject. element is_full namespaces subject (own statements subject)) (λ subject. object_of is_full namespaces subject (own statements subject))
    (λ subject behind is. element_written is_full namespaces subject (own statements subject) behind is.0 is.1) (subjects_of statements) behind writable

-- ---- headers

eight_parts : (a b c d e f g h rest : List ℕ) → (a ++ b ++ c ++ d ++ e ++ f ++ g ++ h) ++ rest ≡ a ++ (b ++ (c ++ (d ++ (e ++ (f ++ (g ++ (h ++ rest)))))))
eight_parts a b c d e f g h rest = simp append_assoc

abbrev Any : {X : Type 0} → X → Type 0
Any x = Unit {0}

any_of : {X : Type 0} (xs : List X) → AllByRecursion Any xs
any_of [] = tt
any_of (x ∷ xs) = (tt, any_of xs)

models_written : (name : QName) (ids : List ℕ) (behind : Blocks) → flat_map (model_line (qname_text name)) ids ++ bytes_of behind ≡ bytes_of (blocks_of (model_block name) ids behind)
models_written name ids behind = list_written Any (model_line (qname_text name)) (model_block name) (λ id behind is. model_written name id behind) ids behind (any_of ids)

values_written : (name : QName) (texts : List (List ℕ)) (behind : Blocks) → flat_map (value_line (qname_text name)) texts ++ bytes_of behind ≡ bytes_of (blocks_of (value_block name) texts behind)
values_written name texts behind = list_written Any (value_line (qname_text name)) (value_block name) (λ text behind is. value_written name text behind) texts behind (any_of texts)

-- a line in front of what is written
in_front : (line : List ℕ) (block : Blocks → Blocks) → ((behind : Blocks) → line ++ bytes_of behind ≡ bytes_of (block behind)) → (bytes : List ℕ) (behind : Blocks) → bytes ≡ bytes_of behind
    → line ++ bytes ≡ bytes_of (block behind)
in_front line block written bytes behind is = ap (λ (bytes : List ℕ). line ++ bytes) is ∙ written behind

header_written : (header : Header) (behind : Blocks) → header_lines header ++ bytes_of behind ≡ bytes_of (header_block header behind)
header_written header behind =
    let supersedes = blocks_of (model_block (md (codes "Model.Supersedes"))) header.supersedes behind in
    let depends = blocks_of (model_block (md (codes "Model.DependentOn"))) header.depends supersedes in
    let profiles = blocks_of (value_block (md (codes "Model.profile"))) header.profiles depends in
    let authority = optional_block (md (codes "Model.modelingAuthoritySet")) header.authority profiles in
    let description = optional_block (md (codes "Model.description")) header.description authority in
    let version = optional_block (md (codes "Model.version")) header.version description in
    let time = optional_block (md (codes "Model.scenarioTime")) header.scenario_time version in
    eight_parts (optional_line (codes "md:Model.created") header.created) (optional_line (codes "md:Model.scenarioTime") header.scenario_time)
    (optional_line (codes "md:Model.version") header.version) (optional_line (codes "md:Model.description") header.description)
    (optional_line (codes "md:Model.modelingAuthoritySet") header.authority) (flat_map (value_line (codes "md:Model.profile")) header.profiles)
    (flat_map (model_line (codes "md:Model.DependentOn")) header.depends) (flat_map (model_line (codes "md:Model.Supersedes")) header.supersedes) (bytes_of behind)
    ∙ in_front _ (optional_block (md (codes "Model.created")) header.created) (optional_written (md (codes "Model.created")) header.created) _ time
    (in_front _ (optional_block (md (codes "Model.scenarioTime")) header.scenario_time) (optional_written (md (codes "Model.scenarioTime")) header.scenario_time) _ version
    (in_front _ (optional_block (md (codes "Model.version")) header.version) (optional_written (md (codes "Model.version")) header.version) _ description
    (in_front _ (optional_block (md (codes "Model.description")) header.description) (optional_written (md (codes "Model.description")) header.description) _ authority
    (in_front _ (optional_block (md (codes "Model.modelingAuthoritySet")) header.authority) (optional_written (md (codes "Model.modelingAuthoritySet")) header.authority) _ profiles
    (in_front _ (blocks_of (value_block (md (codes "Model.profile"))) header.profiles) (values_written (md (codes "Model.profile")) header.profiles) _ depends
    (in_front _ (blocks_of (model_block (md (codes "Model.DependentOn"))) header.depends) (models_written (md (codes "Model.DependentOn")) header.depends) _ supersedes
    (models_written (md (codes "Model.Supersedes")) header.supersedes behind)))))))

start_parts : (tag opening value : List ℕ) → tag ++ opening ++ value ++ codes "\">" ++ line_feed ≡ tag ++ (opening ++ (value ++ 34 ∷ [])) ++ codes ">" ++ line_feed
start_parts tag opening value = simp append_assoc

head_written : (name : QName) (id : ℕ) (inside behind : Blocks) → attribute_spelling (urn_of id) ≡ urn_of id
    → header_start (qname_text name) id ++ (bytes_of inside ++ (closing (qname_text name) ++ bytes_of behind)) ≡ bytes_of (headed name id inside behind)
head_written name id inside behind spelt =
    let tag = qname_text name in
    ap (λ (start : List ℕ). start ++ (bytes_of inside ++ (closing tag ++ bytes_of behind))) (start_parts (60 ∷ tag) (codes " rdf:about=\"urn:uuid:") (uuid_text id))
    ∙ frame_opened tag (32 ∷ (codes "rdf:about=\"" ++ (urn_of id ++ 34 ∷ []))) (bytes_of inside) (bytes_of behind)
    ∙ ap (λ (value : List ℕ). (60 ∷ (tag ++ (((32 ∷ (codes "rdf:about=\"" ++ (value ++ 34 ∷ []))) ++ []) ++ codes ">"))) ++ ((10 ∷ bytes_of inside) ++ ((60 ∷ 47 ∷ (tag ++ codes ">")) ++ (10 ∷ bytes_of behind)))) (sym spelt)

-- ---- sections

section_parts : (t s l lines c rest : List ℕ) → (t ++ (s ++ codes ">") ++ l ++ lines ++ c) ++ rest ≡ (t ++ s ++ codes ">" ++ l) ++ (lines ++ (c ++ rest))
section_parts t s l lines c rest = simp append_assoc

lines_alone : (is_full : Bool) (namespaces : List (List ℕ)) (statements : List Statement) → list_all is_sound_statement statements ≡ true
    → elements is_full namespaces statements ≡ bytes_of (objects_of is_full namespaces statements End)
lines_alone is_full namespaces statements sound = sym (append-nil (elements is_full namespaces statements)) ∙ elements_written is_full namespaces statements End sound

section_written : (namespaces : List (List ℕ)) (name : QName) (statements : List Statement) (behind : Blocks) → list_all is_sound_statement statements ≡ true
    → section (qname_text name) namespaces statements ++ bytes_of behind ≡ bytes_of (section_block namespaces name statements behind)
section_written namespaces name statements behind sound =
    let tag = qname_text name in
    let said = codes " rdf:parseType=\"Statements\"" in
    section_parts (60 ∷ tag) said line_feed (elements false namespaces statements) (closing tag) (bytes_of behind)
    ∙ frame_opened tag said (elements false namespaces statements) (bytes_of behind)
    ∙ ap (λ (lines : List ℕ). (60 ∷ (tag ++ ((said ++ []) ++ codes ">"))) ++ ((10 ∷ lines) ++ ((60 ∷ 47 ∷ (tag ++ codes ">")) ++ (10 ∷ bytes_of behind)))) (lines_alone false namespaces statements sound)

three_parts : (a b c rest : List ℕ) → (a ++ b ++ c) ++ rest ≡ a ++ (b ++ (c ++ rest))
three_parts a b c rest = simp append_assoc

sections_written : (namespaces : List (List ℕ)) (change : Change) (behind : Blocks) → list_all is_sound_statement change.pre ≡ true → list_all is_sound_statement change.fwd ≡ true → list_all is_sound_statement change.rev ≡ true
    → sections namespaces change ++ bytes_of behind ≡ bytes_of (sections_block namespaces change behind)
sections_written namespaces change behind pre fwd rev =
    let reverse = section_block namespaces (dm (codes "reverseDifferences")) change.rev behind in
    let forward = section_block namespaces (dm (codes "forwardDifferences")) change.fwd reverse in
    three_parts (section (codes "dm:preconditions") namespaces change.pre) (section (codes "dm:forwardDifferences") namespaces change.fwd) (section (codes "dm:reverseDifferences") namespaces change.rev) (bytes_of behind)
    ∙ in_front (section (codes "dm:preconditions") namespaces change.pre) (section_block namespaces (dm (codes "preconditions")) change.pre) (λ behind. section_written namespaces (dm (codes "preconditions")) change.pre behind pre)
    (section (codes "dm:forwardDifferences") namespaces change.fwd ++ (section (codes "dm:reverseDifferences") namespaces change.rev ++ bytes_of behind)) forward
    (in_front (section (codes "dm:forwardDifferences") namespaces change.fwd) (section_block namespaces (dm (codes "forwardDifferences")) change.fwd) (λ behind. section_written namespaces (dm (codes "forwardDifferences")) change.fwd behind fwd)
    (section (codes "dm:reverseDifferences") namespaces change.rev ++ bytes_of behind) reverse
    (section_written namespaces (dm (codes "reverseDifferences")) change.rev behind rev))

-- ---- the root

declaration_parts : (named spelling : List ℕ) → named ++ codes "=\"" ++ spelling ++ codes "\"" ≡ named ++ (61 ∷ 34 ∷ (spelling ++ 34 ∷ []))
declaration_parts named spelling = simp append_assoc

declaration_written : (prefix ns : List ℕ) → declaration prefix ns ≡ attribute_bytes (declaring prefix ns)
declaration_written prefix ns = declaration_parts (codes " xmlns:" ++ prefix) (attribute_spelling ns)

namespaces_written : (cim : Option ℕ) (place : ℕ) (namespaces : List (List ℕ))
    → flat_map (λ (entry : ℕ × List ℕ). declaration (prefix_at cim entry.0) entry.1) (enumerate_from place namespaces) ≡ flat_map attribute_bytes (map (namespace_entry cim) (enumerate_from place namespaces))
namespaces_written cim place [] = refl
namespaces_written cim place (ns ∷ namespaces) = λ i. declaration_written (prefix_at cim place) ns i ++ namespaces_written cim (place + 1) namespaces i

root_parts : (x r d s inner : List ℕ) → ((x ++ line_feed) ++ r ++ d ++ s ++ codes ">" ++ line_feed) ++ inner ≡ x ++ (10 ∷ (r ++ (((d ++ s) ++ codes ">") ++ (10 ∷ inner))))
root_parts x r d s inner = simp append_assoc

abbrev pub xml_declaration : List ℕ
xml_declaration = codes "<?xml version=\"1.0\" encoding=\"UTF-8\"?>"

root_written : (declared : List Attribute) (namespaces : List (List ℕ)) (inside : Blocks)
    → front (flat_map attribute_bytes declared) namespaces ++ (bytes_of inside ++ closing (codes "rdf:RDF")) ≡ xml_declaration ++ bytes_of (root declared namespaces inside)
root_written declared namespaces inside =
    root_parts xml_declaration root_start (flat_map attribute_bytes declared) (declarations namespaces) (bytes_of inside ++ closing (codes "rdf:RDF"))
    ∙ ap (λ (attributes : List ℕ). xml_declaration ++ (10 ∷ (root_start ++ ((attributes ++ codes ">") ++ (10 ∷ (bytes_of inside ++ closing (codes "rdf:RDF")))))))
    (ap (λ (bytes : List ℕ). flat_map attribute_bytes declared ++ bytes) (namespaces_written (cim_place namespaces) 0 namespaces)
    ∙ sym (flat_map-append attribute_bytes declared (namespace_attributes namespaces)))

-- ---- whole documents

full_parts : (f h l c e z : List ℕ) → f ++ h ++ l ++ c ++ e ++ z ≡ f ++ ((h ++ (l ++ (c ++ e))) ++ z)
full_parts f h l c e z = simp append_assoc

set_parts : (statements : List Statement) → is_sound_set statements ≡ true → list_all is_sound_statement statements ≡ true
set_parts statements sound = (both (is_rising statements) (list_all is_sound_statement statements) sound).1

full_written : (full : Full) → is_sound_full full ≡ true → canonical_full full ≡ xml_declaration ++ bytes_of (full_blocks full)
full_written full sound =
    let namespaces = namespaces_of (full.statements ∷ []) in
    let header = full.header in
    let objects = objects_of true namespaces full.statements End in
    let each = set_parts full.statements (both (is_sound_header header) (is_sound_set full.statements) sound).1 in
    let start = header_start (codes "md:FullModel") header.id in
    let ends = closing (codes "md:FullModel") in
    let inside : start ++ (header_lines header ++ (ends ++ elements true namespaces full.statements)) ≡ bytes_of (headed (md (codes "FullModel")) header.id (header_block header End) objects) =
    ap (λ (lines : List ℕ). start ++ (lines ++ (ends ++ elements true namespaces full.statements))) (sym (append-nil (header_lines header)) ∙ header_written header End)
    ∙ ap (λ (lines : List ℕ). start ++ (bytes_of (header_block header End) ++ (ends ++ lines))) (lines_alone true namespaces full.statements each)
    ∙ head_written (md (codes "FullModel")) header.id (header_block header End) objects (spelt_urn header.id) in
    full_parts (front [] namespaces) start (header_lines header) ends (elements true namespaces full.statements) (closing (codes "rdf:RDF"))
    ∙ ap (λ (inner : List ℕ). front [] namespaces ++ (inner ++ closing (codes "rdf:RDF"))) inside
    ∙ root_written [] namespaces (headed (md (codes "FullModel")) header.id (header_block header End) objects)

difference_parts : (f h l s c z : List ℕ) → f ++ h ++ l ++ s ++ c ++ z ≡ f ++ ((h ++ ((l ++ s) ++ (c ++ []))) ++ z)
difference_parts f h l s c z = simp (append_assoc, append-nil)

difference_written : (difference : Difference) → is_sound_difference difference ≡ true → canonical_difference difference ≡ xml_declaration ++ bytes_of (difference_blocks difference)
difference_written difference sound =
    let header = difference.header in
    let change = difference.change in
    let namespaces = namespaces_of (change.pre ∷ change.fwd ∷ change.rev ∷ []) in
    let parts = both (is_sound_header header) (is_sound_change change) sound in
    let last = both (is_sound_set change.pre && is_sound_set change.rev) (is_sound_set change.fwd) parts.1 in
    let first = both (is_sound_set change.pre) (is_sound_set change.rev) last.0 in
    let start = header_start (codes "dm:DifferenceModel") header.id in
    let ends = closing (codes "dm:DifferenceModel") in
    let declared = declaration (codes "dm") dm_namespace in
    let rest = sections_block namespaces change End in
    let below : sections namespaces change ≡ bytes_of rest =
    sym (append-nil (sections namespaces change)) ∙ sections_written namespaces change End (set_parts change.pre first.0) (set_parts change.fwd last.1) (set_parts change.rev first.1) in
    let inside : start ++ ((header_lines header ++ sections namespaces change) ++ (ends ++ [])) ≡ bytes_of (headed (dm (codes "DifferenceModel")) header.id (header_block header rest) End) =
    ap (λ (lines : List ℕ). start ++ ((header_lines header ++ lines) ++ (ends ++ []))) below
    ∙ ap (λ (lines : List ℕ). start ++ (lines ++ (ends ++ []))) (header_written header rest)
    ∙ head_written (dm (codes "DifferenceModel")) header.id (header_block header rest) End (spelt_urn header.id) in
    difference_parts (front declared namespaces) start (header_lines header) (sections namespaces change) ends (closing (codes "rdf:RDF"))
    ∙ ap (λ (inner : List ℕ). front declared namespaces ++ (inner ++ closing (codes "rdf:RDF"))) inside
    ∙ root_written (declaring (codes "dm") dm_namespace ∷ []) namespaces (headed (dm (codes "DifferenceModel")) header.id (header_block header rest) End)

-- the canonical document is an XML declaration and its blocks
pub document_written : (model : Document) → is_sound_document model ≡ true → canonical_of model ≡ xml_declaration ++ bytes_of (document_blocks model)
document_written (document.Full full) sound = full_written full sound
document_written (document.Difference difference) sound = difference_written difference sound
