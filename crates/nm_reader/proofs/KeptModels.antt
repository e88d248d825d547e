-- The model that an input states can be kept.
use Rattle.std.proofs.Common.{◌≡◌, ◌≤◌, ℕ, suc, ◌+◌, List, [], ◌∷◌, length, map, Bool, true, ◌&&◌, nat_le, Option, None, Some, Ordering, is_none, refl, sym, ap, ◌∙◌, arith}
use Rattle.std.proofs.lemmas.Bool.Decides.{nat_tests}
use Rattle.std.proofs.lemmas.Cmp.{nat_cmp_total}
use Rattle.std.specs.BTreeSet.{insert_key}
use Rattle.std.specs.Cmp.{IsTotalOrder}
use Rattle.std.specs.Cmp.Lexicographic.{nat_list_cmp_total}
use Rattle.std.specs.List.{filter_map, list_all}
use Rattle.std.specs.Ordering.{match_ordering, nat_cmp}
use Rattle.std.specs.declared.cmp.Ordering.TheVariants.{Less, Equal, Greater}
use Rattle.nm_ident.proofs.Orders.{nat_cmp-equal, text_cmp-equal}
use Rattle.nm_ident.proofs.Rising.{is_rising_by-so, rising-rising_of, rising_by-is, rising_of}
use Rattle.nm_ident.specs.Order.{text_cmp}
use Rattle.nm_ident.specs.Rising.{is_rising_by, rising_by}
use Rattle.nm_model.specs.Header.{rising_ids}
use Rattle.nm_model.specs.Limits.{most_changes, most_dependencies, most_profiles, most_statements, most_superseded}
use Rattle.nm_model.specs.Sound.{are_sound_ids, are_sound_profiles, is_model_id, is_sound_header, is_sound_property, is_sound_within_limits}
use Rattle.nm_model.specs.declared.document.Document.{Document}
use Rattle.nm_piece.specs.Cutting.{IsCutFrom, Placed, mark_length}
use Rattle.nm_piece.specs.Spells.{IsSpeltAt}
use Rattle.nm_piece.specs.declared.piece.Piece.{Piece}
use Rattle.nm_statement.proofs.Orders.{statement_cmp-equal, statement_cmp-total}
use Rattle.nm_statement.specs.Literal.{is_literal}
use Rattle.nm_statement.specs.Order.{statement_cmp}
use Rattle.nm_statement.specs.Set.{set_of}
use Rattle.nm_statement.specs.Sound.{is_sound_set, is_sound_statement}
use Rattle.nm_statement.specs.declared.statement.Statement.{Statement}
use Rattle.nm_reader.specs.Context.{after_all, beginning}
use Rattle.nm_reader.specs.Cutting.{Cutting, Ended, Left, piece_placed}
use Rattle.nm_reader.specs.Document.{States}
use Rattle.nm_reader.specs.Fault.{fault_of}
use Rattle.nm_reader.specs.Laws.{StatedModelsAreKept}
use Rattle.nm_reader.specs.Limits.{is_within_limits}
use Rattle.nm_reader.specs.Model.{document_of, header_of, last_of, link_for, links_of, model_of, statement_for, text_for, texts_of}
use Rattle.nm_reader.specs.Rules.{code_at}
use Rattle.nm_reader.specs.declared.counts.Counts.{Counts}
use Rattle.nm_reader.specs.declared.fact.Fact.{Fact}
use Rattle.nm_reader.specs.declared.fact.Fact.TheVariants as fact
use Rattle.nm_reader.specs.declared.fact.Kind.{Kind}
use Rattle.nm_reader.specs.declared.fact.Kind.TheVariants.{Full, Difference}
use Rattle.nm_reader.specs.declared.fact.LinkProperty.{LinkProperty}
use Rattle.nm_reader.specs.declared.fact.LinkProperty.TheVariants.{DependentOn, Supersedes}
use Rattle.nm_reader.specs.declared.fact.Part.{Part}
use Rattle.nm_reader.specs.declared.fact.Part.TheVariants.{Whole, Preconditions, Forward, Reverse}
use Rattle.nm_reader.specs.declared.fact.TextProperty.{TextProperty}
use Rattle.nm_reader.specs.declared.fact.TextProperty.TheVariants.{Created, ScenarioTime, Version, Description, Authority, Profile}
use Rattle.nm_reader.proofs.Documents.{faultless, faultless_pieces_are_documents, told_by_pieces}
use Rattle.nm_reader.proofs.KeptContexts.{IsKeptContext, all_kept, beginning_kept, is_kept_piece}
use Rattle.nm_reader.proofs.KeptCounts.{counts_of, found, length-found, told_counted, weigh_by, weigh_by-same, weigh_by-sum}
use Rattle.nm_reader.proofs.KeptTags.{is_sound_fact}
use Rattle.nm_reader.proofs.Pieces.{fine}
use Rattle.nm_reader.proofs.SoundPieces.{spelt_kept}
use Rattle.nm_reader.proofs.Spellings.{and_left, and_right}

both : (a b : Bool) → a ≡ true → b ≡ true → (a && b) ≡ true
both a b first second = rw (first, second) refl

-- ---- lists in order, each item once

module _ {K : Type 0} (cmp : K → K → Ordering) where
  insert_kept : (q : K → Bool) (xs : List K) (k : K) → q k ≡ true → list_all q xs ≡ true → list_all q (insert_key cmp xs k) ≡ true
  insert_kept q [] k here all = both (q k) true here refl
  insert_kept q (x ∷ xs) k here all = by (insert_kept q xs k here (and_right (q x) (list_all q xs) all)) (cmp k x)
    where
      by : list_all q (insert_key cmp xs k) ≡ true → (r : Ordering) → list_all q (match_ordering r (k ∷ x ∷ xs) (x ∷ xs) (x ∷ insert_key cmp xs k)) ≡ true
      by later Less = both (q k) (list_all q (x ∷ xs)) here all
      by later Equal = all
      by later Greater = both (q x) (list_all q (insert_key cmp xs k)) (and_left (q x) (list_all q xs) all) later

  rising_kept : (q : K → Bool) (xs : List K) → list_all q xs ≡ true → list_all q (rising_by cmp xs) ≡ true
  rising_kept q [] all = refl
  rising_kept q (x ∷ xs) all = insert_kept q (rising_by cmp xs) x (and_left (q x) (list_all q xs) all) (rising_kept q xs (and_right (q x) (list_all q xs) all))

  insert_within : (xs : List K) (k : K) → length (insert_key cmp xs k) ≤ suc (length xs)
  insert_within [] k = omega arith
  insert_within (x ∷ xs) k = by (insert_within xs k) (cmp k x)
    where
      by : length (insert_key cmp xs k) ≤ suc (length xs) → (r : Ordering) → length (match_ordering r (k ∷ x ∷ xs) (x ∷ xs) (x ∷ insert_key cmp xs k)) ≤ suc (length (x ∷ xs))
      by later Less = omega arith
      by later Equal = omega arith
      by later Greater = omega (arith, later)

  rising_within : (xs : List K) → length (rising_by cmp xs) ≤ length xs
  rising_within [] = omega arith
  rising_within (x ∷ xs) = omega (arith, insert_within (rising_by cmp xs) x, rising_within xs)

rising_rises : {K : Type 0} {cmp : K → K → Ordering} (o : IsTotalOrder cmp) (apart : (x y : K) → cmp x y ≡ Equal → x ≡ y) (xs : List K) → is_rising_by cmp (rising_by cmp xs) ≡ true
rising_rises {K = K} {cmp = cmp} o apart xs =
    ap (λ (ys : List K). is_rising_by cmp ys) (rising_by-is o apart xs) ∙ is_rising_by-so cmp (rising_of o xs) (rising-rising_of o xs)

-- ---- what is kept of facts

abbrev holds : {X : Type 0} → (X → Bool) → Option X → Bool
holds q None = true
holds q (Some x) = q x

filter_kept : {X : Type 0} (h : Fact → Option X) (q : X → Bool) → ((f : Fact) → is_sound_fact f ≡ true → holds q (h f) ≡ true) → (facts : List Fact) → list_all is_sound_fact facts ≡ true → list_all q (filter_map h facts) ≡ true
filter_kept h q each [] all = refl
filter_kept {X = X} h q each (f ∷ facts) all = by (h f) refl (each f (and_left (is_sound_fact f) (list_all is_sound_fact facts) all)) (filter_kept h q each facts (and_right (is_sound_fact f) (list_all is_sound_fact facts) all))
  where
    by : (seen : Option X) → h f ≡ seen → holds q (h f) ≡ true → list_all q (filter_map h facts) ≡ true → list_all q (filter_map h (f ∷ facts)) ≡ true
    by None is first others = rw is others
    by (Some x) is first others = let kept : q x ≡ true = ap (holds q) (sym is) ∙ first in rw is (both (q x) (list_all q (filter_map h facts)) kept others)

text_of_sound : (property other : TextProperty) (text : List ℕ) → is_literal text ≡ true → holds is_literal (text_for property (fact.Tells other text)) ≡ true
text_of_sound Created Created text sound = sound
text_of_sound ScenarioTime ScenarioTime text sound = sound
text_of_sound Version Version text sound = sound
text_of_sound Description Description text sound = sound
text_of_sound Authority Authority text sound = sound
text_of_sound Profile Profile text sound = sound
text_of_sound _ _ text sound = refl

no_text : (property : TextProperty) (f : Fact) → text_for property f ≡ None → holds is_literal (text_for property f) ≡ true
no_text property f is = ap (holds is_literal) is

text_sound : (property : TextProperty) (f : Fact) → is_sound_fact f ≡ true → holds is_literal (text_for property f) ≡ true
text_sound property (fact.Tells other text) sound = text_of_sound property other text sound
text_sound Created _ sound = refl
text_sound ScenarioTime _ sound = refl
text_sound Version _ sound = refl
text_sound Description _ sound = refl
text_sound Authority _ sound = refl
text_sound Profile _ sound = refl

link_of_sound : (property other : LinkProperty) (id : ℕ) → is_model_id id ≡ true → holds is_model_id (link_for property (fact.Links other id)) ≡ true
link_of_sound DependentOn DependentOn id sound = sound
link_of_sound Supersedes Supersedes id sound = sound
link_of_sound _ _ id sound = refl

link_sound : (property : LinkProperty) (f : Fact) → is_sound_fact f ≡ true → holds is_model_id (link_for property f) ≡ true
link_sound property (fact.Links other id) sound = link_of_sound property other id sound
link_sound DependentOn _ sound = refl
link_sound Supersedes _ sound = refl

statement_of_sound : (part other : Part) (statement : Statement) → is_sound_statement statement ≡ true → holds is_sound_statement (statement_for part (fact.States other statement)) ≡ true
statement_of_sound Whole Whole statement sound = sound
statement_of_sound Preconditions Preconditions statement sound = sound
statement_of_sound Forward Forward statement sound = sound
statement_of_sound Reverse Reverse statement sound = sound
statement_of_sound _ _ statement sound = refl

statement_sound : (part : Part) (f : Fact) → is_sound_fact f ≡ true → holds is_sound_statement (statement_for part f) ≡ true
statement_sound part (fact.States other statement) sound = statement_of_sound part other statement sound
statement_sound Whole _ sound = refl
statement_sound Preconditions _ sound = refl
statement_sound Forward _ sound = refl
statement_sound Reverse _ sound = refl

-- ---- how much is kept of facts

record FoundIs (f : Fact) : Type 0 where
  statements : found (statement_for Whole f) ≡ (counts_of f).statements
  changes : found (statement_for Preconditions f) + found (statement_for Reverse f) + found (statement_for Forward f) ≡ (counts_of f).changes
  profiles : found (text_for Profile f) ≡ (counts_of f).profiles
  dependencies : found (link_for DependentOn f) ≡ (counts_of f).dependencies
  superseded : found (link_for Supersedes f) ≡ (counts_of f).superseded

found_is : (f : Fact) → FoundIs f
found_is (fact.Heads kind id) = record { statements = refl; changes = refl; profiles = refl; dependencies = refl; superseded = refl }
found_is (fact.Tells Created text) = record { statements = refl; changes = refl; profiles = refl; dependencies = refl; superseded = refl }
found_is (fact.Tells ScenarioTime text) = record { statements = refl; changes = refl; profiles = refl; dependencies = refl; superseded = refl }
found_is (fact.Tells Version text) = record { statements = refl; changes = refl; profiles = refl; dependencies = refl; superseded = refl }
found_is (fact.Tells Description text) = record { statements = refl; changes = refl; profiles = refl; dependencies = refl; superseded = refl }
found_is (fact.Tells Authority text) = record { statements = refl; changes = refl; profiles = refl; dependencies = refl; superseded = refl }
found_is (fact.Tells Profile text) = record { statements = refl; changes = refl; profiles = refl; dependencies = refl; superseded = refl }
found_is (fact.Links DependentOn id) = record { statements = refl; changes = refl; profiles = refl; dependencies = refl; superseded = refl }
found_is (fact.Links Supersedes id) = record { statements = refl; changes = refl; profiles = refl; dependencies = refl; superseded = refl }
found_is (fact.States Whole statement) = record { statements = refl; changes = refl; profiles = refl; dependencies = refl; superseded = refl }
found_is (fact.States Preconditions statement) = record { statements = refl; changes = refl; profiles = refl; dependencies = refl; superseded = refl }
found_is (fact.States Forward statement) = record { statements = refl; changes = refl; profiles = refl; dependencies = refl; superseded = refl }
found_is (fact.States Reverse statement) = record { statements = refl; changes = refl; profiles = refl; dependencies = refl; superseded = refl }

-- facts that are sound, and no more than the limits
record IsKeepable (facts : List Fact) : Type 0 where
  sound : list_all is_sound_fact facts ≡ true
  statements : weigh_by (λ f. (counts_of f).statements) facts ≤ most_statements
  changes : weigh_by (λ f. (counts_of f).changes) facts ≤ most_changes
  profiles : weigh_by (λ f. (counts_of f).profiles) facts ≤ most_profiles
  dependencies : weigh_by (λ f. (counts_of f).dependencies) facts ≤ most_dependencies
  superseded : weigh_by (λ f. (counts_of f).superseded) facts ≤ most_superseded

few : {X : Type 0} (h : Fact → Option X) (count : Counts → ℕ) → ((f : Fact) → found (h f) ≡ count (counts_of f)) → (most : ℕ) (facts : List Fact) → weigh_by (λ f. count (counts_of f)) facts ≤ most → length (filter_map h facts) ≤ most
few h count same most facts within = omega (arith, length-found h facts, weigh_by-same (λ f. found (h f)) (λ f. count (counts_of f)) same facts, within)

at_most : (x y : ℕ) → x ≤ y → nat_le x y ≡ true
at_most x y within = grind (arith, nat_tests)

-- ---- headers

last_sound : (texts : List (List ℕ)) → list_all is_literal texts ≡ true → is_sound_property (last_of texts) ≡ true
last_sound [] all = refl
last_sound (x ∷ []) all = and_left (is_literal x) true all
last_sound (x ∷ y ∷ xs) all = last_sound (y ∷ xs) (and_right (is_literal x) (list_all is_literal (y ∷ xs)) all)

property_sound : (property : TextProperty) (facts : List Fact) → IsKeepable facts → is_sound_property (last_of (texts_of property facts)) ≡ true
property_sound property facts kept = last_sound (texts_of property facts) (filter_kept (text_for property) is_literal (text_sound property) facts kept.sound)

profiles_sound : (facts : List Fact) → IsKeepable facts → are_sound_profiles (rising_by text_cmp (texts_of Profile facts)) ≡ true
profiles_sound facts kept =
    let texts : List (List ℕ) = texts_of Profile facts in
    let within : length (rising_by text_cmp texts) ≤ most_profiles = omega (arith, rising_within text_cmp texts, few (text_for Profile) (λ c. c.profiles) (λ f. (found_is f).profiles) most_profiles facts kept.profiles) in
    both (list_all is_literal (rising_by text_cmp texts) && is_rising_by text_cmp (rising_by text_cmp texts)) (nat_le (length (rising_by text_cmp texts)) most_profiles)
    (both (list_all is_literal (rising_by text_cmp texts)) (is_rising_by text_cmp (rising_by text_cmp texts)) (rising_kept text_cmp is_literal texts (filter_kept (text_for Profile) is_literal (text_sound Profile) facts kept.sound)) (rising_rises nat_list_cmp_total text_cmp-equal texts))
    (at_most (length (rising_by text_cmp texts)) most_profiles within)

ids_sound : (most : ℕ) (ids : List ℕ) → list_all is_model_id ids ≡ true → length ids ≤ most → are_sound_ids most (rising_ids ids) ≡ true
ids_sound most ids sound within =
    let less : length (rising_ids ids) ≤ most = omega (arith, rising_within nat_cmp ids) in
    both (list_all is_model_id (rising_ids ids) && is_rising_by nat_cmp (rising_ids ids)) (nat_le (length (rising_ids ids)) most)
    (both (list_all is_model_id (rising_ids ids)) (is_rising_by nat_cmp (rising_ids ids)) (rising_kept nat_cmp is_model_id ids sound) (rising_rises nat_cmp_total nat_cmp-equal ids))
    (at_most (length (rising_ids ids)) most less)

links_sound : (property : LinkProperty) (facts : List Fact) → IsKeepable facts → list_all is_model_id (links_of property facts) ≡ true
links_sound property facts kept = filter_kept (link_for property) is_model_id (link_sound property) facts kept.sound

header_sound : (id : ℕ) (facts : List Fact) → is_model_id id ≡ true → IsKeepable facts → is_sound_header (header_of id facts) ≡ true
header_sound id facts named kept =
    both _ _ (both _ _ (both _ _ (both _ _ named
    (both _ _ (both _ _ (both _ _ (both _ _ (property_sound Created facts kept) (property_sound ScenarioTime facts kept)) (property_sound Version facts kept)) (property_sound Description facts kept)) (property_sound Authority facts kept)))
    (profiles_sound facts kept))
    (ids_sound most_dependencies (links_of DependentOn facts) (links_sound DependentOn facts kept) (few (link_for DependentOn) (λ c. c.dependencies) (λ f. (found_is f).dependencies) most_dependencies facts kept.dependencies)))
    (ids_sound most_superseded (links_of Supersedes facts) (links_sound Supersedes facts kept) (few (link_for Supersedes) (λ c. c.superseded) (λ f. (found_is f).superseded) most_superseded facts kept.superseded))

-- ---- statements

set_is : (xs : List Statement) → set_of xs ≡ rising_by statement_cmp xs
set_is [] = refl
set_is (x ∷ xs) = ap (λ (ys : List Statement). insert_key statement_cmp ys x) (set_is xs)

set_within : (xs : List Statement) → length (set_of xs) ≤ length xs
set_within xs = omega (arith, ap length (set_is xs), rising_within statement_cmp xs)

set_sound : (part : Part) (facts : List Fact) → IsKeepable facts → is_sound_set (set_of (filter_map (statement_for part) facts)) ≡ true
set_sound part facts kept =
    let statements : List Statement = filter_map (statement_for part) facts in
    ap is_sound_set (set_is statements)
    ∙ both (is_rising_by statement_cmp (rising_by statement_cmp statements)) (list_all is_sound_statement (rising_by statement_cmp statements)) (rising_rises statement_cmp-total statement_cmp-equal statements)
    (rising_kept statement_cmp is_sound_statement statements (filter_kept (statement_for part) is_sound_statement (statement_sound part) facts kept.sound))

stated : Part → List Fact → List Statement
stated part facts = filter_map (statement_for part) facts

changes_within : (facts : List Fact) → IsKeepable facts → length (set_of (stated Preconditions facts)) + length (set_of (stated Reverse facts)) + length (set_of (stated Forward facts)) ≤ most_changes
unfolding stated
changes_within facts kept =
    let pre : Fact → ℕ = λ (f : Fact). found (statement_for Preconditions f) in
    let rev : Fact → ℕ = λ (f : Fact). found (statement_for Reverse f) in
    let fwd : Fact → ℕ = λ (f : Fact). found (statement_for Forward f) in
    omega (
      arith,
      set_within (filter_map (statement_for Preconditions) facts),
      set_within (filter_map (statement_for Reverse) facts),
      set_within (filter_map (statement_for Forward) facts),
      length-found (statement_for Preconditions) facts,
      length-found (statement_for Reverse) facts,
      length-found (statement_for Forward) facts,
      weigh_by-sum pre rev facts,
      weigh_by-sum (λ (f : Fact). pre f + rev f) fwd facts,
      weigh_by-same (λ (f : Fact). pre f + rev f + fwd f) (λ (f : Fact). (counts_of f).changes) (λ f. (found_is f).changes) facts,
      kept.changes,
    )

-- ---- models

model_kept : (kind : Kind) (id : ℕ) (facts : List Fact) → is_model_id id ≡ true → IsKeepable facts → is_sound_within_limits (model_of kind id facts) ≡ true
unfolding stated
model_kept Full id facts named kept =
    let within : length (set_of (filter_map (statement_for Whole) facts)) ≤ most_statements = omega (arith, set_within (filter_map (statement_for Whole) facts), few (statement_for Whole) (λ c. c.statements) (λ f. (found_is f).statements) most_statements facts kept.statements) in
    both _ _ (both _ _ (header_sound id facts named kept) (set_sound Whole facts kept)) (at_most _ most_statements within)
model_kept Difference id facts named kept =
    both _ _ (both _ _ (header_sound id facts named kept) (both _ _ (both _ _ (set_sound Preconditions facts kept) (set_sound Reverse facts kept)) (set_sound Forward facts kept))) (at_most _ most_changes (changes_within facts kept))

same_model : (x y : Document) → ◌≡◌ {A = Option Document} (Some x) (Some y) → x ≡ y
same_model x y same = cc

told_kept : (facts : List Fact) (model : Document) → document_of facts ≡ Some model → IsKeepable facts → is_sound_within_limits model ≡ true
told_kept [] model is kept = absurd (let differ = is in cc)
told_kept ((fact.Heads kind id) ∷ facts) model is kept =
    let others : IsKeepable facts = record {
      sound = and_right (is_model_id id) (list_all is_sound_fact facts) kept.sound;
      statements = omega (arith, kept.statements);
      changes = omega (arith, kept.changes);
      profiles = omega (arith, kept.profiles);
      dependencies = omega (arith, kept.dependencies);
      superseded = omega (arith, kept.superseded);
    } in
    ap is_sound_within_limits (sym (same_model (model_of kind id facts) model is)) ∙ model_kept kind id facts (and_left (is_model_id id) (list_all is_sound_fact facts) kept.sound) others
told_kept ((fact.Tells property text) ∷ facts) model is kept = absurd (let differ = is in cc)
told_kept ((fact.Links property id) ∷ facts) model is kept = absurd (let differ = is in cc)
told_kept ((fact.States part statement) ∷ facts) model is kept = absurd (let differ = is in cc)

-- ---- inputs

cut_kept : (pieces : List Placed) (offset : ℕ) (bytes : List ℕ) → IsCutFrom offset bytes pieces [] → list_all is_kept_piece (map piece_placed pieces) ≡ true
cut_kept [] offset bytes is_cut = refl
cut_kept (placed ∷ others) offset bytes is_cut =
    let spelt : IsSpeltAt bytes true placed.piece is_cut.0 = is_cut.2 in
    both (is_kept_piece placed.piece) (list_all is_kept_piece (map piece_placed others)) (spelt_kept spelt.front placed.piece spelt.spelt) (cut_kept others _ is_cut.0 is_cut.3)

record Five (counts : Counts) : Type 0 where
  statements : counts.statements ≤ most_statements
  changes : counts.changes ≤ most_changes
  profiles : counts.profiles ≤ most_profiles
  dependencies : counts.dependencies ≤ most_dependencies
  superseded : counts.superseded ≤ most_superseded

five : (counts : Counts) → is_within_limits counts ≡ true → Five counts
five counts within = record {
  statements = grind (arith, nat_tests);
  changes = grind (arith, nat_tests);
  profiles = grind (arith, nat_tests);
  dependencies = grind (arith, nat_tests);
  superseded = grind (arith, nat_tests);
}

keepable : (pieces : List Piece) → IsKeptContext (after_all beginning pieces) → IsKeepable (after_all beginning pieces).told
keepable pieces kept =
    let within : Five (after_all beginning pieces).counted = five (after_all beginning pieces).counted kept.within in
    record {
      sound = kept.told;
      statements = omega (arith, told_counted (λ (c : Counts). c.statements) (λ x y. refl) refl pieces, within.statements);
      changes = omega (arith, told_counted (λ (c : Counts). c.changes) (λ x y. refl) refl pieces, within.changes);
      profiles = omega (arith, told_counted (λ (c : Counts). c.profiles) (λ x y. refl) refl pieces, within.profiles);
      dependencies = omega (arith, told_counted (λ (c : Counts). c.dependencies) (λ x y. refl) refl pieces, within.dependencies);
      superseded = omega (arith, told_counted (λ (c : Counts). c.superseded) (λ x y. refl) refl pieces, within.superseded);
    }

pub stated_models_are_kept : StatedModelsAreKept
stated_models_are_kept input model document =
    let pieces : List Piece = map piece_placed document.pieces in
    let cutting : Cutting = record { pieces = document.pieces; end = 0; rest = Ended } in
    let states : States cutting model = (refl, document.states) in
    let none : fault_of cutting ≡ None = (faultless_pieces_are_documents cutting).1 (model, states) in
    let all : (fine beginning pieces && is_none (code_at (after_all beginning pieces) (Left Ended))) ≡ true = sym (faultless document.pieces beginning 0 Ended) ∙ ap is_none none in
    let spelt : list_all is_kept_piece pieces ≡ true = cut_kept document.pieces (mark_length input) _ document.cut in
    let kept : IsKeptContext (after_all beginning pieces) = all_kept pieces beginning beginning_kept spelt (and_left (fine beginning pieces) (is_none (code_at (after_all beginning pieces) (Left Ended))) all) in
    told_kept (after_all beginning pieces).told model (told_by_pieces pieces model document.states) (keepable pieces kept)
