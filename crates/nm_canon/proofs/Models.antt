-- The facts that a canonical document tells make its model.
use Rattle.std.proofs.Common.{◌≡◌, ◌∙◌, true, List, [], ◌∷◌, ◌++◌, map, Option, None, Some, refl, ap, append-nil}
use Rattle.std.specs.List.{filter_map}
use Rattle.std.proofs.lemmas.List.Elements.{filter_map-append}
use Rattle.nm_ident.proofs.Rising.{rises-from_test}
use Rattle.nm_statement.proofs.Orders.{statement_cmp-total}
use Rattle.nm_statement.specs.Order.{statement_cmp}
use Rattle.nm_statement.specs.Set.{IsRising, is_rising, set_of}
use Rattle.nm_statement.specs.declared.set.Change.{Change}
use Rattle.nm_statement.specs.declared.statement.Statement.{Statement}
use Rattle.nm_model.specs.Sound.{is_sound_header}
use Rattle.nm_model.specs.declared.header.Header.{Header}
use Rattle.nm_model.specs.declared.document.Full.{Full}
use Rattle.nm_model.specs.declared.document.Difference.{Difference}
use Rattle.nm_model.specs.declared.document.Document.TheVariants as document
use Rattle.nm_reader.specs.declared.fact.Fact.{Fact}
use Rattle.nm_reader.specs.declared.fact.LinkProperty.{LinkProperty}
use Rattle.nm_reader.specs.declared.fact.Part.{Part}
use Rattle.nm_reader.specs.declared.fact.TextProperty.{TextProperty}
use Rattle.nm_reader.specs.Model.{document_of, link_for, statement_for, statements_of, text_for}
use Rattle.nm_reader.specs.declared.fact.Fact.TheVariants.{Heads, States}
use Rattle.nm_reader.specs.declared.fact.Kind.TheVariants.{Full as FullKind, Difference as DifferenceKind}
use Rattle.nm_reader.specs.declared.fact.Part.TheVariants.{Whole, Preconditions, Forward, Reverse}
use Rattle.nm_reader.specs.declared.fact.TextProperty.TheVariants.{Created, ScenarioTime, Version, Description, Authority, Profile}
use Rattle.nm_reader.specs.declared.fact.LinkProperty.TheVariants.{DependentOn, Supersedes}
use Rattle.nm_canon.proofs.Headers.{IsOnlyStated, header_again, header_facts, no_header}
use Rattle.nm_canon.proofs.Objects.{told_of_all}
use Rattle.nm_canon.proofs.Statements.{set_again}

-- ---- lists of statements

no_map : {X : Type 0} (pick : Fact → Option X) (part : Part) → ((statement : Statement) → pick (States part statement) ≡ None) → (statements : List Statement) → filter_map pick (map (States part) statements) ≡ []
no_map pick part none [] = refl
no_map pick part none (statement ∷ statements) = rw (none statement) (no_map pick part none statements)

own_map : (part : Part) → ((statement : Statement) → statement_for part (States part statement) ≡ Some statement) → (statements : List Statement) → filter_map (statement_for part) (map (States part) statements) ≡ statements
own_map part some [] = refl
own_map part some (statement ∷ statements) = rw (some statement) (ap (λ (others : List Statement). statement ∷ others) (own_map part some statements))

no_text : (property : TextProperty) (part : Part) (statement : Statement) → text_for property (States part statement) ≡ None
no_text Created part statement = refl
no_text ScenarioTime part statement = refl
no_text Version part statement = refl
no_text Description part statement = refl
no_text Authority part statement = refl
no_text Profile part statement = refl

no_link : (property : LinkProperty) (part : Part) (statement : Statement) → link_for property (States part statement) ≡ None
no_link DependentOn part statement = refl
no_link Supersedes part statement = refl

only_part : (part : Part) (statements : List Statement) → IsOnlyStated (map (States part) statements)
only_part part statements = record {
  texts = λ property. no_map (text_for property) part (no_text property part) statements;
  links = λ property. no_map (link_for property) part (no_link property part) statements;
}

only_both : (first second : List Fact) → IsOnlyStated first → IsOnlyStated second → IsOnlyStated (first ++ second)
only_both first second one other = record {
  texts = λ property. filter_map-append (text_for property) first second ∙ (λ i. one.texts property i ++ other.texts property i);
  links = λ property. filter_map-append (link_for property) first second ∙ (λ i. one.links property i ++ other.links property i);
}

header_states_nothing : (part : Part) (header : Header) → filter_map (statement_for part) (header_facts header) ≡ []
header_states_nothing Whole header = no_header (statement_for Whole) (λ property text. refl) (λ property id. refl) header
header_states_nothing Preconditions header = no_header (statement_for Preconditions) (λ property text. refl) (λ property id. refl) header
header_states_nothing Forward header = no_header (statement_for Forward) (λ property text. refl) (λ property id. refl) header
header_states_nothing Reverse header = no_header (statement_for Reverse) (λ property text. refl) (λ property id. refl) header

-- what is stated of a part behind a header
behind_header : (part : Part) (header : Header) (rest : List Fact) → filter_map (statement_for part) (header_facts header ++ rest) ≡ filter_map (statement_for part) rest
behind_header part header rest = filter_map-append (statement_for part) (header_facts header) rest ∙ ap (λ (first : List Statement). first ++ filter_map (statement_for part) rest) (header_states_nothing part header)

-- ---- the model

pub rises : (statements : List Statement) → is_rising statements ≡ true → IsRising statements
rises statements rising = rises-from_test statement_cmp statement_cmp-total statements rising

abbrev pub full_facts : Full → List Fact
full_facts full = Heads FullKind full.header.id ∷ (header_facts full.header ++ map (States Whole) (told_of_all full.statements))

pub full_again : (full : Full) → is_sound_header full.header ≡ true → is_rising full.statements ≡ true → document_of (full_facts full) ≡ Some (document.Full full)
full_again full sound rising =
    let told = told_of_all full.statements in
    let header = header_again full.header (map (States Whole) told) sound (only_part Whole told) in
    let statements : statements_of Whole (header_facts full.header ++ map (States Whole) told) ≡ full.statements =
    ap set_of (behind_header Whole full.header (map (States Whole) told) ∙ own_map Whole (λ statement. refl) told) ∙ set_again full.statements (rises full.statements rising) in
    λ i. Some (document.Full (record { header = header i; statements = statements i }))

abbrev pub stated_in : Change → List Fact
stated_in change = map (States Preconditions) (told_of_all change.pre) ++ (map (States Forward) (told_of_all change.fwd) ++ map (States Reverse) (told_of_all change.rev))

abbrev pub difference_facts : Difference → List Fact
difference_facts difference = Heads DifferenceKind difference.header.id ∷ (header_facts difference.header ++ stated_in difference.change)

-- what is stated in the three sections, by part
module _ {X : Type 0} (pick : Fact → Option X) where
  three : (a b c : List Fact) → filter_map pick (a ++ (b ++ c)) ≡ filter_map pick a ++ (filter_map pick b ++ filter_map pick c)
  three a b c = filter_map-append pick a (b ++ c) ∙ ap (λ (rest : List X). filter_map pick a ++ rest) (filter_map-append pick b c)

module _ (change : Change) where
  pre_stated : filter_map (statement_for Preconditions) (stated_in change) ≡ told_of_all change.pre
  pre_stated =
      three (statement_for Preconditions) (map (States Preconditions) (told_of_all change.pre)) (map (States Forward) (told_of_all change.fwd)) (map (States Reverse) (told_of_all change.rev))
      ∙ (λ i. own_map Preconditions (λ statement. refl) (told_of_all change.pre) i ++ (no_map (statement_for Preconditions) Forward (λ statement. refl) (told_of_all change.fwd) i ++ no_map (statement_for Preconditions) Reverse (λ statement. refl) (told_of_all change.rev) i))
      ∙ append-nil (told_of_all change.pre)

  fwd_stated : filter_map (statement_for Forward) (stated_in change) ≡ told_of_all change.fwd
  fwd_stated =
      three (statement_for Forward) (map (States Preconditions) (told_of_all change.pre)) (map (States Forward) (told_of_all change.fwd)) (map (States Reverse) (told_of_all change.rev))
      ∙ (λ i. no_map (statement_for Forward) Preconditions (λ statement. refl) (told_of_all change.pre) i ++ (own_map Forward (λ statement. refl) (told_of_all change.fwd) i ++ no_map (statement_for Forward) Reverse (λ statement. refl) (told_of_all change.rev) i))
      ∙ append-nil (told_of_all change.fwd)

  rev_stated : filter_map (statement_for Reverse) (stated_in change) ≡ told_of_all change.rev
  rev_stated =
      three (statement_for Reverse) (map (States Preconditions) (told_of_all change.pre)) (map (States Forward) (told_of_all change.fwd)) (map (States Reverse) (told_of_all change.rev))
      ∙ (λ i. no_map (statement_for Reverse) Preconditions (λ statement. refl) (told_of_all change.pre) i ++ (no_map (statement_for Reverse) Forward (λ statement. refl) (told_of_all change.fwd) i ++ own_map Reverse (λ statement. refl) (told_of_all change.rev) i))

pub difference_again : (difference : Difference) → is_sound_header difference.header ≡ true → is_rising difference.change.pre ≡ true → is_rising difference.change.fwd ≡ true → is_rising difference.change.rev ≡ true
    → document_of (difference_facts difference) ≡ Some (document.Difference difference)
difference_again difference sound pre fwd rev =
    let change = difference.change in
    let stated = stated_in change in
    let only = only_both (map (States Preconditions) (told_of_all change.pre)) (map (States Forward) (told_of_all change.fwd) ++ map (States Reverse) (told_of_all change.rev)) (only_part Preconditions (told_of_all change.pre))
    (only_both (map (States Forward) (told_of_all change.fwd)) (map (States Reverse) (told_of_all change.rev)) (only_part Forward (told_of_all change.fwd)) (only_part Reverse (told_of_all change.rev))) in
    let header = header_again difference.header stated sound only in
    let in_pre = ap set_of (behind_header Preconditions difference.header stated ∙ pre_stated change) ∙ set_again change.pre (rises change.pre pre) in
    let in_fwd = ap set_of (behind_header Forward difference.header stated ∙ fwd_stated change) ∙ set_again change.fwd (rises change.fwd fwd) in
    let in_rev = ap set_of (behind_header Reverse difference.header stated ∙ rev_stated change) ∙ set_again change.rev (rises change.rev rev) in
    λ i. Some (document.Difference (record { header = header i; change = record { pre = in_pre i; rev = in_rev i; fwd = in_fwd i } }))
