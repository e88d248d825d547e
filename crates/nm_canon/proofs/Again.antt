-- What is written of a kept model is cut into pieces, and they state the model.
use Rattle.std.proofs.Common.{◌≡◌, ◌∙◌, ℕ, ◌-◌, ◌^◌, ◌<◌, true, ◌&&◌, List, [], ◌∷◌, ◌++◌, length, map, Some, inl, refl, sym, ap, subst, arith, append-nil, nat_le, leb-true}
use Rattle.std.specs.Prelude.{codes}
use Rattle.std.specs.List.{list_all}
use Rattle.std.proofs.lemmas.Bool.{ltb-true}
use Rattle.nm_ident.specs.Name.{dm_namespace}
use Rattle.nm_statement.specs.Set.{is_rising}
use Rattle.nm_statement.specs.Sound.{is_sound_set, is_sound_statement}
use Rattle.nm_statement.specs.declared.statement.Statement.{Statement}
use Rattle.nm_model.specs.Sound.{is_within_limits as model_limits, is_sound_document, is_sound_within_limits, is_sound_change, is_sound_difference, is_sound_full, is_sound_header, stated_by}
use Rattle.nm_model.specs.declared.document.Full.{Full}
use Rattle.nm_model.specs.declared.document.Difference.{Difference}
use Rattle.nm_model.specs.declared.document.Document.{Document}
use Rattle.nm_model.specs.declared.document.Document.TheVariants as document
use Rattle.nm_piece.specs.declared.piece.Piece.{Piece}
use Rattle.nm_piece.specs.declared.piece.Piece.TheVariants.{Start}
use Rattle.nm_piece.specs.Cutting.{IsCut, IsCutFrom, Placed}
use Rattle.nm_piece.specs.Spells.{SpellsStart}
use Rattle.nm_reader.specs.Blocks.{Blocks, pieces_of, End}
use Rattle.nm_piece.proofs.Cuttings.{one_cutting}
use Rattle.nm_reader.specs.Context.{Context, after, after_all, beginning}
use Rattle.nm_reader.proofs.Join.{after_pieces}
use Rattle.nm_reader.specs.Cutting.{piece_placed}
use Rattle.nm_reader.specs.Document.{IsDocument}
use Rattle.nm_reader.specs.declared.counts.Counts.{Counts}
use Rattle.nm_reader.specs.Limits.{is_within_limits, nothing}
use Rattle.nm_canon.proofs.Telling.{adding}
use Rattle.nm_model.specs.Limits.{most_changes, most_statements}
use Rattle.nm_reader.specs.declared.fact.Fact.{Fact}
use Rattle.nm_reader.specs.Model.{document_of}
use Rattle.nm_reader.specs.Texts.{is_after_root}
use Rattle.nm_writer.specs.Canonical.{canonical_of, namespaces_in, namespaces_of}
use Rattle.nm_writer.proofs.FewNamespaces.{few_namespaces, few_namespaces_of_three}
use Rattle.nm_canon.proofs.Counts.{difference_counts, full_counts}
use Rattle.nm_canon.proofs.Declared.{DeclaresAll, back_declared, declared_of, front_declared, section_told, namespaces_kept, namespaces_some}
use Rattle.nm_canon.proofs.Documents.{both, document_written, xml_declaration}
use Rattle.nm_canon.proofs.Fine.{difference_root_written, end_fine, full_root_written, header_fine, headed_fine, objects_fine, section_fine}
use Rattle.nm_canon.proofs.Glue.{Spelt, cut, tag_then}
use Rattle.nm_canon.proofs.Headers.{header_parts}
use Rattle.nm_canon.proofs.Made.{dm, document_blocks, header_block, headed, md, objects_of, section_block, sections_block}
use Rattle.nm_canon.proofs.Models.{difference_again, full_again, rises}
use Rattle.nm_canon.proofs.Objects.{told_of_all}
use Rattle.nm_canon.proofs.Prefixes.{declaration, means_in_difference, means_in_full, namespace_declarations}
use Rattle.nm_canon.proofs.Statements.{told_length}
use Rattle.nm_canon.proofs.Wholes.{IsShaped, difference_counted, difference_shaped, difference_told, full_counted, full_shaped, full_told}
use Rattle.nm_canon.proofs.Written.{CanBeWritten, bytes_of, spelt_before}
use Rattle.nm_canon.specs.Laws.{BytesTellModelsApart, WhatIsWrittenReadsBack, number_stated}

-- ---- the XML declaration

start_spelt : SpellsStart xml_declaration (Some (codes "UTF-8"))
start_spelt = record {
  version_setting = codes " version=\"1.0\"";
  encoding_setting = codes " encoding=\"UTF-8\"";
  standalone_setting = [];
  gap = [];
  whole = refl;
  version = record {
    gap = 32 ∷ [];
    equals = codes "=";
    quoted = codes "\"1.0\"";
    whole = refl;
    white = refl;
    is_equals = record { left = []; right = []; whole = refl; white_left = refl; white_right = refl };
    is_quoted = record { quote = 34; is_one = refl; whole = refl; unquoted = refl };
  };
  is_encoding = (
    record {
      gap = 32 ∷ [];
      equals = codes "=";
      quoted = codes "\"UTF-8\"";
      whole = refl;
      white = refl;
      is_equals = record { left = []; right = []; whole = refl; white_left = refl; white_right = refl };
      is_quoted = record { quote = 34; is_one = refl; whole = refl; unquoted = refl };
    },
    refl,
  );
  standalone = inl refl;
  white = refl;
}

blocks_spelt : (blocks : Blocks) → CanBeWritten blocks → Spelt (xml_declaration ++ bytes_of blocks) (Start (Some (codes "UTF-8")) ∷ pieces_of blocks)
blocks_spelt blocks written =
    let behind = spelt_before blocks [] [] written tt refl in
    let bytes = subst (λ (bytes : List ℕ). Spelt bytes (pieces_of blocks ++ [])) (append-nil (bytes_of blocks)) behind in
    let pieces = subst (λ (pieces : List Piece). Spelt (bytes_of blocks) pieces) (append-nil (pieces_of blocks)) bytes in
    tag_then (codes "?xml version=\"1.0\" encoding=\"UTF-8\"?>") (bytes_of blocks) (Start (Some (codes "UTF-8"))) (pieces_of blocks) start_spelt pieces

-- ---- models

-- a model whose canonical document reads back, whatever it counts for
pub record IsTold (model : Document) : Type 0 where
  pub facts : List Fact
  pub counts : List Counts
  pub written : CanBeWritten (document_blocks model)
  pub shaped : IsShaped (document_blocks model) facts counts
  pub meaning : document_of facts ≡ Some model
  pub within : is_sound_within_limits model ≡ true → is_within_limits (adding counts nothing) ≡ true

set_parts : (statements : List Statement) → is_sound_set statements ≡ true → (is_rising statements ≡ true) × (list_all is_sound_statement statements ≡ true)
set_parts statements sound = both (is_rising statements) (list_all is_sound_statement statements) sound

full_told_again : (full : Full) → is_sound_full full ≡ true → length full.statements < 10 ^ 63 → IsTold (document.Full full)
full_told_again full sound few =
    let header = (both (is_sound_header full.header) (is_sound_set full.statements) sound).0 in
    let set = set_parts full.statements (both (is_sound_header full.header) (is_sound_set full.statements) sound).1 in
    let namespaces = namespaces_of (full.statements ∷ []) in
    let more = namespace_declarations namespaces in
    let small : length namespaces < 10 ^ 64 - 1 = omega (arith, few_namespaces full.statements, few) in
    let kept = namespaces_kept (full.statements ∷ []) (set.1, tt) in
    let declares : DeclaresAll namespaces (namespaces_in full.statements) = front_declared namespaces (namespaces_in full.statements) [] (declared_of (namespaces_in full.statements ++ [])) in
    let tellable = section_told more namespaces (λ ns. means_in_full namespaces ns small) full.statements set.1 declares in
    let id = ltb-true full.header.id (2 ^ 128) (header_parts full.header header).id in
    record {
      facts = full_told full header id namespaces small (namespaces_some namespaces kept) tellable;
      counts = full_counted full header id namespaces small (namespaces_some namespaces kept) tellable;
      written = full_root_written namespaces (headed (md (codes "FullModel")) full.header.id (header_block full.header End) (objects_of true namespaces full.statements End)) kept
          (headed_fine (md (codes "FullModel")) full.header.id (header_block full.header End) (objects_of true namespaces full.statements End) refl
          (header_fine full.header End header end_fine) (objects_fine more namespaces true full.statements End tellable end_fine));
      shaped = full_shaped full header id namespaces small (namespaces_some namespaces kept) tellable;
      meaning = full_again full header set.0;
      within = λ kept. full_counts full.header (told_of_all full.statements) header
          (omega (arith, told_length full.statements (rises full.statements set.0), leb-true (length full.statements) most_statements (both (is_sound_full full) (nat_le (length full.statements) most_statements) kept).1));
    }

difference_told_again : (difference : Difference) → is_sound_difference difference ≡ true → stated_by difference.change < 10 ^ 63 → IsTold (document.Difference difference)
difference_told_again difference sound few =
    let change = difference.change in
    let header_part = difference.header in
    let parts = both (is_sound_header header_part) (is_sound_change change) sound in
    let header = parts.0 in
    let last = both (is_sound_set change.pre && is_sound_set change.rev) (is_sound_set change.fwd) parts.1 in
    let first = both (is_sound_set change.pre) (is_sound_set change.rev) last.0 in
    let pre = set_parts change.pre first.0 in
    let rev = set_parts change.rev first.1 in
    let fwd = set_parts change.fwd last.1 in
    let sections = change.pre ∷ change.fwd ∷ change.rev ∷ [] in
    let namespaces = namespaces_of sections in
    let more = declaration (codes "dm") dm_namespace ∷ namespace_declarations namespaces in
    let small : length namespaces < 10 ^ 64 - 1 = omega (arith, few_namespaces_of_three change.pre change.fwd change.rev, few) in
    let kept = namespaces_kept sections (pre.1, (fwd.1, (rev.1, tt))) in
    let used = namespaces_in change.pre ++ (namespaces_in change.fwd ++ (namespaces_in change.rev ++ [])) in
    let all : DeclaresAll namespaces used = declared_of used in
    let behind : DeclaresAll namespaces (namespaces_in change.fwd ++ (namespaces_in change.rev ++ [])) = back_declared namespaces (namespaces_in change.pre) (namespaces_in change.fwd ++ (namespaces_in change.rev ++ [])) all in
    let final : DeclaresAll namespaces (namespaces_in change.rev ++ []) = back_declared namespaces (namespaces_in change.fwd) (namespaces_in change.rev ++ []) behind in
    let means = λ (ns : List ℕ). means_in_difference namespaces ns small in
    let tell_pre = section_told more namespaces means change.pre pre.1 (front_declared namespaces (namespaces_in change.pre) (namespaces_in change.fwd ++ (namespaces_in change.rev ++ [])) all) in
    let tell_fwd = section_told more namespaces means change.fwd fwd.1 (front_declared namespaces (namespaces_in change.fwd) (namespaces_in change.rev ++ []) behind) in
    let tell_rev = section_told more namespaces means change.rev rev.1 (front_declared namespaces (namespaces_in change.rev) [] final) in
    let id = ltb-true header_part.id (2 ^ 128) (header_parts header_part header).id in
    let in_rev = section_block namespaces (dm (codes "reverseDifferences")) change.rev End in
    let in_fwd = section_block namespaces (dm (codes "forwardDifferences")) change.fwd in_rev in
    record {
      facts = difference_told difference header id namespaces small (namespaces_some namespaces kept) tell_pre tell_fwd tell_rev;
      counts = difference_counted difference header id namespaces small (namespaces_some namespaces kept) tell_pre tell_fwd tell_rev;
      written = difference_root_written namespaces (headed (dm (codes "DifferenceModel")) header_part.id (header_block header_part (sections_block namespaces change End)) End) kept
          (headed_fine (dm (codes "DifferenceModel")) header_part.id (header_block header_part (sections_block namespaces change End)) End refl
          (header_fine header_part (sections_block namespaces change End) header
          (section_fine more namespaces (dm (codes "preconditions")) change.pre in_fwd refl tell_pre
          (section_fine more namespaces (dm (codes "forwardDifferences")) change.fwd in_rev refl tell_fwd
          (section_fine more namespaces (dm (codes "reverseDifferences")) change.rev End refl tell_rev end_fine)))) end_fine);
      shaped = difference_shaped difference header id namespaces small (namespaces_some namespaces kept) tell_pre tell_fwd tell_rev;
      meaning = difference_again difference header pre.0 fwd.0 rev.0;
      within = λ kept. difference_counts (told_of_all change.pre) (told_of_all change.fwd) (told_of_all change.rev) header_part header
          (omega (
            arith,
            told_length change.pre (rises change.pre pre.0),
            told_length change.fwd (rises change.fwd fwd.0),
            told_length change.rev (rises change.rev rev.0),
            leb-true (stated_by change) most_changes (both (is_sound_difference difference) (nat_le (stated_by change) most_changes) kept).1,
          ));
    }

pub told_again : (model : Document) → is_sound_document model ≡ true → number_stated model < 10 ^ 63 → IsTold model
told_again (document.Full full) sound few = full_told_again full sound few
told_again (document.Difference difference) sound few = difference_told_again difference sound few

-- the pieces of a canonical document
pub pieces_again : (model : Document) → is_sound_document model ≡ true → (told : IsTold model) → Spelt (canonical_of model) (Start (Some (codes "UTF-8")) ∷ pieces_of (document_blocks model))
pieces_again model sound told = subst (λ (bytes : List ℕ). Spelt bytes (Start (Some (codes "UTF-8")) ∷ pieces_of (document_blocks model))) (sym (document_written model sound)) (blocks_spelt (document_blocks model) told.written)

-- ---- within the limits

few_stated : (model : Document) → model_limits model ≡ true → number_stated model < 10 ^ 63
few_stated (document.Full full) kept = let few = leb-true (length full.statements) most_statements kept in omega (arith, few)
few_stated (document.Difference difference) kept = let few = leb-true (stated_by difference.change) most_changes kept in omega (arith, few)

kept_parts : (model : Document) → is_sound_within_limits model ≡ true → (is_sound_document model ≡ true) × (number_stated model < 10 ^ 63)
kept_parts model kept =
    let parts = both (is_sound_document model) (model_limits model) kept in
    (parts.0, few_stated model parts.1)

-- no byte order mark stands in front
unmarked : (model : Document) → is_sound_document model ≡ true → (placed : List Placed) → IsCutFrom 0 (canonical_of model) placed [] → IsCut (canonical_of model) placed []
unmarked model sound placed is =
    let whole = document_written model sound in
    subst (λ (bytes : List ℕ). IsCut bytes placed []) (sym whole) (subst (λ (bytes : List ℕ). IsCutFrom 0 bytes placed []) whole is)

-- the pieces state the model
stated : (model : Document) → is_sound_within_limits model ≡ true → (told : IsTold model) → (pieces : List Piece) → pieces ≡ Start (Some (codes "UTF-8")) ∷ pieces_of (document_blocks model) → IsDocument pieces model
stated model kept told pieces is = record {
  declaration = Some (Some (codes "UTF-8"));
  blocks = document_blocks model;
  spelt = is;
  encoding = refl;
  shape = told.shaped.fit;
  whole = ap is_after_root told.shaped.after;
  limits = ap is_within_limits told.shaped.count ∙ told.within kept;
  meaning = ap document_of told.shaped.tell ∙ told.meaning;
}

pub read_back : WhatIsWrittenReadsBack
read_back model kept short =
    let parts = kept_parts model kept in
    let told = told_again model parts.0 parts.1 in
    let found = cut 0 (canonical_of model) (Start (Some (codes "UTF-8")) ∷ pieces_of (document_blocks model)) (pieces_again model parts.0 told) in
    record { short = short; pieces = found.0; cut = unmarked model parts.0 found.0 found.2; states = stated model kept told (map piece_placed found.0) found.1 }

-- ---- past the limits

-- what the pieces of a canonical document tell
told_by : (model : Document) → (told : IsTold model) → (context : Context) → context ≡ after beginning (Start (Some (codes "UTF-8")))
    → document_of (after_all context (pieces_of (document_blocks model))).told ≡ Some model
told_by model told context is =
    ap (λ (context : Context). document_of (after_all context (pieces_of (document_blocks model))).told) is
    ∙ ap (λ (pieces : List Piece). document_of (after_all (after beginning (Start (Some (codes "UTF-8")))) pieces).told) (sym (append-nil (pieces_of (document_blocks model))))
    ∙ ap (λ (context : Context). document_of context.told) (after_pieces (document_blocks model) (after beginning (Start (Some (codes "UTF-8")))) [])
    ∙ ap document_of told.shaped.tell
    ∙ told.meaning

pieces_are : (model : Document) → is_sound_document model ≡ true → (told : IsTold model) → (placed : List Placed) × (map piece_placed placed ≡ Start (Some (codes "UTF-8")) ∷ pieces_of (document_blocks model)) × IsCut (canonical_of model) placed []
pieces_are model sound told =
    let found = cut 0 (canonical_of model) (Start (Some (codes "UTF-8")) ∷ pieces_of (document_blocks model)) (pieces_again model sound told) in
    (found.0, found.1, unmarked model sound found.0 found.2)

same_bytes : (x y : Document) → is_sound_document x ≡ true → is_sound_document y ≡ true → IsTold x → IsTold y → canonical_of x ≡ canonical_of y → x ≡ y
same_bytes x y sound also told more same =
    let first = pieces_are x sound told in
    let second = pieces_are y also more in
    let cut_alike : IsCut (canonical_of x) second.0 [] = subst (λ (bytes : List ℕ). IsCut bytes second.0 []) (sym same) second.2 in
    let placed : first.0 ≡ second.0 = (one_cutting.one (canonical_of x) first.0 second.0 [] [] first.2 cut_alike).0 in
    let pieces : Start (Some (codes "UTF-8")) ∷ pieces_of (document_blocks x) ≡ Start (Some (codes "UTF-8")) ∷ pieces_of (document_blocks y) = sym first.1 ∙ ap (map piece_placed) placed ∙ second.1 in
    let one : document_of (after_all beginning (Start (Some (codes "UTF-8")) ∷ pieces_of (document_blocks x))).told ≡ Some x = told_by x told (after beginning (Start (Some (codes "UTF-8")))) refl in
    let other : document_of (after_all beginning (Start (Some (codes "UTF-8")) ∷ pieces_of (document_blocks y))).told ≡ Some y = told_by y more (after beginning (Start (Some (codes "UTF-8")))) refl in
    let both_are : Some x ≡ Some y = sym one ∙ ap (λ (pieces : List Piece). document_of (after_all beginning pieces).told) pieces ∙ other in
    cc

pub bytes_tell_models_apart : BytesTellModelsApart
bytes_tell_models_apart x y sound also few fewer = (same_bytes x y sound also (told_again x sound few) (told_again y also fewer), ap canonical_of)
