use Rattle.std.proofs.Common.{◌∙◌, ap}
use Rattle.std.specs.List.{list_all}
use Rattle.nm_ident.specs.Name.{continues_name}
use Rattle.nm_piece.proofs.Splits.{all_before}
use Rattle.nm_piece.proofs.naming.name.Goals as goal

pub is_name_where_cut-requires : goal.is_name_where_cut-requires
is_name_where_cut-requires c = ap (list_all continues_name) c.split_behind_name.ensures.before ∙ all_before continues_name c.args.bytes.now

pub is_name_where_cut-requires-else-is_empty : goal.is_name_where_cut-requires-else-is_empty
is_name_where_cut-requires-else-is_empty c = ap (list_all continues_name) c.split_behind_name.ensures.before ∙ all_before continues_name c.args.bytes.now
