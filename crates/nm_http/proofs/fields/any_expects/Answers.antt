use Rattle.std.proofs.Common.{◌∙◌, sym}
use Rattle.httparse.specs.Borrowed.{header_parts}
use Rattle.nm_http.specs.Fields.{expects}
use Rattle.nm_http.proofs.Mapped.{list_any_map}
use Rattle.nm_http.proofs.fields.any_expects.Goals as goal

pub returns : goal.returns
returns c = c.any_header_expects.ensures ∙ sym (list_any_map expects header_parts c.args.fields.now)
