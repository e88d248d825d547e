use Rattle.std.proofs.Common.{◌∙◌, sym}
use Rattle.httparse.specs.Borrowed.{header_parts}
use Rattle.nm_http.specs.Fields.{is_named}
use Rattle.nm_http.proofs.Mapped.{list_any_map}
use Rattle.nm_http.proofs.fields.has_field.Goals as goal

pub returns : goal.returns
returns c = c.any_named.ensures ∙ sym (list_any_map (is_named c.args.name.now) header_parts c.args.fields.now)
