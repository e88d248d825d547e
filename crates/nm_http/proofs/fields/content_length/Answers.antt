use Rattle.std.proofs.Common.{◌∙◌, sym, ap}
use Rattle.std.specs.Prelude.{map}
use Rattle.std.specs.Option.{option_map}
use Rattle.std.proofs.lemmas.List.Folds.{list_all-map}
use Rattle.httparse.specs.Borrowed.{header_parts}
use Rattle.nm_http.specs.Fields.{agrees, is_named, length_name}
use Rattle.nm_http.proofs.Lengths.{none_due, some_due, apart_due, bad_due}
use Rattle.nm_http.proofs.Mapped.{find_map}
use Rattle.nm_http.proofs.fields.content_length.Goals as goal

pub returns-in_default : goal.returns-in_default
returns-in_default c =
    sym (none_due (map header_parts c.args.fields.now) (
    find_map (is_named length_name) header_parts c.args.fields.now ∙ ap (option_map header_parts) (sym c.in_default.ensures)
    ))

pub returns-in-Some-length_of : goal.returns-in-Some-length_of
returns-in-Some-length_of c =
    sym (some_due (map header_parts c.args.fields.now) (header_parts c.in-Some.first.now) c.in-Some-length_of.number
    (find_map (is_named length_name) header_parts c.args.fields.now ∙ ap (option_map header_parts) (sym c.in-Some.ensures))
    (sym c.in-Some-length_of.ensures)
    (list_all-map (agrees c.in-Some-length_of.number) header_parts c.args.fields.now ∙ sym c.if-all_agree.ensures))

pub returns-in_default-length_of : goal.returns-in_default-length_of
returns-in_default-length_of c =
    sym (apart_due (map header_parts c.args.fields.now) (header_parts c.in-Some.first.now) c.in-Some-length_of.number
    (find_map (is_named length_name) header_parts c.args.fields.now ∙ ap (option_map header_parts) (sym c.in-Some.ensures))
    (sym c.in-Some-length_of.ensures)
    (list_all-map (agrees c.in-Some-length_of.number) header_parts c.args.fields.now ∙ sym c.if-all_agree.ensures))

pub returns-in_default-length_of-2 : goal.returns-in_default-length_of-2
returns-in_default-length_of-2 c =
    sym (bad_due (map header_parts c.args.fields.now) (header_parts c.in-Some.first.now)
    (find_map (is_named length_name) header_parts c.args.fields.now ∙ ap (option_map header_parts) (sym c.in-Some.ensures))
    (sym c.in_default-length_of.ensures))
