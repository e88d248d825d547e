use Rattle.std.proofs.Common.{◌≡◌, ◌∙◌, [], ◌∷◌, Option, Some, None, refl, ap}
use Rattle.std.specs.Option.{option_map}
use Rattle.std.specs.Prelude.{is_some}
use Rattle.nm_piece.proofs.Scans.{parts_hold}
use Rattle.nm_piece.proofs.marked.holds_cdata_end.Goals as goal

is_some-map : {X Y : Type 0} (f : X → Y) (o : Option X) → is_some o ≡ is_some (option_map f o)
is_some-map f None = refl
is_some-map f (Some x) = refl

pub returns : goal.returns
returns c = c.is_some.ensures ∙ is_some-map _ c.split_at_mark.result ∙ ap is_some c.split_at_mark.ensures ∙ parts_hold 93 (93 ∷ 62 ∷ []) c.args.bytes.now
