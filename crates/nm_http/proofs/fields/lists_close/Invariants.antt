use Rattle.std.proofs.Common.{◌≡◌, length}
use Rattle.std.specs.List.{list_any, slice_split}
use Rattle.std.specs.Prelude.{◌==◌}
use Rattle.nm_http.specs.Fields.{is_close, lists_close}
use Rattle.nm_http.proofs.fields.lists_close.Given as goal

-- a part of the value is `close` where one of what is left is
abbrev pub invariant-parts : goal.invariant-parts
invariant-parts l = list_any is_close (slice_split (λ byte. byte == 44) l.rest) ≡ lists_close l.value

abbrev pub decreases-parts : goal.decreases-parts
decreases-parts l = length l.rest
