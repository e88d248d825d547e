use Rattle.std.proofs.Common.{rules, ◌≡◌, true, Option, None, Some, Err, subst}
use Rattle.std.specs.Option.{is_some, ok_or}
use Rattle.nm_ident.specs.Ident.{ident_of_about}
use Rattle.nm_ident.specs.IdentError.{wants_memory}
use Rattle.nm_ident.specs.declared.error.IdentError.{IdentError}
use Rattle.nm_ident.specs.declared.error.IdentError.TheVariants.{Bad}
use Rattle.nm_ident.specs.declared.ident.Ident.{Ident}
use Rattle.nm_terms.specs.Due.{OrWant}
use Rattle.nm_session.specs.Word.{object_named}
use Rattle.nm_session.proofs.turn.object_named.Goals as goal

-- a text that names an object is not refused
not_bad : (named : Option Ident) → is_some named ≡ true → ok_or named Bad ≡ Err Bad → ⊥
not_bad None some bad = grind rules
not_bad (Some ident) some bad = grind rules

pub unreachable-requires : goal.unreachable-requires
unfolding object_named
unreachable-requires c =
    not_bad (ident_of_about c.args.id.now) c.requires
    (subst (λ (error : IdentError). OrWant (wants_memory error) (ok_or (ident_of_about c.args.id.now) Bad ≡ Err error)) c.in-Err-Bad.field-0-is c.in-Err-Bad.ensures)
