-- The orders are total, tell all values apart, and are those of the types' `cmp`.
use Rattle.std.proofs.Common.{◌≡◌, ◌∙◌, ℕ, List, true, Some, refl, subst, ap}
use Rattle.std.proofs.lemmas.Bool.{eqb-true}
use Rattle.std.specs.Cmp.{IsTotalOrder, unsigned_ties}
use Rattle.std.specs.Cmp.Lexicographic.{bytes_decides, texts_ties}
use Rattle.std.specs.Ordering.{eq_by_cmp, is_eq, nat_cmp, ordering_then}
use Rattle.std.specs.declared.cmp.Ordering.{Ordering}
use Rattle.std.specs.declared.cmp.Ordering.TheVariants.{Less, Equal, Greater}
use Rattle.nm_ident.specs.Order.{text_cmp, ident_cmp, name_cmp, names_ordered}
use Rattle.nm_ident.specs.Laws.{OrdersAreTotal, OrdersTellApart}
use Rattle.nm_ident.specs.QualifiedName.{QualifiedName}
use Rattle.nm_ident.specs.contracts.ident.IdentOrd.TheImpl as ident_ord
use Rattle.nm_ident.specs.contracts.ident.IdentPartialEq.TheImpl as ident_eq
use Rattle.nm_ident.specs.contracts.ident.IdentPartialOrd.TheImpl as ident_partial_ord
use Rattle.nm_ident.specs.contracts.ident.IdentOrd.TheImpl.Laws as ident_laws
use Rattle.nm_ident.specs.declared.ident.Ident.{Ident}
use Rattle.nm_ident.specs.declared.ident.Ident.TheVariants.{Uuid, Local}

-- the order of each type's `cmp` is the defined one
pub derived-ident_cmp : (x y : Ident) → ident_ord.ghosts.cmp x y ≡ ident_cmp x y
derived-ident_cmp (Uuid x) (Uuid y) = refl
derived-ident_cmp (Uuid x) (Local y) = refl
derived-ident_cmp (Local x) (Uuid y) = refl
derived-ident_cmp (Local x) (Local y) = refl

pub derived-ident_eq : (x y : Ident) → ident_eq.ghosts.eq x y ≡ eq_by_cmp ident_cmp x y
derived-ident_eq x y = ident_laws.matches_eq-law x y ∙ ap is_eq (derived-ident_cmp x y)

pub derived-ident_partial_cmp : (x y : Ident) → ident_partial_ord.ghosts.partial_cmp x y ≡ Some (ident_cmp x y)
derived-ident_partial_cmp x y = ident_laws.matches_partial_cmp-law x y ∙ ap Some (derived-ident_cmp x y)

-- the orders are total
pub ident_cmp-total : IsTotalOrder ident_cmp
ident_cmp-total = subst IsTotalOrder (λ i x y. derived-ident_cmp x y i) ident_laws.total-law

pub nat_cmp-equal : (x y : ℕ) → nat_cmp x y ≡ Equal → x ≡ y
nat_cmp-equal x y tie = eqb-true x y (unsigned_ties x y ∙ ap is_eq tie)

-- values that stand level are the same value
pub text_cmp-equal : (x y : List ℕ) → text_cmp x y ≡ Equal → x ≡ y
text_cmp-equal x y tie = (bytes_decides x y).0 (texts_ties x y ∙ ap is_eq tie)

pub ident_cmp-equal : (x y : Ident) → ident_cmp x y ≡ Equal → x ≡ y
ident_cmp-equal (Uuid x) (Uuid y) tie = ap Uuid (nat_cmp-equal x y tie)
ident_cmp-equal (Uuid x) (Local y) tie = cc
ident_cmp-equal (Local x) (Uuid y) tie = cc
ident_cmp-equal (Local x) (Local y) tie = ap Local (text_cmp-equal x y tie)

pub equal_from : (order : Ordering) → is_eq order ≡ true → order ≡ Equal
equal_from Less e = cc
equal_from Equal e = refl
equal_from Greater e = cc

pub then_equal : (first second : Ordering) → ordering_then first second ≡ Equal → (first ≡ Equal) × (second ≡ Equal)
then_equal Less second tie = absurd cc
then_equal Equal second tie = (refl, tie)
then_equal Greater second tie = absurd cc

pub name_cmp-equal : (x y : QualifiedName) → name_cmp x y ≡ Equal → x ≡ y
name_cmp-equal x y tie =
    let both = then_equal (text_cmp x.ns y.ns) (text_cmp x.local y.local) tie in
    let ns : x.ns ≡ y.ns = text_cmp-equal x.ns y.ns both.0 in
    let local : x.local ≡ y.local = text_cmp-equal x.local y.local both.1 in
    λ i. record { ns = ns i; local = local i }

pub orders_are_total : OrdersAreTotal
orders_are_total = record { idents = ident_cmp-total; names = names_ordered }

pub orders_tell_apart : OrdersTellApart
orders_tell_apart = record { idents = ident_cmp-equal; names = name_cmp-equal }
