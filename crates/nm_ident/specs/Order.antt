-- The order of identifiers and of names.
use Rattle.std.specs.Prelude.{◌≡◌, ℕ, List, Bool, ◌&&◌, Some}
use Rattle.std.specs.Cmp.{IsEquivalence, IsPartialOrder, IsTotalOrder, and_equiv, both_tied, on_equiv, on_total, po, then_total}
use Rattle.std.specs.Cmp.Lexicographic.{nat_list_cmp_total, nat_list_eq_equiv, slice_cmp, texts_ties}
use Rattle.std.specs.Ordering.{eq_by_cmp, nat_cmp, ordering_then}
use Rattle.std.specs.declared.cmp.Ordering.{Ordering}
use Rattle.std.specs.declared.cmp.Ordering.TheVariants.{Less, Greater}
use Rattle.nm_terms.specs.Bytes.{same_text}
use Rattle.nm_ident.specs.QualifiedName.{QualifiedName}
use Rattle.nm_ident.specs.declared.ident.Ident.{Ident}
use Rattle.nm_ident.specs.declared.ident.Ident.TheVariants.{Uuid, Local}

-- texts stand as byte strings do
abbrev pub text_cmp : List ℕ → List ℕ → Ordering
text_cmp = slice_cmp nat_cmp

-- UUIDs by number, before local identifiers by bytes
abbrev pub ident_cmp : Ident → Ident → Ordering
ident_cmp (Uuid x) (Uuid y) = nat_cmp x y
ident_cmp (Uuid x) (Local y) = Less
ident_cmp (Local x) (Uuid y) = Greater
ident_cmp (Local x) (Local y) = text_cmp x y

-- by namespace, then by local name
abbrev pub name_cmp : QualifiedName → QualifiedName → Ordering
name_cmp x y = ordering_then (text_cmp x.ns y.ns) (text_cmp x.local y.local)

-- the same namespace and the same local name
abbrev pub is_same_name : QualifiedName → QualifiedName → Bool
is_same_name x y = same_text x.ns y.ns && same_text x.local y.local

-- what the comparisons of names owe
pub names_alike : IsEquivalence is_same_name
names_alike = and_equiv (on_equiv (λ name. name.ns) nat_list_eq_equiv) (on_equiv (λ name. name.local) nat_list_eq_equiv)

pub names_ordered : IsTotalOrder name_cmp
names_ordered = then_total (on_total (λ name. name.ns) nat_list_cmp_total) (on_total (λ name. name.local) nat_list_cmp_total)

pub names_tied : (x y : QualifiedName) → is_same_name x y ≡ eq_by_cmp name_cmp x y
names_tied x y = both_tied _ _ _ _ (texts_ties x.ns y.ns) (texts_ties x.local y.local)

pub names_partly_ordered : IsPartialOrder is_same_name (λ x y. Some (name_cmp x y))
names_partly_ordered = po names_ordered names_tied
