-- The steps of the seats keep the rule of the store.
use Rattle.std.proofs.Common.{◌≡◌, ℕ, ◌+◌, ◌≢◌, List, [], ◌∷◌, ◌++◌, set, refl, sym, ◌∙◌, subst, ⊎_elim}
use mathlib.Core.Option.{some}
use lib.ListN.{get_elem?}
use Rattle.left_right.specs.Register.{Admits, Turns, TurnsAt, Forks, Merges}
use Rattle.atomic_table.proofs.Lists.{at_set, at_snoc}
use Rattle.nm_publish.specs.History.{History, GoesOn}
use Rattle.nm_publish.specs.Shown.{Sign, Told, front_after}
use Rattle.nm_publish.specs.Sight.{sight, unseen, GoesOnFrom, GoesOnFromAll, Enters}
use Rattle.nm_publish.specs.declared.sight.Sight.{Sight}
use Rattle.nm_publish.proofs.Fronts.{front_self, front_of_front}

abbrev kept_rule : Sign → List Sight → Type 0
kept_rule shown seats = GoesOnFromAll seats shown.front

pub goes_on_self : (told : History) → GoesOn told told
goes_on_self told = record { same = refl; begins = front_self told.pieces }

pub goes_on_twice : (first second third : History) → GoesOn first second → GoesOn second third → GoesOn first third
goes_on_twice first second third one other = record {
  same = other.same ∙ one.same;
  begins = front_of_front first.pieces second.pieces third.pieces one.begins other.begins;
}

-- nothing goes before what is shown
from_nothing : (shown : History) → GoesOnFrom unseen shown
from_nothing shown any = absurd (any refl)

from_itself : (shown : History) (seat : Sight) → seat.front ≡ shown → GoesOnFrom seat shown
from_itself shown seat same any = subst (λ (h : History). GoesOn h shown) (sym same) (goes_on_self shown)

from_earlier : (seat : Sight) (earlier later : History) → GoesOn earlier later → GoesOnFrom seat earlier → GoesOnFrom seat later
from_earlier seat earlier later on from any = goes_on_twice seat.front earlier later (from any) on

all_from_earlier : (seats : List Sight) (earlier later : History) → GoesOn earlier later → GoesOnFromAll seats earlier → GoesOnFromAll seats later
all_from_earlier seats earlier later on all seat seen at = from_earlier seen earlier later on (all seat seen at)

-- one seat is set to what agrees with what is shown
set_keeps : (seats : List Sight) (seat : ℕ) (shown : History) (seen : Sight) → GoesOnFrom seen shown → GoesOnFromAll seats shown → GoesOnFromAll (set seats seat seen) shown
set_keeps seats seat shown seen from all j u at =
    ⊎_elim (λ (t : (j ≡ seat) × (seen ≡ u)). subst (λ (s : Sight). GoesOnFrom s shown) t.1 from) (λ (t : (j ≢ seat) × (get_elem? seats j ≡ some u)). all j u t.1) (at_set seats seat j seen u at)

new_keeps : (seats : List Sight) (shown : History) (seen : Sight) → GoesOnFrom seen shown → GoesOnFromAll seats shown → GoesOnFromAll (seats ++ seen ∷ []) shown
new_keeps seats shown seen from all j u at = ⊎_elim (all j u) (λ (same : seen ≡ u). subst (λ (s : Sight). GoesOnFrom s shown) same from) (at_snoc seats seen u j at)

pub admits : Admits kept_rule unseen
admits shown seats all = new_keeps seats shown.front unseen (from_nothing shown.front) all

pub enters : (seat : ℕ) (before : Sight) → Turns kept_rule seat before (λ (shown : Sign). shown) (λ before shown same after. Enters before shown.front after)
enters seat before shown seats all at =
    let after : Sight = sight shown.front (before.enterings + 1) in (
      after,
      set_keeps seats seat shown.front after (from_itself shown.front after refl) all,
      record { goes_on = all seat before at; seen = refl },
    )

pub publishes : (seat : ℕ) (before : Sight) (shown next : Sign) → GoesOn shown.front next.front
    → TurnsAt kept_rule seat before shown next (λ before shown next after. after ≡ sight next.front before.enterings)
publishes seat before shown next on seats all at =
    let after : Sight = sight next.front before.enterings in (
      after,
      set_keeps seats seat next.front after (from_itself next.front after refl) (all_from_earlier seats shown.front next.front on all),
      refl,
    )

from_again : (seat other : Sight) (shown : History) → seat.front ≡ other.front → GoesOnFrom other shown → GoesOnFrom seat shown
from_again seat other shown same from = subst (λ (h : History). ¬ (h.pieces ≡ []) → GoesOn h shown) (sym same) from

pub tells : (seat : ℕ) (seen : Sight) → Forks kept_rule seat seen seen (sight seen.front 0)
tells seat seen shown seats all at =
    let from : GoesOnFrom seen shown.front = all seat seen at in
    new_keeps (set seats seat seen) shown.front (sight seen.front 0) (from_again (sight seen.front 0) seen shown.front refl from) (set_keeps seats seat shown.front seen from all)

pub hears : (seat : ℕ) (seen : Sight) (other : ℕ) (told : Sight) → Merges kept_rule seat seen other told (sight told.front seen.enterings) unseen
hears seat seen other told shown seats all at apart there =
    let both : Sight = sight told.front seen.enterings in
    let from : GoesOnFrom told shown.front =
    ⊎_elim (λ (t : (other ≡ seat) × (both ≡ told)). absurd (apart t.0)) (λ (t : (other ≢ seat) × (get_elem? seats other ≡ some told)). all other told t.1) (at_set seats seat other both told there) in
    set_keeps (set seats seat both) other shown.front unseen (from_nothing shown.front) (set_keeps seats seat shown.front both (from_again both told shown.front refl from) all)

-- the first publish, of the exhibit that is shown already
pub published_again : (shown : History) (pending : List Told) (exhibit : Told) → shown ≡ exhibit.front → pending ≡ exhibit ∷ [] → GoesOn shown (front_after shown pending)
published_again shown pending exhibit same one = rw (one, same) (goes_on_self exhibit.front)

-- a later one, of the exhibit behind none
pub last_is_shown : (shown : History) (before pending : List Told) (exhibit : Told) → before ≡ [] → pending ≡ before ++ exhibit ∷ [] → front_after shown pending ≡ exhibit.front
last_is_shown shown before pending exhibit none one = rw (one, none) refl

pub goes_on_to_last : (old shown : History) (before pending : List Told) (exhibit : Told) → GoesOn old exhibit.front → shown ≡ old → before ≡ [] → pending ≡ before ++ exhibit ∷ []
    → GoesOn shown (front_after shown pending)
goes_on_to_last old shown before pending exhibit on same none one =
    subst (λ (h : History). GoesOn shown h) (sym (last_is_shown shown before pending exhibit none one)) (subst (λ (h : History). GoesOn h exhibit.front) (sym same) on)
