-- Texts by their bytes: what is cut, joined and completed.
use Rattle.std.proofs.Common.{◌≡◌, ℕ, ◌≤◌, true, false, not, eqb, leb, List, [], ◌∷◌, ◌++◌, refl, sym, ap, subst, ◌∙◌, arith}
use Rattle.std.proofs.lemmas.Bool.{leb-true, ne_eqb, and_parts, and_from}
use Rattle.std.specs.List.{list_all}
use Rattle.nm_text.specs.declared.character.Place.{Place}
use Rattle.nm_text.specs.declared.character.Place.TheVariants.{Between, Last, LastTwo, LastThree, AfterE0, AfterED, AfterEF, AfterEFBF, AfterF0, AfterF4, Wrong}
use Rattle.nm_text.specs.Utf8.{place_after, place_after_byte, is_whole, is_open, begins_text, spells_text}
use Rattle.nm_text.specs.Split.{lacks}

pub place_after-append : (place : Place) (s t : List ℕ) → place_after place (s ++ t) ≡ place_after (place_after place s) t
place_after-append place [] t = refl
place_after-append place (byte ∷ s) t = place_after-append (place_after_byte place byte) s t

wrong_stays : (s : List ℕ) → place_after Wrong s ≡ Wrong
wrong_stays [] = refl
wrong_stays (byte ∷ s) = wrong_stays s

open_before : (place : Place) (t : List ℕ) → is_open (place_after place t) ≡ true → is_open place ≡ true
open_before Wrong t e = absurd (wrong (place_after Wrong t) (wrong_stays t) e)
  where
    wrong : (p : Place) → p ≡ Wrong → is_open p ≡ true → ⊥
    wrong p q e = let f : is_open Wrong ≡ true = subst (λ (x : Place). is_open x ≡ true) q e in cc
open_before _ t e = refl

pub begins_text_before : (s t : List ℕ) → begins_text (s ++ t) ≡ true → begins_text s ≡ true
begins_text_before s t e = open_before (place_after Between s) t (ap is_open (sym (place_after-append Between s t)) ∙ e)

pub whole_is : (place : Place) → is_whole place ≡ true → place ≡ Between
whole_is Between e = refl
whole_is _ e = absurd cc

pub text_begins : (s : List ℕ) → spells_text s ≡ true → begins_text s ≡ true
text_begins s e = ap is_open (whole_is (place_after Between s) e)

pub text-append : (s t : List ℕ) → spells_text s ≡ true → spells_text t ≡ true → spells_text (s ++ t) ≡ true
text-append s t p q = ap is_whole (place_after-append Between s t ∙ ap (λ (place : Place). place_after place t) (whole_is (place_after Between s) p)) ∙ q

-- what completes a text that ends within a character: bytes that are not ASCII
pub record Completes (s more : List ℕ) : Type 0 where
  pub high : list_all (leb 128) more ≡ true
  pub text : spells_text (s ++ more) ≡ true

rest_of : Place → List ℕ
rest_of Between = []
rest_of Last = 0x80 ∷ []
rest_of LastTwo = 0x80 ∷ 0x80 ∷ []
rest_of LastThree = 0x80 ∷ 0x80 ∷ 0x80 ∷ []
rest_of AfterE0 = 0xA0 ∷ 0x80 ∷ []
rest_of AfterED = 0x80 ∷ 0x80 ∷ []
rest_of AfterEF = 0x80 ∷ 0x80 ∷ []
rest_of AfterEFBF = 0x80 ∷ []
rest_of AfterF0 = 0x90 ∷ 0x80 ∷ 0x80 ∷ []
rest_of AfterF4 = 0x80 ∷ 0x80 ∷ 0x80 ∷ []
rest_of Wrong = []

rest_high : (place : Place) → list_all (leb 128) (rest_of place) ≡ true
unfolding rest_of
rest_high Between = refl
rest_high Last = refl
rest_high LastTwo = refl
rest_high LastThree = refl
rest_high AfterE0 = refl
rest_high AfterED = refl
rest_high AfterEF = refl
rest_high AfterEFBF = refl
rest_high AfterF0 = refl
rest_high AfterF4 = refl
rest_high Wrong = refl

rest_whole : (place : Place) → is_open place ≡ true → is_whole (place_after place (rest_of place)) ≡ true
unfolding rest_of
rest_whole Between e = refl
rest_whole Last e = refl
rest_whole LastTwo e = refl
rest_whole LastThree e = refl
rest_whole AfterE0 e = refl
rest_whole AfterED e = refl
rest_whole AfterEF e = refl
rest_whole AfterEFBF e = refl
rest_whole AfterF0 e = refl
rest_whole AfterF4 e = refl
rest_whole Wrong e = absurd cc

pub completed : (s : List ℕ) → begins_text s ≡ true → (more : List ℕ) × Completes s more
completed s e = (
  rest_of (place_after Between s),
  record {
    high = rest_high (place_after Between s);
    text = ap is_whole (place_after-append Between s (rest_of (place_after Between s))) ∙ rest_whole (place_after Between s) e;
  },
)

-- no byte of ASCII is one that is not
pub high_lacks : (byte : ℕ) (s : List ℕ) → leb 128 byte ≡ true → list_all (λ b. leb b 127) s ≡ true → lacks byte s ≡ true
high_lacks byte [] h p = refl
high_lacks byte (b ∷ s) h p =
    let q = and_parts (leb b 127) (list_all (λ c. leb c 127) s) p in
    and_from (not (eqb b byte)) (lacks byte s) (ap not (apart b (leb-true b 127 q.0) (leb-true 128 byte h))) (high_lacks byte s h q.1)
  where
    apart : (b : ℕ) → b ≤ 127 → 128 ≤ byte → eqb b byte ≡ false
    apart b low high = ne_eqb b byte (λ e. omega arith)
