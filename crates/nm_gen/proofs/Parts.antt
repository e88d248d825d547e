-- Parts of a stream that are written one behind another, each of one number.
use Rattle.std.proofs.Common.{◌≡◌, ◌∙◌, ℕ, ◌+◌, ◌-◌, ◌/◌, ◌%◌, ◌≤◌, List, [], ◌∷◌, ◌++◌, Bool, true, false, add-one, refl, sym, ap, arith, append_assoc, if◌then◌else◌}
use Rattle.std.proofs.lemmas.Bool.{eqb-false, eqb-true}
use Rattle.std.proofs.lemmas.Grind.{flat_map-append}
use Rattle.std.proofs.lemmas.List.{append-nil}
use Rattle.std.proofs.lemmas.List.Folds.{flat_map-map}
use Rattle.std.proofs.lemmas.List.FromFn.{map-range_with_len_more}
use Rattle.std.specs.List.{flat_map, range_with_len}
use Rattle.std.specs.Prelude.{map}
use Rattle.nm_gen.specs.Days.{drawn_day}
use Rattle.nm_gen.specs.Draws.{next_state, state_after}
use Rattle.nm_gen.specs.Models.{substation, substations}
use Rattle.nm_gen.specs.Stream.{is_redated, redating, redating_from, redating_to, state_behind_redating}

one_more : {A : Type 0} (part : ℕ → List A) (first count last : ℕ) → first + count ≡ last
    → flat_map part (range_with_len first (count + 1)) ≡ flat_map part (range_with_len first count) ++ part last
one_more part first count last place =
    sym (flat_map-map part (λ n. n) (range_with_len first (count + 1)))
    ∙ ap (flat_map part) (map-range_with_len_more (λ n. n) first count last place)
    ∙ flat_map-append part (map (λ n. n) (range_with_len first count)) (last ∷ [])
    ∙ (λ i. flat_map-map part (λ n. n) (range_with_len first count) i ++ append-nil (part last) i)

-- what stands so far, with the part of one number more
pub appended : {A : Type 0} (part : ℕ → List A) (start before after : List A) (number : ℕ) → 1 ≤ number
    → before ≡ start ++ flat_map part (range_with_len 1 (number - 1)) → after ≡ before ++ part number
    → after ≡ start ++ flat_map part (range_with_len 1 (number + 1 - 1))
appended part start before after number low so_far more =
    more ∙ ap (λ list. list ++ part number) so_far
    ∙ append_assoc start (flat_map part (range_with_len 1 (number - 1))) (part number)
    ∙ ap (λ list. start ++ list) (sym (one_more part 1 (number - 1) number (omega arith)))
    ∙ ap (λ count. start ++ flat_map part (range_with_len 1 count)) (omega arith)

pub no_substations : substations 0 ≡ []
unfolding substations
no_substations = refl

pub substation_more : (number : ℕ) → substations (number + 1) ≡ substations number ++ substation number
unfolding substations
substation_more number = one_more substation 0 number number (omega arith)

-- ---- draws

pub no_draws : (state : ℕ) → state_after state 0 ≡ state
unfolding state_after
no_draws state = refl

draw_more : (state draws : ℕ) → state_after state (draws + 1) ≡ next_state (state_after state draws)
unfolding state_after
draw_more state draws = ap (state_after state) (add-one draws)

state_more : (state draws last : ℕ) → draws + 1 ≡ last → state_after state last ≡ next_state (state_after state draws)
state_more state draws last one = ap (state_after state) (sym one) ∙ draw_more state draws

-- behind the draw of each number
pub drawn_once : (state before after number : ℕ) → 1 ≤ number → before ≡ state_after state (number - 1) → after ≡ next_state before → after ≡ state_after state number
drawn_once state before after number low so_far next =
    next ∙ ap next_state so_far ∙ sym (state_more state (number - 1) number (omega arith))

-- behind the draws of every third number
pub record IsRedated (state before number : ℕ) : Type 0 where
  pub text : redating_from before number ≡ redating state number
  pub behind : state_behind_redating before number ≡ state_after state (number / 3)

pub redated : (state before number : ℕ) → 1 ≤ number → before ≡ state_after state ((number - 1) / 3) → IsRedated state before number
redated state before number low so_far = by (is_redated number) refl
  where
    by : (third : Bool) → is_redated number ≡ third → IsRedated state before number
    by true is =
        let multiple = eqb-true (number % 3) 0 is in
        let drawn : next_state before ≡ state_after state (number / 3) = ap next_state so_far ∙ sym (state_more state ((number - 1) / 3) (number / 3) (omega arith)) in
        record {
          text = (λ i. if is i then redating_to (drawn_day (next_state before)) number else [])
              ∙ ap (λ after. redating_to (drawn_day after) number) drawn
              ∙ (λ i. if sym is i then redating_to (drawn_day (state_after state (number / 3))) number else []);
          behind = (λ i. if is i then next_state before else before) ∙ drawn;
        }
    by false is =
        let other = eqb-false (number % 3) 0 is in
        let same : (number - 1) / 3 ≡ number / 3 = omega arith in
        record {
          text = (λ i. if is i then redating_to (drawn_day (next_state before)) number else [])
              ∙ (λ i. if sym is i then redating_to (drawn_day (state_after state (number / 3))) number else []);
          behind = (λ i. if is i then next_state before else before) ∙ so_far ∙ ap (state_after state) same;
        }
