-- The names of objects are literals.
use Rattle.std.proofs.Common.{◌≡◌, ◌∙◌, ℕ, ◌+◌, ◌%◌, ◌^◌, ◌<◌, ◌≤◌, List, [], ◌∷◌, ◌++◌, true, ◌&&◌, length, refl, sym, ap, arith}
use Rattle.std.proofs.lemmas.Bool.{and_parts, le-leb}
use Rattle.std.proofs.lemmas.Bool.Decides.{nat_tests}
use Rattle.std.proofs.lemmas.Fmt.{decimal_by_steps, length-decimal-le}
use Rattle.std.proofs.lemmas.List.{append-nil, length-append}
use Rattle.std.proofs.lemmas.List.Folds.{list_all-append}
use Rattle.std.specs.Fmt.{decimal}
use Rattle.std.specs.List.{list_all}
use Rattle.nm_statement.specs.Literal.{is_literal}
use Rattle.nm_terms.specs.Bytes.{is_visible}
use Rattle.nm_text.proofs.Utf8Texts as texts
use Rattle.nm_text.specs.Characters.{is_text}
use Rattle.nm_text.specs.Utf8.{is_single, is_whole, place_after, place_after_first, spells_text}
use Rattle.nm_text.specs.declared.character.Place.TheVariants.{Between}

single_so : (byte : ℕ) → is_visible byte ≡ true → place_after_first byte ≡ Between
single_so byte visible = let single : is_single byte ≡ true = grind (arith, nat_tests) in rw single refl

-- visible bytes are whole characters
stays_between : (bytes : List ℕ) → list_all is_visible bytes ≡ true → place_after Between bytes ≡ Between
stays_between [] all = refl
stays_between (byte ∷ bytes) all =
    let parts = and_parts (is_visible byte) (list_all is_visible bytes) all in
    ap (λ place. place_after place bytes) (single_so byte parts.0) ∙ stays_between bytes parts.1

pub visible_is_literal : (bytes : List ℕ) → list_all is_visible bytes ≡ true → length bytes ≤ 65536 → is_literal bytes ≡ true
visible_is_literal bytes all short =
    let spelt : spells_text bytes ≡ true = ap is_whole (stays_between bytes all) in
    let text : is_text bytes ≡ true = texts.texts_by_bytes bytes ∙ spelt in
    λ i. text i && le-leb (length bytes) 65536 short i

digit_visible : (digit : ℕ) → digit < 10 → is_visible (48 + digit) ≡ true
digit_visible digit small = grind (arith, nat_tests)

decimal_visible : (n : ℕ) → n < 2 ^ 64 → list_all is_visible (decimal n) ≡ true
decimal_visible = decimal_by_steps (λ n text. list_all is_visible text ≡ true)
    (λ n small. λ i. digit_visible n small i && true)
    (λ n text large before. list_all-append is_visible text ((48 + n % 10) ∷ []) ∙ (λ i. before i && (digit_visible (n % 10) (omega arith) i && true)))

-- a letter and a number, and a few letters behind them
pub name_is_literal : (letter n : ℕ) (ending : List ℕ) → is_visible letter ≡ true → list_all is_visible ending ≡ true → length ending ≤ 1 → n < 2 ^ 32
    → is_literal ((letter ∷ decimal n) ++ ending) ≡ true
name_is_literal letter n ending first last short small =
    let visible = list_all-append is_visible (letter ∷ decimal n) ending ∙ (λ i. (first i && decimal_visible n (omega arith) i) && last i) in
    let digits = length-decimal-le 10 n (omega arith) (omega arith) (omega arith) in
    visible_is_literal ((letter ∷ decimal n) ++ ending) visible (omega (arith, length-append (letter ∷ decimal n) ending, digits))

pub numbered_is_literal : (letter n : ℕ) → is_visible letter ≡ true → n < 2 ^ 32 → is_literal (letter ∷ decimal n) ≡ true
numbered_is_literal letter n first small =
    ap is_literal (sym (append-nil (letter ∷ decimal n))) ∙ name_is_literal letter n [] first refl (omega arith) small
