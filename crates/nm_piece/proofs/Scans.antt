-- Scans for a mark.
use Rattle.std.proofs.Common.{◌≡◌, ℕ, ◌+◌, ◌<◌, Bool, true, false, cond, ◌||◌, List, [], ◌∷◌, ◌++◌, length, take, drop, get_or, Option, Some, None, refl, sym, ap, ◌∙◌, append_assoc, append-nil}
use Rattle.std.specs.Prelude.{is_some, nat_eq}
use Rattle.std.proofs.lemmas.List.{drop_more, take_more}
use Rattle.nm_text.specs.Mark.{holds}
use Rattle.std.specs.List.{starts_with}
use Rattle.std.specs.Option.{option_map}
use Rattle.nm_piece.specs.Mark.{behind_byte, parts_at}

abbrev pub behind : List ℕ → List ℕ × List ℕ → List ℕ × List ℕ
behind front parts = (front ++ parts.0, parts.1)

-- the mark is not in the front
abbrev pub PartsFrom : List ℕ → List ℕ → List ℕ → List ℕ → Type 0
PartsFrom mark bytes front rest = parts_at mark bytes ≡ option_map (behind front) (parts_at mark rest)

pub parts_begin : (mark bytes : List ℕ) → PartsFrom mark bytes [] bytes
parts_begin mark bytes = by (parts_at mark bytes)
  where
    by : (o : Option (List ℕ × List ℕ)) → o ≡ option_map (behind []) o
    by None = refl
    by (Some parts) = refl

pub parts_step : (mark bytes front rest : List ℕ) (byte : ℕ) → starts_with nat_eq (byte ∷ rest) mark ≡ false → PartsFrom mark bytes front (byte ∷ rest) → PartsFrom mark bytes (front ++ byte ∷ []) rest
parts_step mark bytes front rest byte e p = p ∙ rw e (by (parts_at mark rest))
  where
    by : (o : Option (List ℕ × List ℕ)) → option_map (behind front) (option_map (behind_byte byte) o) ≡ option_map (behind (front ++ byte ∷ [])) o
    by None = refl
    by (Some parts) = ap (λ (s : List ℕ). Some (s, parts.1)) (sym (append_assoc front (byte ∷ []) parts.0))

-- the mark stands here
pub parts_here : (mark bytes front rest : List ℕ) (byte : ℕ) → starts_with nat_eq (byte ∷ rest) mark ≡ true → PartsFrom mark bytes front (byte ∷ rest) → parts_at mark bytes ≡ Some (front, drop (length mark) (byte ∷ rest))
parts_here mark bytes front rest byte e p = p ∙ rw e (ap (λ (s : List ℕ). Some (s, drop (length mark) (byte ∷ rest))) (append-nil front))

-- ---- the same at a place

pub step_at : (mark bytes : List ℕ) (place : ℕ) → place < length bytes → starts_with nat_eq (drop place bytes) mark ≡ false
    → PartsFrom mark bytes (take place bytes) (drop place bytes) → PartsFrom mark bytes (take (place + 1) bytes) (drop (place + 1) bytes)
step_at mark bytes place lt e p =
    let here = drop_more bytes place 0 lt in
    let s : starts_with nat_eq (get_or bytes place 0 ∷ drop (place + 1) bytes) mark ≡ false = ap (λ (t : List ℕ). starts_with nat_eq t mark) (sym here) ∙ e in
    let q : PartsFrom mark bytes (take place bytes) (get_or bytes place 0 ∷ drop (place + 1) bytes) = p ∙ ap (λ (t : List ℕ). option_map (behind (take place bytes)) (parts_at mark t)) here in
    parts_step mark bytes (take place bytes) (drop (place + 1) bytes) (get_or bytes place 0) s q
    ∙ ap (λ (t : List ℕ). option_map (behind t) (parts_at mark (drop (place + 1) bytes))) (sym (take_more bytes place 0 lt))

pub here_at : (mark bytes : List ℕ) (place : ℕ) → place < length bytes → starts_with nat_eq (drop place bytes) mark ≡ true
    → PartsFrom mark bytes (take place bytes) (drop place bytes) → parts_at mark bytes ≡ Some (take place bytes, drop (length mark) (drop place bytes))
here_at mark bytes place lt e p =
    let here = drop_more bytes place 0 lt in
    parts_here mark bytes (take place bytes) (drop (place + 1) bytes) (get_or bytes place 0) (ap (λ (t : List ℕ). starts_with nat_eq t mark) (sym here) ∙ e)
    (p ∙ ap (λ (t : List ℕ). option_map (behind (take place bytes)) (parts_at mark t)) here)
    ∙ ap (λ (t : List ℕ). Some (take place bytes, drop (length mark) t)) (sym here)

-- ---- whether the mark is there

pub parts_hold : (first : ℕ) (mark bytes : List ℕ) → is_some (parts_at (first ∷ mark) bytes) ≡ holds (first ∷ mark) bytes
parts_hold first mark [] = refl
parts_hold first mark (byte ∷ bytes) = by (starts_with nat_eq (byte ∷ bytes) (first ∷ mark)) (parts_at (first ∷ mark) bytes) (parts_hold first mark bytes)
  where
    by : (b : Bool) (o : Option (List ℕ × List ℕ)) → is_some o ≡ holds (first ∷ mark) bytes
        → is_some (cond b (Some ([], drop (length (first ∷ mark)) (byte ∷ bytes))) (option_map (behind_byte byte) o)) ≡ (b || holds (first ∷ mark) bytes)
    by true o e = refl
    by false None e = e
    by false (Some parts) e = e
