-- What stands between quotes, read as values of one kind and of another.
use Rattle.std.proofs.Common.{◌≡◌, ℕ, Bool, true, false, cond, eqb, List, [], ◌∷◌, drop, Option, Some, None, Ok, Err, refl, sym, ap, ◌∙◌, ◌||◌}
use Rattle.std.proofs.lemmas.Bool.{eqb-true}
use Rattle.nm_text.specs.Split.{IsSplitBefore}
use Rattle.nm_piece.specs.declared.unread.Unread.TheVariants.{Unfinished, NoPiece}
use Rattle.nm_piece.specs.Reading.{Read, ◌>>=◌, before, ended, found, from, literal_at}
use Rattle.nm_piece.specs.Spells.{is_quote}
use Rattle.nm_piece.specs.Value.{closed_at, quoted_at}
use Rattle.nm_piece.proofs.Readings.{ok_parts}
use Rattle.nm_piece.proofs.Splits.{cut_is}

-- the value as it is
abbrev pub as_it_is : List ℕ → Read (List ℕ)
as_it_is = quoted_at Some (λ inside. true)

abbrev pub unfinished_or : {X : Type 0} → Bool → Read X
unfinished_or begins = cond begins (Err Unfinished) (Err NoPiece)

none_left : (ends : ℕ → Bool) (bytes : List ℕ) → from ends bytes ≡ [] → before ends bytes ≡ bytes
none_left ends [] e = refl
none_left ends (byte ∷ bytes) e = by (ends byte) (none_left ends bytes) e
  where
    by : (b : Bool) → (from ends bytes ≡ [] → before ends bytes ≡ bytes) → cond b (byte ∷ bytes) (from ends bytes) ≡ [] → cond b [] (byte ∷ before ends bytes) ≡ byte ∷ bytes
    by true others e = absurd cc
    by false others e = ap (λ (t : List ℕ). byte ∷ t) (others e)

module _ {X : Type 0} (value : List ℕ → Option X) (begins : List ℕ → Bool) where
  abbrev closing : {Y : Type 0} → ℕ → (List ℕ → Option Y) → (List ℕ → Bool) → List ℕ → List ℕ → Read Y
  closing quote value begins front rest = ended value begins front rest >>= λ inside. literal_at (quote ∷ []) inside.1 >>= λ sign. Ok (inside.0, sign.1)

  -- at the quote
  closing_here : (quote first : ℕ) (front rest : List ℕ) → eqb first quote ≡ true → closing quote value begins front (first ∷ rest) ≡ found (value front) rest
  closing_here quote first front rest e = by (value front)
    where
      by : (o : Option X) → ◌>>=◌ {X = X × List ℕ} {Y = X × List ℕ} (found o (first ∷ rest)) (λ inside. literal_at (quote ∷ []) inside.1 >>= λ sign. Ok (inside.0, sign.1)) ≡ found o rest
      by None = refl
      by (Some x) = rw e refl

  closing_found : (quote : ℕ) (front rest inside after : List ℕ) → closing quote Some (λ t. true) front rest ≡ Ok (inside, after) → closing quote value begins front rest ≡ found (value inside) after
  closing_found quote front [] inside after e = absurd cc
  closing_found quote front (first ∷ rest) inside after e = by (eqb first quote) refl e
    where
      by : (b : Bool) → eqb first quote ≡ b → ◌>>=◌ {X = Unit {0} × List ℕ} {Y = List ℕ × List ℕ} (cond b (Ok (tt, rest)) (Err NoPiece)) (λ sign. Ok (front, sign.1)) ≡ Ok (inside, after) → closing quote value begins front (first ∷ rest) ≡ found (value inside) after
      by true p q = closing_here quote first front rest p ∙ same front inside rest after q
        where
          same : (s t u v : List ℕ) → ◌≡◌ {A = Read (List ℕ)} (Ok (s, u)) (Ok (t, v)) → found (value s) u ≡ found (value t) v
          same s t u v e = let p = ok_parts s t u v e in rw (p.0, p.1) refl
      by false p q = absurd cc

  closing_open : (quote : ℕ) (front rest : List ℕ) → closing quote Some (λ t. true) front rest ≡ Err Unfinished → (rest ≡ []) × (closing quote value begins front rest ≡ unfinished_or (begins front))
  closing_open quote front [] e = (refl, by (begins front))
    where
      by : (b : Bool) → ◌>>=◌ {X = X × List ℕ} {Y = X × List ℕ} (cond b (Err Unfinished) (Err NoPiece)) (λ inside. literal_at (quote ∷ []) inside.1 >>= λ sign. Ok (inside.0, sign.1)) ≡ unfinished_or b
      by true = refl
      by false = refl
  closing_open quote front (first ∷ rest) e = absurd (by (eqb first quote) e)
    where
      by : (b : Bool) → ◌≡◌ {A = Read (List ℕ)} (◌>>=◌ {X = Unit {0} × List ℕ} {Y = List ℕ × List ℕ} (cond b (Ok (tt, rest)) (Err NoPiece)) (λ sign. Ok (front, sign.1))) (Err Unfinished) → ⊥
      by true q = cc
      by false q = cc

  closing_refused : (quote : ℕ) (front rest : List ℕ) → closing quote Some (λ t. true) front rest ≡ Err NoPiece → closing quote value begins front rest ≡ Err NoPiece
  closing_refused quote front [] e = absurd cc
  closing_refused quote front (first ∷ rest) e = by (eqb first quote) refl e
    where
      other : eqb first quote ≡ false → (o : Option X) → ◌>>=◌ {X = X × List ℕ} {Y = X × List ℕ} (found o (first ∷ rest)) (λ inside. literal_at (quote ∷ []) inside.1 >>= λ sign. Ok (inside.0, sign.1)) ≡ Err NoPiece
      other p None = refl
      other p (Some x) = rw p refl

      by : (b : Bool) → eqb first quote ≡ b → ◌≡◌ {A = Read (List ℕ)} (◌>>=◌ {X = Unit {0} × List ℕ} {Y = List ℕ × List ℕ} (cond b (Ok (tt, rest)) (Err NoPiece)) (λ sign. Ok (front, sign.1))) (Err NoPiece) → closing quote value begins front (first ∷ rest) ≡ Err NoPiece
      by true p q = absurd cc
      by false p q = other p (value front)

  open_front : (quote : ℕ) (bytes : List ℕ) → closed_at quote Some (λ t. true) bytes ≡ Err Unfinished → closed_at quote value begins bytes ≡ unfinished_or (begins bytes)
  open_front quote bytes e =
      let o = closing_open quote (before (λ byte. eqb byte quote) bytes) (from (λ byte. eqb byte quote) bytes) e in
      o.1 ∙ ap (λ (t : List ℕ). unfinished_or (begins t)) (none_left (λ byte. eqb byte quote) bytes o.0)

  -- ---- what a value as it is says of one of another kind

  pub quoted_found : (bytes inside rest : List ℕ) → as_it_is bytes ≡ Ok (inside, rest) → quoted_at value begins bytes ≡ found (value inside) rest
  quoted_found [] inside rest e = absurd cc
  quoted_found (byte ∷ bytes) inside rest e = by (eqb byte 34) (eqb byte 39) e
    where
      by : (double single : Bool) → cond double (closed_at 34 Some (λ t. true) bytes) (cond single (closed_at 39 Some (λ t. true) bytes) (Err NoPiece)) ≡ Ok (inside, rest)
          → cond double (closed_at 34 value begins bytes) (cond single (closed_at 39 value begins bytes) (Err NoPiece)) ≡ found (value inside) rest
      by true single q = closing_found 34 (before (λ byte. eqb byte 34) bytes) (from (λ byte. eqb byte 34) bytes) inside rest q
      by false true q = closing_found 39 (before (λ byte. eqb byte 39) bytes) (from (λ byte. eqb byte 39) bytes) inside rest q
      by false false q = absurd cc

  pub quoted_open : (bytes : List ℕ) → begins [] ≡ true → as_it_is bytes ≡ Err Unfinished → quoted_at value begins bytes ≡ unfinished_or (begins (drop 1 bytes))
  quoted_open [] empty e = rw empty refl
  quoted_open (byte ∷ bytes) empty e = by (eqb byte 34) (eqb byte 39) e
    where
      by : (double single : Bool) → cond double (closed_at 34 Some (λ t. true) bytes) (cond single (closed_at 39 Some (λ t. true) bytes) (Err NoPiece)) ≡ Err Unfinished
          → cond double (closed_at 34 value begins bytes) (cond single (closed_at 39 value begins bytes) (Err NoPiece)) ≡ unfinished_or (begins bytes)
      by true single q = open_front 34 bytes q
      by false true q = open_front 39 bytes q
      by false false q = absurd cc

  pub quoted_refused : (bytes : List ℕ) → as_it_is bytes ≡ Err NoPiece → quoted_at value begins bytes ≡ Err NoPiece
  quoted_refused [] e = absurd cc
  quoted_refused (byte ∷ bytes) e = by (eqb byte 34) (eqb byte 39) e
    where
      by : (double single : Bool) → cond double (closed_at 34 Some (λ t. true) bytes) (cond single (closed_at 39 Some (λ t. true) bytes) (Err NoPiece)) ≡ Err NoPiece
          → cond double (closed_at 34 value begins bytes) (cond single (closed_at 39 value begins bytes) (Err NoPiece)) ≡ Err NoPiece
      by true single q = closing_refused 34 (before (λ byte. eqb byte 34) bytes) (from (λ byte. eqb byte 34) bytes) q
      by false true q = closing_refused 39 (before (λ byte. eqb byte 39) bytes) (from (λ byte. eqb byte 39) bytes) q
      by false false q = refl

-- ---- the cut at the quote

-- behind a quote, up to the next
at_quote : {X : Type 0} (value : List ℕ → Option X) (begins : List ℕ → Bool) (quote : ℕ) (bytes : List ℕ) → is_quote quote ≡ true → quoted_at value begins (quote ∷ bytes) ≡ closed_at quote value begins bytes
at_quote value begins quote bytes e = by (eqb quote 34) (eqb quote 39) refl refl e
  where
    by : (double single : Bool) → eqb quote 34 ≡ double → eqb quote 39 ≡ single → (double || single) ≡ true
        → cond double (closed_at 34 value begins bytes) (cond single (closed_at 39 value begins bytes) (Err NoPiece)) ≡ closed_at quote value begins bytes
    by true single p q h = ap (λ (n : ℕ). closed_at n value begins bytes) (sym (eqb-true quote 34 p))
    by false true p q h = ap (λ (n : ℕ). closed_at n value begins bytes) (sym (eqb-true quote 39 q))
    by false false p q h = absurd cc

pub quoted_between : (quote first : ℕ) (bytes front rest : List ℕ) → is_quote quote ≡ true → IsSplitBefore quote bytes front (first ∷ rest) → as_it_is (quote ∷ bytes) ≡ Ok (front, rest)
quoted_between quote first bytes front rest e split =
    let cut = cut_is quote bytes front (first ∷ rest) split in
    at_quote Some (λ t. true) quote bytes e ∙ rw (cut.before_is, cut.from_is) (closing_here Some (λ t. true) quote first front rest split.begins)

pub quoted_unclosed : (quote : ℕ) (bytes front : List ℕ) → is_quote quote ≡ true → IsSplitBefore quote bytes front [] → as_it_is (quote ∷ bytes) ≡ Err Unfinished
quoted_unclosed quote bytes front e split =
    let cut = cut_is quote bytes front [] split in
    at_quote Some (λ t. true) quote bytes e ∙ rw (cut.before_is, cut.from_is) refl

pub unquoted : (first : ℕ) (bytes : List ℕ) → is_quote first ≡ false → as_it_is (first ∷ bytes) ≡ Err NoPiece
unquoted first bytes e = by (eqb first 34) (eqb first 39) e
  where
    by : (double single : Bool) → (double || single) ≡ false → cond double (closed_at 34 Some (λ t. true) bytes) (cond single (closed_at 39 Some (λ t. true) bytes) (Err NoPiece)) ≡ Err NoPiece
    by true single q = absurd cc
    by false true q = absurd cc
    by false false q = refl

pub err_if : {X : Type 0} (b : Bool) → ◌≡◌ {A = Read X} (Err (cond b Unfinished NoPiece)) (unfinished_or b)
err_if true = refl
err_if false = refl
