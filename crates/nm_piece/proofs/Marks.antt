-- Characters up to the first of some mark are a reading.
use Rattle.std.proofs.Common.{◌≡◌, ℕ, ◌+◌, ◌≤◌, Bool, true, false, not, cond, eqb, leb, ◌⊎◌, ◌&&◌, ◌||◌, List, [], ◌∷◌, ◌++◌, length, drop, Option, Some, None, Ok, Err, refl, sym, ap, ◌∙◌, append_assoc, arith, inl, inr, length-append}
use Rattle.std.specs.Prelude.{nat_eq}
use Rattle.std.specs.List.{list_all, starts_with}
use Rattle.std.specs.Option.{option_map}
use Rattle.std.proofs.lemmas.Bool.{cases_Bool, eqb-true, eq-eqb, and_parts, and_from, and_left, both_ways, not-true}
use Rattle.nm_text.specs.Mark.{holds}
use Rattle.nm_text.specs.Utf8.{begins_text, spells_text}
use Rattle.nm_piece.specs.declared.unread.Unread.TheVariants.{Unfinished, NoPiece, NoMemory}
use Rattle.nm_piece.specs.Mark.{behind_byte, parts_at, text_of_parts, text_until}
use Rattle.nm_piece.specs.Reading.{Read}
use Rattle.nm_text.specs.Split.{lacks}
use Rattle.nm_piece.proofs.Readings.{Anything, IsReading, Opens, Takes, if_true, if_false, ok_parts}
use Rattle.nm_piece.proofs.Texts.{begins_text_before, completed, high_lacks, text-append, text_begins}

pub or_false : (x y : Bool) → (x || y) ≡ false → (x ≡ false) × (y ≡ false)
or_false true y e = absurd cc
or_false false y e = (refl, e)

pub or_from_false : (x y : Bool) → x ≡ false → y ≡ false → (x || y) ≡ false
or_from_false x y p q = rw (p, q) refl

-- a mark stands at the front of longer bytes where it stands at the front of enough of them
starts-append : (mark s t : List ℕ) → length mark ≤ length s → starts_with nat_eq (s ++ t) mark ≡ starts_with nat_eq s mark
starts-append [] s t h = refl
starts-append (c ∷ mark) [] t h = absurd (omega arith)
starts-append (c ∷ mark) (b ∷ s) t h = ap (λ (x : Bool). nat_eq c b && x) (starts-append mark s t (omega arith))

-- a byte that is not of the mark ends what can be of it
starts_cut : (mark s t : List ℕ) (byte : ℕ) → lacks byte mark ≡ true → starts_with nat_eq (s ++ byte ∷ t) mark ≡ starts_with nat_eq s mark
starts_cut [] s t byte h = refl
starts_cut (c ∷ mark) [] t byte h =
    let p = and_parts (not (eqb c byte)) (lacks byte mark) h in
    and_left (nat_eq c byte) (starts_with nat_eq t mark) (not-true (eqb c byte) p.0)
starts_cut (c ∷ mark) (b ∷ s) t byte h =
    let p = and_parts (not (eqb c byte)) (lacks byte mark) h in
    ap (λ (x : Bool). nat_eq c b && x) (starts_cut mark s t byte p.1)

pub starts_here : (mark t : List ℕ) → starts_with nat_eq (mark ++ t) mark ≡ true
starts_here [] t = refl
starts_here (c ∷ mark) t = and_from (nat_eq c c) (starts_with nat_eq (mark ++ t) mark) (eq-eqb c c refl) (starts_here mark t)

pub drop_here : (mark t : List ℕ) → drop (length mark) (mark ++ t) ≡ t
drop_here [] t = refl
drop_here (c ∷ mark) t = drop_here mark t

pub starts_parts : (mark bytes : List ℕ) → starts_with nat_eq bytes mark ≡ true → bytes ≡ mark ++ drop (length mark) bytes
starts_parts [] bytes e = refl
starts_parts (c ∷ mark) [] e = absurd cc
starts_parts (c ∷ mark) (b ∷ bytes) e =
    let p = and_parts (nat_eq c b) (starts_with nat_eq bytes mark) e in
    joined b c bytes (mark ++ drop (length mark) bytes) (sym (eqb-true c b p.0)) (starts_parts mark bytes p.1)
  where
    joined : (b c : ℕ) (s t : List ℕ) → b ≡ c → s ≡ t → b ∷ s ≡ c ∷ t
    joined b c s t p q = cc

-- two ways to cut the same bytes in two
pub data Meet (a b c d : List ℕ) : Type 0 where
  Longer : (between : List ℕ) → a ≡ c ++ between → Meet a b c d
  Shorter : (between : List ℕ) → a ++ between ≡ c → Meet a b c d

pub meet : (a b c d : List ℕ) → a ++ b ≡ c ++ d → Meet a b c d
meet [] b c d e = Shorter c refl
meet (x ∷ a) b [] d e = Longer (x ∷ a) refl
meet (x ∷ a) b (y ∷ c) d e = longer (meet a b c d cc)
  where
    longer : Meet a b c d → Meet (x ∷ a) b (y ∷ c) d
    longer (Longer between p) = Longer between cc
    longer (Shorter between p) = Shorter between cc

-- ---- a mark that is `front` and then `last`

module _ (head : ℕ) (tail front : List ℕ) (last : ℕ) (parts_of : head ∷ tail ≡ front ++ last ∷ []) (alone : holds (head ∷ tail) front ≡ false) (ascii : list_all (λ b. leb b 127) (head ∷ tail) ≡ true) (text_mark : spells_text (head ∷ tail) ≡ true) (letter : lacks 97 (head ∷ tail) ≡ true) where
  mark : List ℕ
  mark = head ∷ tail

  front_length : length (head ∷ tail) ≡ length front + 1
  front_length = ap length parts_of ∙ length-append front (last ∷ [])

  pub record Until (text inside : List ℕ) : Type 0 where
    pub whole : text ≡ inside ++ head ∷ tail
    pub characters : spells_text inside ≡ true
    pub first : holds (head ∷ tail) (inside ++ front) ≡ false

  regroup : (inside rest : List ℕ) → inside ++ (head ∷ tail ++ rest) ≡ inside ++ front ++ (last ∷ rest)
  regroup inside rest =
      ap (λ (t : List ℕ). inside ++ (t ++ rest)) parts_of ∙ ap (λ (t : List ℕ). inside ++ t) (append_assoc front (last ∷ []) rest) ∙ sym (append_assoc inside front (last ∷ rest))

  same_start : (byte : ℕ) (inside rest : List ℕ) → starts_with nat_eq (byte ∷ inside ++ (head ∷ tail ++ rest)) (head ∷ tail) ≡ starts_with nat_eq (byte ∷ inside ++ front) (head ∷ tail)
  same_start byte inside rest =
      ap (λ (t : List ℕ). starts_with nat_eq (byte ∷ t) (head ∷ tail)) (regroup inside rest)
      ∙ starts-append (head ∷ tail) (byte ∷ inside ++ front) (last ∷ rest) (omega (arith, front_length, length-append inside front))

  parts_gives : (inside rest : List ℕ) → holds (head ∷ tail) (inside ++ front) ≡ false → parts_at (head ∷ tail) (inside ++ (head ∷ tail ++ rest)) ≡ Some (inside, rest)
  parts_gives [] rest h = if_true (starts_with nat_eq (head ∷ tail ++ rest) (head ∷ tail)) (Some ([], drop (length (head ∷ tail)) (head ∷ tail ++ rest))) (option_map (behind_byte head) (parts_at (head ∷ tail) (tail ++ rest))) (starts_here (head ∷ tail) rest)
      ∙ ap (λ (t : List ℕ). Some ([], t)) (drop_here (head ∷ tail) rest)
  parts_gives (byte ∷ inside) rest h =
      let p = or_false (starts_with nat_eq (byte ∷ inside ++ front) (head ∷ tail)) (holds (head ∷ tail) (inside ++ front)) h in
      if_false (starts_with nat_eq (byte ∷ inside ++ (head ∷ tail ++ rest)) (head ∷ tail)) (Some ([], drop (length (head ∷ tail)) (byte ∷ inside ++ (head ∷ tail ++ rest)))) (option_map (behind_byte byte) (parts_at (head ∷ tail) (inside ++ (head ∷ tail ++ rest)))) (same_start byte inside rest ∙ p.0)
      ∙ ap (option_map (behind_byte byte)) (parts_gives inside rest p.1)

  pub record Found (bytes inside rest : List ℕ) : Type 0 where
    pub whole : bytes ≡ inside ++ (head ∷ tail ++ rest)
    pub first : holds (head ∷ tail) (inside ++ front) ≡ false

  parts_takes : (bytes inside rest : List ℕ) → parts_at (head ∷ tail) bytes ≡ Some (inside, rest) → Found bytes inside rest
  parts_takes [] inside rest e = absurd cc
  parts_takes (byte ∷ bytes) inside rest e =
      elim (cases_Bool (starts_with nat_eq (byte ∷ bytes) (head ∷ tail))) [
        | inl h ↦
            here h (some_parts [] inside (drop (length (head ∷ tail)) (byte ∷ bytes)) rest (sym (if_true (starts_with nat_eq (byte ∷ bytes) (head ∷ tail)) (Some ([], drop (length (head ∷ tail)) (byte ∷ bytes))) (option_map (behind_byte byte) (parts_at (head ∷ tail) bytes)) h) ∙ e))
        | inr h ↦
            there (λ i r. parts_takes bytes i r) h (parts_at (head ∷ tail) bytes) refl (sym (if_false (starts_with nat_eq (byte ∷ bytes) (head ∷ tail)) (Some ([], drop (length (head ∷ tail)) (byte ∷ bytes))) (option_map (behind_byte byte) (parts_at (head ∷ tail) bytes)) h) ∙ e)
      ]
    where
      some_parts : (a b s t : List ℕ) → ◌≡◌ {A = Option (List ℕ × List ℕ)} (Some (a, s)) (Some (b, t)) → (a ≡ b) × (s ≡ t)
      some_parts a b s t e = let p : ◌≡◌ {A = List ℕ × List ℕ} (a, s) (b, t) = cc in (ap (λ (q : List ℕ × List ℕ). q.0) p, ap (λ (q : List ℕ × List ℕ). q.1) p)

      here : starts_with nat_eq (byte ∷ bytes) (head ∷ tail) ≡ true → ([] ≡ inside) × (drop (length (head ∷ tail)) (byte ∷ bytes) ≡ rest) → Found (byte ∷ bytes) inside rest
      here h p = record {
        whole = starts_parts (head ∷ tail) (byte ∷ bytes) h ∙ ap (λ (t : List ℕ). head ∷ tail ++ t) p.1 ∙ ap (λ (t : List ℕ). t ++ (head ∷ tail ++ rest)) p.0;
        first = ap (λ (t : List ℕ). holds (head ∷ tail) (t ++ front)) (sym p.0) ∙ alone;
      }

      there : ((i r : List ℕ) → parts_at (head ∷ tail) bytes ≡ Some (i, r) → Found bytes i r) → starts_with nat_eq (byte ∷ bytes) (head ∷ tail) ≡ false → (seen : Option (List ℕ × List ℕ)) → parts_at (head ∷ tail) bytes ≡ seen → option_map (behind_byte byte) seen ≡ Some (inside, rest) → Found (byte ∷ bytes) inside rest
      there go h None s e = absurd cc
      there go h (Some parts) s e =
          let p = some_parts (byte ∷ parts.0) inside parts.1 rest e in
          let r = go parts.0 parts.1 s in
          record {
            whole = ap (λ (t : List ℕ). byte ∷ t) r.whole ∙ ap (λ (t : List ℕ). byte ∷ parts.0 ++ (head ∷ tail ++ t)) p.1 ∙ ap (λ (t : List ℕ). t ++ (head ∷ tail ++ rest)) p.0;
            first = ap (λ (t : List ℕ). holds (head ∷ tail) (t ++ front)) (sym p.0) ∙ or_from_false (starts_with nat_eq (byte ∷ parts.0 ++ front) (head ∷ tail)) (holds (head ∷ tail) (parts.0 ++ front))
                (sym (same_start byte parts.0 parts.1) ∙ ap (λ (t : List ℕ). starts_with nat_eq (byte ∷ t) (head ∷ tail)) (sym r.whole) ∙ h) r.first;
          }

  pub parts_none : (bytes : List ℕ) → parts_at (head ∷ tail) bytes ≡ None → holds (head ∷ tail) bytes ≡ false
  parts_none [] e = refl
  parts_none (byte ∷ bytes) e =
      elim (cases_Bool (starts_with nat_eq (byte ∷ bytes) (head ∷ tail))) [
        | inl h ↦ let f = sym (if_true (starts_with nat_eq (byte ∷ bytes) (head ∷ tail)) (Some ([], drop (length (head ∷ tail)) (byte ∷ bytes))) (option_map (behind_byte byte) (parts_at (head ∷ tail) bytes)) h) ∙ e in absurd cc
        | inr h ↦ or_from_false (starts_with nat_eq (byte ∷ bytes) (head ∷ tail)) (holds (head ∷ tail) bytes) h (parts_none bytes (none_of (parts_at (head ∷ tail) bytes) (sym (if_false (starts_with nat_eq (byte ∷ bytes) (head ∷ tail)) (Some ([], drop (length (head ∷ tail)) (byte ∷ bytes))) (option_map (behind_byte byte) (parts_at (head ∷ tail) bytes)) h) ∙ e)))
      ]
    where
      none_of : (o : Option (List ℕ × List ℕ)) → option_map (behind_byte byte) o ≡ None → o ≡ None
      none_of None e = refl
      none_of (Some p) e = absurd cc

  -- foreign bytes keep a mark from standing across them
  holds_behind : (zs t : List ℕ) → list_all (λ z. lacks z (head ∷ tail)) zs ≡ true → holds (head ∷ tail) t ≡ false → holds (head ∷ tail) (zs ++ t) ≡ false
  holds_behind [] t h e = e
  holds_behind (z ∷ zs) t h e =
      let p = and_parts (lacks z (head ∷ tail)) (list_all (λ y. lacks y (head ∷ tail)) zs) h in
      or_from_false (starts_with nat_eq (z ∷ zs ++ t) (head ∷ tail)) (holds (head ∷ tail) (zs ++ t)) (starts_cut (head ∷ tail) [] (zs ++ t) z p.0) (holds_behind zs t p.1 e)

  pub holds_across : (s zs t : List ℕ) (z : ℕ) → lacks z (head ∷ tail) ≡ true → list_all (λ y. lacks y (head ∷ tail)) zs ≡ true → holds (head ∷ tail) s ≡ false → holds (head ∷ tail) t ≡ false → holds (head ∷ tail) (s ++ (z ∷ zs ++ t)) ≡ false
  holds_across [] zs t z l ls p q = holds_behind (z ∷ zs) t (and_from (lacks z (head ∷ tail)) (list_all (λ y. lacks y (head ∷ tail)) zs) l ls) q
  holds_across (b ∷ s) zs t z l ls p q =
      let r = or_false (starts_with nat_eq (b ∷ s) (head ∷ tail)) (holds (head ∷ tail) s) p in
      or_from_false (starts_with nat_eq (b ∷ s ++ (z ∷ zs ++ t)) (head ∷ tail)) (holds (head ∷ tail) (s ++ (z ∷ zs ++ t))) (starts_cut (head ∷ tail) (b ∷ s) (zs ++ t) z l ∙ r.0) (holds_across s zs t z l ls r.1 q)

  high_foreign : (zs : List ℕ) → list_all (leb 128) zs ≡ true → list_all (λ z. lacks z (head ∷ tail)) zs ≡ true
  high_foreign [] h = refl
  high_foreign (z ∷ zs) h =
      let p = and_parts (leb 128 z) (list_all (leb 128) zs) h in
      and_from (lacks z (head ∷ tail)) (list_all (λ y. lacks y (head ∷ tail)) zs) (high_lacks z (head ∷ tail) p.0 ascii) (high_foreign zs p.1)

  -- ---- the reading

  seen_as : (bytes : List ℕ) (seen : Option (List ℕ × List ℕ)) (outcome : Read (List ℕ)) → parts_at (head ∷ tail) bytes ≡ seen → text_until (head ∷ tail) bytes ≡ outcome → text_of_parts bytes seen ≡ outcome
  seen_as bytes seen outcome s e = sym (ap (text_of_parts bytes) s) ∙ e

  until_gives : (inside rest : List ℕ) → spells_text inside ≡ true → holds (head ∷ tail) (inside ++ front) ≡ false → text_until (head ∷ tail) (inside ++ (head ∷ tail ++ rest)) ≡ Ok (inside, rest)
  until_gives inside rest c h = ap (text_of_parts (inside ++ (head ∷ tail ++ rest))) (parts_gives inside rest h) ∙ if_true (spells_text inside) (Ok (inside, rest)) (Err NoPiece) c

  pub data Seen (bytes : List ℕ) (outcome : Read (List ℕ)) : Type 0 where
    Open : parts_at (head ∷ tail) bytes ≡ None → cond (begins_text bytes) (Err Unfinished) (Err NoPiece) ≡ outcome → Seen bytes outcome
    Closed : (inside rest : List ℕ) → Found bytes inside rest → cond (spells_text inside) (Ok (inside, rest)) (Err NoPiece) ≡ outcome → Seen bytes outcome

  see : (bytes : List ℕ) (outcome : Read (List ℕ)) → text_until (head ∷ tail) bytes ≡ outcome → Seen bytes outcome
  see bytes outcome e = by (parts_at (head ∷ tail) bytes) refl
    where
      by : (seen : Option (List ℕ × List ℕ)) → parts_at (head ∷ tail) bytes ≡ seen → Seen bytes outcome
      by None s = Open s (seen_as bytes None outcome s e)
      by (Some parts) s = Closed parts.0 parts.1 (parts_takes bytes parts.0 parts.1 s) (seen_as bytes (Some parts) outcome s e)

  open_cases : (b : Bool) (outcome : Read (List ℕ)) → cond b (Err Unfinished) (Err NoPiece) ≡ outcome → ((b ≡ true) × (outcome ≡ Err Unfinished)) ⊎ ((b ≡ false) × (outcome ≡ Err NoPiece))
  open_cases true outcome e = inl (refl, sym e)
  open_cases false outcome e = inr (refl, sym e)

  closed_cases : (b : Bool) (read : List ℕ × List ℕ) (outcome : Read (List ℕ)) → cond b (Ok read) (Err NoPiece) ≡ outcome → ((b ≡ true) × (outcome ≡ Ok read)) ⊎ ((b ≡ false) × (outcome ≡ Err NoPiece))
  closed_cases true read outcome e = inl (refl, sym e)
  closed_cases false read outcome e = inr (refl, sym e)

  until_takes : (bytes : List ℕ) (x rest : List ℕ) → text_until (head ∷ tail) bytes ≡ Ok (x, rest) → Takes Until bytes x rest
  until_takes bytes x rest e = by (see bytes (Ok (x, rest)) e)
    where
      by : Seen bytes (Ok (x, rest)) → Takes Until bytes x rest
      by (Open s o) = elim (open_cases (begins_text bytes) (Ok (x, rest)) o) [ inl q ↦ let w = q.1 in absurd cc | inr q ↦ let w = q.1 in absurd cc ]
      by (Closed inside after f o) = elim (closed_cases (spells_text inside) (inside, after) (Ok (x, rest)) o) [
        | inl q ↦ let p = ok_parts x inside rest after q.1 in
            record {
              text = x ++ head ∷ tail;
              whole = f.whole ∙ sym (ap (λ (t : List ℕ). t ++ (head ∷ tail ++ after)) p.0) ∙ sym (ap (λ (t : List ℕ). x ++ (head ∷ tail ++ t)) p.1) ∙ sym (append_assoc x (head ∷ tail) rest);
              spelt = record { whole = refl; characters = ap spells_text p.0 ∙ q.0; first = ap (λ (t : List ℕ). holds (head ∷ tail) (t ++ front)) p.0 ∙ f.first };
            }
        | inr q ↦ let w = q.1 in absurd cc
      ]

  until_opens : (bytes : List ℕ) → text_until (head ∷ tail) bytes ≡ Err Unfinished → Opens Until bytes
  until_opens bytes e = by (see bytes (Err Unfinished) e)
    where
      finish : parts_at (head ∷ tail) bytes ≡ None → begins_text bytes ≡ true → Opens Until bytes
      finish s b =
          let c = completed bytes b in
          let fin : List ℕ = c.0 in
          record {
            more = fin ++ (97 ∷ head ∷ tail);
            value = bytes ++ fin ++ 97 ∷ [];
            spelt = record {
              whole = simp append_assoc refl;
              characters = text-append (bytes ++ fin) (97 ∷ []) c.1.text refl;
              first = first fin c.1.high;
            };
          }
        where
          first : (fin : List ℕ) → list_all (leb 128) fin ≡ true → holds (head ∷ tail) (bytes ++ fin ++ 97 ∷ [] ++ front) ≡ false
          first [] h = ap (holds (head ∷ tail)) (append_assoc (bytes ++ []) (97 ∷ []) front ∙ append_assoc bytes [] (97 ∷ front)) ∙ holds_across bytes [] front 97 letter refl (parts_none bytes s) alone
          first (z ∷ zs) h =
              let p = and_parts (leb 128 z) (list_all (leb 128) zs) h in
              ap (holds (head ∷ tail)) (append_assoc (bytes ++ z ∷ zs) (97 ∷ []) front ∙ append_assoc bytes (z ∷ zs) (97 ∷ front)) ∙ holds_across bytes zs (97 ∷ front) z (high_lacks z (head ∷ tail) p.0 ascii) (high_foreign zs p.1) (parts_none bytes s) (holds_behind (97 ∷ []) front (and_from (lacks 97 (head ∷ tail)) true letter refl) alone)

      by : Seen bytes (Err Unfinished) → Opens Until bytes
      by (Open s o) = elim (open_cases (begins_text bytes) (Err Unfinished) o) [ inl q ↦ finish s q.0 | inr q ↦ let w = q.1 in absurd cc ]
      by (Closed inside after f o) = elim (closed_cases (spells_text inside) (inside, after) (Err Unfinished) o) [ inl q ↦ let w = q.1 in absurd cc | inr q ↦ let w = q.1 in absurd cc ]

  found_with : (bytes more inside rest : List ℕ) → Found bytes inside rest → parts_at (head ∷ tail) (bytes ++ more) ≡ Some (inside, rest ++ more)
  found_with bytes more inside rest f =
      ap (λ (t : List ℕ). parts_at (head ∷ tail) (t ++ more)) f.whole ∙ ap (parts_at (head ∷ tail)) (append_assoc inside (head ∷ tail ++ rest) more ∙ ap (λ (t : List ℕ). inside ++ t) (append_assoc (head ∷ tail) rest more))
      ∙ parts_gives inside (rest ++ more) f.first

  until_stays : (bytes more : List ℕ) → text_until (head ∷ tail) bytes ≡ Err NoPiece → text_until (head ∷ tail) (bytes ++ more) ≡ Err NoPiece
  until_stays bytes more e = by (see bytes (Err NoPiece) e)
    where
      later : parts_at (head ∷ tail) bytes ≡ None → begins_text bytes ≡ false → (seen : Option (List ℕ × List ℕ)) → parts_at (head ∷ tail) (bytes ++ more) ≡ seen → text_of_parts (bytes ++ more) seen ≡ Err NoPiece
      later s b None t = if_false (begins_text (bytes ++ more)) (Err Unfinished) (Err NoPiece) (still (begins_text (bytes ++ more)) refl)
        where
          still : (x : Bool) → begins_text (bytes ++ more) ≡ x → begins_text (bytes ++ more) ≡ false
          still true q = absurd (both_ways (begins_text bytes) b (begins_text_before bytes more q))
          still false q = q
      later s b (Some parts) t = if_false (spells_text parts.0) (Ok parts) (Err NoPiece) (bad (spells_text parts.0) refl)
        where
          f : Found (bytes ++ more) parts.0 parts.1
          f = parts_takes (bytes ++ more) parts.0 parts.1 t

          within : spells_text parts.0 ≡ true → Meet bytes more (parts.0 ++ head ∷ tail) parts.1 → ⊥
          within c (Longer between p) =
              let q : parts_at (head ∷ tail) bytes ≡ Some (parts.0, between) = ap (parts_at (head ∷ tail)) (p ∙ append_assoc parts.0 (head ∷ tail) between) ∙ parts_gives parts.0 between f.first in
              cc
          within c (Shorter between p) = both_ways (begins_text bytes) b (begins_text_before bytes between (ap begins_text p ∙ text_begins (parts.0 ++ head ∷ tail) (text-append parts.0 (head ∷ tail) c text_mark)))

          bad : (x : Bool) → spells_text parts.0 ≡ x → spells_text parts.0 ≡ false
          bad true q = absurd (within q (meet bytes more (parts.0 ++ head ∷ tail) parts.1 (f.whole ∙ sym (append_assoc parts.0 (head ∷ tail) parts.1))))
          bad false q = q

      by : Seen bytes (Err NoPiece) → text_until (head ∷ tail) (bytes ++ more) ≡ Err NoPiece
      by (Open s o) = elim (open_cases (begins_text bytes) (Err NoPiece) o) [ inl q ↦ let w = q.1 in absurd cc | inr q ↦ later s q.0 (parts_at (head ∷ tail) (bytes ++ more)) refl ]
      by (Closed inside after f o) = elim (closed_cases (spells_text inside) (inside, after) (Err NoPiece) o) [
        | inl q ↦ let w = q.1 in absurd cc
        | inr q ↦ ap (text_of_parts (bytes ++ more)) (found_with bytes more inside after f) ∙ if_false (spells_text inside) (Ok (inside, after ++ more)) (Err NoPiece) q.0
      ]

  until_keeps : (bytes more x rest : List ℕ) → text_until (head ∷ tail) bytes ≡ Ok (x, rest) → text_until (head ∷ tail) (bytes ++ more) ≡ Ok (x, rest ++ more)
  until_keeps bytes more x rest e =
      let t = until_takes bytes x rest e in
      ap (λ (s : List ℕ). text_until (head ∷ tail) (s ++ more)) (t.whole ∙ ap (λ (s : List ℕ). s ++ rest) t.spelt.whole)
      ∙ ap (text_until (head ∷ tail)) (simp append_assoc refl) ∙ until_gives x (rest ++ more) t.spelt.characters t.spelt.first

  until_pure : (bytes : List ℕ) → text_until (head ∷ tail) bytes ≡ Err NoMemory → ⊥
  until_pure bytes e = by (see bytes (Err NoMemory) e)
    where
      by : Seen bytes (Err NoMemory) → ⊥
      by (Open s o) = elim (open_cases (begins_text bytes) (Err NoMemory) o) [ inl q ↦ let w = q.1 in cc | inr q ↦ let w = q.1 in cc ]
      by (Closed inside after f o) = elim (closed_cases (spells_text inside) (inside, after) (Err NoMemory) o) [ inl q ↦ let w = q.1 in cc | inr q ↦ let w = q.1 in cc ]

  pub is_until : IsReading (text_until (head ∷ tail)) Until Anything
  is_until = record {
    takes = until_takes;
    gives = λ text rest x s behind. ap (λ (t : List ℕ). text_until (head ∷ tail) (t ++ rest)) s.whole ∙ ap (text_until (head ∷ tail)) (append_assoc x (head ∷ tail) rest) ∙ until_gives x rest s.characters s.first;
    opens = until_opens;
    stays = until_stays;
    keeps = until_keeps;
    pure = until_pure;
  }
