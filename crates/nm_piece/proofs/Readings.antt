-- What a reading owes, and that readings of parts make readings of the whole.
use Rattle.std.proofs.Common.{◌≡◌, ℕ, Bool, true, false, not, cond, eqb, ◌⊎◌, List, [], ◌∷◌, ◌++◌, Option, Some, None, Ok, Err, refl, sym, ap, subst, ◌∙◌, append_assoc, append-nil, inl, inr}
use Rattle.std.proofs.lemmas.Bool.{cases_Bool, eqb-true, eq-eqb, not-true, and_parts, and_from, both_ways}
use Rattle.std.specs.List.{list_all}
use Rattle.nm_piece.specs.declared.unread.Unread.{Unread}
use Rattle.nm_piece.specs.declared.unread.Unread.TheVariants.{Unfinished, NoPiece, NoMemory}
use Rattle.nm_piece.specs.Reading.{Read, ◌>>=◌, choice, literal_at, segment_at, before, from, ended, found}

-- what may follow: anything
abbrev pub Anything : List ℕ → Type 0
Anything rest = Unit {0}

-- a byte of these follows
pub record Follows (test : ℕ → Bool) (rest : List ℕ) : Type 0 where
  pub byte : ℕ
  pub bytes : List ℕ
  pub whole : rest ≡ byte ∷ bytes
  pub passes : test byte ≡ true

-- the bytes are the spelling of a value, and then the rest
pub record Takes {X : Type 0} (Spelt : List ℕ → X → Type 0) (bytes : List ℕ) (value : X) (rest : List ℕ) : Type 0 where
  pub text : List ℕ
  pub whole : bytes ≡ text ++ rest
  pub spelt : Spelt text value

-- with more behind them the bytes are a spelling
pub record Opens {X : Type 0} (Spelt : List ℕ → X → Type 0) (bytes : List ℕ) : Type 0 where
  pub more : List ℕ
  pub value : X
  pub spelt : Spelt (bytes ++ more) value

-- the reading gives what is spelt, says where a spelling is unfinished, and stands by what it said when more comes
pub record IsReading {X : Type 0} (read : List ℕ → Read X) (Spelt : List ℕ → X → Type 0) (Behind : List ℕ → Type 0) : Type 0 where
  pub takes : (bytes : List ℕ) (value : X) (rest : List ℕ) → read bytes ≡ Ok (value, rest) → Takes Spelt bytes value rest
  pub gives : (text rest : List ℕ) (value : X) → Spelt text value → Behind rest → read (text ++ rest) ≡ Ok (value, rest)
  pub opens : (bytes : List ℕ) → read bytes ≡ Err Unfinished → Opens Spelt bytes
  pub stays : (bytes more : List ℕ) → read bytes ≡ Err NoPiece → read (bytes ++ more) ≡ Err NoPiece
  pub keeps : (bytes more : List ℕ) (value : X) (rest : List ℕ) → read bytes ≡ Ok (value, rest) → read (bytes ++ more) ≡ Ok (value, rest ++ more)
  pub pure : (bytes : List ℕ) → read bytes ≡ Err NoMemory → ⊥

-- ---- one reading, and behind it another

pub record Sequence {X Y : Type 0} (First : List ℕ → X → Type 0) (Second : X → List ℕ → Y → Type 0) (text : List ℕ) (value : Y) : Type 0 where
  pub first : X
  pub left : List ℕ
  pub right : List ℕ
  pub whole : text ≡ left ++ right
  pub spelt_left : First left first
  pub spelt_right : Second first right value

-- the cases of what a step gives
pub data Step {X Y : Type 0} (seen : Read X) (next : X × List ℕ → Read Y) (outcome : Read Y) : Type 0 where
  Stopped : (unread : Unread) → seen ≡ Err unread → outcome ≡ Err unread → Step seen next outcome
  Went : (value : X) (rest : List ℕ) → seen ≡ Ok (value, rest) → next (value, rest) ≡ outcome → Step seen next outcome

pub step : {X Y : Type 0} (seen : Read X) (next : X × List ℕ → Read Y) (outcome : Read Y) → (seen >>= next) ≡ outcome → Step seen next outcome
step (Ok read) next outcome e = Went read.0 read.1 refl e
step (Err unread) next outcome e = Stopped unread refl (sym e)

module _ {X Y : Type 0} (first : List ℕ → Read X) (second : X → List ℕ → Read Y) (First : List ℕ → X → Type 0) (Second : X → List ℕ → Y → Type 0) (Between Behind : List ℕ → Type 0) (is_first : IsReading first First Between) (is_second : (x : X) → IsReading (second x) (Second x) Behind) (meets : (x : X) (text rest : List ℕ) (y : Y) → Second x text y → Behind rest → Between (text ++ rest)) (example : (x : X) → Opens (Second x) []) where
  both : List ℕ → Read Y
  both bytes = first bytes >>= λ read. second read.0 read.1

  both_takes : (bytes : List ℕ) (y : Y) (rest : List ℕ) → both bytes ≡ Ok (y, rest) → Takes (Sequence First Second) bytes y rest
  unfolding both
  both_takes bytes y rest e = elim (step (first bytes) (λ read. second read.0 read.1) (Ok (y, rest)) e) [
    | Stopped u a b ↦ absurd cc
    | Went x between a b ↦
        let l = is_first.takes bytes x between a in
        let r = (is_second x).takes between y rest b in
        record {
          text = l.text ++ r.text;
          whole = l.whole ∙ ap (λ (t : List ℕ). l.text ++ t) r.whole ∙ sym (append_assoc l.text r.text rest);
          spelt = record { first = x; left = l.text; right = r.text; whole = refl; spelt_left = l.spelt; spelt_right = r.spelt };
        }
  ]

  both_gives : (text rest : List ℕ) (y : Y) → Sequence First Second text y → Behind rest → both (text ++ rest) ≡ Ok (y, rest)
  unfolding both
  both_gives text rest y s behind =
      let regroup : text ++ rest ≡ s.left ++ (s.right ++ rest) = ap (λ (t : List ℕ). t ++ rest) s.whole ∙ append_assoc s.left s.right rest in
      let l = is_first.gives s.left (s.right ++ rest) s.first s.spelt_left (meets s.first s.right rest y s.spelt_right behind) in
      ap (λ (t : List ℕ). first t >>= λ read. second read.0 read.1) regroup ∙ ap (λ (seen : Read X). seen >>= λ read. second read.0 read.1) l
      ∙ (is_second s.first).gives s.right rest y s.spelt_right behind

  both_opens : (bytes : List ℕ) → both bytes ≡ Err Unfinished → Opens (Sequence First Second) bytes
  unfolding both
  both_opens bytes e = elim (step (first bytes) (λ read. second read.0 read.1) (Err Unfinished) e) [
    | Stopped u a b ↦
        let l = is_first.opens bytes (subst (λ (v : Unread). first bytes ≡ Err v) (unread_is u b) a) in
        let r = example l.value in
        record {
          more = l.more ++ r.more;
          value = r.value;
          spelt = record { first = l.value; left = bytes ++ l.more; right = r.more; whole = sym (append_assoc bytes l.more r.more); spelt_left = l.spelt; spelt_right = r.spelt };
        }
    | Went x between a b ↦
        let l = is_first.takes bytes x between a in
        let r = (is_second x).opens between b in
        record {
          more = r.more;
          value = r.value;
          spelt = record { first = x; left = l.text; right = between ++ r.more; whole = ap (λ (t : List ℕ). t ++ r.more) l.whole ∙ append_assoc l.text between r.more; spelt_left = l.spelt; spelt_right = r.spelt };
        }
  ]
    where
      unread_is : (u : Unread) → ◌≡◌ {A = Read Y} (Err Unfinished) (Err u) → u ≡ Unfinished
      unread_is u e = cc

  both_stays : (bytes more : List ℕ) → both bytes ≡ Err NoPiece → both (bytes ++ more) ≡ Err NoPiece
  unfolding both
  both_stays bytes more e = elim (step (first bytes) (λ read. second read.0 read.1) (Err NoPiece) e) [
    | Stopped u a b ↦ ap (λ (seen : Read X). seen >>= λ read. second read.0 read.1) (is_first.stays bytes more (subst (λ (v : Unread). first bytes ≡ Err v) (unread_is u b) a))
    | Went x between a b ↦ ap (λ (seen : Read X). seen >>= λ read. second read.0 read.1) (is_first.keeps bytes more x between a) ∙ (is_second x).stays between more b
  ]
    where
      unread_is : (u : Unread) → ◌≡◌ {A = Read Y} (Err NoPiece) (Err u) → u ≡ NoPiece
      unread_is u e = cc

  both_keeps : (bytes more : List ℕ) (y : Y) (rest : List ℕ) → both bytes ≡ Ok (y, rest) → both (bytes ++ more) ≡ Ok (y, rest ++ more)
  unfolding both
  both_keeps bytes more y rest e = elim (step (first bytes) (λ read. second read.0 read.1) (Ok (y, rest)) e) [
    | Stopped u a b ↦ absurd cc
    | Went x between a b ↦ ap (λ (seen : Read X). seen >>= λ read. second read.0 read.1) (is_first.keeps bytes more x between a) ∙ (is_second x).keeps between more y rest b
  ]

  both_pure : (bytes : List ℕ) → both bytes ≡ Err NoMemory → ⊥
  unfolding both
  both_pure bytes e = elim (step (first bytes) (λ read. second read.0 read.1) (Err NoMemory) e) [
    | Stopped u a b ↦ is_first.pure bytes (subst (λ (v : Unread). first bytes ≡ Err v) (unread_is u b) a)
    | Went x between a b ↦ (is_second x).pure between b
  ]
    where
      unread_is : (u : Unread) → ◌≡◌ {A = Read Y} (Err NoMemory) (Err u) → u ≡ NoMemory
      unread_is u e = cc

  pub in_sequence : IsReading (λ bytes. first bytes >>= λ read. second read.0 read.1) (Sequence First Second) Behind
  unfolding both
  in_sequence = record { takes = both_takes; gives = both_gives; opens = both_opens; stays = both_stays; keeps = both_keeps; pure = both_pure }

-- ---- nothing more, and nothing at all

pub record Done {X : Type 0} (value : X) (text : List ℕ) (found : X) : Type 0 where
  pub text_is : text ≡ []
  pub value_is : found ≡ value

pub data Never {X : Type 0} (text : List ℕ) (value : X) : Type 0 where

-- what a reading gave, in its parts
pub ok_parts : {X : Type 0} (x y : X) (s t : List ℕ) → ◌≡◌ {A = Read X} (Ok (x, s)) (Ok (y, t)) → (x ≡ y) × (s ≡ t)
ok_parts {X} x y s t e =
    let p : ◌≡◌ {A = X × List ℕ} (x, s) (y, t) = cc in
    (ap (λ (q : X × List ℕ). q.0) p, ap (λ (q : X × List ℕ). q.1) p)

pub ok_from_parts : {X : Type 0} (x y : X) (s t : List ℕ) → x ≡ y → s ≡ t → ◌≡◌ {A = Read X} (Ok (x, s)) (Ok (y, t))
ok_from_parts x y s t p q = rw (p, q) refl

pub is_done : {X : Type 0} (value : X) (Behind : List ℕ → Type 0) → IsReading (λ bytes. Ok (value, bytes)) (Done value) Behind
is_done value Behind = record {
  takes = λ bytes x rest e. let p = ok_parts value x bytes rest e in record { text = []; whole = p.1; spelt = record { text_is = refl; value_is = sym p.0 } };
  gives = λ text rest x s behind. ok_from_parts value x (text ++ rest) rest (sym s.value_is) (ap (λ (t : List ℕ). t ++ rest) s.text_is);
  opens = λ bytes e. absurd cc;
  stays = λ bytes more e. absurd cc;
  keeps = λ bytes more x rest e. let p = ok_parts value x bytes rest e in ok_from_parts value x (bytes ++ more) (rest ++ more) p.0 (ap (λ (t : List ℕ). t ++ more) p.1);
  pure = λ bytes e. absurd cc;
}

pub is_nothing : {X : Type 0} (Behind : List ℕ → Type 0) → IsReading {X = X} (λ bytes. Err NoPiece) Never Behind
is_nothing Behind = record {
  takes = λ bytes x rest e. absurd cc;
  gives = λ text rest x s behind. elim s [ ];
  opens = λ bytes e. absurd cc;
  stays = λ bytes more e. refl;
  keeps = λ bytes more x rest e. absurd cc;
  pure = λ bytes e. absurd cc;
}

-- ---- the same spellings in other words, and a narrower place

pub respelt : {X : Type 0} {read : List ℕ → Read X} {Spelt Other : List ℕ → X → Type 0} {Behind : List ℕ → Type 0} → IsReading read Spelt Behind → ((text : List ℕ) (value : X) → Spelt text value → Other text value) → ((text : List ℕ) (value : X) → Other text value → Spelt text value) → IsReading read Other Behind
respelt r to from = record {
  takes = λ bytes x rest e. let t = r.takes bytes x rest e in record { text = t.text; whole = t.whole; spelt = to t.text x t.spelt };
  gives = λ text rest x s behind. r.gives text rest x (from text x s) behind;
  opens = λ bytes e. let o = r.opens bytes e in record { more = o.more; value = o.value; spelt = to (bytes ++ o.more) o.value o.spelt };
  stays = r.stays;
  keeps = r.keeps;
  pure = r.pure;
}

pub placed : {X : Type 0} {read : List ℕ → Read X} {Spelt : List ℕ → X → Type 0} {Behind Other : List ℕ → Type 0} → IsReading read Spelt Behind → ((rest : List ℕ) → Other rest → Behind rest) → IsReading read Spelt Other
placed r narrow = record {
  takes = r.takes;
  gives = λ text rest x s behind. r.gives text rest x s (narrow rest behind);
  opens = r.opens;
  stays = r.stays;
  keeps = r.keeps;
  pure = r.pure;
}

-- ---- what is made of a value

pub record Made {X Y : Type 0} (make : X → Y) (Spelt : List ℕ → X → Type 0) (text : List ℕ) (made : Y) : Type 0 where
  pub value : X
  pub spelt : Spelt text value
  pub made_is : made ≡ make value

pub is_made : {X Y : Type 0} {read : List ℕ → Read X} {Spelt : List ℕ → X → Type 0} {Behind : List ℕ → Type 0} (make : X → Y) → IsReading read Spelt Behind → IsReading (λ bytes. read bytes >>= λ seen. Ok (make seen.0, seen.1)) (Made make Spelt) Behind
is_made {X} {Y} {read} {Spelt} {Behind} make r = respelt
    (in_sequence read (λ value bytes. Ok (make value, bytes)) Spelt (λ value. Done (make value)) Behind Behind r (λ value. is_done (make value) Behind)
    (λ value text rest y s behind. subst (λ (t : List ℕ). Behind (t ++ rest)) (sym s.text_is) behind)
    (λ value. record { more = []; value = make value; spelt = record { text_is = refl; value_is = refl } }))
    (λ text y s. record {
      value = s.first;
      spelt = subst (λ (t : List ℕ). Spelt t s.first) (sym (s.whole ∙ ap (λ (t : List ℕ). s.left ++ t) s.spelt_right.text_is ∙ append-nil s.left)) s.spelt_left;
      made_is = s.spelt_right.value_is;
    })
    (λ text y s. record { first = s.value; left = text; right = []; whole = sym (append-nil text); spelt_left = s.spelt; spelt_right = record { text_is = refl; value_is = s.made_is } })

-- ---- by what comes first

-- the one spelling behind its first byte, or the other
pub data Either {X : Type 0} (first : ℕ) (This Other : List ℕ → X → Type 0) : List ℕ → X → Type 0 where
  One : {text : List ℕ} {value : X} → This text value → Either first This Other (first ∷ text) value
  Two : {text : List ℕ} {value : X} → Other text value → Either first This Other text value

-- the cases of a choice
pub if_true : {X : Type 0} (b : Bool) (x y : X) → b ≡ true → cond b x y ≡ x
if_true b x y e = rw e refl

pub if_false : {X : Type 0} (b : Bool) (x y : X) → b ≡ false → cond b x y ≡ y
if_false b x y e = rw e refl

pub choice_is : {X : Type 0} (first : ℕ) (this other : List ℕ → Read X) (byte : ℕ) (bytes : List ℕ) (y : Read X) → choice first this other (byte ∷ bytes) ≡ y → ((byte ≡ first) × (this bytes ≡ y)) ⊎ ((eqb byte first ≡ false) × (other (byte ∷ bytes) ≡ y))
choice_is first this other byte bytes y e =
    elim (cases_Bool (eqb byte first)) [
      | inl h ↦ inl (eqb-true byte first h, sym (if_true (eqb byte first) (this bytes) (other (byte ∷ bytes)) h) ∙ e)
      | inr h ↦ inr (h, sym (if_false (eqb byte first) (this bytes) (other (byte ∷ bytes)) h) ∙ e)
    ]

module _ {X : Type 0} (first : ℕ) (this other : List ℕ → Read X) (This Other : List ℕ → X → Type 0) (Behind : List ℕ → Type 0) (is_this : IsReading this This Behind) (is_other : IsReading other Other Behind) (example : Opens This []) (apart : (text rest : List ℕ) (x : X) → Other text x → Behind rest → Follows (λ byte. not (eqb byte first)) (text ++ rest)) where
  here : (bytes : List ℕ) (y : Read X) → this bytes ≡ y → choice first this other (first ∷ bytes) ≡ y
  here bytes y e = if_true (eqb first first) (this bytes) (other (first ∷ bytes)) (eq-eqb first first refl) ∙ e

  there : (byte : ℕ) (bytes : List ℕ) (y : Read X) → eqb byte first ≡ false → other (byte ∷ bytes) ≡ y → choice first this other (byte ∷ bytes) ≡ y
  there byte bytes y h e = if_false (eqb byte first) (this bytes) (other (byte ∷ bytes)) h ∙ e

  either_takes : (bytes : List ℕ) (x : X) (rest : List ℕ) → choice first this other bytes ≡ Ok (x, rest) → Takes (Either first This Other) bytes x rest
  either_takes [] x rest e = absurd cc
  either_takes (byte ∷ bytes) x rest e = elim (choice_is first this other byte bytes (Ok (x, rest)) e) [
    | inl h ↦ let t = is_this.takes bytes x rest h.1 in
        record { text = first ∷ t.text; whole = rw (h.0) (ap (λ (s : List ℕ). first ∷ s) t.whole); spelt = One t.spelt }
    | inr h ↦ let t = is_other.takes (byte ∷ bytes) x rest h.1 in record { text = t.text; whole = t.whole; spelt = Two t.spelt }
  ]

  either_gives : (text rest : List ℕ) (x : X) → Either first This Other text x → Behind rest → choice first this other (text ++ rest) ≡ Ok (x, rest)
  either_gives text rest x s behind = by s
    where
      by : {t : List ℕ} → Either first This Other t x → choice first this other (t ++ rest) ≡ Ok (x, rest)
      by (One {text} s) = here (text ++ rest) (Ok (x, rest)) (is_this.gives text rest x s behind)
      by (Two {text} s) =
          let f = apart text rest x s behind in
          ap (choice first this other) f.whole
          ∙ there f.byte f.bytes (Ok (x, rest)) (not-true (eqb f.byte first) f.passes) (ap other (sym f.whole) ∙ is_other.gives text rest x s behind)

  either_opens : (bytes : List ℕ) → choice first this other bytes ≡ Err Unfinished → Opens (Either first This Other) bytes
  either_opens [] e = record { more = first ∷ example.more; value = example.value; spelt = One example.spelt }
  either_opens (byte ∷ bytes) e = elim (choice_is first this other byte bytes (Err Unfinished) e) [
    | inl h ↦ let o = is_this.opens bytes h.1 in
        record { more = o.more; value = o.value; spelt = subst (λ (b : ℕ). Either first This Other (b ∷ bytes ++ o.more) o.value) (sym h.0) (One o.spelt) }
    | inr h ↦ let o = is_other.opens (byte ∷ bytes) h.1 in record { more = o.more; value = o.value; spelt = Two o.spelt }
  ]

  either_stays : (bytes more : List ℕ) → choice first this other bytes ≡ Err NoPiece → choice first this other (bytes ++ more) ≡ Err NoPiece
  either_stays [] more e = absurd cc
  either_stays (byte ∷ bytes) more e = elim (choice_is first this other byte bytes (Err NoPiece) e) [
    | inl h ↦ rw (h.0) (here (bytes ++ more) (Err NoPiece) (is_this.stays bytes more h.1))
    | inr h ↦ there byte (bytes ++ more) (Err NoPiece) h.0 (is_other.stays (byte ∷ bytes) more h.1)
  ]

  either_keeps : (bytes more : List ℕ) (x : X) (rest : List ℕ) → choice first this other bytes ≡ Ok (x, rest) → choice first this other (bytes ++ more) ≡ Ok (x, rest ++ more)
  either_keeps [] more x rest e = absurd cc
  either_keeps (byte ∷ bytes) more x rest e = elim (choice_is first this other byte bytes (Ok (x, rest)) e) [
    | inl h ↦ rw (h.0) (here (bytes ++ more) (Ok (x, rest ++ more)) (is_this.keeps bytes more x rest h.1))
    | inr h ↦ there byte (bytes ++ more) (Ok (x, rest ++ more)) h.0 (is_other.keeps (byte ∷ bytes) more x rest h.1)
  ]

  either_pure : (bytes : List ℕ) → choice first this other bytes ≡ Err NoMemory → ⊥
  either_pure [] e = absurd cc
  either_pure (byte ∷ bytes) e = elim (choice_is first this other byte bytes (Err NoMemory) e) [
    | inl h ↦ is_this.pure bytes h.1
    | inr h ↦ is_other.pure (byte ∷ bytes) h.1
  ]

  pub is_choice : IsReading (choice first this other) (Either first This Other) Behind
  is_choice = record { takes = either_takes; gives = either_gives; opens = either_opens; stays = either_stays; keeps = either_keeps; pure = either_pure }

-- ---- these bytes

pub record Literal (wanted text : List ℕ) (value : Unit {0}) : Type 0 where
  pub text_is : text ≡ wanted

literal_takes : (wanted bytes rest : List ℕ) (x : Unit {0}) → literal_at wanted bytes ≡ Ok (x, rest) → bytes ≡ wanted ++ rest
literal_takes [] bytes rest x e = (ok_parts tt x bytes rest e).1
literal_takes (first ∷ wanted) [] rest x e = absurd cc
literal_takes (first ∷ wanted) (byte ∷ bytes) rest x e = elim (cases_Bool (eqb byte first)) [
  | inl h ↦ rw (eqb-true byte first h) (ap (λ (t : List ℕ). first ∷ t) (literal_takes wanted bytes rest x (sym (if_true (eqb byte first) (literal_at wanted bytes) (Err NoPiece) h) ∙ e)))
  | inr h ↦ let f = sym (if_false (eqb byte first) (literal_at wanted bytes) (Err NoPiece) h) ∙ e in absurd cc
]

literal_gives : (wanted rest : List ℕ) → literal_at wanted (wanted ++ rest) ≡ Ok (tt, rest)
literal_gives [] rest = refl
literal_gives (first ∷ wanted) rest = if_true (eqb first first) (literal_at wanted (wanted ++ rest)) (Err NoPiece) (eq-eqb first first refl) ∙ literal_gives wanted rest

joined : (byte first : ℕ) (s t : List ℕ) → byte ≡ first → s ≡ t → byte ∷ s ≡ first ∷ t
joined byte first s t p q = cc

literal_opens : (wanted bytes : List ℕ) → literal_at wanted bytes ≡ Err Unfinished → (more : List ℕ) × (bytes ++ more ≡ wanted)
literal_opens [] bytes e = absurd cc
literal_opens (first ∷ wanted) [] e = (first ∷ wanted, refl)
literal_opens (first ∷ wanted) (byte ∷ bytes) e = elim (cases_Bool (eqb byte first)) [
  | inl h ↦ let o = literal_opens wanted bytes (sym (if_true (eqb byte first) (literal_at wanted bytes) (Err NoPiece) h) ∙ e) in
      (o.0, joined byte first (bytes ++ o.0) wanted (eqb-true byte first h) o.1)
  | inr h ↦ let f = sym (if_false (eqb byte first) (literal_at wanted bytes) (Err NoPiece) h) ∙ e in absurd cc
]

literal_stays : (wanted bytes more : List ℕ) → literal_at wanted bytes ≡ Err NoPiece → literal_at wanted (bytes ++ more) ≡ Err NoPiece
literal_stays [] bytes more e = absurd cc
literal_stays (first ∷ wanted) [] more e = absurd cc
literal_stays (first ∷ wanted) (byte ∷ bytes) more e = elim (cases_Bool (eqb byte first)) [
  | inl h ↦ if_true (eqb byte first) (literal_at wanted (bytes ++ more)) (Err NoPiece) h ∙ literal_stays wanted bytes more (sym (if_true (eqb byte first) (literal_at wanted bytes) (Err NoPiece) h) ∙ e)
  | inr h ↦ if_false (eqb byte first) (literal_at wanted (bytes ++ more)) (Err NoPiece) h
]

literal_pure : (wanted bytes : List ℕ) → literal_at wanted bytes ≡ Err NoMemory → ⊥
literal_pure [] bytes e = absurd cc
literal_pure (first ∷ wanted) [] e = absurd cc
literal_pure (first ∷ wanted) (byte ∷ bytes) e = elim (cases_Bool (eqb byte first)) [
  | inl h ↦ literal_pure wanted bytes (sym (if_true (eqb byte first) (literal_at wanted bytes) (Err NoPiece) h) ∙ e)
  | inr h ↦ let f = sym (if_false (eqb byte first) (literal_at wanted bytes) (Err NoPiece) h) ∙ e in absurd cc
]

pub is_literal : (wanted : List ℕ) (Behind : List ℕ → Type 0) → IsReading (literal_at wanted) (Literal wanted) Behind
is_literal wanted Behind = record {
  takes = λ bytes x rest e. record { text = wanted; whole = literal_takes wanted bytes rest x e; spelt = record { text_is = refl } };
  gives = λ text rest x s behind. ap (λ (t : List ℕ). literal_at wanted (t ++ rest)) s.text_is ∙ literal_gives wanted rest;
  opens = λ bytes e. let o = literal_opens wanted bytes e in record { more = o.0; value = tt; spelt = record { text_is = o.1 } };
  stays = literal_stays wanted;
  keeps = λ bytes more x rest e. ap (λ (t : List ℕ). literal_at wanted (t ++ more)) (literal_takes wanted bytes rest x e) ∙ ap (literal_at wanted) (append_assoc wanted rest more) ∙ literal_gives wanted (rest ++ more);
  pure = literal_pure wanted;
}

-- ---- up to a byte that ends it

pub list_all-append : (test : ℕ → Bool) (s t : List ℕ) → list_all test s ≡ true → list_all test t ≡ true → list_all test (s ++ t) ≡ true
list_all-append test [] t p q = q
list_all-append test (byte ∷ s) t p q =
    let r = and_parts (test byte) (list_all test s) p in
    and_from (test byte) (list_all test (s ++ t)) r.0 (list_all-append test s t r.1 q)

pub record Segment {X : Type 0} (ends : ℕ → Bool) (value : List ℕ → Option X) (text : List ℕ) (found : X) : Type 0 where
  pub inside : list_all (λ byte. not (ends byte)) text ≡ true
  pub value_is : value text ≡ Some found

-- what the parts of a text that does not hold an end are
pub before_is : (ends : ℕ → Bool) (text rest : List ℕ) → list_all (λ byte. not (ends byte)) text ≡ true → Follows ends rest → before ends (text ++ rest) ≡ text
before_is ends [] rest h f = ap (before ends) f.whole ∙ if_true (ends f.byte) [] (f.byte ∷ before ends f.bytes) f.passes
before_is ends (byte ∷ text) rest h f =
    let p = and_parts (not (ends byte)) (list_all (λ b. not (ends b)) text) h in
    if_false (ends byte) [] (byte ∷ before ends (text ++ rest)) (not-true (ends byte) p.0) ∙ ap (λ (t : List ℕ). byte ∷ t) (before_is ends text rest p.1 f)

pub from_is : (ends : ℕ → Bool) (text rest : List ℕ) → list_all (λ byte. not (ends byte)) text ≡ true → Follows ends rest → from ends (text ++ rest) ≡ rest
from_is ends [] rest h f = ap (from ends) f.whole ∙ if_true (ends f.byte) (f.byte ∷ f.bytes) (from ends f.bytes) f.passes ∙ sym f.whole
from_is ends (byte ∷ text) rest h f =
    let p = and_parts (not (ends byte)) (list_all (λ b. not (ends b)) text) h in
    if_false (ends byte) (byte ∷ text ++ rest) (from ends (text ++ rest)) (not-true (ends byte) p.0) ∙ from_is ends text rest p.1 f

pub before_all : (ends : ℕ → Bool) (bytes : List ℕ) → list_all (λ byte. not (ends byte)) bytes ≡ true → (before ends bytes ≡ bytes) × (from ends bytes ≡ [])
before_all ends [] h = (refl, refl)
before_all ends (byte ∷ bytes) h =
    let p = and_parts (not (ends byte)) (list_all (λ b. not (ends b)) bytes) h in
    let n = not-true (ends byte) p.0 in
    let r = before_all ends bytes p.1 in
    (if_false (ends byte) [] (byte ∷ before ends bytes) n ∙ ap (λ (t : List ℕ). byte ∷ t) r.0, if_false (ends byte) (byte ∷ bytes) (from ends bytes) n ∙ r.1)

-- the two ways in which a search for an end may go
pub data Cut (ends : ℕ → Bool) (bytes : List ℕ) : Type 0 where
  Whole : list_all (λ byte. not (ends byte)) bytes ≡ true → before ends bytes ≡ bytes → from ends bytes ≡ [] → Cut ends bytes
  Parts : (text : List ℕ) (byte : ℕ) (rest : List ℕ) → bytes ≡ text ++ byte ∷ rest → list_all (λ b. not (ends b)) text ≡ true → ends byte ≡ true → before ends bytes ≡ text → from ends bytes ≡ byte ∷ rest → Cut ends bytes

pub cut : (ends : ℕ → Bool) (bytes : List ℕ) → Cut ends bytes
cut ends [] = Whole refl refl refl
cut ends (byte ∷ bytes) = elim (cases_Bool (ends byte)) [
  | inl h ↦ Parts [] byte bytes refl refl h (if_true (ends byte) [] (byte ∷ before ends bytes) h) (if_true (ends byte) (byte ∷ bytes) (from ends bytes) h)
  | inr h ↦ longer h (cut ends bytes)
]
  where
    longer : ends byte ≡ false → Cut ends bytes → Cut ends (byte ∷ bytes)
    longer h (Whole a b c) = Whole (and_from (not (ends byte)) (list_all (λ b. not (ends b)) bytes) (ap not h) a)
        (if_false (ends byte) [] (byte ∷ before ends bytes) h ∙ ap (λ (t : List ℕ). byte ∷ t) b) (if_false (ends byte) (byte ∷ bytes) (from ends bytes) h ∙ c)
    longer h (Parts text last rest w a p b c) = Parts (byte ∷ text) last rest (ap (λ (t : List ℕ). byte ∷ t) w) (and_from (not (ends byte)) (list_all (λ b. not (ends b)) text) (ap not h) a) p
        (if_false (ends byte) [] (byte ∷ before ends bytes) h ∙ ap (λ (t : List ℕ). byte ∷ t) b) (if_false (ends byte) (byte ∷ bytes) (from ends bytes) h ∙ c)

-- a test says exactly which bytes begin what has a value, without an end
pub record Begins {X : Type 0} (ends : ℕ → Bool) (value : List ℕ → Option X) (begins : List ℕ → Bool) : Type 0 where
  pub whole : (bytes more : List ℕ) (x : X) → value (bytes ++ more) ≡ Some x → begins bytes ≡ true
  pub longer : (bytes more : List ℕ) → begins (bytes ++ more) ≡ true → begins bytes ≡ true
  pub goes_on : (bytes : List ℕ) → list_all (λ byte. not (ends byte)) bytes ≡ true → begins bytes ≡ true → Opens (Segment ends value) bytes

module _ {X : Type 0} (ends : ℕ → Bool) (value : List ℕ → Option X) (begins : List ℕ → Bool) (exact : Begins ends value begins) where
  at_end : (bytes : List ℕ) → list_all (λ byte. not (ends byte)) bytes ≡ true → segment_at ends value begins bytes ≡ cond (begins bytes) (Err Unfinished) (Err NoPiece)
  at_end bytes h =
      let r = before_all ends bytes h in
      ap (λ (t : List ℕ). ended value begins t (from ends bytes)) r.0 ∙ ap (ended value begins bytes) r.1

  at_byte : (text rest : List ℕ) → list_all (λ byte. not (ends byte)) text ≡ true → Follows ends rest → segment_at ends value begins (text ++ rest) ≡ found (value text) rest
  at_byte text rest h f =
      ap (λ (t : List ℕ). ended value begins t (from ends (text ++ rest))) (before_is ends text rest h f)
      ∙ ap (ended value begins text) (from_is ends text rest h f ∙ f.whole) ∙ ap (found (value text)) (sym f.whole)

  found_is : (o : Option X) (rest after : List ℕ) (x : X) → found o rest ≡ Ok (x, after) → (o ≡ Some x) × (rest ≡ after)
  found_is None rest after x e = absurd cc
  found_is (Some y) rest after x e = let p = ok_parts y x rest after e in (ap (λ (z : X). Some z) p.0, p.1)

  not_found : (o : Option X) (rest : List ℕ) → found o rest ≡ Err NoPiece → o ≡ None
  not_found None rest e = refl
  not_found (Some y) rest e = absurd cc

  found_ends : (o : Option X) (rest : List ℕ) → found o rest ≡ Err Unfinished → ⊥
  found_ends None rest e = cc
  found_ends (Some y) rest e = cc

  found_pure : (o : Option X) (rest : List ℕ) → found o rest ≡ Err NoMemory → ⊥
  found_pure None rest e = cc
  found_pure (Some y) rest e = cc

  segment_takes : (bytes : List ℕ) (x : X) (rest : List ℕ) → segment_at ends value begins bytes ≡ Ok (x, rest) → Takes (Segment ends value) bytes x rest
  segment_takes bytes x rest e = elim (cut ends bytes) [
    | Whole a b c ↦ absurd (open_or_not (begins bytes) x rest (sym (at_end bytes a) ∙ e))
    | Parts text byte after w a p b c ↦
        let f : Follows ends (byte ∷ after) = record { byte = byte; bytes = after; whole = refl; passes = p } in
        let v = found_is (value text) (byte ∷ after) rest x (sym (at_byte text (byte ∷ after) a f) ∙ ap (segment_at ends value begins) (sym w) ∙ e) in
        record { text = text; whole = w ∙ ap (λ (t : List ℕ). text ++ t) v.1; spelt = record { inside = a; value_is = v.0 } }
  ]
    where
      open_or_not : (b : Bool) (x : X) (rest : List ℕ) → ◌≡◌ {A = Read X} (cond b (Err Unfinished) (Err NoPiece)) (Ok (x, rest)) → ⊥
      open_or_not true x rest e = cc
      open_or_not false x rest e = cc

  segment_gives : (text rest : List ℕ) (x : X) → Segment ends value text x → Follows ends rest → segment_at ends value begins (text ++ rest) ≡ Ok (x, rest)
  segment_gives text rest x s f = at_byte text rest s.inside f ∙ ap (λ (o : Option X). found o rest) s.value_is

  segment_opens : (bytes : List ℕ) → segment_at ends value begins bytes ≡ Err Unfinished → Opens (Segment ends value) bytes
  segment_opens bytes e = elim (cut ends bytes) [
    | Whole a b c ↦ exact.goes_on bytes a (is_open (begins bytes) (sym (at_end bytes a) ∙ e))
    | Parts text byte after w a p b c ↦
        let f : Follows ends (byte ∷ after) = record { byte = byte; bytes = after; whole = refl; passes = p } in
        absurd (found_ends (value text) (byte ∷ after) (sym (at_byte text (byte ∷ after) a f) ∙ ap (segment_at ends value begins) (sym w) ∙ e))
  ]
    where
      is_open : (b : Bool) → ◌≡◌ {A = Read X} (cond b (Err Unfinished) (Err NoPiece)) (Err Unfinished) → b ≡ true
      is_open true e = refl
      is_open false e = absurd cc

  -- what has no value, and does not begin one, has none with more behind it
  none_longer : (text more : List ℕ) → begins text ≡ false → value (text ++ more) ≡ None
  none_longer text more h = by (value (text ++ more)) refl
    where
      by : (o : Option X) → value (text ++ more) ≡ o → value (text ++ more) ≡ None
      by None e = e
      by (Some x) e = absurd (both_ways (begins text) h (exact.whole text more x e))

  segment_stays : (bytes more : List ℕ) → segment_at ends value begins bytes ≡ Err NoPiece → segment_at ends value begins (bytes ++ more) ≡ Err NoPiece
  segment_stays bytes more e = elim (cut ends bytes) [
    | Whole a b c ↦ ended_later a (is_closed (begins bytes) (sym (at_end bytes a) ∙ e)) (cut ends more)
    | Parts text byte after w a p b c ↦
        let f : Follows ends (byte ∷ after) = record { byte = byte; bytes = after; whole = refl; passes = p } in
        let g : Follows ends (byte ∷ after ++ more) = record { byte = byte; bytes = after ++ more; whole = refl; passes = p } in
        let v = not_found (value text) (byte ∷ after) (sym (at_byte text (byte ∷ after) a f) ∙ ap (segment_at ends value begins) (sym w) ∙ e) in
        ap (segment_at ends value begins) (ap (λ (t : List ℕ). t ++ more) w ∙ append_assoc text (byte ∷ after) more) ∙ at_byte text (byte ∷ after ++ more) a g
        ∙ ap (λ (o : Option X). found o (byte ∷ after ++ more)) v
  ]
    where
      is_closed : (b : Bool) → ◌≡◌ {A = Read X} (cond b (Err Unfinished) (Err NoPiece)) (Err NoPiece) → b ≡ false
      is_closed true e = absurd cc
      is_closed false e = refl

      still : (text : List ℕ) → begins bytes ≡ false → begins (bytes ++ text) ≡ false
      still text h = by (begins (bytes ++ text)) refl
        where
          by : (b : Bool) → begins (bytes ++ text) ≡ b → begins (bytes ++ text) ≡ false
          by true e = absurd (both_ways (begins bytes) h (exact.longer bytes text e))
          by false e = e

      ended_later : list_all (λ byte. not (ends byte)) bytes ≡ true → begins bytes ≡ false → Cut ends more → segment_at ends value begins (bytes ++ more) ≡ Err NoPiece
      ended_later a h (Whole d x y) = at_end (bytes ++ more) (list_all-append _ bytes more a d) ∙ if_false (begins (bytes ++ more)) (Err Unfinished) (Err NoPiece) (still more h)
      ended_later a h (Parts text byte after w d p x y) =
          let g : Follows ends (byte ∷ after) = record { byte = byte; bytes = after; whole = refl; passes = p } in
          ap (segment_at ends value begins) (ap (λ (t : List ℕ). bytes ++ t) w ∙ sym (append_assoc bytes text (byte ∷ after)))
          ∙ at_byte (bytes ++ text) (byte ∷ after) (list_all-append _ bytes text a d) g ∙ ap (λ (o : Option X). found o (byte ∷ after)) (none_longer bytes text h)

  segment_keeps : (bytes more : List ℕ) (x : X) (rest : List ℕ) → segment_at ends value begins bytes ≡ Ok (x, rest) → segment_at ends value begins (bytes ++ more) ≡ Ok (x, rest ++ more)
  segment_keeps bytes more x rest e = elim (cut ends bytes) [
    | Whole a b c ↦ absurd (open_or_not (begins bytes) (sym (at_end bytes a) ∙ e))
    | Parts text byte after w a p b c ↦
        let f : Follows ends (byte ∷ after) = record { byte = byte; bytes = after; whole = refl; passes = p } in
        let g : Follows ends (byte ∷ after ++ more) = record { byte = byte; bytes = after ++ more; whole = refl; passes = p } in
        let v = found_is (value text) (byte ∷ after) rest x (sym (at_byte text (byte ∷ after) a f) ∙ ap (segment_at ends value begins) (sym w) ∙ e) in
        ap (segment_at ends value begins) (ap (λ (t : List ℕ). t ++ more) w ∙ append_assoc text (byte ∷ after) more) ∙ at_byte text (byte ∷ after ++ more) a g
        ∙ ap (λ (o : Option X). found o (byte ∷ after ++ more)) v.0 ∙ ap (λ (t : List ℕ). Ok (x, t ++ more)) v.1
  ]
    where
      open_or_not : (b : Bool) → ◌≡◌ {A = Read X} (cond b (Err Unfinished) (Err NoPiece)) (Ok (x, rest)) → ⊥
      open_or_not true e = cc
      open_or_not false e = cc

  segment_pure : (bytes : List ℕ) → segment_at ends value begins bytes ≡ Err NoMemory → ⊥
  segment_pure bytes e = elim (cut ends bytes) [
    | Whole a b c ↦ open_or_not (begins bytes) (sym (at_end bytes a) ∙ e)
    | Parts text byte after w a p b c ↦
        let f : Follows ends (byte ∷ after) = record { byte = byte; bytes = after; whole = refl; passes = p } in
        found_pure (value text) (byte ∷ after) (sym (at_byte text (byte ∷ after) a f) ∙ ap (segment_at ends value begins) (sym w) ∙ e)
  ]
    where
      open_or_not : (b : Bool) → ◌≡◌ {A = Read X} (cond b (Err Unfinished) (Err NoPiece)) (Err NoMemory) → ⊥
      open_or_not true e = cc
      open_or_not false e = cc

  -- what ends a segment follows it
  pub segment_follows : (bytes : List ℕ) (x : X) (rest : List ℕ) → segment_at ends value begins bytes ≡ Ok (x, rest) → Follows ends rest
  segment_follows bytes x rest e = elim (cut ends bytes) [
    | Whole a b c ↦ absurd (open_or_not (begins bytes) (sym (at_end bytes a) ∙ e))
    | Parts text byte after w a p b c ↦
        let f : Follows ends (byte ∷ after) = record { byte = byte; bytes = after; whole = refl; passes = p } in
        let v = found_is (value text) (byte ∷ after) rest x (sym (at_byte text (byte ∷ after) a f) ∙ ap (segment_at ends value begins) (sym w) ∙ e) in
        record { byte = byte; bytes = after; whole = sym v.1; passes = p }
  ]
    where
      open_or_not : (b : Bool) → ◌≡◌ {A = Read X} (cond b (Err Unfinished) (Err NoPiece)) (Ok (x, rest)) → ⊥
      open_or_not true e = cc
      open_or_not false e = cc

  -- at the end of the bytes what has a value may go on
  pub segment_open : (bytes : List ℕ) (x : X) → list_all (λ byte. not (ends byte)) bytes ≡ true → value bytes ≡ Some x → segment_at ends value begins bytes ≡ Err Unfinished
  segment_open bytes x h v = at_end bytes h ∙ if_true (begins bytes) (Err Unfinished) (Err NoPiece) (exact.whole bytes [] x (ap value (append-nil bytes) ∙ v))

  pub is_segment : IsReading (segment_at ends value begins) (Segment ends value) (Follows ends)
  is_segment = record { takes = segment_takes; gives = segment_gives; opens = segment_opens; stays = segment_stays; keeps = segment_keeps; pure = segment_pure }
