-- Attributes and tags are readings.
use Rattle.std.proofs.Common.{◌≡◌, ℕ, zero, suc, ◌+◌, ◌-◌, ◌≤◌, Bool, true, false, not, cond, eqb, ◌&&◌, ◌||◌, List, [], ◌∷◌, ◌++◌, length, codes, Option, Some, None, Ok, Err, refl, sym, ap, subst, ◌∙◌, append_assoc, arith, inl, inr, length-append}
use Rattle.std.specs.List.{list_all}
use Rattle.std.proofs.lemmas.Bool.{cases_Bool, eqb-true, and_parts, not-true}
use Rattle.nm_ident.specs.Name.{begins_name as is_initial, continues_name, is_name}
use Rattle.nm_text.specs.White.{is_white, is_white_space, is_white_text}
use Rattle.nm_piece.specs.declared.piece.Attribute.{Attribute}
use Rattle.nm_piece.specs.declared.piece.Piece.{Piece}
use Rattle.nm_piece.specs.declared.piece.Piece.TheVariants as piece
use Rattle.nm_piece.specs.declared.piece.QName.{QName}
use Rattle.nm_piece.specs.declared.unread.Unread.TheVariants.{Unfinished, NoPiece}
use Rattle.nm_piece.specs.Name.{ends_white, equals_at, gap_at, is_prefix, is_qname, qname_at, qname_text, written}
use Rattle.nm_piece.specs.Reading.{Read, ◌>>=◌, choice, literal_at}
use Rattle.nm_piece.specs.Spells.{IsEquals, tag_end}
use Rattle.nm_piece.specs.Tag.{Inside, attribute_at, behind_white, close_at, empty_end, inside_at, inside_by, inside_within, open_at, plain_end, with_attribute}
use Rattle.nm_piece.specs.Value.{begins_value, nothing_at, quoted_at, value_of}
use Rattle.nm_piece.proofs.Readings.{Anything, Done, Either, One, Two, Follows, IsReading, Literal, Made, Never, Opens, Sequence, in_sequence, is_choice, is_done, is_literal, is_made, is_nothing, respelt}
use Rattle.nm_piece.proofs.Names.{Gap, IsQName, ends_qname, gap_from, gap_from_some, gap_some, gap_white, is_equals_at, is_qname_at, white_or}
use Rattle.nm_piece.proofs.Segments.{is_gap_at}
use Rattle.nm_piece.proofs.Values.{Quoted, is_value_at}

-- ---- attributes

pub record BareAttribute (text : List ℕ) (attribute : Attribute) : Type 0 where
  pub equals : List ℕ
  pub quoted : List ℕ
  pub whole : text ≡ qname_text attribute.name ++ equals ++ quoted
  pub named : is_qname attribute.name ≡ true
  pub is_equals : IsEquals equals
  pub value : Quoted value_of quoted attribute.value

abbrev Valued : QName → List ℕ → Attribute → Type 0
Valued name = Made (λ value. record { name = name; value = value }) (Quoted value_of)

abbrev EqualsSign : List ℕ → Unit {0} → Type 0
EqualsSign text sign = IsEquals text

abbrev Equated : QName → List ℕ → Attribute → Type 0
Equated name = Sequence EqualsSign (λ sign. Valued name)

quote_not_white : (text rest : List ℕ) (name : QName) (y : Attribute) → Valued name text y → Follows ends_white (text ++ rest)
quote_not_white text rest name y s =
    let q = s.spelt.is_quoted in
    record { byte = q.quote; bytes = s.spelt.inside ++ q.quote ∷ [] ++ rest; whole = ap (λ (t : List ℕ). t ++ rest) q.whole; passes = passes q.quote q.is_one }
  where
    passes : (quote : ℕ) → (eqb quote 34 || eqb quote 39) ≡ true → ends_white quote ≡ true
    passes quote e = elim (cases_Bool (eqb quote 34)) [
      | inl h ↦ ap ends_white (eqb-true quote 34 h)
      | inr h ↦ ap ends_white (eqb-true quote 39 (subst (λ (b : Bool). (b || eqb quote 39) ≡ true) h e))
    ]

example_value : (name : QName) → Opens (Valued name) []
unfolding value_of
example_value name = record {
  more = codes "\"\"";
  value = record { name = name; value = [] };
  spelt = record { value = []; spelt = record { inside = []; is_quoted = record { quote = 34; is_one = refl; whole = refl; unquoted = refl }; value_is = refl }; made_is = refl };
}

is_equated : (name : QName) → IsReading (λ bytes. equals_at bytes >>= λ sign. quoted_at value_of begins_value sign.1 >>= λ value. Ok (record { name = name; value = value.0 }, value.1)) (Equated name) Anything
is_equated name = in_sequence equals_at (λ sign bytes. quoted_at value_of begins_value bytes >>= λ value. Ok (record { name = name; value = value.0 }, value.1))
    EqualsSign (λ sign. Valued name) (Follows ends_white) Anything
    is_equals_at (λ sign. is_made (λ value. record { name = name; value = value }) is_value_at)
    (λ sign text rest y s behind. quote_not_white text rest name y s) (λ sign. example_value name)

equals_example : (name : QName) → Opens (Equated name) []
equals_example name =
    let o = example_value name in
    record { more = codes "=" ++ o.more; value = o.value; spelt = record { first = tt; left = codes "="; right = o.more; whole = refl; spelt_left = record { left = []; right = []; whole = refl; white_left = refl; white_right = refl }; spelt_right = o.spelt } }

-- white space or `=` ends a name
pub white_ends_name : (byte : ℕ) → is_white byte ≡ true → ends_qname byte ≡ true
white_ends_name byte e = by (eqb byte 0x20) (eqb byte 0x9) (eqb byte 0xA) (eqb byte 0xD) refl refl refl refl e
  where
    at : (n : ℕ) → eqb byte n ≡ true → ends_qname n ≡ true → ends_qname byte ≡ true
    at n h r = ap ends_qname (eqb-true byte n h) ∙ r

    by : (a b c d : Bool) → eqb byte 0x20 ≡ a → eqb byte 0x9 ≡ b → eqb byte 0xA ≡ c → eqb byte 0xD ≡ d → (a || b || c || d) ≡ true → ends_qname byte ≡ true
    by true b c d p q r s e = at 0x20 p refl
    by false true c d p q r s e = at 0x9 q refl
    by false false true d p q r s e = at 0xA r refl
    by false false false true p q r s e = at 0xD s refl
    by false false false false p q r s e = absurd cc

equals_ends_name : (text rest : List ℕ) → IsEquals text → Follows ends_qname (text ++ rest)
equals_ends_name text rest q =
    subst (λ (t : List ℕ). Follows ends_qname (t ++ rest)) (sym q.whole)
    (subst (Follows ends_qname) (sym (append_assoc (q.left ++ codes "=") q.right rest ∙ append_assoc q.left (codes "=") (q.right ++ rest)))
    (white_or ends_qname q.left (61 ∷ q.right ++ rest) q.white_left white_ends_name (record { byte = 61; bytes = q.right ++ rest; whole = refl; passes = refl })))

pub is_attribute_at : IsReading attribute_at BareAttribute Anything
unfolding attribute_at
is_attribute_at = respelt
    (in_sequence qname_at (λ name bytes. equals_at bytes >>= λ sign. quoted_at value_of begins_value sign.1 >>= λ value. Ok (record { name = name; value = value.0 }, value.1))
    IsQName Equated (Follows ends_qname) Anything is_qname_at is_equated
    (λ name text rest y s behind. subst (Follows ends_qname) (ap (λ (t : List ℕ). t ++ rest) (sym s.whole)) (subst (Follows ends_qname) (sym (append_assoc s.left s.right rest)) (equals_ends_name s.left (s.right ++ rest) s.spelt_left)))
    equals_example)
    (λ text attribute s.
    let e = s.spelt_right in
    let v = e.spelt_right in
    record {
      equals = e.left;
      quoted = e.right;
      whole = s.whole ∙ ap (λ (t : List ℕ). t ++ s.right) s.spelt_left.whole ∙ ap (λ (t : List ℕ). qname_text s.first ++ t) e.whole ∙ sym (append_assoc (qname_text s.first) e.left e.right)
          ∙ ap (λ (a : Attribute). qname_text a.name ++ e.left ++ e.right) (sym v.made_is);
      named = ap (λ (a : Attribute). is_qname a.name) v.made_is ∙ s.spelt_left.named;
      is_equals = e.spelt_left;
      value = subst (Quoted value_of e.right) (ap (λ (a : Attribute). a.value) (sym v.made_is)) v.spelt;
    })
    (λ text attribute s. record {
      first = attribute.name;
      left = qname_text attribute.name;
      right = s.equals ++ s.quoted;
      whole = s.whole ∙ append_assoc (qname_text attribute.name) s.equals s.quoted;
      spelt_left = record { whole = refl; named = s.named };
      spelt_right = record { first = tt; left = s.equals; right = s.quoted; whole = refl; spelt_left = s.is_equals; spelt_right = record { value = attribute.value; spelt = s.value; made_is = refl } };
    })

-- what a name begins with
pub name_initial : (name rest : List ℕ) → is_name name ≡ true → Follows is_initial (name ++ rest)
name_initial [] rest e = absurd cc
name_initial (b ∷ name) rest e = record { byte = b; bytes = name ++ rest; whole = refl; passes = (and_parts (is_initial b) (list_all continues_name name) (and_parts (is_initial b && list_all continues_name name) _ e).0).0 }

pub qname_initial : (name : QName) (rest : List ℕ) → is_qname name ≡ true → Follows is_initial (qname_text name ++ rest)
qname_initial name rest e = by name.prefix name.local e
  where
    by : (prefix : Option (List ℕ)) (local : List ℕ) → (is_prefix prefix && is_name local) ≡ true → Follows is_initial (written prefix local ++ rest)
    by None local e = name_initial local rest e
    by (Some prefix) local e = subst (Follows is_initial) (sym (append_assoc prefix (58 ∷ local) rest)) (name_initial prefix (58 ∷ local ++ rest) (and_parts (is_name prefix) (is_name local) e).0)

-- a byte that begins a name is none of these
pub initial_is_not : (other byte : ℕ) → is_initial other ≡ false → is_initial byte ≡ true → not (eqb byte other) ≡ true
initial_is_not other byte no_initial e = elim (cases_Bool (eqb byte other)) [
  | inl h ↦ let f : is_initial byte ≡ false = ap is_initial (eqb-true byte other h) ∙ no_initial in absurd cc
  | inr h ↦ ap not h
]

initial_not_white : (byte : ℕ) → is_initial byte ≡ true → ends_white byte ≡ true
initial_not_white byte e =
    let a = initial_is_not 0x20 byte refl e in
    let b = initial_is_not 0x9 byte refl e in
    let c = initial_is_not 0xA byte refl e in
    let d = initial_is_not 0xD byte refl e in
    rw (not-true (eqb byte 0x20) a, not-true (eqb byte 0x9) b, not-true (eqb byte 0xA) c, not-true (eqb byte 0xD) d) refl

pub follows_in : {this that : ℕ → Bool} {rest : List ℕ} → ((byte : ℕ) → this byte ≡ true → that byte ≡ true) → Follows this rest → Follows that rest
follows_in within f = record { byte = f.byte; bytes = f.bytes; whole = f.whole; passes = within f.byte f.passes }

-- ---- attributes and the end of a tag

unfoldable pub IfWhite : {X : Type 0} → Bool → (List ℕ → X → Type 0) → List ℕ → X → Type 0
IfWhite true Spelt = Spelt
IfWhite false Spelt = Never

pub if_white : {X : Type 0} (white : Bool) (read : List ℕ → Read X) (Spelt : List ℕ → X → Type 0) → IsReading read Spelt Anything → IsReading (behind_white white read) (IfWhite white Spelt) Anything
unfolding IfWhite
if_white true read Spelt r = r
if_white false read Spelt r = is_nothing Anything

abbrev plain : Inside
plain = record { attributes = []; empty = false }

abbrev empty : Inside
empty = record { attributes = []; empty = true }

module _ (attributes : List ℕ → Read Inside) (Spelt : List ℕ → Inside → Type 0) (r : IsReading attributes Spelt Anything) (initial : (text : List ℕ) (x : Inside) → Spelt text x → Follows is_initial text) where
  abbrev pub Behind : Bool → List ℕ → Inside → Type 0
  Behind white = Either 62 (Done plain) (Either 47 (Made (λ sign. empty) (Literal (codes ">"))) (IfWhite white Spelt))

  abbrev pub InsideBy : List ℕ → Inside → Type 0
  InsideBy = Sequence Gap Behind

  initial_of : (white : Bool) (text rest : List ℕ) (x : Inside) → IfWhite white Spelt text x → Follows is_initial (text ++ rest)
  unfolding IfWhite
  initial_of true text rest x s =
      let f = initial text x s in
      record { byte = f.byte; bytes = f.bytes ++ rest; whole = ap (λ (t : List ℕ). t ++ rest) f.whole; passes = f.passes }
  initial_of false text rest x s = elim s [ ]

  is_end : (white : Bool) → IsReading (choice 47 empty_end (behind_white white attributes)) (Either 47 (Made (λ sign. empty) (Literal (codes ">"))) (IfWhite white Spelt)) Anything
  is_end white = is_choice 47 empty_end (behind_white white attributes) (Made (λ sign. empty) (Literal (codes ">"))) (IfWhite white Spelt) Anything
      (is_made (λ sign. empty) (is_literal (codes ">") Anything)) (if_white white attributes Spelt r)
      (record { more = codes ">"; value = empty; spelt = record { value = tt; spelt = record { text_is = refl }; made_is = refl } })
      (λ text rest x s behind. follows_in (λ byte. initial_is_not 47 byte refl) (initial_of white text rest x s))

  not_plain : (white : Bool) (rest : List ℕ) (x : Inside) {text : List ℕ} → Either 47 (Made (λ sign. empty) (Literal (codes ">"))) (IfWhite white Spelt) text x → Follows (λ byte. not (eqb byte 62)) (text ++ rest)
  not_plain white rest x (One {text} s) = record { byte = 47; bytes = text ++ rest; whole = refl; passes = refl }
  not_plain white rest x (Two {text} s) = follows_in (λ byte. initial_is_not 62 byte refl) (initial_of white text rest x s)

  is_behind : (white : Bool) → IsReading (choice 62 plain_end (choice 47 empty_end (behind_white white attributes))) (Behind white) Anything
  is_behind white = is_choice 62 plain_end (choice 47 empty_end (behind_white white attributes)) (Done plain) (Either 47 (Made (λ sign. empty) (Literal (codes ">"))) (IfWhite white Spelt)) Anything
      (is_done plain Anything) (is_end white)
      (record { more = []; value = plain; spelt = record { text_is = refl; value_is = refl } })
      (λ text rest x s behind. not_plain white rest x s)

  ends_gap : (white : Bool) (rest : List ℕ) (x : Inside) {text : List ℕ} → Behind white text x → Follows ends_white (text ++ rest)
  ends_gap white rest x (One {text} s) = record { byte = 62; bytes = text ++ rest; whole = refl; passes = refl }
  ends_gap white rest x (Two s) = second s
    where
      second : {text : List ℕ} → Either 47 (Made (λ sign. empty) (Literal (codes ">"))) (IfWhite white Spelt) text x → Follows ends_white (text ++ rest)
      second (One {text} s) = record { byte = 47; bytes = text ++ rest; whole = refl; passes = refl }
      second (Two {text} s) = follows_in initial_not_white (initial_of white text rest x s)

  pub is_inside_by : IsReading (inside_by attributes) InsideBy Anything
  is_inside_by = in_sequence gap_at (λ white. choice 62 plain_end (choice 47 empty_end (behind_white white attributes))) Gap Behind (Follows ends_white) Anything
      is_gap_at is_behind (λ white text rest y s behind. ends_gap white rest y s)
      (λ white. record { more = codes ">"; value = plain; spelt = One (record { text_is = refl; value_is = refl }) })

  pub inside_example : Opens InsideBy []
  inside_example = record {
    more = codes ">";
    value = plain;
    spelt = record { first = false; left = []; right = codes ">"; whole = refl; spelt_left = record { inside = refl; value_is = refl }; spelt_right = One (record { text_is = refl; value_is = refl }) };
  }

-- ---- attributes in any number

-- an attribute behind its white space
pub record GapAttribute (text : List ℕ) (attribute : Attribute) : Type 0 where
  pub gap : List ℕ
  pub bare : List ℕ
  pub whole : text ≡ gap ++ bare
  pub white : is_white_space gap ≡ true
  pub is_bare : BareAttribute bare attribute

pub data GapAttributes : List ℕ → List Attribute → Type 0 where
  NoMore : GapAttributes [] []
  More : {first others : List ℕ} {attribute : Attribute} {attributes : List Attribute} → GapAttribute first attribute → GapAttributes others attributes → GapAttributes (first ++ others) (attribute ∷ attributes)

pub record IsInside (text : List ℕ) (inside : Inside) : Type 0 where
  pub left : List ℕ
  pub gap : List ℕ
  pub whole : text ≡ left ++ (gap ++ tag_end inside.empty)
  pub each : GapAttributes left inside.attributes
  pub white : is_white_text gap ≡ true

pub record IsWithin (count : ℕ) (text : List ℕ) (inside : Inside) : Type 0 where
  pub is_inside : IsInside text inside
  pub few : length inside.attributes ≤ count

abbrev Attributed : (List ℕ → Inside → Type 0) → List ℕ → Inside → Type 0
Attributed Others = Sequence BareAttribute (λ attribute. Made (with_attribute attribute) Others)

pub bare_initial : (text : List ℕ) (attribute : Attribute) → BareAttribute text attribute → Follows is_initial text
bare_initial text attribute b =
    subst (Follows is_initial) (sym (b.whole ∙ append_assoc (qname_text attribute.name) b.equals b.quoted)) (qname_initial attribute.name (b.equals ++ b.quoted) b.named)

attributed_initial : (Others : List ℕ → Inside → Type 0) (text : List ℕ) (x : Inside) → Attributed Others text x → Follows is_initial text
attributed_initial Others text x s =
    let f = bare_initial s.left s.first s.spelt_left in
    record { byte = f.byte; bytes = f.bytes ++ s.right; whole = s.whole ∙ ap (λ (t : List ℕ). t ++ s.right) f.whole; passes = f.passes }

no_attribute : (text : List ℕ) (x : Inside) → Never text x → Follows is_initial text
no_attribute text x s = elim s [ ]

module _ (count : ℕ) (some : Bool) (Spelt : List ℕ → Inside → Type 0) (gap : List ℕ) (white : is_white_text gap ≡ true) (inside : Inside) (more : (rest : List ℕ) → IfWhite some Spelt rest inside → IsWithin count (gap ++ rest) inside) where
  plainly : {text : List ℕ} → text ≡ [] → inside ≡ plain → IsWithin count (gap ++ 62 ∷ text) inside
  plainly e i = record {
    is_inside = record { left = []; gap = gap; whole = ap (λ (t : List ℕ). gap ++ 62 ∷ t) e ∙ ap (λ (x : Inside). gap ++ tag_end x.empty) (sym i); each = subst (λ (x : Inside). GapAttributes [] x.attributes) (sym i) NoMore; white = white };
    few = subst (λ (x : Inside). length x.attributes ≤ count) (sym i) (omega arith);
  }

  emptily : {text : List ℕ} → text ≡ codes ">" → inside ≡ empty → IsWithin count (gap ++ 47 ∷ text) inside
  emptily e i = record {
    is_inside = record { left = []; gap = gap; whole = ap (λ (t : List ℕ). gap ++ 47 ∷ t) e ∙ ap (λ (x : Inside). gap ++ tag_end x.empty) (sym i); each = subst (λ (x : Inside). GapAttributes [] x.attributes) (sym i) NoMore; white = white };
    few = subst (λ (x : Inside). length x.attributes ≤ count) (sym i) (omega arith);
  }

  second : {text : List ℕ} → Either 47 (Made (λ sign. empty) (Literal (codes ">"))) (IfWhite some Spelt) text inside → IsWithin count (gap ++ text) inside
  second (One {text} m) = emptily m.spelt.text_is m.made_is
  second (Two {text} w) = more text w

  -- the end of a tag behind white space, or attributes
  ends : {text : List ℕ} → Either 62 (Done plain) (Either 47 (Made (λ sign. empty) (Literal (codes ">"))) (IfWhite some Spelt)) text inside → IsWithin count (gap ++ text) inside
  ends (One {text} d) = plainly d.text_is d.value_is
  ends (Two s) = second s

-- the end of a tag is a spelling of what is inside, whatever else may be
from_end : (Spelt : List ℕ → Inside → Type 0) (gap : List ℕ) (end : Bool) → is_white_text gap ≡ true → Sequence Gap (λ some. Either 62 (Done plain) (Either 47 (Made (λ sign. empty) (Literal (codes ">"))) (IfWhite some Spelt))) (gap ++ tag_end end) (record { attributes = []; empty = end })
from_end Spelt gap true white = record {
  first = is_white_space gap;
  left = gap;
  right = codes "/>";
  whole = refl;
  spelt_left = gap_from gap white;
  spelt_right = Two (One (record { value = tt; spelt = record { text_is = refl }; made_is = refl }));
}
from_end Spelt gap false white = record {
  first = is_white_space gap;
  left = gap;
  right = codes ">";
  whole = refl;
  spelt_left = gap_from gap white;
  spelt_right = One (record { text_is = refl; value_is = refl });
}

never_white : (some : Bool) (text : List ℕ) (x : Inside) → IfWhite some Never text x → ⊥
unfolding IfWhite
never_white true text x s = elim s [ ]
never_white false text x s = elim s [ ]

pub if_some : {X : Type 0} (some : Bool) (Spelt : List ℕ → X → Type 0) (text : List ℕ) (x : X) → IfWhite some Spelt text x → (some ≡ true) × Spelt text x
unfolding IfWhite
if_some true Spelt text x s = (refl, s)
if_some false Spelt text x s = elim s [ ]

pub from_some : {X : Type 0} (Spelt : List ℕ → X → Type 0) (text : List ℕ) (x : X) → Spelt text x → IfWhite true Spelt text x
unfolding IfWhite
from_some Spelt text x s = s

no_inside : List ℕ → Inside → Type 0
no_inside = Never

within_none : IsReading (inside_by nothing_at) (IsWithin zero) Anything
within_none = respelt (is_inside_by nothing_at Never (is_nothing Anything) no_attribute)
    (λ text x s. subst (λ (t : List ℕ). IsWithin zero t x) (sym s.whole) (ends zero s.first Never s.left (gap_white s.left s.first s.spelt_left) x (λ rest w. absurd (never_white s.first rest x w)) s.spelt_right))
    (λ text x s. by x.empty s.is_inside.gap s.is_inside.each s.few s.is_inside.whole s.is_inside.white)
  where
    by : (end : Bool) (gap : List ℕ) {left text : List ℕ} {attributes : List Attribute} → GapAttributes left attributes → length attributes ≤ zero → text ≡ left ++ (gap ++ tag_end end) → is_white_text gap ≡ true → Sequence Gap (λ some. Either 62 (Done plain) (Either 47 (Made (λ sign. empty) (Literal (codes ">"))) (IfWhite some Never))) text (record { attributes = attributes; empty = end })
    by end gap NoMore few whole white = subst (λ (t : List ℕ). Sequence Gap (λ some. Either 62 (Done plain) (Either 47 (Made (λ sign. empty) (Literal (codes ">"))) (IfWhite some Never))) t (record { attributes = []; empty = end })) (sym whole) (from_end Never gap end white)
    by end gap (More a others) few whole white = absurd (omega arith)

-- one more attribute
attributed : (count : ℕ) → IsReading (inside_within count) (IsWithin count) Anything → IsReading (λ bytes. attribute_at bytes >>= λ first. inside_within count first.1 >>= λ others. Ok (with_attribute first.0 others.0, others.1)) (Attributed (IsWithin count)) Anything
attributed count r = in_sequence attribute_at (λ first bytes. inside_within count bytes >>= λ others. Ok (with_attribute first others.0, others.1)) BareAttribute (λ attribute. Made (with_attribute attribute) (IsWithin count)) Anything Anything
    is_attribute_at (λ first. is_made (with_attribute first) r) (λ first text rest y s behind. tt)
    (λ first. record { more = codes ">"; value = with_attribute first plain; spelt = record { value = plain; spelt = record { is_inside = record { left = []; gap = []; whole = refl; each = NoMore; white = refl }; few = omega arith }; made_is = refl } })

within_more : (count : ℕ) → IsReading (inside_within count) (IsWithin count) Anything → IsReading (inside_within (suc count)) (IsWithin (suc count)) Anything
unfolding inside_within
within_more count r = respelt (is_inside_by (λ bytes. attribute_at bytes >>= λ first. inside_within count first.1 >>= λ others. Ok (with_attribute first.0 others.0, others.1)) (Attributed (IsWithin count)) (attributed count r) (attributed_initial (IsWithin count)))
    (λ text x s. subst (λ (t : List ℕ). IsWithin (suc count) t x) (sym s.whole) (ends (suc count) s.first (Attributed (IsWithin count)) s.left (gap_white s.left s.first s.spelt_left) x
    (λ rest w. let p = if_some s.first (Attributed (IsWithin count)) rest x w in
    longer s.left rest x (gap_some s.left (subst (λ (b : Bool). Gap s.left b) p.0 s.spelt_left)) p.1) s.spelt_right))
    (λ text x s. by x.empty s.is_inside.gap s.is_inside.each s.few s.is_inside.whole s.is_inside.white)
  where
    longer : (gap rest : List ℕ) (x : Inside) → is_white_space gap ≡ true → Attributed (IsWithin count) rest x → IsWithin (suc count) (gap ++ rest) x
    longer gap rest x white a =
        let m = a.spelt_right in
        let i = m.spelt.is_inside in
        subst (λ (y : Inside). IsWithin (suc count) (gap ++ rest) y) (sym m.made_is) (record {
          is_inside = record {
            left = gap ++ a.left ++ i.left;
            gap = i.gap;
            whole = ap (λ (t : List ℕ). gap ++ t) (a.whole ∙ ap (λ (t : List ℕ). a.left ++ t) i.whole) ∙ regroup gap a.left i.left (i.gap ++ tag_end m.value.empty);
            each = More (record { gap = gap; bare = a.left; whole = refl; white = white; is_bare = a.spelt_left }) i.each;
            white = i.white;
          };
          few = omega (arith, m.spelt.few);
        })
      where
        regroup : (a b c d : List ℕ) → a ++ (b ++ (c ++ d)) ≡ a ++ b ++ c ++ d
        regroup a b c d = simp append_assoc refl

    by : (end : Bool) (gap : List ℕ) {left text : List ℕ} {attributes : List Attribute} → GapAttributes left attributes → length attributes ≤ suc count → text ≡ left ++ (gap ++ tag_end end) → is_white_text gap ≡ true → Sequence Gap (λ some. Either 62 (Done plain) (Either 47 (Made (λ sign. empty) (Literal (codes ">"))) (IfWhite some (Attributed (IsWithin count))))) text (record { attributes = attributes; empty = end })
    by end gap NoMore few whole white = subst (λ (t : List ℕ). Sequence Gap (λ some. Either 62 (Done plain) (Either 47 (Made (λ sign. empty) (Literal (codes ">"))) (IfWhite some (Attributed (IsWithin count))))) t (record { attributes = []; empty = end })) (sym whole) (from_end (Attributed (IsWithin count)) gap end white)
    by end gap (More {first} {others} {attribute} {attributes} a each) few whole white = record {
      first = true;
      left = a.gap;
      right = a.bare ++ (others ++ (gap ++ tag_end end));
      whole = whole ∙ ap (λ (t : List ℕ). t ++ others ++ (gap ++ tag_end end)) a.whole ∙ regroup a.gap a.bare others (gap ++ tag_end end);
      spelt_left = gap_from_some a.gap a.white;
      spelt_right = Two (Two (from_some (Attributed (IsWithin count)) (a.bare ++ (others ++ (gap ++ tag_end end))) (record { attributes = attribute ∷ attributes; empty = end }) (record {
        first = attribute;
        left = a.bare;
        right = others ++ (gap ++ tag_end end);
        whole = refl;
        spelt_left = a.is_bare;
        spelt_right = record {
          value = record { attributes = attributes; empty = end };
          spelt = record { is_inside = record { left = others; gap = gap; whole = refl; each = each; white = white }; few = omega arith };
          made_is = refl;
        };
      })));
    }
      where
        regroup : (a b c d : List ℕ) → a ++ b ++ c ++ d ≡ a ++ (b ++ (c ++ d))
        regroup a b c d = simp append_assoc refl

pub is_within : (count : ℕ) → IsReading (inside_within count) (IsWithin count) Anything
unfolding inside_within
is_within zero = within_none
is_within (suc count) = within_more count (is_within count)

-- ---- as many attributes as there are

pub step_alike : {X Y : Type 0} (seen : Read X) (this that : X × List ℕ → Read Y) → ((x : X) (rest : List ℕ) → seen ≡ Ok (x, rest) → this (x, rest) ≡ that (x, rest)) → (seen >>= this) ≡ (seen >>= that)
step_alike (Ok read) this that alike = alike read.0 read.1 refl
step_alike (Err unread) this that alike = refl

shorter : (bytes text rest : List ℕ) (n : ℕ) → bytes ≡ text ++ rest → length bytes ≤ n → length rest ≤ n
shorter bytes text rest n e le = omega (arith, ap length e, length-append text rest)

inside_alike : (this that : List ℕ → Read Inside) (bytes : List ℕ) → ((rest : List ℕ) → length rest ≤ length bytes → this rest ≡ that rest) → inside_by this bytes ≡ inside_by that bytes
inside_alike this that bytes alike = step_alike (gap_at bytes) _ _ (λ some rest e. at some rest (shorter bytes (is_gap_at.takes bytes some rest e).text rest (length bytes) (is_gap_at.takes bytes some rest e).whole (omega arith)))
  where
    at : (some : Bool) (rest : List ℕ) → length rest ≤ length bytes → choice 62 plain_end (choice 47 empty_end (behind_white some this)) rest ≡ choice 62 plain_end (choice 47 empty_end (behind_white some that)) rest
    at some [] le = refl
    at true (b ∷ rest) le = ap (λ (r : Read Inside). cond (eqb b 62) (plain_end rest) (cond (eqb b 47) (empty_end rest) r)) (alike (b ∷ rest) le)
    at false (b ∷ rest) le = refl

inside_of_nothing : (count : ℕ) → inside_within count [] ≡ Err Unfinished
unfolding inside_within
inside_of_nothing zero = refl
inside_of_nothing (suc count) = refl

enough : (count more : ℕ) (bytes : List ℕ) → length bytes ≤ count → inside_within count bytes ≡ inside_within (count + more) bytes
unfolding inside_within
enough zero more [] le = inside_of_nothing zero ∙ sym (inside_of_nothing (zero + more))
enough zero more (b ∷ bytes) le = absurd (omega arith)
enough (suc count) more bytes le =
    inside_alike _ _ bytes (λ rest short. step_alike (attribute_at rest) _ _ (λ attribute after e.
    let t = is_attribute_at.takes rest attribute after e in
    let f = bare_initial t.text attribute t.spelt in
    let down : length after ≤ count = less rest t.text after f.byte f.bytes t.whole f.whole (omega arith) in
    ap (λ (r : Read Inside). r >>= λ others. Ok (with_attribute attribute others.0, others.1)) (enough count more after down)))
    ∙ ap (λ (n : ℕ). inside_within n bytes) (sums count more)
  where
    sums : (count more : ℕ) → suc (count + more) ≡ suc count + more
    sums count more = omega arith

    less : (rest text after : List ℕ) (byte : ℕ) (bytes : List ℕ) → rest ≡ text ++ after → text ≡ byte ∷ bytes → length rest ≤ suc count → length after ≤ count
    less rest text after byte bytes w f le = omega (arith, ap length w, length-append text after, ap length f)

few_attributes : {left : List ℕ} {attributes : List Attribute} → GapAttributes left attributes → length attributes ≤ length left
few_attributes NoMore = omega arith
few_attributes (More {first} {others} a each) = omega (arith, few_attributes each, length-append first others, some a)
  where
    some : {attribute : Attribute} → GapAttribute first attribute → 1 ≤ length first
    some a = omega (arith, ap length a.whole, length-append a.gap a.bare, nonempty a.gap a.white)
      where
        nonempty : (gap : List ℕ) → is_white_space gap ≡ true → 1 ≤ length gap
        nonempty [] e = absurd cc
        nonempty (b ∷ gap) e = omega arith

pub is_inside_at : IsReading inside_at IsInside Anything
unfolding inside_at
is_inside_at = record {
  takes = λ bytes x rest e. let t = (is_within (length bytes)).takes bytes x rest e in record { text = t.text; whole = t.whole; spelt = t.spelt.is_inside };
  gives = λ text rest x s behind. (is_within (length (text ++ rest))).gives text rest x (record { is_inside = s; few = few text rest x s }) behind;
  opens = λ bytes e. let o = (is_within (length bytes)).opens bytes e in record { more = o.more; value = o.value; spelt = o.spelt.is_inside };
  stays = λ bytes more e. longer bytes more (Err NoPiece) ((is_within (length bytes + length more)).stays bytes more (sym (enough (length bytes) (length more) bytes (omega arith)) ∙ e));
  keeps = λ bytes more x rest e. longer bytes more (Ok (x, rest ++ more)) ((is_within (length bytes + length more)).keeps bytes more x rest (sym (enough (length bytes) (length more) bytes (omega arith)) ∙ e));
  pure = λ bytes e. (is_within (length bytes)).pure bytes e;
}
  where
    longer : (bytes more : List ℕ) (outcome : Read Inside) → inside_within (length bytes + length more) (bytes ++ more) ≡ outcome → inside_within (length (bytes ++ more)) (bytes ++ more) ≡ outcome
    longer bytes more outcome e = ap (λ (n : ℕ). inside_within n (bytes ++ more)) (length-append bytes more) ∙ e

    few : (text rest : List ℕ) (x : Inside) → IsInside text x → length x.attributes ≤ length (text ++ rest)
    few text rest x s = omega (arith, few_attributes s.each, ap length s.whole, length-append s.left (s.gap ++ tag_end x.empty), length-append text rest)

-- one attribute is read after another
pub inside_steps : (bytes : List ℕ) → inside_at bytes ≡ inside_by (λ rest. attribute_at rest >>= λ first. inside_at first.1 >>= λ others. Ok (with_attribute first.0 others.0, others.1)) bytes
unfolding inside_at inside_within
inside_steps [] = refl
inside_steps (b ∷ bytes) = inside_alike _ _ (b ∷ bytes) (λ rest short. step_alike (attribute_at rest) _ _ (λ attribute after e.
    let t = is_attribute_at.takes rest attribute after e in
    let f = bare_initial t.text attribute t.spelt in
    let down : length after ≤ length bytes = less rest t.text after f.byte f.bytes t.whole f.whole (omega arith) in
    ap (λ (r : Read Inside). r >>= λ others. Ok (with_attribute attribute others.0, others.1))
    (ap (λ (n : ℕ). inside_within n after) (back (length after) (length bytes) down) ∙ sym (enough (length after) (length bytes - length after) after (omega arith)))))
  where
    back : (a b : ℕ) → a ≤ b → b ≡ a + (b - a)
    back a b le = omega arith

    less : (rest text after : List ℕ) (byte : ℕ) (more : List ℕ) → rest ≡ text ++ after → text ≡ byte ∷ more → length rest ≤ suc (length bytes) → length after ≤ length bytes
    less rest text after byte more w f le = omega (arith, ap length w, length-append text after, ap length f)

-- ---- tags

abbrev opening : QName → Inside → Piece
opening name inside = piece.Open name inside.attributes inside.empty

pub record OpenBehind (text : List ℕ) (opened : Piece) : Type 0 where
  pub name : QName
  pub inside : Inside
  pub right : List ℕ
  pub whole : text ≡ qname_text name ++ right
  pub named : is_qname name ≡ true
  pub is_inside : IsInside right inside
  pub opened_is : opened ≡ piece.Open name inside.attributes inside.empty

end_ends_name : (end : Bool) (rest : List ℕ) → Follows ends_qname (tag_end end ++ rest)
end_ends_name true rest = record { byte = 47; bytes = 62 ∷ rest; whole = refl; passes = refl }
end_ends_name false rest = record { byte = 62; bytes = rest; whole = refl; passes = refl }

gap_ends_name : (gap rest : List ℕ) → is_white_space gap ≡ true → Follows ends_qname (gap ++ rest)
gap_ends_name [] rest e = absurd cc
gap_ends_name (w ∷ gap) rest e = record { byte = w; bytes = gap ++ rest; whole = refl; passes = white_ends_name w (and_parts (is_white w) (list_all is_white gap) e).0 }

inside_ends_name : (text rest : List ℕ) (x : Inside) → IsInside text x → Follows ends_qname (text ++ rest)
inside_ends_name text rest x s = subst (λ (t : List ℕ). Follows ends_qname (t ++ rest)) (sym s.whole) (by s.each)
  where
    regroup : (a b c d e : List ℕ) → a ++ (b ++ (c ++ (d ++ e))) ≡ a ++ b ++ c ++ d ++ e
    regroup a b c d e = simp append_assoc refl

    by : {left : List ℕ} {attributes : List Attribute} → GapAttributes left attributes → Follows ends_qname (left ++ (s.gap ++ tag_end x.empty) ++ rest)
    by NoMore = subst (Follows ends_qname) (sym (append_assoc s.gap (tag_end x.empty) rest)) (white_or ends_qname s.gap (tag_end x.empty ++ rest) s.white white_ends_name (end_ends_name x.empty rest))
    by (More {first} {others} a each) = subst (Follows ends_qname) (ap (λ (t : List ℕ). t ++ others ++ (s.gap ++ tag_end x.empty) ++ rest) (sym a.whole))
        (subst (Follows ends_qname) (regroup a.gap a.bare others (s.gap ++ tag_end x.empty) rest) (gap_ends_name a.gap (a.bare ++ (others ++ ((s.gap ++ tag_end x.empty) ++ rest))) a.white))

pub is_open_at : IsReading open_at OpenBehind Anything
unfolding open_at
is_open_at = respelt
    (in_sequence qname_at (λ name bytes. inside_at bytes >>= λ inside. Ok (opening name inside.0, inside.1)) IsQName (λ name. Made (opening name) IsInside) (Follows ends_qname) Anything
    is_qname_at (λ name. is_made (opening name) is_inside_at)
    (λ name text rest y s behind. inside_ends_name text rest s.value s.spelt)
    (λ name. record { more = codes ">"; value = opening name plain; spelt = record { value = plain; spelt = record { left = []; gap = []; whole = refl; each = NoMore; white = refl }; made_is = refl } }))
    (λ text opened s. record {
      name = s.first;
      inside = s.spelt_right.value;
      right = s.right;
      whole = s.whole ∙ ap (λ (t : List ℕ). t ++ s.right) s.spelt_left.whole;
      named = s.spelt_left.named;
      is_inside = s.spelt_right.spelt;
      opened_is = s.spelt_right.made_is;
    })
    (λ text opened s. record {
      first = s.name;
      left = qname_text s.name;
      right = s.right;
      whole = s.whole;
      spelt_left = record { whole = refl; named = s.named };
      spelt_right = record { value = s.inside; spelt = s.is_inside; made_is = s.opened_is };
    })

pub open_initial : (text rest : List ℕ) (opened : Piece) → OpenBehind text opened → Follows is_initial (text ++ rest)
open_initial text rest opened s = subst (λ (t : List ℕ). Follows is_initial (t ++ rest)) (sym s.whole) (subst (Follows is_initial) (sym (append_assoc (qname_text s.name) s.right rest)) (qname_initial s.name (s.right ++ rest) s.named))

pub record CloseBehind (text : List ℕ) (closed : Piece) : Type 0 where
  pub name : QName
  pub gap : List ℕ
  pub whole : text ≡ qname_text name ++ gap ++ codes ">"
  pub named : is_qname name ≡ true
  pub white : is_white_text gap ≡ true
  pub closed_is : closed ≡ piece.Close name

abbrev Closing : QName → List ℕ → Piece → Type 0
Closing name = Sequence Gap (λ gap. Made (λ sign. piece.Close name) (Literal (codes ">")))

is_closing : (name : QName) → IsReading (λ bytes. gap_at bytes >>= λ gap. literal_at (codes ">") gap.1 >>= λ sign. Ok (piece.Close name, sign.1)) (Closing name) Anything
is_closing name = in_sequence gap_at (λ gap bytes. literal_at (codes ">") bytes >>= λ sign. Ok (piece.Close name, sign.1)) Gap (λ gap. Made (λ sign. piece.Close name) (Literal (codes ">"))) (Follows ends_white) Anything
    is_gap_at (λ gap. is_made (λ sign. piece.Close name) (is_literal (codes ">") Anything))
    (λ gap text rest y s behind. record { byte = 62; bytes = rest; whole = ap (λ (t : List ℕ). t ++ rest) s.spelt.text_is; passes = refl })
    (λ gap. record { more = codes ">"; value = piece.Close name; spelt = record { value = tt; spelt = record { text_is = refl }; made_is = refl } })

closing_ends_name : (text rest : List ℕ) (name : QName) (y : Piece) → Closing name text y → Follows ends_qname (text ++ rest)
closing_ends_name text rest name y s =
    subst (λ (t : List ℕ). Follows ends_qname (t ++ rest)) (sym (s.whole ∙ ap (λ (t : List ℕ). s.left ++ t) s.spelt_right.spelt.text_is))
    (subst (Follows ends_qname) (sym (append_assoc s.left (codes ">") rest)) (white_or ends_qname s.left (62 ∷ rest) (gap_white s.left s.first s.spelt_left) white_ends_name (record { byte = 62; bytes = rest; whole = refl; passes = refl })))

pub is_close_at : IsReading close_at CloseBehind Anything
unfolding close_at
is_close_at = respelt
    (in_sequence qname_at (λ name bytes. gap_at bytes >>= λ gap. literal_at (codes ">") gap.1 >>= λ sign. Ok (piece.Close name, sign.1)) IsQName Closing (Follows ends_qname) Anything
    is_qname_at is_closing (λ name text rest y s behind. closing_ends_name text rest name y s)
    (λ name. record { more = codes ">"; value = piece.Close name; spelt = record { first = false; left = []; right = codes ">"; whole = refl; spelt_left = record { inside = refl; value_is = refl }; spelt_right = record { value = tt; spelt = record { text_is = refl }; made_is = refl } } }))
    (λ text closed s. let r = s.spelt_right in record {
      name = s.first;
      gap = r.left;
      whole = s.whole ∙ ap (λ (t : List ℕ). t ++ s.right) s.spelt_left.whole ∙ ap (λ (t : List ℕ). qname_text s.first ++ t) (r.whole ∙ ap (λ (t : List ℕ). r.left ++ t) r.spelt_right.spelt.text_is) ∙ sym (append_assoc (qname_text s.first) r.left (codes ">"));
      named = s.spelt_left.named;
      white = gap_white r.left r.first r.spelt_left;
      closed_is = r.spelt_right.made_is;
    })
    (λ text closed s. record {
      first = s.name;
      left = qname_text s.name;
      right = s.gap ++ codes ">";
      whole = s.whole ∙ append_assoc (qname_text s.name) s.gap (codes ">");
      spelt_left = record { whole = refl; named = s.named };
      spelt_right = record {
        first = is_white_space s.gap;
        left = s.gap;
        right = codes ">";
        whole = refl;
        spelt_left = gap_from s.gap s.white;
        spelt_right = record { value = tt; spelt = record { text_is = refl }; made_is = s.closed_is };
      };
    })
