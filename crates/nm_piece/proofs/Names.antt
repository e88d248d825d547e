-- Names with prefixes, `=` and white space in tags are readings.
use Rattle.std.proofs.Common.{◌≡◌, ℕ, Bool, true, false, not, eqb, ◌&&◌, List, [], ◌∷◌, ◌++◌, codes, Option, Some, None, Ok, refl, sym, ap, subst, ◌∙◌, append_assoc, append-nil}
use Rattle.std.specs.List.{list_all}
use Rattle.std.proofs.lemmas.Bool.{and_parts, and_from}
use Rattle.nm_ident.specs.Name.{begins_name as is_initial, continues_name, is_name}
use Rattle.nm_text.specs.White.{is_white, is_white_space, is_white_text}
use Rattle.nm_piece.specs.declared.piece.QName.{QName}
use Rattle.nm_piece.specs.Name.{ends_name, ends_white, equals_at, gap_at, is_qname, local_behind, name_at, name_of, only_local, qname_at, qname_text}
use Rattle.nm_piece.specs.Reading.{◌>>=◌, choice, literal_at}
use Rattle.nm_piece.specs.Spells.{IsEquals}
use Rattle.nm_piece.proofs.Readings.{Anything, Done, Either, One, Two, Follows, IsReading, Literal, Made, Opens, Segment, Sequence, if_true, in_sequence, is_choice, is_done, is_literal, is_made, respelt}
use Rattle.nm_piece.proofs.Segments.{chosen, is_gap_at, is_name_at}

-- ---- names

pub all_continue : (bytes : List ℕ) → list_all continues_name bytes ≡ true → list_all (λ byte. not (ends_name byte)) bytes ≡ true
all_continue [] e = refl
all_continue (b ∷ bytes) e =
    let p = and_parts (continues_name b) (list_all continues_name bytes) e in
    and_from (not (not (continues_name b))) (list_all (λ byte. not (ends_name byte)) bytes) (ap (λ (x : Bool). not (not x)) p.0) (all_continue bytes p.1)

pub initial_continues : (byte : ℕ) → is_initial byte ≡ true → continues_name byte ≡ true
initial_continues byte e = rw e refl

pub name_inside : (bytes : List ℕ) → is_name bytes ≡ true → list_all (λ byte. not (ends_name byte)) bytes ≡ true
name_inside [] e = refl
name_inside (b ∷ bytes) e =
    let p = and_parts (is_initial b && list_all continues_name bytes) _ e in
    let q = and_parts (is_initial b) (list_all continues_name bytes) p.0 in
    and_from (not (not (continues_name b))) (list_all (λ byte. not (ends_name byte)) bytes) (ap (λ (x : Bool). not (not x)) (initial_continues b q.0)) (all_continue bytes q.1)

pub name_spelt : (bytes : List ℕ) → is_name bytes ≡ true → Segment ends_name name_of bytes bytes
name_spelt bytes e = record { inside = name_inside bytes e; value_is = if_true (is_name bytes) (Some bytes) None e }

-- what a segment that is a name is
pub name_found : (text name : List ℕ) → Segment ends_name name_of text name → (is_name name ≡ true) × (text ≡ name)
name_found text name s =
    let c = chosen (is_name text) text name s.value_is in
    (ap is_name (sym c.1) ∙ c.0, c.1)

-- ---- names with prefixes

abbrev pub ends_qname : ℕ → Bool
ends_qname byte = ends_name byte && not (eqb byte 58)

pub record IsQName (text : List ℕ) (name : QName) : Type 0 where
  pub whole : text ≡ qname_text name
  pub named : is_qname name ≡ true

behind_qname : (rest : List ℕ) → Follows ends_qname rest → Follows ends_name rest
behind_qname rest f = record { byte = f.byte; bytes = f.bytes; whole = f.whole; passes = (and_parts (ends_name f.byte) (not (eqb f.byte 58)) f.passes).0 }

no_colon : (rest : List ℕ) → Follows ends_qname rest → Follows (λ byte. not (eqb byte 58)) rest
no_colon rest f = record { byte = f.byte; bytes = f.bytes; whole = f.whole; passes = (and_parts (ends_name f.byte) (not (eqb f.byte 58)) f.passes).1 }

pub follows_behind_nothing : (test : ℕ → Bool) (text rest : List ℕ) → text ≡ [] → Follows test rest → Follows test (text ++ rest)
follows_behind_nothing test text rest e f = subst (λ (t : List ℕ). Follows test (t ++ rest)) (sym e) f

abbrev Local : List ℕ → List ℕ → QName → Type 0
Local prefix = Sequence (Segment ends_name name_of) (λ local. Done (record { prefix = Some prefix; local = local }))

abbrev Qualified : List ℕ → QName → Type 0
Qualified = Sequence (Segment ends_name name_of) (λ first. Either 58 (Local first) (Done (record { prefix = None; local = first })))

is_local : (prefix : List ℕ) → IsReading (local_behind prefix) (Local prefix) (Follows ends_qname)
is_local prefix = in_sequence name_at (λ local bytes. Ok (record { prefix = Some prefix; local = local }, bytes)) (Segment ends_name name_of) (λ local. Done (record { prefix = Some prefix; local = local })) (Follows ends_name) (Follows ends_qname)
    is_name_at
    (λ local. is_done (record { prefix = Some prefix; local = local }) (Follows ends_qname))
    (λ local text rest y s f. follows_behind_nothing ends_name text rest s.text_is (behind_qname rest f))
    (λ local. record { more = []; value = record { prefix = Some prefix; local = local }; spelt = record { text_is = refl; value_is = refl } })

local_example : (prefix : List ℕ) → Opens (Local prefix) []
local_example prefix = record {
  more = codes "a";
  value = record { prefix = Some prefix; local = codes "a" };
  spelt = record { first = codes "a"; left = codes "a"; right = []; whole = refl; spelt_left = record { inside = refl; value_is = refl }; spelt_right = record { text_is = refl; value_is = refl } };
}

is_second : (first : List ℕ) → IsReading (choice 58 (local_behind first) (only_local first)) (Either 58 (Local first) (Done (record { prefix = None; local = first }))) (Follows ends_qname)
is_second first = is_choice 58 (local_behind first) (only_local first) (Local first) (Done (record { prefix = None; local = first })) (Follows ends_qname)
    (is_local first) (is_done (record { prefix = None; local = first }) (Follows ends_qname)) (local_example first)
    (λ text rest y s f. follows_behind_nothing (λ byte. not (eqb byte 58)) text rest s.text_is (no_colon rest f))

colon_ends : (rest : List ℕ) → Follows ends_name (58 ∷ rest)
colon_ends rest = record { byte = 58; bytes = rest; whole = refl; passes = refl }

is_qualified : IsReading qname_at Qualified (Follows ends_qname)
unfolding qname_at
is_qualified = in_sequence name_at (λ first. choice 58 (local_behind first) (only_local first)) (Segment ends_name name_of) (λ first. Either 58 (Local first) (Done (record { prefix = None; local = first }))) (Follows ends_name) (Follows ends_qname)
    is_name_at is_second (λ first text rest y s f. meets first rest y f s)
    (λ first. record { more = []; value = record { prefix = None; local = first }; spelt = Two (record { text_is = refl; value_is = refl }) })
  where
    meets : (first rest : List ℕ) (y : QName) → Follows ends_qname rest → {text : List ℕ} → Either 58 (Local first) (Done (record { prefix = None; local = first })) text y → Follows ends_name (text ++ rest)
    meets first rest y f (One {text} s) = colon_ends (text ++ rest)
    meets first rest y f (Two {text} s) = follows_behind_nothing ends_name text rest s.text_is (behind_qname rest f)

to_qname : (text : List ℕ) (name : QName) → Qualified text name → IsQName text name
to_qname text name s = by s.right s.spelt_right (name_found s.left s.first s.spelt_left) s.whole
  where
    by : (right : List ℕ) → Either 58 (Local s.first) (Done (record { prefix = None; local = s.first })) right name → (is_name s.first ≡ true) × (s.left ≡ s.first) → text ≡ s.left ++ right → IsQName text name
    by _ (One {text = right} l) n w =
        let m = name_found l.left l.first l.spelt_left in
        let d = l.spelt_right in
        record {
          whole = w ∙ ap (λ (t : List ℕ). t ++ 58 ∷ right) n.1
              ∙ ap (λ (t : List ℕ). s.first ++ 58 ∷ t) (l.whole ∙ ap (λ (t : List ℕ). l.left ++ t) d.text_is ∙ append-nil l.left ∙ m.1)
              ∙ ap qname_text (sym d.value_is);
          named = ap is_qname d.value_is ∙ and_from (is_name s.first) (is_name l.first) n.0 m.0;
        }
    by _ (Two {text = right} d) n w = record {
      whole = w ∙ ap (λ (t : List ℕ). s.left ++ t) d.text_is ∙ append-nil s.left ∙ n.1 ∙ ap qname_text (sym d.value_is);
      named = ap is_qname d.value_is ∙ n.0;
    }

from_qname : (text : List ℕ) (name : QName) → IsQName text name → Qualified text name
from_qname text name s = by name.prefix name.local (record { whole = s.whole; named = s.named })
  where
    by : (prefix : Option (List ℕ)) (local : List ℕ) → IsQName text (record { prefix = prefix; local = local }) → Qualified text (record { prefix = prefix; local = local })
    by None local q = record {
      first = local;
      left = local;
      right = [];
      whole = q.whole ∙ sym (append-nil local);
      spelt_left = name_spelt local q.named;
      spelt_right = Two (record { text_is = refl; value_is = refl });
    }
    by (Some prefix) local q =
        let p = and_parts (is_name prefix) (is_name local) q.named in
        record {
          first = prefix;
          left = prefix;
          right = 58 ∷ local;
          whole = q.whole;
          spelt_left = name_spelt prefix p.0;
          spelt_right = One (record { first = local; left = local; right = []; whole = sym (append-nil local); spelt_left = name_spelt local p.1; spelt_right = record { text_is = refl; value_is = refl } });
        }

pub is_qname_at : IsReading qname_at IsQName (Follows ends_qname)
is_qname_at = respelt is_qualified to_qname from_qname

-- ---- white space

abbrev pub Gap : List ℕ → Bool → Type 0
Gap = Segment ends_white (λ white. Some (is_white_space white))

pub all_white : (bytes : List ℕ) → list_all (λ byte. not (ends_white byte)) bytes ≡ list_all is_white bytes
all_white [] = refl
all_white (b ∷ bytes) = both (twice (is_white b)) (all_white bytes)
  where
    twice : (x : Bool) → not (not x) ≡ x
    twice true = refl
    twice false = refl

    both : {a b c d : Bool} → a ≡ c → b ≡ d → (a && b) ≡ (c && d)
    both p q = cc

pub gap_white : (text : List ℕ) (some : Bool) → Gap text some → is_white_text text ≡ true
gap_white text some s = sym (all_white text) ∙ s.inside

pub gap_some : (text : List ℕ) → Gap text true → is_white_space text ≡ true
gap_some text s = cc_some (is_white_space text) s.value_is
  where
    cc_some : (b : Bool) → Some b ≡ Some true → b ≡ true
    cc_some b e = cc

pub gap_from : (text : List ℕ) → is_white_text text ≡ true → Gap text (is_white_space text)
gap_from text e = record { inside = all_white text ∙ e; value_is = refl }

pub white_space_text : (text : List ℕ) → is_white_space text ≡ true → is_white_text text ≡ true
white_space_text [] e = refl
white_space_text (b ∷ text) e = e

pub gap_from_some : (text : List ℕ) → is_white_space text ≡ true → Gap text true
gap_from_some text e = record { inside = all_white text ∙ white_space_text text e; value_is = ap (λ (b : Bool). Some b) e }

-- what follows white space or nothing, where something that is neither follows
pub white_or : (test : ℕ → Bool) (gap rest : List ℕ) → is_white_text gap ≡ true → ((byte : ℕ) → is_white byte ≡ true → test byte ≡ true) → Follows test rest → Follows test (gap ++ rest)
white_or test [] rest e white f = f
white_or test (b ∷ gap) rest e white f = record { byte = b; bytes = gap ++ rest; whole = refl; passes = white b (and_parts (is_white b) (list_all is_white gap) e).0 }

-- ---- `=`

abbrev Right : List ℕ → Unit {0} → Type 0
Right = Made (λ gap. tt) Gap

abbrev Signed : List ℕ → Unit {0} → Type 0
Signed = Sequence (Literal (codes "=")) (λ sign. Right)

is_signed : IsReading (λ bytes. literal_at (codes "=") bytes >>= λ sign. gap_at sign.1 >>= λ right. Ok (tt, right.1)) Signed (Follows ends_white)
is_signed = in_sequence (literal_at (codes "=")) (λ sign bytes. gap_at bytes >>= λ right. Ok (tt, right.1)) (Literal (codes "=")) (λ sign. Right) Anything (Follows ends_white)
    (is_literal (codes "=") Anything) (λ sign. is_made (λ gap. tt) is_gap_at) (λ sign text rest y s f. tt)
    (λ sign. record { more = []; value = tt; spelt = record { value = false; spelt = record { inside = refl; value_is = refl }; made_is = refl } })

sign_follows : (text rest : List ℕ) (y : Unit {0}) → Signed text y → Follows ends_white (text ++ rest)
sign_follows text rest y s = record { byte = 61; bytes = s.right ++ rest; whole = ap (λ (t : List ℕ). t ++ rest) (s.whole ∙ ap (λ (t : List ℕ). t ++ s.right) s.spelt_left.text_is); passes = refl }

pub is_equals_at : IsReading equals_at (λ text value. IsEquals text) (Follows ends_white)
unfolding equals_at
is_equals_at = respelt
    (in_sequence gap_at (λ gap bytes. literal_at (codes "=") bytes >>= λ sign. gap_at sign.1 >>= λ right. Ok (tt, right.1)) Gap (λ gap. Signed) (Follows ends_white) (Follows ends_white)
    is_gap_at (λ gap. is_signed) (λ gap text rest y s f. sign_follows text rest y s)
    (λ gap. record { more = codes "="; value = tt; spelt = record { first = tt; left = codes "="; right = []; whole = refl; spelt_left = record { text_is = refl }; spelt_right = record { value = false; spelt = record { inside = refl; value_is = refl }; made_is = refl } } }))
    (λ text value s. let r = s.spelt_right in record {
      left = s.left;
      right = r.right;
      whole = s.whole ∙ ap (λ (t : List ℕ). s.left ++ t) (r.whole ∙ ap (λ (t : List ℕ). t ++ r.right) r.spelt_left.text_is) ∙ sym (append_assoc s.left (codes "=") r.right);
      white_left = gap_white s.left s.first s.spelt_left;
      white_right = gap_white r.right r.spelt_right.value r.spelt_right.spelt;
    })
    (λ text value s. record {
      first = is_white_space s.left;
      left = s.left;
      right = codes "=" ++ s.right;
      whole = s.whole ∙ append_assoc s.left (codes "=") s.right;
      spelt_left = gap_from s.left s.white_left;
      spelt_right = record {
        first = tt;
        left = codes "=";
        right = s.right;
        whole = refl;
        spelt_left = record { text_is = refl };
        spelt_right = record { value = is_white_space s.right; spelt = gap_from s.right s.white_right; made_is = refl };
      };
    })
