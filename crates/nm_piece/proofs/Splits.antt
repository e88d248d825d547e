-- Bytes that are cut before the first that ends something.
use Rattle.std.proofs.Common.{◌≡◌, ◌≢◌, ℕ, zero, suc, ◌+◌, ◌-◌, ◌≤◌, ◌<◌, Bool, true, false, not, cond, eqb, List, [], ◌∷◌, ◌++◌, length, take, drop, get_or, Option, Some, Ok, Err, refl, sym, ap, subst, ◌∙◌, add-one, arith, append-nil, append_assoc, length-append}
use Rattle.std.specs.Prelude.{◌==◌}
use Rattle.std.proofs.Math.Seq.{drop-cons, drop-length, take-suc}
use Rattle.std.proofs.lemmas.Bool.{and_parts, eqb-true, ne_eqb}
use Rattle.std.proofs.lemmas.List.{get_or-take, length-take, take-append-drop, take-take, take_all}
use Rattle.std.specs.List.{list_all}
use Rattle.nm_text.specs.Split.{IsSplitBefore}
use Rattle.nm_text.specs.White.{is_white, is_white_space}
use Rattle.nm_piece.specs.declared.unread.Unread.TheVariants.{Unfinished, NoPiece}
use Rattle.nm_piece.specs.Name.{ends_white, gap_at}
use Rattle.nm_piece.specs.Reading.{before, found, from, segment_at}
use Rattle.nm_piece.specs.Run.{is_some_bytes}
use Rattle.nm_piece.proofs.Readings.{Follows, before_all, before_is, from_is, list_all-append}

-- ---- a scan for the cut

-- the cut is not before this place
pub record IsUncut (ends : ℕ → Bool) (bytes : List ℕ) (place : ℕ) : Type 0 where
  pub before_is : before ends bytes ≡ take place bytes ++ before ends (drop place bytes)
  pub from_is : from ends bytes ≡ from ends (drop place bytes)

pub uncut_at_front : (ends : ℕ → Bool) (bytes : List ℕ) → IsUncut ends bytes 0
uncut_at_front ends bytes = record { before_is = refl; from_is = refl }

pub uncut_further : (ends : ℕ → Bool) (bytes : List ℕ) (place : ℕ) → place < length bytes → ends (get_or bytes place 0) ≡ false → IsUncut ends bytes place → IsUncut ends bytes (place + 1)
uncut_further ends bytes place lt e u =
    let here = drop-cons bytes place 0 lt in
    rw (add-one) (record {
      before_is = u.before_is ∙ ap (λ (t : List ℕ). take place bytes ++ before ends t) here ∙ regroup;
      from_is = u.from_is ∙ ap (from ends) here ∙ rw e refl;
    })
  where
    regroup : take place bytes ++ before ends (get_or bytes place 0 ∷ drop (suc place) bytes) ≡ take (suc place) bytes ++ before ends (drop (suc place) bytes)
    regroup = rw (e, take-suc bytes place 0 lt) (sym (append_assoc (take place bytes) (get_or bytes place 0 ∷ []) (before ends (drop (suc place) bytes))))

-- the cut is at this place
pub record IsCutAt (ends : ℕ → Bool) (bytes : List ℕ) (place : ℕ) : Type 0 where
  pub before_is : before ends bytes ≡ take place bytes
  pub from_is : from ends bytes ≡ drop place bytes

pub cut_here : (ends : ℕ → Bool) (bytes : List ℕ) (place : ℕ) → place < length bytes → ends (get_or bytes place 0) ≡ true → IsUncut ends bytes place → IsCutAt ends bytes place
cut_here ends bytes place lt e u =
    let here = drop-cons bytes place 0 lt in
    record {
      before_is = u.before_is ∙ ap (λ (t : List ℕ). take place bytes ++ before ends t) here ∙ rw e (append-nil (take place bytes));
      from_is = u.from_is ∙ ap (from ends) here ∙ cut_off ∙ sym here;
    }
  where
    cut_off : from ends (get_or bytes place 0 ∷ drop (suc place) bytes) ≡ get_or bytes place 0 ∷ drop (suc place) bytes
    cut_off = rw e refl

pub cut_at_end : (ends : ℕ → Bool) (bytes : List ℕ) → IsUncut ends bytes (length bytes) → IsCutAt ends bytes (length bytes)
cut_at_end ends bytes u = record {
  before_is = u.before_is ∙ ap (λ (t : List ℕ). take (length bytes) bytes ++ before ends t) (drop-length bytes) ∙ append-nil (take (length bytes) bytes);
  from_is = u.from_is ∙ ap (from ends) (drop-length bytes) ∙ sym (drop-length bytes);
}

-- where each byte before a place passes the test, and the one there fails it, the cut is there
pub cut_at_first : (test : ℕ → Bool) (bytes : List ℕ) (place : ℕ) → place ≤ length bytes → list_all test (take place bytes) ≡ true → (place < length bytes → test (get_or bytes place 0) ≡ false)
    → IsCutAt (λ byte. not (test byte)) bytes place
cut_at_first test [] zero le all fails = record { before_is = refl; from_is = refl }
cut_at_first test (byte ∷ bytes) zero le all fails =
    let here : test byte ≡ false = fails (omega arith) in
    record { before_is = rw here refl; from_is = rw here refl }
cut_at_first test [] (suc place) le all fails = absurd (omega arith)
cut_at_first test (byte ∷ bytes) (suc place) le all fails =
    let parts = and_parts (test byte) (list_all test (take place bytes)) all in
    let others = cut_at_first test bytes place (omega arith) parts.1 (λ within. fails (omega arith)) in
    record { before_is = rw parts.0 (ap (λ (t : List ℕ). byte ∷ t) others.before_is); from_is = rw parts.0 others.from_is }

-- ---- a cut behind bytes that were passed

-- what is left behind bytes that pass the test
pub record IsPassed (test : ℕ → Bool) (bytes rest : List ℕ) : Type 0 where
  pub front : List ℕ
  pub joined : front ++ rest ≡ bytes
  pub passed : list_all test front ≡ true

pub nothing_passed : (test : ℕ → Bool) (bytes : List ℕ) → IsPassed test bytes bytes
nothing_passed test bytes = record { front = []; joined = refl; passed = refl }

-- a chunk of the rest passes too
pub passed_further : (test : ℕ → Bool) (bytes rest chunk behind : List ℕ) (size count : ℕ) → IsPassed test bytes rest → chunk ≡ take size rest → behind ≡ drop size rest → size ≤ count → list_all test (take count chunk) ≡ true → IsPassed test bytes behind
passed_further test bytes rest chunk behind size count p chunk_is behind_is le all =
    let long = length-take size rest in
    let whole : take count (take size rest) ≡ take size rest = take_all count (take size rest) (omega arith) in
    record {
      front = p.front ++ take size rest;
      joined = append_assoc p.front (take size rest) behind
          ∙ ap (λ (t : List ℕ). p.front ++ (take size rest ++ t)) behind_is
          ∙ ap (λ (t : List ℕ). p.front ++ t) (take-append-drop size rest) ∙ p.joined;
      passed = list_all-append test p.front (take size rest) p.passed
          (ap (list_all test) (sym (ap (take count) chunk_is ∙ whole)) ∙ all);
    }

-- the cut of the rest, seen from the front
cut_behind : (test : ℕ → Bool) (front rest : List ℕ) (place : ℕ) → list_all test front ≡ true → IsCutAt (λ byte. not (test byte)) rest place → IsCutAt (λ byte. not (test byte)) (front ++ rest) (length front + place)
cut_behind test [] rest place all cut =
    let none : place ≡ 0 + place = omega arith in
    subst (λ (n : ℕ). IsCutAt (λ byte. not (test byte)) rest n) none cut
cut_behind test (byte ∷ front) rest place all cut =
    let parts = and_parts (test byte) (list_all test front) all in
    let others = cut_behind test front rest place parts.1 cut in
    let further : length (byte ∷ front) + place ≡ suc (length front + place) = omega arith in
    rw further (record { before_is = rw parts.0 (ap (λ (t : List ℕ). byte ∷ t) others.before_is); from_is = rw parts.0 others.from_is })

pub cut_in_rest : (test : ℕ → Bool) (bytes rest : List ℕ) (place : ℕ) → IsPassed test bytes rest → place ≤ length rest → list_all test (take place rest) ≡ true → (place < length rest → test (get_or rest place 0) ≡ false)
    → IsCutAt (λ byte. not (test byte)) bytes (length bytes - length rest + place)
cut_in_rest test bytes rest place p le all fails =
    let size = length-append p.front rest in
    let same = ap (λ (t : List ℕ). length t) p.joined in
    let here : length p.front + place ≡ length bytes - length rest + place = omega arith in
    subst (λ (n : ℕ). IsCutAt (λ byte. not (test byte)) bytes n) here
    (subst (λ (t : List ℕ). IsCutAt (λ byte. not (test byte)) t (length p.front + place)) p.joined
    (cut_behind test p.front rest place p.passed (cut_at_first test rest place le all fails)))

-- the cut in a chunk of the rest
pub cut_in_chunk : (test : ℕ → Bool) (bytes rest chunk : List ℕ) (size place : ℕ) → IsPassed test bytes rest → chunk ≡ take size rest → size ≤ length rest → place < size → list_all test (take place chunk) ≡ true → (place < length chunk → test (get_or chunk place 0) ≡ false)
    → IsCutAt (λ byte. not (test byte)) bytes (length bytes - length rest + place)
cut_in_chunk test bytes rest chunk size place p chunk_is le lt all fails =
    let long = ap (λ (t : List ℕ). length t) chunk_is ∙ length-take size rest in
    let here : test (get_or chunk place 0) ≡ false = fails (omega arith) in
    cut_in_rest test bytes rest place p (omega arith)
    (ap (list_all test) (sym (ap (take place) chunk_is ∙ take-take place size rest (omega arith))) ∙ all)
    (λ within. ap test (sym (ap (λ (t : List ℕ). get_or t place 0) chunk_is ∙ get_or-take size rest place 0 lt)) ∙ here)

-- ---- a cut before the first of one byte

pub record IsCut (byte : ℕ) (bytes front rest : List ℕ) : Type 0 where
  pub before_is : before (λ other. eqb other byte) bytes ≡ front
  pub from_is : from (λ other. eqb other byte) bytes ≡ rest

pub cut_is : (byte : ℕ) (bytes front rest : List ℕ) → IsSplitBefore byte bytes front rest → IsCut byte bytes front rest
cut_is byte bytes front [] split =
    let all = before_all (λ other. eqb other byte) front split.lacked in
    let whole : bytes ≡ front = sym split.joined ∙ append-nil front in
    record { before_is = ap (before (λ other. eqb other byte)) whole ∙ all.0; from_is = ap (from (λ other. eqb other byte)) whole ∙ all.1 }
cut_is byte bytes front (first ∷ rest) split =
    let follows : Follows (λ other. eqb other byte) (first ∷ rest) = record { byte = first; bytes = rest; whole = refl; passes = split.begins } in
    record {
      before_is = ap (before (λ other. eqb other byte)) (sym split.joined) ∙ before_is (λ other. eqb other byte) front (first ∷ rest) split.lacked follows;
      from_is = ap (from (λ other. eqb other byte)) (sym split.joined) ∙ from_is (λ other. eqb other byte) front (first ∷ rest) split.lacked follows;
    }

-- ---- what stands up to a cut

pub segment_open : {X : Type 0} (ends : ℕ → Bool) (value : List ℕ → Option X) (begins : List ℕ → Bool) (bytes front rest : List ℕ) → before ends bytes ≡ front → from ends bytes ≡ rest
    → (length rest == 0) ≡ true → segment_at ends value begins bytes ≡ cond (begins front) (Err Unfinished) (Err NoPiece)
segment_open ends value begins bytes front [] p q e = rw (p, q) refl
segment_open ends value begins bytes front (byte ∷ rest) p q e = absurd (let z = eqb-true (suc (length rest)) 0 e in cc)

pub segment_shut : {X : Type 0} (ends : ℕ → Bool) (value : List ℕ → Option X) (begins : List ℕ → Bool) (bytes front rest : List ℕ) → before ends bytes ≡ front → from ends bytes ≡ rest
    → (length rest == 0) ≡ false → segment_at ends value begins bytes ≡ found (value front) rest
segment_shut ends value begins bytes front [] p q e = absurd cc
segment_shut ends value begins bytes front (byte ∷ rest) p q e = rw (p, q) refl

-- ---- what stands before the cut

-- each byte passes the test that the first byte behind the cut fails
pub all_before : (test : ℕ → Bool) (bytes : List ℕ) → list_all test (before (λ byte. not (test byte)) bytes) ≡ true
all_before test [] = refl
all_before test (byte ∷ bytes) = by (test byte) refl (all_before test bytes)
  where
    by : (b : Bool) → test byte ≡ b → list_all test (before (λ other. not (test other)) bytes) ≡ true → list_all test (cond (not b) [] (byte ∷ before (λ other. not (test other)) bytes)) ≡ true
    by true p others = rw (p, others) refl
    by false p others = refl

-- ---- white space

pub some_white : (bytes : List ℕ) → is_white_space (before ends_white bytes) ≡ not (length (before ends_white bytes) == 0)
some_white bytes = by (before ends_white bytes) (all_before is_white bytes)
  where
    by : (white : List ℕ) → list_all is_white white ≡ true → is_white_space white ≡ not (length white == 0)
    by [] e = refl
    by (byte ∷ white) e = e ∙ sym (ap not (ne_eqb (suc (length white)) 0 (λ z. cc)))

pub gap_found : (bytes white rest : List ℕ) → before ends_white bytes ≡ white → from ends_white bytes ≡ rest → (length rest == 0) ≡ false → gap_at bytes ≡ Ok (not (length white == 0), rest)
gap_found bytes white rest p q e =
    segment_shut ends_white (λ white. Some (is_white_space white)) (λ white. true) bytes white rest p q e
    ∙ ap (λ (b : Bool). Ok (b, rest)) (ap is_white_space (sym p) ∙ some_white bytes ∙ ap (λ (t : List ℕ). not (length t == 0)) p)

-- whether there are bytes
pub some_bytes : (bytes : List ℕ) → (length bytes == 0) ≡ false → is_some_bytes bytes ≡ true
some_bytes [] e = absurd cc
some_bytes (byte ∷ bytes) e = refl

pub no_bytes : (bytes : List ℕ) → (length bytes == 0) ≡ true → is_some_bytes bytes ≡ false
no_bytes [] e = refl
no_bytes (byte ∷ bytes) e = absurd (let z = eqb-true (suc (length bytes)) 0 e in cc)

pub none_is : (bytes : List ℕ) → (length bytes == 0) ≡ true → length bytes ≡ 0
none_is bytes e = eqb-true (length bytes) 0 e

pub some_is : (bytes : List ℕ) → (length bytes == 0) ≡ false → length bytes ≢ 0
some_is [] e = absurd cc
some_is (byte ∷ bytes) e = λ z. cc
