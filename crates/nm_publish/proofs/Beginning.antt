-- A store as it is opened: its history is the opening alone.
use Rattle.std.proofs.Common.{◌≡◌, ℕ, ◌+◌, List, [], ◌∷◌, ◌++◌, All, length, length-append, refl, sym, ap, ◌∙◌, subst, arith}
use Rattle.std.proofs.lemmas.List.{append-nil}
use Rattle.std.proofs.lemmas.List.Elements.{All-push}
use Rattle.logbook.specs.Pages.{Book, Named}
use Rattle.nm_publish.specs.History.{History, BeginsIn, GoesOn, word_of}
use Rattle.nm_publish.specs.Keeper.{IsKept}
use Rattle.nm_publish.specs.Piece.{IsTold, log_of}
use Rattle.nm_publish.specs.Reader.{IsPlaced, Standing, standing, starting}
use Rattle.nm_publish.specs.Shown.{Told}
use Rattle.nm_publish.specs.Sight.{sight}
use Rattle.nm_publish.specs.declared.piece.Piece.{Piece}
use Rattle.nm_publish.specs.declared.piece.Piece.TheVariants.{Opened}
use Rattle.nm_publish.specs.declared.sight.Sight.{Sight}
use Rattle.nm_version.specs.Kept.{Kept, number_of}
use Rattle.nm_publish.proofs.Seats.{goes_on_self}

opening_log : (opening : Kept) (pieces : List Piece) → pieces ≡ Opened opening ∷ [] → log_of pieces ≡ opening.log
opening_log opening pieces alone = ap log_of alone ∙ append-nil opening.log

pub opening_told : (pieces : List Piece) (opening kept : Kept) → pieces ≡ Opened opening ∷ [] → kept ≡ opening → IsTold pieces kept
opening_told pieces opening kept alone same = rw (same, alone) (record { based = record { base = refl; bytes = refl }; logged = sym (append-nil opening.log) })

pub begins_first : (book : Book) (opening : Kept) (front : History) → front.book ≡ book → front.pieces ≡ Opened opening ∷ [] → BeginsIn book opening front
begins_first book opening front same alone = record { same = same; opens = ([], sym alone) }

pub placed_first : (book : Book) (opening : Kept) (front : History) (seen : Sight) (parts : ℕ) → BeginsIn book opening front → seen ≡ sight front 0 → parts ≡ 1
    → IsPlaced book opening front seen parts
placed_first book opening front seen parts begins same one = record {
  begins = begins;
  within = subst (λ (s : Sight). GoesOn front s.front) (sym same) (goes_on_self front);
  one = one;
}

pub starts : (kept opening : Kept) (seen : Sight) (front : History) (share : ℕ) → kept ≡ opening → seen ≡ sight front 0 → front.pieces ≡ Opened opening ∷ [] → share ≡ 0
    → standing kept seen 0 0 share ≡ starting opening
starts kept opening seen front share same unmoved alone none =
    rw (same, unmoved, none) (ap (λ log. record { kept = opening; view = log; enterings = 0; misses = 0; learnt = 0; share = 0 }) (opening_log opening front.pieces alone))

pub kept_first : (book : Book) (opening : Kept) (kept : Told) (shown : History) (word : Named) (commits : ℕ) → BeginsIn book opening kept.front → kept.kept ≡ opening → shown ≡ kept.front
    → word ≡ word_of kept.front.book → commits ≡ 0 → IsKept book opening kept shown word commits
kept_first book opening kept shown word commits begins same published named none = record {
  begins = begins;
  published = published;
  ours = named ∙ ap word_of begins.same;
  counted = omega (arith, ap number_of same, none);
}

-- one reader more, at one place more
pub one_more : (start : Standing) (readers after : List Standing) (reader : Standing) (places : List Sight) (place : Sight) → length readers ≡ length places → All (λ one. one ≡ start) readers → reader ≡ start
    → after ≡ readers ++ reader ∷ [] → (length after ≡ length (places ++ place ∷ [])) × All (λ one. one ≡ start) after
one_more start readers after reader places place many all same one =
    rw one (omega (arith, many, length-append readers (reader ∷ []), length-append places (place ∷ [])), All-push (λ r. r ≡ start) readers reader all same)

pub one_part_less : (left parts all : ℕ) (places : List Sight) (place : Sight) → left + 1 ≡ parts → parts + length places ≡ all → left + length (places ++ place ∷ []) ≡ all
one_part_less left parts all places place less before = omega (arith, less, before, length-append places (place ∷ []))
