-- What belongs to a store: fronts of its history, and the versions that they tell.
use Rattle.std.proofs.Common.{◌≡◌, List, [], ◌∷◌, Option, Some, sym, ap, ◌∙◌, subst}
use mathlib.Core.List.{IsPrefix}
use Rattle.logbook.specs.Pages.{Book}
use Rattle.nm_publish.specs.History.{History, BeginsIn, GoesOn}
use Rattle.nm_publish.specs.Piece.{IsTold, OfOneBase, OnBaseOf, log_of, opening_of, piece_log}
use Rattle.nm_publish.specs.Store.{BelongsTo}
use Rattle.nm_publish.specs.declared.piece.Piece.{Piece}
use Rattle.nm_publish.specs.declared.piece.Piece.TheVariants.{Opened}
use Rattle.nm_version.specs.After.{IsReached}
use Rattle.nm_version.specs.Kept.{Kept}
use Rattle.std.proofs.lemmas.Grind.{flat_map-append}
use Rattle.nm_publish.proofs.Fronts.{front_of_front}

-- what goes on in pieces goes on in commands
pub log_goes_on : (earlier later : List Piece) → IsPrefix earlier later → IsPrefix (log_of earlier) (log_of later)
log_goes_on earlier later front = (log_of front.0, sym (flat_map-append piece_log earlier front.0) ∙ ap log_of front.1)

opening_is : (opening : Kept) (pieces : List Piece) → IsPrefix (Opened opening ∷ []) pieces → opening_of pieces ≡ Some opening
opening_is opening pieces front = sym (ap opening_of front.1)

pub begun : (book : Book) (opening : Kept) (front : History) → BeginsIn book opening front → ¬ (front.pieces ≡ [])
begun book opening front begins empty = absurd (cc (begins.opens.1, empty))

pub begins_later : (book : Book) (opening : Kept) (earlier later : History) → BeginsIn book opening earlier → GoesOn earlier later → BeginsIn book opening later
begins_later book opening earlier later begins on = record {
  same = on.same ∙ begins.same;
  opens = front_of_front (Opened opening ∷ []) earlier.pieces later.pieces begins.opens on.begins;
}

-- a version that a front of the store tells belongs to the opening
pub belongs : (book : Book) (opening : Kept) (front : History) (kept : Kept) → BeginsIn book opening front → IsTold front.pieces kept → IsReached kept → BelongsTo opening kept
belongs book opening front kept begins told reached =
    let one : OfOneBase opening kept = subst (λ (o : Option Kept). OnBaseOf o kept) (opening_is opening front.pieces begins.opens) told.based in
    record {
      reached = reached;
      base = one.base;
      bytes = one.bytes;
      begins = subst (λ (log : List _). IsPrefix opening.log log) (sym told.logged) (opened_log opening front.pieces begins.opens);
    }
  where
    opened_log : (opening : Kept) (pieces : List Piece) → IsPrefix (Opened opening ∷ []) pieces → IsPrefix opening.log (log_of pieces)
    opened_log opening pieces p = (log_of p.0, ap log_of p.1)
