-- A store that was opened, as contracts see it.
use Rattle.std.specs.Prelude.{◌≡◌, ℕ, List, [], ◌∷◌, All, length}
use Rattle.logbook.specs.Pages.{Book, Named}
use Rattle.nm_publish.specs.History.{History, word_of}
use Rattle.nm_publish.specs.Shown.{Told}
use Rattle.nm_publish.specs.Sight.{sight}
use Rattle.nm_publish.specs.declared.piece.Piece.TheVariants as piece
use Rattle.nm_publish.specs.declared.sight.Sight.{Sight}
use Rattle.nm_version.specs.Kept.{Kept}

pub record Opened : Type 0 where
  pub kept : Kept  -- the version that it was opened with
  pub readers : ℕ  -- how many readers it has
  pub book : Book  -- the book of its history
  pub ledger : ℕ  -- the name of its ledger

abbrev pub opened : Told → List Sight → ℕ → Opened
opened told gates ledger = record { kept = told.kept; readers = length gates; book = told.front.book; ledger = ledger }

-- the history is the opening alone; it is shown, and each reader has seen it
pub record IsOpened (shown : History) (word : Named) (told : Told) (gates : List Sight) (parts : ℕ) : Type 0 where
  pub pieces : told.front.pieces ≡ piece.Opened told.kept ∷ []
  pub published : shown ≡ told.front
  pub ours : word ≡ word_of told.front.book
  pub seen : All (λ gate. gate ≡ sight told.front 0) gates
  pub one_each : parts ≡ length gates

-- the site names this opening: its book, its version, and a ledger of as many parts as there are readers
pub record IsNamed (book : Book) (opening : Kept) (ledger parts : ℕ) (store : Opened) : Type 0 where
  pub same_book : store.book ≡ book
  pub same_version : store.kept ≡ opening
  pub same_ledger : store.ledger ≡ ledger
  pub one_each : store.readers ≡ parts
