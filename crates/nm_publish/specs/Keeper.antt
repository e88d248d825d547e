-- What a keeper holds.
use Rattle.std.specs.Prelude.{◌≡◌, ℕ, ◌+◌}
use Rattle.logbook.specs.Pages.{Book, Named}
use Rattle.nm_publish.specs.History.{History, BeginsIn, word_of}
use Rattle.nm_publish.specs.Shown.{Told}
use Rattle.nm_version.specs.Kept.{Kept, number_of}

-- what is kept is what is shown, in the book and from the opening; the word is the book's; and the number is that of
-- the opening and the commits
pub record IsKept (book : Book) (opening : Kept) (kept : Told) (shown : History) (word : Named) (commits : ℕ) : Type 0 where
  pub begins : BeginsIn book opening kept.front
  pub published : shown ≡ kept.front
  pub ours : word ≡ word_of book
  pub counted : number_of kept.kept ≡ number_of opening + commits
