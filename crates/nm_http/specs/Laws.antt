-- What the laws of this crate say.
use Rattle.std.specs.Prelude.{◌≡◌, ◌↔◌, ℕ, List, [], Some}
use Rattle.httparse.specs.Grammar.{RequestHead, ReadsRequest}
use Rattle.nm_http.specs.Head.{head_of}

-- a head is found exactly where the grammar of `httparse` has it
abbrev pub HeadsAreThoseOfTheGrammar : Type 0
HeadsAreThoseOfTheGrammar =
    (bytes : List ℕ) (head : RequestHead) → (head_of bytes ≡ Some head) ↔ ReadsRequest bytes head []
