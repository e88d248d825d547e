-- What is read ahead of a session, and why no more of it is.
use Rattle.std.specs.Prelude.{◌≡◌, ℕ, ◌<◌, List, length, Option, None, position, IfSome}
use Rattle.std.specs.Io.KnownBytes.{Keeps}
use Rattle.nm_session.specs.Buffered.{Buffered}
use Rattle.nm_session.specs.Input.{coming}
use Rattle.nm_session.specs.Stream.{is_line_feed}
use Rattle.nm_session.specs.declared.halt.Halt.{Halt}
use Rattle.nm_session.specs.declared.halt.Halt.TheVariants.{BadLine, Cut, TooMuch, ReadFault, NoMemory}

-- bytes moved from the source to those buffered, and nothing else did
pub record ReadsAhead (old new : Buffered) (before after : Option (List ℕ)) : Type 0 where
  pub given : new.given ≡ old.given
  pub coming : Keeps (coming old before) (coming new after)

-- why no more was read ahead: the source ended, of which `ended` is so, or it failed, or memory was wanting
abbrev pub ReadsNoMore : Type 0 → Halt → Type 0
ReadsNoMore ended Cut = ended
ReadsNoMore ended ReadFault = Unit {0}
ReadsNoMore ended NoMemory = Unit {0}
ReadsNoMore ended (BadLine at) = ⊥
ReadsNoMore ended TooMuch = ⊥

-- fewer bytes come than there is room for
abbrev pub FewerCome : ℕ → Buffered → Option (List ℕ) → Type 0
FewerCome room buffered left = IfSome (coming buffered left) (λ bytes. length bytes < room)

-- .. and none of them is a line feed
abbrev pub NoLineFeedComes : ℕ → Buffered → Option (List ℕ) → Type 0
NoLineFeedComes room buffered left =
    IfSome (coming buffered left) (λ bytes. (length bytes < room) × (position is_line_feed bytes ≡ None))
