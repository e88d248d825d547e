-- What readers find: a front of the history, and the version that it tells.
use Rattle.std.specs.Prelude.{◌≡◌, List, Option, None, Some, IfSome}
use Rattle.std.specs.Arc.{arc_value}
use Rattle.std.specs.List.{fold}
use Rattle.std.specs.Global.{Global}
use Rattle.std.specs.declared.sync.Arc.{Arc}
use Rattle.nm_publish.specs.History.{History}
use Rattle.nm_publish.specs.Piece.{IsTold}
use Rattle.nm_version.specs.Kept.{Kept}

-- a front of the history, and the version that it tells
pub record Told : Type 0 where
  pub front : History
  pub kept : Kept

abbrev pub told : History → Kept → Told
told front kept = record { front = front; kept = kept }

-- the same where the version may be wanting
pub record Sign : Type 0 where
  pub front : History
  pub held : Option Kept

abbrev pub behind : Option (Arc Kept Global) → Option Kept
behind None = None
behind (Some held) = Some (arc_value held)

abbrev pub sign : History → Option Kept → Sign
sign front held = record { front = front; held = held }

-- where there is a version it is the one that the front tells
abbrev pub TellsHeld : History → Option Kept → Type 0
TellsHeld front held = IfSome held (λ kept. IsTold front.pieces kept)

-- where the copy has a version it is that of the original
abbrev pub ComesFrom : Option Kept → Option Kept → Type 0
ComesFrom copy original = IfSome copy (λ kept. original ≡ Some kept)

-- the front that is shown once the exhibits are published, one after another
abbrev pub front_after : History → List Told → History
front_after shown exhibits = fold (λ before exhibit. exhibit.front) shown exhibits
