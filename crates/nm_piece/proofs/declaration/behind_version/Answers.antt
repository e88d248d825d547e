use Rattle.std.proofs.Common.{◌≡◌, ◌∙◌, ℕ, List, ◌∷◌, Bool, true, false, eqb, Ok, None, refl, sym}
use Rattle.std.proofs.lemmas.Bool.{ne_eqb}
use Rattle.nm_piece.specs.Name.{gap_at}
use Rattle.nm_piece.specs.Reading.{choice}
use Rattle.nm_piece.specs.Start.{behind_version, encoding_at, standalone_at}
use Rattle.nm_piece.proofs.declaration.behind_version.Goals as goal

setting_here : (bytes rest : List ℕ) (byte : ℕ) (behind : List ℕ) (white : Bool) → gap_at bytes ≡ Ok (white, rest) → rest ≡ byte ∷ behind → eqb byte 63 ≡ false → white ≡ true
    → behind_version bytes ≡ choice 101 encoding_at (standalone_at None) rest
unfolding behind_version
setting_here bytes rest byte behind white e w f t = rw (e, w, f, t) refl

pub returns-then-white : goal.returns-then-white
returns-then-white c =
    c.setting.ensures
    ∙ sym (setting_here c.args.bytes.now c.in_ok-white.rest.now c.in_ok-byte.byte c.in_ok-byte.behind.now c.in_ok-white.white (sym c.in_ok-white.ensures) c.in_ok-byte.ensures (ne_eqb c.in_ok-byte.byte 63 c.if-byte-eq63.false) c.if-white.true)
