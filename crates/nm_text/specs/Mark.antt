-- Marks that may not stand inside: the end of CDATA, which a text may not hold, and two dashes, which a
-- comment may not hold (XML 1.0, sections 2.4, 2.5 and 2.7).
use Rattle.std.specs.Prelude.{ℕ, List, [], ◌∷◌, Bool, ◌||◌, nat_eq, codes}
use Rattle.std.specs.List.{starts_with}

-- `]]>`
abbrev pub cdata_end : List ℕ
cdata_end = codes "]]>"

-- `--`
abbrev pub two_dashes : List ℕ
two_dashes = codes "--"

-- whether the mark stands somewhere in the bytes
abbrev pub holds : List ℕ → List ℕ → Bool
holds mark [] = starts_with nat_eq [] mark
holds mark (byte ∷ bytes) = starts_with nat_eq (byte ∷ bytes) mark || holds mark bytes
