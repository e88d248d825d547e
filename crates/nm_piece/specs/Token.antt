-- The piece that a token stands for.
use Rattle.std.specs.Option.{option_map}
use Rattle.nm_piece.specs.declared.piece.Piece.{Piece}
use Rattle.nm_piece.specs.declared.piece.Piece.TheVariants.{Start, Doctype, Open, Close, Text, Skip}
use Rattle.nm_piece.specs.declared.raw.Token.{Token}
use Rattle.nm_piece.specs.declared.raw.Token.TheVariants.{Start as RawStart, Doctype as RawDoctype, Open as RawOpen, Close as RawClose, Text as RawText, Skip as RawSkip}
use Rattle.nm_piece.specs.Raw.{name_of}

abbrev pub piece_of : Token → Piece
piece_of (RawStart encoding) = Start (option_map (λ name. name.now) encoding)
piece_of RawDoctype = Doctype
piece_of (RawOpen name attributes empty) = Open (name_of name) attributes empty
piece_of (RawClose name) = Close (name_of name)
piece_of (RawText text) = Text text
piece_of RawSkip = Skip
