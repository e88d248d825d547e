-- The names and the numbers of the kinds of fault.
use Rattle.std.specs.Prelude.{ℕ, List, codes}
use Rattle.nm_reader.specs.declared.fault.Code.{Code}
use Rattle.nm_reader.specs.declared.fault.Code.TheVariants as code

abbrev pub code_text : Code → List ℕ
code_text code.Piece = codes "piece"
code_text code.Doctype = codes "doctype"
code_text code.Encoding = codes "encoding"
code_text code.Nesting = codes "nesting"
code_text code.Prefix = codes "prefix"
code_text code.Namespace = codes "namespace"
code_text code.Attribute = codes "attribute"
code_text code.Identifier = codes "identifier"
code_text code.Text = codes "text"
code_text code.Header = codes "header"
code_text code.Stray = codes "stray"
code_text code.Limit = codes "limit"
code_text code.Cut = codes "cut"

abbrev pub code_number : Code → ℕ
code_number code.Piece = 1
code_number code.Doctype = 2
code_number code.Encoding = 3
code_number code.Nesting = 4
code_number code.Prefix = 5
code_number code.Namespace = 6
code_number code.Attribute = 7
code_number code.Identifier = 8
code_number code.Text = 9
code_number code.Header = 10
code_number code.Stray = 11
code_number code.Limit = 12
code_number code.Cut = 13
