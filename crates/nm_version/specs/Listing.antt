-- The log as a stream of a session: the base, the accepted commands in order, and `end`.
use Rattle.std.specs.Prelude.{ℕ, List, ◌++◌, length, codes}
use Rattle.std.specs.Fmt.{decimal}
use Rattle.std.specs.List.{flat_map}
use Rattle.nm_ident.specs.UuidText.{uuid_text}
use Rattle.nm_version.specs.Assembly.{text_line}
use Rattle.nm_version.specs.Kept.{Kept}
use Rattle.nm_version.specs.declared.command.Entry.{Entry}
use Rattle.nm_version.specs.declared.command.Entry.TheVariants.{File, Revise, Redate, Withdraw}

-- a line that ends with the length of the document behind it
abbrev pub with_document : List ℕ → List ℕ → List ℕ
with_document words bytes = text_line (words ++ codes " " ++ decimal (length bytes)) ++ bytes

-- a command as a session has it
abbrev pub entry_text : Entry → List ℕ
entry_text (File day bytes) = with_document (codes "file " ++ day) bytes
entry_text (Revise project bytes) = with_document (codes "revise " ++ uuid_text project) bytes
entry_text (Redate project day) = text_line (codes "redate " ++ uuid_text project ++ codes " " ++ day)
entry_text (Withdraw project) = text_line (codes "withdraw " ++ uuid_text project)

abbrev pub log_of : Kept → List ℕ
log_of kept = with_document (codes "base") kept.bytes ++ flat_map entry_text kept.log ++ text_line (codes "end")
