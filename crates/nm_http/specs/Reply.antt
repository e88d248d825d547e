-- The text of a reply: a status line, field lines, an empty line and the body (RFC 9112, section 2.1).
use Rattle.std.specs.Prelude.{ℕ, List, [], ◌∷◌, ◌++◌, length, codes, Bool, true, false, Option, None, Some, ◌==◌, is_some, unwrap_or, if◌then◌else◌}
use Rattle.std.specs.Fmt.{decimal}
use Rattle.nm_http.specs.declared.reply.HttpReply.{HttpReply}

-- each status with its phrase
abbrev pub phrases : List (ℕ × List ℕ)
phrases =
    (200, codes "OK")
    ∷ (400, codes "Bad Request")
    ∷ (404, codes "Not Found")
    ∷ (405, codes "Method Not Allowed")
    ∷ (409, codes "Conflict")
    ∷ (411, codes "Length Required")
    ∷ (413, codes "Content Too Large")
    ∷ (422, codes "Unprocessable Content")
    ∷ (431, codes "Request Header Fields Too Large")
    ∷ (501, codes "Not Implemented")
    ∷ (503, codes "Service Unavailable")
    ∷ []

abbrev pub phrase_among : List (ℕ × List ℕ) → ℕ → Option (List ℕ)
phrase_among [] status = None
phrase_among (row ∷ rows) status = if status == row.0 then Some row.1 else phrase_among rows status

unfoldable pub phrase_of : ℕ → Option (List ℕ)
phrase_of status = phrase_among phrases status

-- whether the status has a phrase
abbrev pub is_status : ℕ → Bool
is_status status = is_some (phrase_of status)

-- a line ends with CR LF
unfoldable pub line : List ℕ → List ℕ
line text = text ++ 13 ∷ 10 ∷ []

unfoldable pub status_line : ℕ → List ℕ
status_line status = line (codes "HTTP/1.1 " ++ decimal status ++ codes " " ++ unwrap_or (phrase_of status) [])

-- the media type of a document, and of anything else
abbrev pub type_line : Bool → List ℕ
type_line true = line (codes "Content-Type: application/rdf+xml")
type_line false = line (codes "Content-Type: text/plain; charset=utf-8")

abbrev pub length_line : List ℕ → List ℕ
length_line body = line (codes "Content-Length: " ++ decimal (length body))

abbrev pub number_line : Option ℕ → List ℕ
number_line None = []
number_line (Some number) = line (codes "Model-Number: " ++ decimal number)

abbrev pub look_line : Option Bool → List ℕ
look_line None = []
look_line (Some true) = line (codes "Model-Look: fresh")
look_line (Some false) = line (codes "Model-Look: told")

abbrev pub allow_line : Option (List ℕ) → List ℕ
allow_line None = []
allow_line (Some methods) = line (codes "Allow: " ++ methods)

abbrev pub close_line : Bool → List ℕ
close_line true = line (codes "Connection: close")
close_line false = []

-- what each reply begins with
unfoldable pub first_lines : HttpReply → List ℕ
first_lines reply = status_line reply.status ++ type_line reply.document ++ length_line reply.body

-- the lines that only some replies have
unfoldable pub other_lines : HttpReply → List ℕ
other_lines reply = number_line reply.number ++ look_line reply.fresh ++ allow_line reply.allow ++ close_line reply.close

-- the lines, an empty line, and the body
abbrev pub reply_text : HttpReply → List ℕ
reply_text reply = first_lines reply ++ other_lines reply ++ line [] ++ reply.body
