-- Worked examples of the definitions, computed.
use Rattle.std.proofs.Common.{◌≡◌, [], ◌∷◌, ◌++◌, codes, true, false, None, Some, refl}
use Rattle.std.specs.Fmt.{digits}
use Rattle.nm_http.specs.Reply.{reply_text, first_lines, other_lines, status_line, phrase_of, line, is_status}

-- a command that was accepted as the first one
accepted : reply_text (record { status = 200; document = false; number = Some 1; fresh = None; allow = None; close = false; body = codes "ok 1" ++ 10 ∷ [] })
    ≡ line (codes "HTTP/1.1 200 OK")
    ++ line (codes "Content-Type: text/plain; charset=utf-8")
    ++ line (codes "Content-Length: 5")
    ++ line (codes "Model-Number: 1")
    ++ line []
    ++ codes "ok 1" ++ 10 ∷ []
unfolding first_lines other_lines status_line phrase_of line digits
accepted = refl

-- a method that the route does not have, on a connection that ends
not_allowed : reply_text (record { status = 405; document = false; number = None; fresh = None; allow = Some (codes "PUT, DELETE"); close = true; body = codes "error 405" ++ 10 ∷ [] })
    ≡ line (codes "HTTP/1.1 405 Method Not Allowed")
    ++ line (codes "Content-Type: text/plain; charset=utf-8")
    ++ line (codes "Content-Length: 10")
    ++ line (codes "Allow: PUT, DELETE")
    ++ line (codes "Connection: close")
    ++ line []
    ++ codes "error 405" ++ 10 ∷ []
unfolding first_lines other_lines status_line phrase_of line digits
not_allowed = refl

-- a document, from a version that was looked up
assembled : reply_text (record { status = 200; document = true; number = Some 12; fresh = Some true; allow = None; close = false; body = codes "<a/>" })
    ≡ line (codes "HTTP/1.1 200 OK")
    ++ line (codes "Content-Type: application/rdf+xml")
    ++ line (codes "Content-Length: 4")
    ++ line (codes "Model-Number: 12")
    ++ line (codes "Model-Look: fresh")
    ++ line []
    ++ codes "<a/>"
unfolding first_lines other_lines status_line phrase_of line digits
assembled = refl

no_phrase : is_status 302 ≡ false
unfolding phrase_of
no_phrase = refl
