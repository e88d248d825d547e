use Rattle.std.proofs.Common.{◌≡◌, ◌∙◌, ap, ℕ, List, [], ◌++◌, codes, append_assoc, append-nil}
use Rattle.std.proofs.lemmas.Result.{on_ok_weaker}
use Rattle.nm_ident.specs.UuidText.{uuid_text}
use Rattle.nm_writer.specs.Canonical.{line_feed}
use Rattle.nm_writer.proofs.header.append_header_start.Goals as goal

pieces : (a b c d e f : List ℕ) → a ++ (b ++ (c ++ (d ++ ((e ++ f) ++ [])))) ≡ a ++ b ++ c ++ d ++ e ++ f
pieces a b c d e f = simp (append_assoc, append-nil)

pub returns : goal.returns
returns c =
    on_ok_weaker c.append_all.result
    (λ e. e ∙ ap (λ (xs : List ℕ). c.args.out.now.items ++ xs)
    (ap (λ (text : List ℕ). codes "<" ++ (c.args.tag.now ++ (codes " rdf:about=\"urn:uuid:" ++ (text ++ ((codes "\">" ++ line_feed) ++ []))))) c.id_text.ensures
    ∙ pieces (codes "<") c.args.tag.now (codes " rdf:about=\"urn:uuid:") (uuid_text c.args.id) (codes "\">") line_feed))
    c.append_all.ensures
