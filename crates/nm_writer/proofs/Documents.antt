-- A document is its parts, written one after the other.
use Rattle.std.proofs.Common.{◌≡◌, ℕ, ◌<◌, length, arith, List, [], ◌∷◌, ◌++◌, true, false, codes, fold, sym, ◌∙◌, ap, append_assoc, append-nil}
use Rattle.std.proofs.lemmas.List.Sums.{fold-append}
use Rattle.nm_model.specs.declared.document.Difference.{Difference}
use Rattle.nm_model.specs.declared.document.Full.{Full}
use Rattle.nm_ident.specs.Name.{dm_namespace}
use Rattle.nm_statement.specs.declared.statement.Statement.{Statement}
use Rattle.nm_writer.specs.Canonical.{canonical_difference, canonical_full, closing, declaration, declarations, elements, front, header_lines, header_start, line_feed, root_start, section, sections, namespaces_in, namespaces_of, xml_line}
use Rattle.nm_writer.specs.Namespaces.{with_namespace}
use Rattle.nm_writer.proofs.Namespaces.{gathered}

-- ---- the declared namespaces

pub gathered_one : (statements : List Statement) → fold with_namespace [] (namespaces_in statements) ≡ namespaces_of (statements ∷ [])
gathered_one statements = ap (fold with_namespace []) (sym (append-nil (namespaces_in statements))) ∙ gathered (namespaces_in statements ++ [])

pub gathered_three : (one two three : List Statement)
    → fold with_namespace (fold with_namespace (fold with_namespace [] (namespaces_in one)) (namespaces_in two)) (namespaces_in three) ≡ namespaces_of (one ∷ two ∷ three ∷ [])
gathered_three one two three =
    ap (fold with_namespace (fold with_namespace (fold with_namespace [] (namespaces_in one)) (namespaces_in two))) (sym (append-nil (namespaces_in three)))
    ∙ sym (fold-append with_namespace (fold with_namespace [] (namespaces_in one)) (namespaces_in two) (namespaces_in three ++ []))
    ∙ sym (fold-append with_namespace [] (namespaces_in one) (namespaces_in two ++ (namespaces_in three ++ [])))
    ∙ gathered (namespaces_in one ++ (namespaces_in two ++ (namespaces_in three ++ [])))

-- ---- parts

three_parts : (start first second third a b c : List ℕ) → first ≡ start ++ a → second ≡ first ++ b → third ≡ second ++ c → third ≡ ((start ++ a) ++ b) ++ c
three_parts start first second third a b c is-first is-second is-third =
    is-third ∙ ap (λ (bytes : List ℕ). bytes ++ c) (is-second ∙ ap (λ (bytes : List ℕ). bytes ++ b) is-first)

front_parts : (start x r d n g f : List ℕ) → ((start ++ (x ++ (r ++ (d ++ [])))) ++ n) ++ ((g ++ f) ++ []) ≡ start ++ (x ++ r ++ d ++ n ++ g ++ f)
front_parts start x r d n g f = simp (append_assoc, append-nil)

section_parts : (start a t b f e d : List ℕ) → ((start ++ (a ++ (t ++ ((b ++ f) ++ [])))) ++ e) ++ d ≡ start ++ (a ++ t ++ b ++ f ++ e ++ d)
section_parts start a t b f e d = simp (append_assoc, append-nil)

pub front_written : (declared : List ℕ) (namespaces : List (List ℕ)) (start first second third : List ℕ) → first ≡ start ++ (xml_line ++ (root_start ++ (declared ++ [])))
    → second ≡ first ++ declarations namespaces → third ≡ second ++ ((codes ">" ++ line_feed) ++ []) → third ≡ start ++ front declared namespaces
front_written declared namespaces start first second third is-first is-second is-third =
    three_parts start first second third (xml_line ++ (root_start ++ (declared ++ []))) (declarations namespaces) ((codes ">" ++ line_feed) ++ []) is-first is-second is-third
    ∙ front_parts start xml_line root_start declared (declarations namespaces) (codes ">") line_feed

pub section_written : (tag : List ℕ) (namespaces : List (List ℕ)) (statements : List Statement) (start first second third : List ℕ)
    → first ≡ start ++ (codes "<" ++ (tag ++ ((codes " rdf:parseType=\"Statements\">" ++ line_feed) ++ []))) → second ≡ first ++ elements false namespaces statements
    → third ≡ second ++ closing tag → third ≡ start ++ section tag namespaces statements
section_written tag namespaces statements start first second third is-first is-second is-third =
    three_parts start first second third (codes "<" ++ (tag ++ ((codes " rdf:parseType=\"Statements\">" ++ line_feed) ++ []))) (elements false namespaces statements) (closing tag) is-first is-second is-third
    ∙ section_parts start (codes "<") tag (codes " rdf:parseType=\"Statements\">") line_feed (elements false namespaces statements) (closing tag)

-- ---- documents

six_parts : (o0 o1 o2 o3 o4 o5 o6 a b c d e f : List ℕ) → o0 ≡ [] → o1 ≡ o0 ++ a → o2 ≡ o1 ++ b → o3 ≡ o2 ++ c → o4 ≡ o3 ++ d → o5 ≡ o4 ++ e → o6 ≡ o5 ++ f
    → o6 ≡ a ++ b ++ c ++ d ++ e ++ f
six_parts o0 o1 o2 o3 o4 o5 o6 a b c d e f is0 is1 is2 is3 is4 is5 is6 =
    is6 ∙ ap (λ (bytes : List ℕ). bytes ++ f) (is5 ∙ ap (λ (bytes : List ℕ). bytes ++ e) (is4 ∙ ap (λ (bytes : List ℕ). bytes ++ d)
    (is3 ∙ ap (λ (bytes : List ℕ). bytes ++ c) (is2 ∙ ap (λ (bytes : List ℕ). bytes ++ b) (is1 ∙ ap (λ (bytes : List ℕ). bytes ++ a) is0)))))

pub full_written : (full : Full) (namespaces : List (List ℕ)) (o0 o1 o2 o3 o4 o5 o6 : List ℕ) → namespaces ≡ namespaces_of (full.statements ∷ []) → o0 ≡ []
    → o1 ≡ o0 ++ front [] namespaces → o2 ≡ o1 ++ header_start (codes "md:FullModel") full.header.id → o3 ≡ o2 ++ header_lines full.header
    → o4 ≡ o3 ++ closing (codes "md:FullModel") → o5 ≡ o4 ++ elements true namespaces full.statements → o6 ≡ o5 ++ closing (codes "rdf:RDF") → o6 ≡ canonical_full full
full_written full namespaces o0 o1 o2 o3 o4 o5 o6 is is0 is1 is2 is3 is4 is5 is6 =
    six_parts o0 o1 o2 o3 o4 o5 o6 (front [] namespaces) (header_start (codes "md:FullModel") full.header.id) (header_lines full.header) (closing (codes "md:FullModel"))
    (elements true namespaces full.statements) (closing (codes "rdf:RDF")) is0 is1 is2 is3 is4 is5 is6
    ∙ ap (λ (declared : List (List ℕ)). front [] declared ++ header_start (codes "md:FullModel") full.header.id ++ header_lines full.header ++ closing (codes "md:FullModel") ++ elements true declared full.statements ++ closing (codes "rdf:RDF")) is

pub difference_written : (difference : Difference) (namespaces : List (List ℕ)) (o0 o1 o2 o3 o4 o5 o6 : List ℕ)
    → namespaces ≡ namespaces_of (difference.change.pre ∷ difference.change.fwd ∷ difference.change.rev ∷ []) → o0 ≡ [] → o1 ≡ o0 ++ front (declaration (codes "dm") dm_namespace) namespaces
    → o2 ≡ o1 ++ header_start (codes "dm:DifferenceModel") difference.header.id → o3 ≡ o2 ++ header_lines difference.header → o4 ≡ o3 ++ sections namespaces difference.change
    → o5 ≡ o4 ++ closing (codes "dm:DifferenceModel") → o6 ≡ o5 ++ closing (codes "rdf:RDF") → o6 ≡ canonical_difference difference
difference_written difference namespaces o0 o1 o2 o3 o4 o5 o6 is is0 is1 is2 is3 is4 is5 is6 =
    let dm = declaration (codes "dm") dm_namespace in
    six_parts o0 o1 o2 o3 o4 o5 o6 (front dm namespaces) (header_start (codes "dm:DifferenceModel") difference.header.id) (header_lines difference.header)
    (sections namespaces difference.change) (closing (codes "dm:DifferenceModel")) (closing (codes "rdf:RDF")) is0 is1 is2 is3 is4 is5 is6
    ∙ ap (λ (declared : List (List ℕ)). front (declaration (codes "dm") dm_namespace) declared ++ header_start (codes "dm:DifferenceModel") difference.header.id ++ header_lines difference.header ++ sections declared difference.change ++ closing (codes "dm:DifferenceModel") ++ closing (codes "rdf:RDF")) is

-- ---- what is left of a document

pub sections_parts : (start one two three : List ℕ) → ((start ++ one) ++ two) ++ three ≡ start ++ (one ++ two ++ three)
sections_parts start one two three = simp append_assoc

pub closing_more : (tag : List ℕ) → 0 < length (closing tag)
closing_more tag = omega arith

pub full_begins : (full : Full) → 0 < length (canonical_full full)
full_begins full = omega arith

pub difference_begins : (difference : Difference) → 0 < length (canonical_difference difference)
difference_begins difference = omega arith
