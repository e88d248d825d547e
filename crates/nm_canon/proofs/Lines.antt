-- The lines of a canonical document are what is written of its blocks.
use Rattle.std.proofs.Common.{◌≡◌, ◌∙◌, ℕ, Bool, true, false, not, ◌&&◌, List, [], ◌∷◌, ◌++◌, Option, None, Some, is_some, refl, sym, ap, append_assoc, append-nil, arith}
use Rattle.std.specs.Prelude.{◌==◌, codes}
use Rattle.std.specs.List.{AllByRecursion, flat_map, list_all}
use Rattle.std.proofs.lemmas.Bool.Decides.{nat_tests}
use Rattle.nm_ident.proofs.Idents.{id_of-name_bytes, list_all-weaker}
use Rattle.nm_ident.proofs.UuidTexts.{uuid_text-all_uuid_bytes}
use Rattle.nm_ident.specs.Ident.{id_of, is_sound_ident, urn_prefix}
use Rattle.nm_ident.specs.Name.{continues_name}
use Rattle.nm_ident.specs.UuidText.{is_uuid_byte, uuid_text}
use Rattle.nm_ident.specs.QualifiedName.{QualifiedName}
use Rattle.nm_ident.specs.declared.ident.Ident.{Ident}
use Rattle.nm_statement.specs.Sound.{is_sound_object}
use Rattle.nm_statement.specs.declared.object.Object.{Object}
use Rattle.nm_statement.specs.declared.object.Object.TheVariants.{Literal, Resource, Iri}
use Rattle.nm_statement.specs.declared.statement.Statement.{Statement}
use Rattle.nm_piece.specs.declared.piece.QName.{QName}
use Rattle.nm_piece.specs.Name.{qname_text}
use Rattle.nm_reader.specs.Blocks.{Blocks, End}
use Rattle.nm_text.specs.Escape.{attribute_spelling, spelt_in_attribute, text_spelling}
use Rattle.nm_writer.specs.Canonical.{closing, element, element_of, element_start, element_tag, line_feed, link_line, model_line, object_line, optional_line, properties_of, property_line, tag_of, value_line}
use Rattle.nm_canon.proofs.Made.{blocks_of, element_spelt, identifying, link_block, model_block, object_block, object_of, object_with, optional_block, property_block, spelt_with, text_inside, urn_of, value_block}
use Rattle.nm_canon.proofs.Written.{bytes_of}

-- ---- bytes that are written as they are

abbrev is_plain : ℕ → Bool
is_plain byte = not (byte == 34) && not (byte == 10) && not (byte == 9) && not (byte == 38) && not (byte == 60) && not (byte == 62) && not (byte == 13)

plain_byte : (byte : ℕ) → is_plain byte ≡ true → spelt_in_attribute byte ≡ byte ∷ []
plain_byte byte plain = by (byte == 34) (byte == 10) (byte == 9) (byte == 38) (byte == 60) (byte == 62) (byte == 13) refl refl refl refl refl refl refl plain
  where
    by : (q f t a l g r : Bool) → (byte == 34) ≡ q → (byte == 10) ≡ f → (byte == 9) ≡ t → (byte == 38) ≡ a → (byte == 60) ≡ l → (byte == 62) ≡ g → (byte == 13) ≡ r
        → (not q && not f && not t && not a && not l && not g && not r) ≡ true → spelt_in_attribute byte ≡ byte ∷ []
    by true f t a l g r is_q is_f is_t is_a is_l is_g is_r e = absurd cc
    by false true t a l g r is_q is_f is_t is_a is_l is_g is_r e = absurd cc
    by false false true a l g r is_q is_f is_t is_a is_l is_g is_r e = absurd cc
    by false false false true l g r is_q is_f is_t is_a is_l is_g is_r e = absurd cc
    by false false false false true g r is_q is_f is_t is_a is_l is_g is_r e = absurd cc
    by false false false false false true r is_q is_f is_t is_a is_l is_g is_r e = absurd cc
    by false false false false false false true is_q is_f is_t is_a is_l is_g is_r e = absurd cc
    by false false false false false false false is_q is_f is_t is_a is_l is_g is_r e = rw (is_q, is_f, is_t, is_a, is_l, is_g, is_r) refl

plain_first : (first others : Bool) → (first && others) ≡ true → (first ≡ true) × (others ≡ true)
plain_first true others both = (refl, both)
plain_first false others both = absurd cc

plain_spelling : (bytes : List ℕ) → list_all is_plain bytes ≡ true → attribute_spelling bytes ≡ bytes
plain_spelling [] plain = refl
plain_spelling (byte ∷ bytes) plain =
    let parts = plain_first (is_plain byte) (list_all is_plain bytes) plain in
    ap (λ (spelling : List ℕ). spelling ++ attribute_spelling bytes) (plain_byte byte parts.0) ∙ ap (λ (others : List ℕ). byte ∷ others) (plain_spelling bytes parts.1)

name_byte_is_plain : (byte : ℕ) → continues_name byte ≡ true → is_plain byte ≡ true
name_byte_is_plain byte continues = grind (arith, nat_tests)

uuid_byte_is_plain : (byte : ℕ) → is_uuid_byte byte ≡ true → is_plain byte ≡ true
uuid_byte_is_plain byte is = grind (arith, nat_tests)

spelt_id : (ident : Ident) → is_sound_ident ident ≡ true → attribute_spelling (id_of ident) ≡ id_of ident
spelt_id ident kept = plain_spelling (id_of ident) (list_all-weaker continues_name is_plain name_byte_is_plain (id_of ident) (id_of-name_bytes ident kept))

spelt_hash : (ident : Ident) → is_sound_ident ident ≡ true → attribute_spelling (35 ∷ id_of ident) ≡ 35 ∷ id_of ident
spelt_hash ident kept = ap (λ (bytes : List ℕ). 35 ∷ bytes) (spelt_id ident kept)

pub spelt_urn : (id : ℕ) → attribute_spelling (urn_of id) ≡ urn_of id
spelt_urn id = ap (λ (bytes : List ℕ). urn_prefix ++ bytes) (plain_spelling (uuid_text id) (list_all-weaker is_uuid_byte is_plain uuid_byte_is_plain (uuid_text id) (uuid_text-all_uuid_bytes id)))

-- ---- lines with a value

inside_written : (text : List ℕ) → bytes_of (text_inside text) ≡ text_spelling text
inside_written [] = refl
inside_written (byte ∷ text) = append-nil (text_spelling (byte ∷ text))

value_parts : (tag spelling rest : List ℕ) → (codes "<" ++ tag ++ codes ">" ++ spelling ++ codes "</" ++ tag ++ codes ">" ++ line_feed) ++ rest
    ≡ (60 ∷ (tag ++ codes ">")) ++ (spelling ++ ((60 ∷ 47 ∷ (tag ++ codes ">")) ++ (10 ∷ rest)))
value_parts tag spelling rest = simp append_assoc

pub value_written : (name : QName) (text : List ℕ) (behind : Blocks) → value_line (qname_text name) text ++ bytes_of behind ≡ bytes_of (value_block name text behind)
value_written name text behind =
    let tag = qname_text name in
    value_parts tag (text_spelling text) (bytes_of behind)
    ∙ ap (λ (inner : List ℕ). (60 ∷ (tag ++ codes ">")) ++ (inner ++ ((60 ∷ 47 ∷ (tag ++ codes ">")) ++ (10 ∷ bytes_of behind)))) (sym (inside_written text))

-- ---- lines with a reference

link_parts : (tag spelling rest : List ℕ) → (codes "<" ++ tag ++ codes " rdf:resource=\"" ++ spelling ++ codes "\"/>" ++ line_feed) ++ rest
    ≡ (60 ∷ (tag ++ (((32 ∷ (codes "rdf:resource" ++ (61 ∷ 34 ∷ (spelling ++ 34 ∷ [])))) ++ []) ++ codes "/>"))) ++ (10 ∷ rest)
link_parts tag spelling rest = simp append_assoc

link_written : (name : QName) (target spelling : List ℕ) (behind : Blocks) → attribute_spelling target ≡ spelling
    → link_line (qname_text name) spelling ++ bytes_of behind ≡ bytes_of (link_block name target behind)
link_written name target spelling behind is =
    ap (λ (bytes : List ℕ). link_line (qname_text name) bytes ++ bytes_of behind) (sym is) ∙ link_parts (qname_text name) (attribute_spelling target) (bytes_of behind)

object_written : (name : QName) (object : Object) (behind : Blocks) → is_sound_object object ≡ true → object_line (qname_text name) object ++ bytes_of behind ≡ bytes_of (object_block name object behind)
object_written name (Literal text) behind sound = value_written name text behind
object_written name (Resource ident) behind sound = link_written name (35 ∷ id_of ident) (codes "#" ++ id_of ident) behind (spelt_hash ident sound)
object_written name (Iri iri) behind sound = link_written name iri (attribute_spelling iri) behind refl

pub tag_is : (namespaces : List (List ℕ)) (name : QualifiedName) → tag_of namespaces name ≡ qname_text (spelt_with namespaces name)
tag_is namespaces name = append_assoc _ (58 ∷ []) name.local

property_written : (namespaces : List (List ℕ)) (statement : Statement) (behind : Blocks) → is_sound_object statement.object ≡ true
    → property_line namespaces statement ++ bytes_of behind ≡ bytes_of (property_block namespaces statement behind)
property_written namespaces statement behind sound =
    ap (λ (tag : List ℕ). object_line tag statement.object ++ bytes_of behind) (tag_is namespaces statement.predicate)
    ∙ object_written (spelt_with namespaces statement.predicate) statement.object behind sound

pub model_written : (name : QName) (id : ℕ) (behind : Blocks) → model_line (qname_text name) id ++ bytes_of behind ≡ bytes_of (model_block name id behind)
model_written name id behind = link_written name (urn_of id) (urn_of id) behind (spelt_urn id)

pub optional_written : (name : QName) (text : Option (List ℕ)) (behind : Blocks) → optional_line (qname_text name) text ++ bytes_of behind ≡ bytes_of (optional_block name text behind)
optional_written name None behind = refl
optional_written name (Some text) behind = value_written name text behind

-- ---- lists

pub list_written : {X : Type 0} (P : X → Type 0) (line : X → List ℕ) (block : X → Blocks → Blocks) → ((x : X) (behind : Blocks) → P x → line x ++ bytes_of behind ≡ bytes_of (block x behind))
    → (xs : List X) (behind : Blocks) → AllByRecursion P xs → flat_map line xs ++ bytes_of behind ≡ bytes_of (blocks_of block xs behind)
list_written P line block each [] behind all = refl
list_written P line block each (x ∷ xs) behind all =
    append_assoc (line x) (flat_map line xs) (bytes_of behind)
    ∙ ap (λ (bytes : List ℕ). line x ++ bytes) (list_written P line block each xs behind all.1)
    ∙ each x (blocks_of block xs behind) all.0

-- ---- objects

abbrev pub SoundObject : Statement → Type 0
SoundObject statement = is_sound_object statement.object ≡ true

abbrev framed : List ℕ → List ℕ → List ℕ → List ℕ → List ℕ
framed tag said lines rest = 60 ∷ (tag ++ (said ++ (62 ∷ 10 ∷ (lines ++ (60 ∷ 47 ∷ (tag ++ (62 ∷ 10 ∷ rest)))))))

outer_parts : (o s g l lines c rest : List ℕ) → ((o ++ s ++ g ++ l) ++ lines ++ c) ++ rest ≡ o ++ (s ++ (g ++ (l ++ (lines ++ (c ++ rest)))))
outer_parts o s g l lines c rest = simp append_assoc

closing_parts : (tag rest : List ℕ) → closing tag ++ rest ≡ 60 ∷ 47 ∷ (tag ++ (62 ∷ 10 ∷ rest))
closing_parts tag rest = simp append_assoc

frame_written : (tag said lines rest : List ℕ) → ((codes "<" ++ tag ++ said ++ codes ">" ++ line_feed) ++ lines ++ closing tag) ++ rest ≡ framed tag said lines rest
frame_written tag said lines rest =
    outer_parts (60 ∷ tag) said (codes ">") line_feed lines (closing tag) rest
    ∙ ap (λ (bytes : List ℕ). 60 ∷ (tag ++ (said ++ (62 ∷ 10 ∷ (lines ++ bytes))))) (closing_parts tag rest)

pub frame_blocks : (tag said lines rest : List ℕ) → (60 ∷ (tag ++ ((said ++ []) ++ codes ">"))) ++ ((10 ∷ lines) ++ ((60 ∷ 47 ∷ (tag ++ codes ">")) ++ (10 ∷ rest))) ≡ framed tag said lines rest
frame_blocks tag said lines rest = ap (λ (said : List ℕ). (60 ∷ (tag ++ (said ++ codes ">"))) ++ ((10 ∷ lines) ++ ((60 ∷ 47 ∷ (tag ++ codes ">")) ++ (10 ∷ rest)))) (append-nil said) ∙ simp append_assoc

opened_parts : (o s g l lines rest : List ℕ) → (o ++ s ++ g ++ l) ++ (lines ++ rest) ≡ o ++ (s ++ (g ++ (l ++ (lines ++ rest))))
opened_parts o s g l lines rest = simp append_assoc

-- an opening tag on a line, lines, and the closing tag
pub frame_opened : (tag said lines rest : List ℕ) → ((60 ∷ tag) ++ said ++ codes ">" ++ line_feed) ++ (lines ++ (closing tag ++ rest))
    ≡ (60 ∷ (tag ++ ((said ++ []) ++ codes ">"))) ++ ((10 ∷ lines) ++ ((60 ∷ 47 ∷ (tag ++ codes ">")) ++ (10 ∷ rest)))
frame_opened tag said lines rest =
    opened_parts (60 ∷ tag) said (codes ">") line_feed lines (closing tag ++ rest)
    ∙ ap (λ (bytes : List ℕ). 60 ∷ (tag ++ (said ++ (62 ∷ 10 ∷ (lines ++ bytes))))) (closing_parts tag rest)
    ∙ sym (frame_blocks tag said lines rest)

frame_parts : (tag opening value lines rest : List ℕ) → ((codes "<" ++ tag ++ ((32 ∷ opening) ++ value ++ codes "\"") ++ codes ">" ++ line_feed) ++ lines ++ (codes "</" ++ tag ++ codes ">" ++ line_feed)) ++ rest
    ≡ (60 ∷ (tag ++ (((32 ∷ (opening ++ (value ++ 34 ∷ []))) ++ []) ++ codes ">"))) ++ ((10 ∷ lines) ++ ((60 ∷ 47 ∷ (tag ++ codes ">")) ++ (10 ∷ rest)))
frame_parts tag opening value lines rest =
    frame_written tag ((32 ∷ opening) ++ value ++ codes "\"") lines rest
    ∙ ap (λ (said : List ℕ). framed tag said lines rest) (append_assoc (32 ∷ opening) value (34 ∷ []))
    ∙ sym (frame_blocks tag (32 ∷ (opening ++ (value ++ 34 ∷ []))) lines rest)

object_with_written : (namespaces : List (List ℕ)) (is_new : Bool) (subject : Ident) (class : Option QualifiedName) (properties : List Statement) (behind : Blocks)
    → is_sound_ident subject ≡ true → AllByRecursion SoundObject properties
    → (element_start (qname_text (element_spelt namespaces class)) is_new subject ++ flat_map (property_line namespaces) properties ++ closing (qname_text (element_spelt namespaces class))) ++ bytes_of behind
    ≡ bytes_of (object_with namespaces is_new subject class properties behind)
object_with_written namespaces is_new subject class properties behind kept sound =
    let tag = qname_text (element_spelt namespaces class) in
    let lines = flat_map (property_line namespaces) properties in
    let inner : lines ≡ bytes_of (blocks_of (property_block namespaces) properties End) =
    sym (append-nil lines) ∙ list_written SoundObject (property_line namespaces) (property_block namespaces) (property_written namespaces) properties End sound in
    ap (λ (lines : List ℕ). (element_start tag is_new subject ++ lines ++ closing tag) ++ bytes_of behind) inner
    ∙ by is_new (bytes_of (blocks_of (property_block namespaces) properties End))
  where
    tag : List ℕ
    tag = qname_text (element_spelt namespaces class)

    by : (is_new : Bool) (lines : List ℕ) → (element_start (qname_text (element_spelt namespaces class)) is_new subject ++ lines ++ closing (qname_text (element_spelt namespaces class))) ++ bytes_of behind
        ≡ (60 ∷ (qname_text (element_spelt namespaces class) ++ ((32 ∷ (qname_text (identifying is_new subject).name ++ (61 ∷ 34 ∷ (attribute_spelling (identifying is_new subject).value ++ 34 ∷ []))) ++ []) ++ codes ">")))
        ++ ((10 ∷ lines) ++ ((60 ∷ 47 ∷ (qname_text (element_spelt namespaces class) ++ codes ">")) ++ (10 ∷ bytes_of behind)))
    by true lines =
        frame_parts (qname_text (element_spelt namespaces class)) (codes "rdf:ID=\"") (id_of subject) lines (bytes_of behind)
        ∙ ap (λ (value : List ℕ). (60 ∷ (qname_text (element_spelt namespaces class) ++ (((32 ∷ (codes "rdf:ID=\"" ++ (value ++ 34 ∷ []))) ++ []) ++ codes ">"))) ++ ((10 ∷ lines) ++ ((60 ∷ 47 ∷ (qname_text (element_spelt namespaces class) ++ codes ">")) ++ (10 ∷ bytes_of behind)))) (sym (spelt_id subject kept))
    by false lines =
        frame_parts (qname_text (element_spelt namespaces class)) (codes "rdf:about=\"#") (id_of subject) lines (bytes_of behind)
        ∙ ap (λ (value : List ℕ). (60 ∷ (qname_text (element_spelt namespaces class) ++ (((32 ∷ (codes "rdf:about=\"" ++ (value ++ 34 ∷ []))) ++ []) ++ codes ">"))) ++ ((10 ∷ lines) ++ ((60 ∷ 47 ∷ (qname_text (element_spelt namespaces class) ++ codes ">")) ++ (10 ∷ bytes_of behind)))) (sym (spelt_hash subject kept))

element_tag_is : (namespaces : List (List ℕ)) (class : Option QualifiedName) → element_tag namespaces class ≡ qname_text (element_spelt namespaces class)
element_tag_is namespaces None = refl
element_tag_is namespaces (Some name) = tag_is namespaces name

pub element_written : (is_full : Bool) (namespaces : List (List ℕ)) (subject : Ident) (statements : List Statement) (behind : Blocks) → is_sound_ident subject ≡ true → AllByRecursion SoundObject (properties_of statements)
    → element is_full namespaces subject statements ++ bytes_of behind ≡ bytes_of (object_of is_full namespaces subject statements behind)
element_written is_full namespaces subject statements behind kept sound =
    let class = element_of statements in
    let is_new = is_full && is_some class in
    ap (λ (tag : List ℕ). (element_start tag is_new subject ++ flat_map (property_line namespaces) (properties_of statements) ++ closing tag) ++ bytes_of behind) (element_tag_is namespaces class)
    ∙ object_with_written namespaces is_new subject class (properties_of statements) behind kept sound
