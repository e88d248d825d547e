-- What the spellings of texts are: no bytes that end a text, and some for each byte.
use Rattle.std.proofs.Common.{◌≡◌, ◌∙◌, ℕ, Bool, true, false, not, ◌&&◌, List, [], ◌∷◌, ◌++◌, suc, length, Option, None, Some, is_none, ap, refl, sym, subst, if◌then◌else◌}
use Rattle.std.specs.Prelude.{◌==◌, codes, nat_eq}
use Rattle.std.specs.List.{flat_map, starts_with}
use Rattle.std.specs.Option.{option_map}
use Rattle.std.proofs.lemmas.Bool.{eqb-true}
use Rattle.nm_text.proofs.Spellings.{text_lacks_greater}
use Rattle.nm_text.proofs.Strays.{later, reference_of, strays_behind_reference}
use Rattle.nm_text.specs.Reference.{first_stray, referred}
use Rattle.nm_piece.specs.Value.{are_references}
use Rattle.nm_text.specs.Escape.{attribute_spelling, spelt_in_attribute, spelt_in_text, text_spelling}
use Rattle.nm_text.specs.Mark.{cdata_end, holds}
use Rattle.nm_text.specs.Split.{lacks}

-- ---- every byte is spelt by a reference, or stands for itself

-- what is shown of the references, and of each other byte alone, holds of all spellings
pub in_text : (P : ℕ → List ℕ → Type 0) → P 38 (codes "&amp;") → P 60 (codes "&lt;") → P 62 (codes "&gt;") → P 13 (codes "&#13;")
    → ((byte : ℕ) → (byte == 38) ≡ false → (byte == 60) ≡ false → (byte == 62) ≡ false → (byte == 13) ≡ false → P byte (byte ∷ [])) → (byte : ℕ) → P byte (spelt_in_text byte)
in_text P ampersand less greater return other byte = by (byte == 38) (byte == 60) (byte == 62) (byte == 13) refl refl refl refl
  where
    known : (this : ℕ) (spelling : List ℕ) → (byte == this) ≡ true → P this spelling → P byte spelling
    known this spelling same holds = subst (λ (x : ℕ). P x spelling) (sym (eqb-true byte this same)) holds

    by : (a l g r : Bool) → (byte == 38) ≡ a → (byte == 60) ≡ l → (byte == 62) ≡ g → (byte == 13) ≡ r
        → P byte (if a then codes "&amp;" else if l then codes "&lt;" else if g then codes "&gt;" else if r then codes "&#13;" else byte ∷ [])
    by true l g r is_a is_l is_g is_r = known 38 (codes "&amp;") is_a ampersand
    by false true g r is_a is_l is_g is_r = known 60 (codes "&lt;") is_l less
    by false false true r is_a is_l is_g is_r = known 62 (codes "&gt;") is_g greater
    by false false false true is_a is_l is_g is_r = known 13 (codes "&#13;") is_r return
    by false false false false is_a is_l is_g is_r = other byte is_a is_l is_g is_r

in_attribute : (P : ℕ → List ℕ → Type 0) → P 34 (codes "&quot;") → P 10 (codes "&#10;") → P 9 (codes "&#9;")
    → ((byte : ℕ) → (byte == 34) ≡ false → (byte == 10) ≡ false → (byte == 9) ≡ false → P byte (spelt_in_text byte)) → (byte : ℕ) → P byte (spelt_in_attribute byte)
in_attribute P quote feed tab other byte = by (byte == 34) (byte == 10) (byte == 9) refl refl refl
  where
    known : (this : ℕ) (spelling : List ℕ) → (byte == this) ≡ true → P this spelling → P byte spelling
    known this spelling same holds = subst (λ (x : ℕ). P x spelling) (sym (eqb-true byte this same)) holds

    by : (q f t : Bool) → (byte == 34) ≡ q → (byte == 10) ≡ f → (byte == 9) ≡ t
        → P byte (if q then codes "&quot;" else if f then codes "&#10;" else if t then codes "&#9;" else spelt_in_text byte)
    by true f t is_q is_f is_t = known 34 (codes "&quot;") is_q quote
    by false true t is_q is_f is_t = known 10 (codes "&#10;") is_f feed
    by false false true is_q is_f is_t = known 9 (codes "&#9;") is_t tab
    by false false false is_q is_f is_t = other byte is_q is_f is_t

-- ---- references

-- bytes of which each `&` begins a reference may follow the spelling
abbrev IsNoStray : ℕ → List ℕ → Type 0
IsNoStray byte spelling = (rest : List ℕ) → are_references rest ≡ true → are_references (spelling ++ rest) ≡ true

none_later : (count : ℕ) (place : Option ℕ) → is_none (later count place) ≡ is_none place
none_later count None = refl
none_later count (Some place) = refl

reference_is_none : (name : List ℕ) (character : ℕ) → lacks 59 name ≡ true → referred name ≡ Some character → (rest : List ℕ) → are_references rest ≡ true → are_references (reference_of name ++ rest) ≡ true
reference_is_none name character ends is rest sound =
    ap (λ (place : Option ℕ). is_none place) (strays_behind_reference name rest character ends is) ∙ none_later (length (reference_of name)) (first_stray rest) ∙ sound

other_is_none : (byte : ℕ) → (byte == 38) ≡ false → IsNoStray byte (byte ∷ [])
other_is_none byte apart rest sound = rw apart (by (first_stray rest) ∙ sound)
  where
    by : (place : Option ℕ) → is_none (option_map suc place) ≡ is_none place
    by None = refl
    by (Some place) = refl

none_in_text : (byte : ℕ) → IsNoStray byte (spelt_in_text byte)
unfolding referred
none_in_text = in_text IsNoStray (reference_is_none (codes "amp") 38 refl refl) (reference_is_none (codes "lt") 60 refl refl) (reference_is_none (codes "gt") 62 refl refl)
    (reference_is_none (codes "#13") 13 refl refl) (λ byte a l g r. other_is_none byte a)

none_in_attribute : (byte : ℕ) → IsNoStray byte (spelt_in_attribute byte)
unfolding referred
none_in_attribute = in_attribute IsNoStray (reference_is_none (codes "quot") 34 refl refl) (reference_is_none (codes "#10") 10 refl refl) (reference_is_none (codes "#9") 9 refl refl)
    (λ byte q f t. none_in_text byte)

none_in_all : (spell : ℕ → List ℕ) → ((byte : ℕ) → IsNoStray byte (spell byte)) → (text : List ℕ) → are_references (flat_map spell text) ≡ true
none_in_all spell each [] = refl
none_in_all spell each (byte ∷ text) = each byte (flat_map spell text) (none_in_all spell each text)

pub text_references : (text : List ℕ) → are_references (text_spelling text) ≡ true
text_references = none_in_all spelt_in_text none_in_text

pub attribute_references : (text : List ℕ) → are_references (attribute_spelling text) ≡ true
attribute_references = none_in_all spelt_in_attribute none_in_attribute

-- ---- marks

-- a mark with `>` is held by no bytes without it
starts_without : (mark bytes : List ℕ) → lacks 62 bytes ≡ true → lacks 62 mark ≡ false → starts_with nat_eq bytes mark ≡ false
starts_without [] bytes lacked held = absurd (let wrong : true ≡ false = held in cc)
starts_without (first ∷ mark) [] lacked held = refl
starts_without (first ∷ mark) (byte ∷ bytes) lacked held = by (nat_eq first byte) refl (starts_without mark bytes)
  where
    by : (same : Bool) → nat_eq first byte ≡ same → (lacks 62 bytes ≡ true → lacks 62 mark ≡ false → starts_with nat_eq bytes mark ≡ false) → (same && starts_with nat_eq bytes mark) ≡ false
    by false is others = refl
    by true is others = behind (first == 62) refl (subst (λ (x : ℕ). (not (x == 62) && lacks 62 bytes) ≡ true) (sym (eqb-true first byte is)) lacked) held
      where
        behind : (greater : Bool) → (first == 62) ≡ greater → (not (first == 62) && lacks 62 bytes) ≡ true → (not greater && lacks 62 mark) ≡ false → starts_with nat_eq bytes mark ≡ false
        behind true is lacked held = absurd (let none : (not true && lacks 62 bytes) ≡ true = rw is at lacked in cc)
        behind false is lacked held = others (rw is at lacked) held

holds_no_end : (bytes : List ℕ) → lacks 62 bytes ≡ true → holds cdata_end bytes ≡ false
holds_no_end [] lacked = refl
holds_no_end (byte ∷ bytes) lacked = rw (starts_without cdata_end (byte ∷ bytes) lacked refl, holds_no_end bytes (behind (not (byte == 62)) lacked)) refl
  where
    behind : (first : Bool) → (first && lacks 62 bytes) ≡ true → lacks 62 bytes ≡ true
    behind true both = both
    behind false both = absurd cc

pub text_holds_no_end : (text : List ℕ) → holds cdata_end (text_spelling text) ≡ false
text_holds_no_end text = holds_no_end (text_spelling text) (text_lacks_greater text)
