-- Spellings of texts are texts, and so is what is read of a text.
use Rattle.std.proofs.Common.{◌≡◌, ◌∙◌, ℕ, Bool, true, false, ◌&&◌, ◌||◌, List, [], ◌∷◌, ◌++◌, map, Option, None, Some, refl, sym, ap, subst, encode_utf8, nat_le, inl, inr, ◌⊎◌, if◌then◌else◌}
use Rattle.std.specs.Prelude.{◌==◌, codes, option_and_then}
use Rattle.std.specs.Fmt.{option_append}
use Rattle.std.specs.List.{flat_map}
use Rattle.std.specs.Option.{option_map}
use Rattle.std.specs.Str.Parse.{digits_value}
use Rattle.std.proofs.lemmas.Bool.{eqb-true}
use Rattle.nm_terms.specs.Bytes.{same_text}
use Rattle.nm_text.specs.Characters.{is_character, is_text}
use Rattle.nm_text.specs.Escape.{attribute_spelling, spelt_in_attribute, spelt_in_text, text_spelling}
use Rattle.nm_text.specs.LineEnds.{line_end_before, normal_lines, read_before}
use Rattle.nm_text.specs.Meaning.{attribute_value, run_text, white_as_space, with_spaces}
use Rattle.nm_text.specs.Reference.{are_digits, by_number, character_of, meant_behind, numbered, predefined, referred, without_references}
use Rattle.nm_text.specs.Utf8.{is_whole, place_after, place_after_byte}
use Rattle.nm_text.specs.declared.character.Place.{Place}
use Rattle.nm_text.specs.declared.character.Place.TheVariants.{Between, Last, LastTwo, LastThree, AfterE0, AfterED, AfterEF, AfterEFBF, AfterF0, AfterF4, Wrong}
use Rattle.nm_text.proofs.Utf8Texts.{character_is_whole, place_after_two, texts_by_bytes}

-- ---- single bytes

-- each reference leads where its character does, and each white byte where a space does
record LeadsAlike (place : Place) : Type 0 where
  pub ampersand : place_after place (codes "&amp;") ≡ place_after_byte place 38
  pub less : place_after place (codes "&lt;") ≡ place_after_byte place 60
  pub greater : place_after place (codes "&gt;") ≡ place_after_byte place 62
  pub return : place_after place (codes "&#13;") ≡ place_after_byte place 13
  pub quote : place_after place (codes "&quot;") ≡ place_after_byte place 34
  pub feed : place_after place (codes "&#10;") ≡ place_after_byte place 10
  pub tab : place_after place (codes "&#9;") ≡ place_after_byte place 9
  pub return_as_feed : place_after_byte place 13 ≡ place_after_byte place 10
  pub both : place_after_byte (place_after_byte place 13) 10 ≡ place_after_byte place 10
  pub feed_as_space : place_after_byte place 10 ≡ place_after_byte place 32
  pub tab_as_space : place_after_byte place 9 ≡ place_after_byte place 32

leads_alike : (place : Place) → LeadsAlike place
leads_alike Between = record { ampersand = refl; less = refl; greater = refl; return = refl; quote = refl; feed = refl; tab = refl; return_as_feed = refl; both = refl; feed_as_space = refl; tab_as_space = refl }
leads_alike Last = record { ampersand = refl; less = refl; greater = refl; return = refl; quote = refl; feed = refl; tab = refl; return_as_feed = refl; both = refl; feed_as_space = refl; tab_as_space = refl }
leads_alike LastTwo = record { ampersand = refl; less = refl; greater = refl; return = refl; quote = refl; feed = refl; tab = refl; return_as_feed = refl; both = refl; feed_as_space = refl; tab_as_space = refl }
leads_alike LastThree = record { ampersand = refl; less = refl; greater = refl; return = refl; quote = refl; feed = refl; tab = refl; return_as_feed = refl; both = refl; feed_as_space = refl; tab_as_space = refl }
leads_alike AfterE0 = record { ampersand = refl; less = refl; greater = refl; return = refl; quote = refl; feed = refl; tab = refl; return_as_feed = refl; both = refl; feed_as_space = refl; tab_as_space = refl }
leads_alike AfterED = record { ampersand = refl; less = refl; greater = refl; return = refl; quote = refl; feed = refl; tab = refl; return_as_feed = refl; both = refl; feed_as_space = refl; tab_as_space = refl }
leads_alike AfterEF = record { ampersand = refl; less = refl; greater = refl; return = refl; quote = refl; feed = refl; tab = refl; return_as_feed = refl; both = refl; feed_as_space = refl; tab_as_space = refl }
leads_alike AfterEFBF = record { ampersand = refl; less = refl; greater = refl; return = refl; quote = refl; feed = refl; tab = refl; return_as_feed = refl; both = refl; feed_as_space = refl; tab_as_space = refl }
leads_alike AfterF0 = record { ampersand = refl; less = refl; greater = refl; return = refl; quote = refl; feed = refl; tab = refl; return_as_feed = refl; both = refl; feed_as_space = refl; tab_as_space = refl }
leads_alike AfterF4 = record { ampersand = refl; less = refl; greater = refl; return = refl; quote = refl; feed = refl; tab = refl; return_as_feed = refl; both = refl; feed_as_space = refl; tab_as_space = refl }
leads_alike Wrong = record { ampersand = refl; less = refl; greater = refl; return = refl; quote = refl; feed = refl; tab = refl; return_as_feed = refl; both = refl; feed_as_space = refl; tab_as_space = refl }

-- ---- spellings

abbrev Leads : List ℕ → ℕ → Type 0
Leads spelling byte = (place : Place) → place_after place spelling ≡ place_after_byte place byte

leads_as : (spelling : List ℕ) (byte known : ℕ) → (byte == known) ≡ true → Leads spelling known → Leads spelling byte
leads_as spelling byte known same leads = subst (Leads spelling) (sym (eqb-true byte known same)) leads

leads_in_text : (byte : ℕ) → Leads (spelt_in_text byte) byte
leads_in_text byte = by (byte == 38) (byte == 60) (byte == 62) (byte == 13) refl refl refl refl
  where
    by : (ampersand less greater return : Bool) → (byte == 38) ≡ ampersand → (byte == 60) ≡ less → (byte == 62) ≡ greater → (byte == 13) ≡ return
        → Leads (if ampersand then codes "&amp;" else if less then codes "&lt;" else if greater then codes "&gt;" else if return then codes "&#13;" else byte ∷ []) byte
    by true less greater return a l g r = leads_as (codes "&amp;") byte 38 a (λ (place : Place). (leads_alike place).ampersand)
    by false true greater return a l g r = leads_as (codes "&lt;") byte 60 l (λ (place : Place). (leads_alike place).less)
    by false false true return a l g r = leads_as (codes "&gt;") byte 62 g (λ (place : Place). (leads_alike place).greater)
    by false false false true a l g r = leads_as (codes "&#13;") byte 13 r (λ (place : Place). (leads_alike place).return)
    by false false false false a l g r = λ (place : Place). refl

leads_in_attribute : (byte : ℕ) → Leads (spelt_in_attribute byte) byte
leads_in_attribute byte = by (byte == 34) (byte == 10) (byte == 9) refl refl refl
  where
    by : (quote feed tab : Bool) → (byte == 34) ≡ quote → (byte == 10) ≡ feed → (byte == 9) ≡ tab
        → Leads (if quote then codes "&quot;" else if feed then codes "&#10;" else if tab then codes "&#9;" else spelt_in_text byte) byte
    by true feed tab q f t = leads_as (codes "&quot;") byte 34 q (λ (place : Place). (leads_alike place).quote)
    by false true tab q f t = leads_as (codes "&#10;") byte 10 f (λ (place : Place). (leads_alike place).feed)
    by false false true q f t = leads_as (codes "&#9;") byte 9 t (λ (place : Place). (leads_alike place).tab)
    by false false false q f t = leads_in_text byte

spelling_leads : (spell : ℕ → List ℕ) → ((byte : ℕ) → Leads (spell byte) byte) → (text : List ℕ) (place : Place) → place_after place (flat_map spell text) ≡ place_after place text
spelling_leads spell each [] place = refl
spelling_leads spell each (byte ∷ text) place =
    place_after_two place (spell byte) (flat_map spell text)
    ∙ ap (λ (place : Place). place_after place (flat_map spell text)) (each byte place)
    ∙ spelling_leads spell each text (place_after_byte place byte)

same_text_by_bytes : (xs ys : List ℕ) → place_after Between xs ≡ place_after Between ys → is_text xs ≡ is_text ys
same_text_by_bytes xs ys same = texts_by_bytes xs ∙ ap is_whole same ∙ sym (texts_by_bytes ys)

-- a spelling is a text exactly where what it spells is one
pub spelling_is_text : (text : List ℕ) → is_text (text_spelling text) ≡ is_text text
spelling_is_text text = same_text_by_bytes (text_spelling text) text (spelling_leads spelt_in_text leads_in_text text Between)

pub attribute_spelling_is_text : (text : List ℕ) → is_text (attribute_spelling text) ≡ is_text text
attribute_spelling_is_text text = same_text_by_bytes (attribute_spelling text) text (spelling_leads spelt_in_attribute leads_in_attribute text Between)

-- ---- ends of lines, and spaces

lines_lead : (bytes : List ℕ) (place : Place) → place_after place (normal_lines bytes) ≡ place_after place bytes
lines_lead [] place = refl
lines_lead (byte ∷ bytes) place =
    place_after_two place (read_before byte bytes) (normal_lines bytes)
    ∙ lines_lead bytes (place_after place (read_before byte bytes))
    ∙ by (byte == 13) bytes refl
  where
    by : (return : Bool) (bytes : List ℕ) → (byte == 13) ≡ return → place_after (place_after place (if return then line_end_before bytes else byte ∷ [])) bytes ≡ place_after (place_after_byte place byte) bytes
    by true [] is = sym ((leads_alike place).return_as_feed) ∙ ap (place_after_byte place) (sym (eqb-true byte 13 is))
    by true (next ∷ bytes) is = at_feed (next == 10) refl
      where
        return : byte ≡ 13
        return = eqb-true byte 13 is

        at_feed : (feed : Bool) → (next == 10) ≡ feed → place_after (place_after place (if feed then [] else 10 ∷ [])) (next ∷ bytes) ≡ place_after (place_after_byte place byte) (next ∷ bytes)
        at_feed true f =
            ap (λ (next : ℕ). place_after (place_after_byte place next) bytes) (eqb-true next 10 f)
            ∙ ap (λ (place : Place). place_after place bytes) (sym (leads_alike place).both)
            ∙ ap (λ (next : ℕ). place_after (place_after_byte (place_after_byte place 13) next) bytes) (sym (eqb-true next 10 f))
            ∙ ap (λ (byte : ℕ). place_after (place_after_byte (place_after_byte place byte) next) bytes) (sym return)
        at_feed false f =
            ap (λ (place : Place). place_after place (next ∷ bytes)) (sym (leads_alike place).return_as_feed)
            ∙ ap (λ (byte : ℕ). place_after (place_after_byte place byte) (next ∷ bytes)) (sym return)
    by false bytes is = refl

white_leads : (byte : ℕ) (place : Place) → place_after_byte place (white_as_space byte) ≡ place_after_byte place byte
white_leads byte place = by (byte == 0x20) (byte == 0x9) (byte == 0xA) (byte == 0xD) refl refl refl refl
  where
    by : (space tab feed return : Bool) → (byte == 0x20) ≡ space → (byte == 0x9) ≡ tab → (byte == 0xA) ≡ feed → (byte == 0xD) ≡ return
        → place_after_byte place (if space || tab || feed || return then 0x20 else byte) ≡ place_after_byte place byte
    by true tab feed return s t f r = ap (place_after_byte place) (sym (eqb-true byte 0x20 s))
    by false true feed return s t f r = sym (leads_alike place).tab_as_space ∙ ap (place_after_byte place) (sym (eqb-true byte 0x9 t))
    by false false true return s t f r = sym (leads_alike place).feed_as_space ∙ ap (place_after_byte place) (sym (eqb-true byte 0xA f))
    by false false false true s t f r = sym (leads_alike place).feed_as_space ∙ sym (leads_alike place).return_as_feed ∙ ap (place_after_byte place) (sym (eqb-true byte 0xD r))
    by false false false false s t f r = refl

spaces_lead : (bytes : List ℕ) (place : Place) → place_after place (map white_as_space bytes) ≡ place_after place bytes
spaces_lead [] place = refl
spaces_lead (byte ∷ bytes) place = spaces_lead bytes (place_after_byte place (white_as_space byte)) ∙ ap (λ (place : Place). place_after place bytes) (white_leads byte place)

pub lines_are_text : (bytes : List ℕ) → is_text (normal_lines bytes) ≡ is_text bytes
lines_are_text bytes = same_text_by_bytes (normal_lines bytes) bytes (lines_lead bytes Between)

pub spaces_are_text : (bytes : List ℕ) → is_text (with_spaces bytes) ≡ is_text bytes
spaces_are_text bytes = same_text_by_bytes (with_spaces bytes) bytes (spaces_lead (normal_lines bytes) Between ∙ lines_lead bytes Between)

-- ---- references

numbered_is_character : (radix : ℕ) (digits : List ℕ) (character : ℕ) → numbered radix digits ≡ Some character → is_character character ≡ true
numbered_is_character radix [] character is = cc
numbered_is_character radix (digit ∷ digits) character is = by (are_digits radix (digit ∷ digits) && nat_le number 0x10FFFF) (is_character number) refl is
  where
    number : ℕ
    number = digits_value radix (digit ∷ digits)

    by : (a b : Bool) → is_character number ≡ b → option_and_then character_of (if a then Some number else None) ≡ Some character → is_character character ≡ true
    by true b kind is = of_number b kind is
      where
        of_number : (b : Bool) → is_character number ≡ b → (if is_character number then Some number else None) ≡ Some character → is_character character ≡ true
        of_number true kind is = let same : Some number ≡ Some character = sym (rw kind refl) ∙ is in let e : number ≡ character = cc in ap is_character (sym e) ∙ kind
        of_number false kind is = let none : None ≡ Some character = sym (rw kind refl) ∙ is in cc
    by false b kind is = cc

predefined_is_character : (name : List ℕ) (character : ℕ) → predefined name ≡ Some character → is_character character ≡ true
predefined_is_character name character is =
    by (same_text name (codes "lt")) (same_text name (codes "gt")) (same_text name (codes "amp")) (same_text name (codes "quot")) (same_text name (codes "apos")) is
  where
    known : (number : ℕ) → is_character number ≡ true → Some number ≡ Some character → is_character character ≡ true
    known number kind is = let same : number ≡ character = cc in ap is_character (sym same) ∙ kind

    by : (lt gt amp quot apos : Bool) → (if lt then Some 60 else if gt then Some 62 else if amp then Some 38 else if quot then Some 34 else if apos then Some 39 else None) ≡ Some character → is_character character ≡ true
    by true gt amp quot apos is = known 60 refl is
    by false true amp quot apos is = known 62 refl is
    by false false true quot apos is = known 38 refl is
    by false false false true apos is = known 34 refl is
    by false false false false true is = known 39 refl is
    by false false false false false is = cc

-- what a reference stands for is a character
pub referred_is_character : (name : List ℕ) (character : ℕ) → referred name ≡ Some character → is_character character ≡ true
unfolding referred
referred_is_character [] character is = cc
referred_is_character (mark ∷ name) character is = by (mark == 35) name is
  where
    digits : (x : Bool) (next : ℕ) (name : List ℕ) → (if x then numbered 16 name else numbered 10 (next ∷ name)) ≡ Some character → is_character character ≡ true
    digits true next name is = numbered_is_character 16 name character is
    digits false next name is = numbered_is_character 10 (next ∷ name) character is

    by : (hash : Bool) (name : List ℕ) → (if hash then by_number name else predefined (mark ∷ name)) ≡ Some character → is_character character ≡ true
    by true [] is = cc
    by true (next ∷ name) is = digits (next == 120) next name is
    by false name is = predefined_is_character (mark ∷ name) character is

-- behind `&` and `;` a text goes on only where a character ends before them
pub wrong_stays : (bytes : List ℕ) → place_after Wrong bytes ≡ Wrong
wrong_stays [] = refl
wrong_stays (byte ∷ bytes) = wrong_stays bytes

abbrev is_wrong_or_between : Place → Place → Type 0
is_wrong_or_between place next = ((place ≡ Between) × (next ≡ Between)) ⊎ (next ≡ Wrong)

ampersand_or_wrong : (place : Place) → is_wrong_or_between place (place_after_byte place 38)
ampersand_or_wrong Between = inl (refl, refl)
ampersand_or_wrong Last = inr refl
ampersand_or_wrong LastTwo = inr refl
ampersand_or_wrong LastThree = inr refl
ampersand_or_wrong AfterE0 = inr refl
ampersand_or_wrong AfterED = inr refl
ampersand_or_wrong AfterEF = inr refl
ampersand_or_wrong AfterEFBF = inr refl
ampersand_or_wrong AfterF0 = inr refl
ampersand_or_wrong AfterF4 = inr refl
ampersand_or_wrong Wrong = inr refl

semicolon_or_wrong : (place : Place) → is_wrong_or_between place (place_after_byte place 59)
semicolon_or_wrong Between = inl (refl, refl)
semicolon_or_wrong Last = inr refl
semicolon_or_wrong LastTwo = inr refl
semicolon_or_wrong LastThree = inr refl
semicolon_or_wrong AfterE0 = inr refl
semicolon_or_wrong AfterED = inr refl
semicolon_or_wrong AfterEF = inr refl
semicolon_or_wrong AfterEFBF = inr refl
semicolon_or_wrong AfterF0 = inr refl
semicolon_or_wrong AfterF4 = inr refl
semicolon_or_wrong Wrong = inr refl

between : (place next : Place) (bytes : List ℕ) → is_wrong_or_between place next → place_after next bytes ≡ Between → (place ≡ Between) × (place_after Between bytes ≡ Between)
between place next bytes (inl both) whole = (both.0, ap (λ (place : Place). place_after place bytes) (sym both.1) ∙ whole)
between place next bytes (inr wrong) whole = let e : Wrong ≡ Between = sym (ap (λ (place : Place). place_after place bytes) wrong ∙ wrong_stays bytes) ∙ whole in cc

-- where the bytes are read from, and where what they stand for is
abbrev start : Option (List ℕ) → Place → Place
start None place = place
start (Some came) place = Between

meaning_is_whole : (bytes : List ℕ) (came : Option (List ℕ)) (text : List ℕ) (place : Place) → meant_behind came bytes ≡ Some text → place_after place bytes ≡ Between → place_after (start came place) text ≡ Between
meaning_is_whole [] None text place is whole = let none : [] ≡ text = cc in ap (place_after place) (sym none) ∙ whole
meaning_is_whole [] (Some came) text place is whole = cc
meaning_is_whole (byte ∷ bytes) None text place is whole =
    by (byte == 38) refl is (λ (came : Option (List ℕ)) (text : List ℕ) (place : Place). meaning_is_whole bytes came text place)
  where
    by : (ampersand : Bool) → (byte == 38) ≡ ampersand
        → option_append (if ampersand then Some [] else Some (byte ∷ [])) (meant_behind (if ampersand then Some [] else None) bytes) ≡ Some text
        → ((came : Option (List ℕ)) (text : List ℕ) (place : Place) → meant_behind came bytes ≡ Some text → place_after place bytes ≡ Between → place_after (start came place) text ≡ Between)
        → place_after place text ≡ Between
    by true same is others = of_rest (meant_behind (Some []) bytes) refl is
      where
        of_rest : (rest : Option (List ℕ)) → meant_behind (Some []) bytes ≡ rest → option_append (Some []) rest ≡ Some text → place_after place text ≡ Between
        of_rest None reads is = cc
        of_rest (Some more) reads is =
            let at : place_after (place_after_byte place 38) bytes ≡ Between = ap (λ (byte : ℕ). place_after (place_after_byte place byte) bytes) (sym (eqb-true byte 38 same)) ∙ whole in
            let both = between place (place_after_byte place 38) bytes (ampersand_or_wrong place) at in
            let text_is : more ≡ text = cc in
            ap (λ (place : Place). place_after place text) both.0 ∙ ap (place_after Between) (sym text_is) ∙ others (Some []) more Between reads both.1
    by false same is others = of_rest (meant_behind None bytes) refl is
      where
        of_rest : (rest : Option (List ℕ)) → meant_behind None bytes ≡ rest → option_append (Some (byte ∷ [])) rest ≡ Some text → place_after place text ≡ Between
        of_rest None reads is = cc
        of_rest (Some more) reads is =
            let text_is : byte ∷ more ≡ text = cc in
            ap (place_after place) (sym text_is) ∙ others None more (place_after_byte place byte) reads whole
meaning_is_whole (byte ∷ bytes) (Some came) text place is whole =
    by (byte == 59) refl is (λ (came : Option (List ℕ)) (text : List ℕ) (place : Place). meaning_is_whole bytes came text place)
  where
    by : (ends : Bool) → (byte == 59) ≡ ends
        → option_append (if ends then option_map encode_utf8 (referred came) else Some []) (meant_behind (if ends then None else Some (came ++ byte ∷ [])) bytes) ≡ Some text
        → ((came : Option (List ℕ)) (text : List ℕ) (place : Place) → meant_behind came bytes ≡ Some text → place_after place bytes ≡ Between → place_after (start came place) text ≡ Between)
        → place_after Between text ≡ Between
    by true same is others = of_rest (referred came) (meant_behind None bytes) refl refl is
      where
        of_rest : (found : Option ℕ) (rest : Option (List ℕ)) → referred came ≡ found → meant_behind None bytes ≡ rest → option_append (option_map encode_utf8 found) rest ≡ Some text → place_after Between text ≡ Between
        of_rest None rest refers reads is = cc
        of_rest (Some character) None refers reads is = cc
        of_rest (Some character) (Some more) refers reads is =
            let at : place_after (place_after_byte place 59) bytes ≡ Between = ap (λ (byte : ℕ). place_after (place_after_byte place byte) bytes) (sym (eqb-true byte 59 same)) ∙ whole in
            let both = between place (place_after_byte place 59) bytes (semicolon_or_wrong place) at in
            let text_is : encode_utf8 character ++ more ≡ text = cc in
            ap (place_after Between) (sym text_is) ∙ place_after_two Between (encode_utf8 character) more
            ∙ ap (λ (place : Place). place_after place more) (character_is_whole character (referred_is_character came character refers))
            ∙ others None more Between reads both.1
    by false same is others = of_rest (meant_behind (Some (came ++ byte ∷ [])) bytes) refl is
      where
        of_rest : (rest : Option (List ℕ)) → meant_behind (Some (came ++ byte ∷ [])) bytes ≡ rest → option_append (Some []) rest ≡ Some text → place_after Between text ≡ Between
        of_rest None reads is = cc
        of_rest (Some more) reads is =
            let text_is : more ≡ text = cc in
            ap (place_after Between) (sym text_is) ∙ others (Some (came ++ byte ∷ [])) more (place_after_byte place byte) reads whole

pub is_between_says : (place : Place) → is_whole place ≡ true → place ≡ Between
is_between_says Between whole = refl
is_between_says Last whole = cc
is_between_says LastTwo whole = cc
is_between_says LastThree whole = cc
is_between_says AfterE0 whole = cc
is_between_says AfterED whole = cc
is_between_says AfterEF whole = cc
is_between_says AfterEFBF whole = cc
is_between_says AfterF0 whole = cc
is_between_says AfterF4 whole = cc
is_between_says Wrong whole = cc

-- what is read of a text is a text
pub meaning_is_text : (bytes text : List ℕ) → is_text bytes ≡ true → without_references bytes ≡ Some text → is_text text ≡ true
meaning_is_text bytes text is reads =
    let whole = is_between_says (place_after Between bytes) (sym (texts_by_bytes bytes) ∙ is) in
    texts_by_bytes text ∙ ap is_whole (meaning_is_whole bytes None text Between reads whole)

pub run_is_text : (bytes text : List ℕ) → is_text bytes ≡ true → run_text bytes ≡ Some text → is_text text ≡ true
run_is_text bytes text is reads = meaning_is_text (normal_lines bytes) text (lines_are_text bytes ∙ is) reads

pub value_is_text : (bytes text : List ℕ) → is_text bytes ≡ true → attribute_value bytes ≡ Some text → is_text text ≡ true
value_is_text bytes text is reads = meaning_is_text (with_spaces bytes) text (spaces_are_text bytes ∙ is) reads
