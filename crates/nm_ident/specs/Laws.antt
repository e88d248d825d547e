-- What the definitions of this crate keep to.
use Rattle.std.specs.Prelude.{◌≡◌, ℕ, ◌^◌, ◌<◌, List, ◌∷◌, ◌++◌, true, Some, length}
use Rattle.std.specs.Cmp.{IsTotalOrder}
use Rattle.std.specs.List.{list_all}
use Rattle.std.specs.declared.cmp.Ordering.TheVariants.{Equal}
use Rattle.nm_ident.specs.Ident.{ident_of_about, ident_of_id, id_of, is_sound_ident, urn_prefix}
use Rattle.nm_ident.specs.Name.{is_name}
use Rattle.nm_ident.specs.Order.{ident_cmp, name_cmp}
use Rattle.nm_ident.specs.QualifiedName.{QualifiedName}
use Rattle.nm_ident.specs.UuidText.{is_uuid_byte, uuid_of, uuid_text}
use Rattle.nm_ident.specs.declared.ident.Ident.{Ident}
use Rattle.nm_ident.specs.declared.ident.Ident.TheVariants.{Uuid}

-- `rdf:ID="_U"`, `rdf:about="#_U"` and `rdf:about="urn:uuid:U"` name the same resource
abbrev pub SpellingsAgree : Type 0
SpellingsAgree = (text : List ℕ) (id : ℕ) → uuid_of text ≡ Some id → (ident_of_id (95 ∷ text) ≡ Some (Uuid id)) × (ident_of_about (35 ∷ 95 ∷ text) ≡ Some (Uuid id)) × (ident_of_about (urn_prefix ++ text) ≡ Some (Uuid id))

-- what is written of a number, and that it reads back
pub record UuidTextsReadBack : Type 0 where
  pub read : (id : ℕ) → id < 2 ^ 128 → uuid_of (uuid_text id) ≡ Some id
  pub size : (id : ℕ) → length (uuid_text id) ≡ 36
  pub bytes : (id : ℕ) → list_all is_uuid_byte (uuid_text id) ≡ true

-- the text that is written for an identifier is a name, and names it as `rdf:ID` and behind `#`
abbrev pub IdsReadBack : Type 0
IdsReadBack = (ident : Ident) → is_sound_ident ident ≡ true → (is_name (id_of ident) ≡ true) × (ident_of_id (id_of ident) ≡ Some ident) × (ident_of_about (35 ∷ id_of ident) ≡ Some ident)

-- what is read of the text of an `rdf:ID` or an `rdf:about` is sound
abbrev pub ReadIdentsAreSound : Type 0
ReadIdentsAreSound = (text : List ℕ) (ident : Ident) → (ident_of_id text ≡ Some ident → is_sound_ident ident ≡ true) × (ident_of_about text ≡ Some ident → is_sound_ident ident ≡ true)

-- of two values one stands first, or they stand level; what stands before stands before all that follows
pub record OrdersAreTotal : Type 0 where
  pub idents : IsTotalOrder ident_cmp
  pub names : IsTotalOrder name_cmp

-- only equal values stand level
pub record OrdersTellApart : Type 0 where
  pub idents : (x y : Ident) → ident_cmp x y ≡ Equal → x ≡ y
  pub names : (x y : QualifiedName) → name_cmp x y ≡ Equal → x ≡ y
