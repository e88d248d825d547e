-- What the fields say of the length, by cases.
use Rattle.std.proofs.Common.{◌≡◌, ℕ, true, false, List, None, Some, Ok, Err, refl}
use Rattle.std.specs.Prelude.{find}
use Rattle.std.specs.List.{list_all}
use Rattle.nm_http.specs.Fields.{FieldSaid, agrees, content_length, is_named, length_name, length_of}

pub none_due : (fields : List FieldSaid) → find (is_named length_name) fields ≡ None → content_length fields ≡ Ok None
none_due fields none = rw none refl

pub some_due : (fields : List FieldSaid) (field : FieldSaid) (number : ℕ) → find (is_named length_name) fields ≡ Some field
    → length_of field.1 ≡ Some number → list_all (agrees number) fields ≡ true → content_length fields ≡ Ok (Some number)
some_due fields field number found spelt agreed = rw (found, spelt, agreed) refl

pub apart_due : (fields : List FieldSaid) (field : FieldSaid) (number : ℕ) → find (is_named length_name) fields ≡ Some field
    → length_of field.1 ≡ Some number → list_all (agrees number) fields ≡ false → content_length fields ≡ Err (record {})
apart_due fields field number found spelt apart = rw (found, spelt, apart) refl

pub bad_due : (fields : List FieldSaid) (field : FieldSaid) → find (is_named length_name) fields ≡ Some field
    → length_of field.1 ≡ None → content_length fields ≡ Err (record {})
bad_due fields field found bad = rw (found, bad) refl
