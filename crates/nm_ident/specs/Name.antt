-- Names, namespaces, and the names that properties and classes may have.
use Rattle.std.specs.Prelude.{ℕ, ◌-◌, List, [], ◌∷◌, length, slice_index, Bool, false, not, ◌&&◌, ◌||◌, ◌==◌, nat_le, codes, if◌then◌else◌, Result, Ok, Err}
use Rattle.std.specs.List.{list_all}
use Rattle.nm_terms.specs.Bytes.{is_between, is_digit, is_letter, is_visible, same_text}
use Rattle.nm_ident.specs.Limits.{longest_name, longest_namespace}
use Rattle.nm_ident.specs.QualifiedName.{QualifiedName}
use Rattle.nm_ident.specs.declared.error.NameError.{NameError}
use Rattle.nm_ident.specs.declared.error.NameError.TheVariants.{Bad}

-- a letter or `_`
abbrev pub begins_name : ℕ → Bool
begins_name byte = is_letter byte || (byte == 95)

-- a letter, a digit, `_`, `-` or `.`
abbrev pub continues_name : ℕ → Bool
continues_name byte = begins_name byte || is_digit byte || (byte == 45) || (byte == 46)

-- a name of Namespaces in XML that is ASCII and not too long
abbrev pub is_name : List ℕ → Bool
is_name [] = false
is_name (byte ∷ bytes) = begins_name byte && list_all continues_name bytes && nat_le (length (byte ∷ bytes)) longest_name

-- RDF/XML, section 5.1
abbrev pub rdf_namespace : List ℕ
rdf_namespace = codes "http://www.w3.org/1999/02/22-rdf-syntax-ns#"

-- IEC 61970-552: model headers, and difference models
abbrev pub md_namespace : List ℕ
md_namespace = codes "http://iec.ch/TC57/61970-552/ModelDescription/1#"

abbrev pub dm_namespace : List ℕ
dm_namespace = codes "http://iec.ch/TC57/61970-552/DifferenceModel/1#"

-- `#` or `/`
abbrev pub ends_namespace : ℕ → Bool
ends_namespace byte = (byte == 35) || (byte == 47)

-- visible ASCII bytes, at least two and not too many, that do not begin with `#` and end in `#` or `/`
abbrev pub is_namespace : List ℕ → Bool
is_namespace ns =
    is_between 2 longest_namespace (length ns) && list_all is_visible ns && not (slice_index ns 0 == 35)
    && ends_namespace (slice_index ns (length ns - 1))

-- the one name of the RDF namespace that a statement may have
abbrev pub type_name : QualifiedName
type_name = record { ns = rdf_namespace; local = codes "type" }

-- a name that a property or a class of a model may have
abbrev pub is_predicate : QualifiedName → Bool
is_predicate name =
    is_namespace name.ns && is_name name.local && not (same_text name.ns md_namespace)
    && not (same_text name.ns dm_namespace)
    && (not (same_text name.ns rdf_namespace) || same_text name.local (codes "type"))

-- the name with this namespace and local name
abbrev pub name_of : QualifiedName → Result QualifiedName NameError
name_of name = if is_predicate name then Ok name else Err Bad
