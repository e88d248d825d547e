-- What a tag declares, and what names mean (Namespaces in XML, sections 3 to 6).
use Rattle.std.specs.Prelude.{ℕ, List, [], ◌∷◌, ◌++◌, length, Bool, true, false, ◌&&◌, not, nat_le, codes, if◌then◌else◌, Option, None, Some, is_some}
use Rattle.std.specs.List.{filter_map, list_all, list_any}
use Rattle.nm_ident.specs.Name.{is_namespace}
use Rattle.nm_terms.specs.Bytes.{same_text}
use Rattle.nm_ident.specs.QualifiedName.{QualifiedName}
use Rattle.nm_piece.specs.declared.piece.Attribute.{Attribute}
use Rattle.nm_piece.specs.declared.piece.QName.{QName}
use Rattle.nm_reader.specs.Opened.{Declaration}

abbrev pub same_prefix : Option (List ℕ) → Option (List ℕ) → Bool
same_prefix None None = true
same_prefix (Some x) (Some y) = same_text x y
same_prefix _ _ = false

-- whether two names are spelt alike
abbrev pub same_spelling : QName → QName → Bool
same_spelling x y = same_prefix x.prefix y.prefix && same_text x.local y.local

-- whether two names are one, whatever their prefixes
abbrev pub same_name : QualifiedName → QualifiedName → Bool
same_name x y = same_text x.ns y.ns && same_text x.local y.local

-- whether no two items are the same
abbrev pub are_distinct_by : {X : Type 0} → (X → X → Bool) → List X → Bool
are_distinct_by same [] = true
are_distinct_by same (x ∷ xs) = not (list_any (same x) xs) && are_distinct_by same xs

abbrev pub xmlns : List ℕ
xmlns = codes "xmlns"

abbrev pub declares : Option (List ℕ) → List ℕ → List ℕ → Option Declaration
declares None local value =
    if same_text local xmlns then Some (record { prefix = None; namespace = value }) else None
declares (Some prefix) local value =
    if same_text prefix xmlns then Some (record { prefix = Some local; namespace = value }) else None

-- `xmlns:p` declares the prefix `p`, and `xmlns` the default namespace
abbrev pub declaration_of : Attribute → Option Declaration
declaration_of attribute = declares attribute.name.prefix attribute.name.local attribute.value

abbrev pub declared_by : List Attribute → List Declaration
declared_by attributes = filter_map declaration_of attributes

-- the declarations in force inside a tag, innermost first
abbrev pub scope_inside : List Declaration → List Attribute → List Declaration
scope_inside outer attributes = declared_by attributes ++ outer

-- the prefix `xml` always has this namespace
abbrev pub xml_namespace : List ℕ
xml_namespace = codes "http://www.w3.org/XML/1998/namespace"

-- the innermost declaration holds
abbrev pub declared : List Declaration → Option (List ℕ) → Option (List ℕ)
declared [] prefix = None
declared (declaration ∷ outer) prefix =
    if same_prefix declaration.prefix prefix then Some declaration.namespace else declared outer prefix

abbrev pub namespace_of : List Declaration → Option (List ℕ) → Option (List ℕ)
namespace_of scope prefix =
    if same_prefix prefix (Some (codes "xml")) then Some xml_namespace else declared scope prefix

-- a name that has no namespace has an empty one here
abbrev pub or_empty : Option (List ℕ) → List ℕ
or_empty None = []
or_empty (Some namespace) = namespace

-- the name of an element: the default namespace is meant where it has no prefix
abbrev pub element_name : List Declaration → QName → QualifiedName
element_name scope name = record { ns = or_empty (namespace_of scope name.prefix); local = name.local }

-- the namespace of an attribute: none where it has no prefix
abbrev pub attribute_namespace : List Declaration → Option (List ℕ) → List ℕ
attribute_namespace scope None = []
attribute_namespace scope (Some prefix) = or_empty (namespace_of scope (Some prefix))

-- an attribute that is no declaration, under the name that is meant
pub record Given : Type 0 where
  pub name : QualifiedName
  pub value : List ℕ

abbrev pub given_unless : Option Declaration → List Declaration → Attribute → Option Given
given_unless (Some declaration) scope attribute = None
given_unless None scope attribute = Some (record {
  name = record { ns = attribute_namespace scope attribute.name.prefix; local = attribute.name.local };
  value = attribute.value;
})

abbrev pub given : List Declaration → Attribute → Option Given
given scope attribute = given_unless (declaration_of attribute) scope attribute

abbrev pub given_by : List Declaration → List Attribute → List Given
given_by scope attributes = filter_map (given scope) attributes

-- whether a prefix is declared; a name without one needs no declaration
abbrev pub is_declared : List Declaration → Option (List ℕ) → Bool
is_declared scope None = true
is_declared scope (Some prefix) = is_some (namespace_of scope (Some prefix))

-- `xml` and `xmlns` are not declared, and no prefix is declared for nothing
abbrev pub is_allowed_prefix : Option (List ℕ) → List ℕ → Bool
is_allowed_prefix None namespace = true
is_allowed_prefix (Some prefix) namespace =
    not (same_text prefix (codes "xml")) && not (same_text prefix xmlns) && not (nat_le (length namespace) 0)

abbrev pub has_declared_prefix : Option Declaration → List Declaration → Attribute → Bool
has_declared_prefix (Some declaration) scope attribute = is_allowed_prefix declaration.prefix declaration.namespace
has_declared_prefix None scope attribute = is_declared scope attribute.name.prefix

-- whether every prefix of a tag is declared there, and each declaration is allowed
abbrev pub has_declared_prefixes : List Declaration → QName → List Attribute → Bool
has_declared_prefixes scope name attributes =
    is_declared scope name.prefix
    && list_all (λ attribute. has_declared_prefix (declaration_of attribute) scope attribute) attributes

abbrev pub are_spelt_alike : Attribute → Attribute → Bool
are_spelt_alike x y = same_spelling x.name y.name

-- whether no attribute of a tag is spelt twice
abbrev pub are_spelt_once : List Attribute → Bool
are_spelt_once attributes = are_distinct_by are_spelt_alike attributes

-- whether an element has a namespace of the kind that is kept
abbrev pub has_namespace : QualifiedName → Bool
has_namespace element = is_namespace element.ns
