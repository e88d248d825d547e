-- A map that leads from each prefix to its first declaration, one declaration more before the others.
use Rattle.std.proofs.Common.{◌≡◌, ℕ, List, ◌∷◌, Bool, true, false, cond, if◌then◌else◌, Option, None, Some, ◌+◌, ◌<◌, length, drop, get_or, refl, sym, ap, ◌∙◌}
use Rattle.std.proofs.lemmas.List.{at_drop_more}
use Rattle.std.proofs.lemmas.Option.{slice_get-get_or}
use Rattle.std.specs.BTreeMap.{BTreeMap, Updates, get, is_at}
use Rattle.std.specs.Cmp.Lexicographic.{texts_ties}
use Rattle.std.specs.List.{slice_get}
use Rattle.std.specs.Option.{option_and_then, option_map}
use denote.Ref.{Bor}
use Rattle.nm_reader.specs.Leading.{found_by, namespace_at, namespace_given, prefix_cmp}
use Rattle.nm_reader.specs.Lent.{prefix_of}
use Rattle.nm_reader.specs.Namespaces.{declared, same_prefix}
use Rattle.nm_reader.specs.Opened.{Declaration}

prefix_ties : (x y : Option (Bor (List ℕ))) → is_at (prefix_cmp x) y ≡ same_prefix (prefix_of x) (prefix_of y)
prefix_ties None None = refl
prefix_ties None (Some y) = refl
prefix_ties (Some x) None = refl
prefix_ties (Some x) (Some y) = sym (texts_ties x.now y.now)

one_before : (declarations : List Declaration) (place : ℕ) (here : Declaration) (same : Bool) (old : Option ℕ) (behind : Option (List ℕ))
    → slice_get declarations place ≡ Some here → option_and_then (namespace_at declarations) old ≡ behind
    → option_and_then (namespace_at declarations) (cond same (Some place) old) ≡ (if same then Some here.namespace else behind)
one_before declarations place here true old behind at is = ap (λ d. option_map namespace_given d) at
one_before declarations place here false old behind at is = is

pub one_more : (declarations : List Declaration) (place next : ℕ) (here : Declaration) (key : Option (Bor (List ℕ))) → place + 1 ≡ next → place < length declarations → here ≡ get_or declarations place here → prefix_of key ≡ here.prefix
    → (old new : BTreeMap (Option (Bor (List ℕ))) ℕ) → Updates prefix_cmp old new key (Some place)
    → ((prefix : Option (Bor (List ℕ))) → found_by declarations old prefix ≡ declared (drop next declarations) (prefix_of prefix))
    → (prefix : Option (Bor (List ℕ))) → found_by declarations new prefix ≡ declared (drop place declarations) (prefix_of prefix)
one_more declarations place next here key behind below is named old new updates leads prefix =
    ap (λ found. option_and_then (namespace_at declarations) found)
    (updates.0 prefix ∙ ap (λ same. cond same (Some place) (get prefix_cmp old prefix)) (prefix_ties key prefix ∙ ap (λ k. same_prefix k (prefix_of prefix)) named))
    ∙ one_before declarations place here (same_prefix here.prefix (prefix_of prefix)) (get prefix_cmp old prefix) (declared (drop (place + 1) declarations) (prefix_of prefix))
    (slice_get-get_or declarations place here below ∙ ap Some (sym is)) (leads prefix ∙ ap (λ n. declared (drop n declarations) (prefix_of prefix)) (sym behind))
    ∙ ap (λ d. declared (d ∷ drop (place + 1) declarations) (prefix_of prefix)) is
    ∙ sym (at_drop_more (λ ds. declared ds (prefix_of prefix)) declarations place here below)
