use Rattle.std.proofs.Common.{ℕ, List, ◌∙◌, subst, rules, length}
use Rattle.std.proofs.lemmas.Fn.{always_returns_same}
use Rattle.std.specs.List.Sorted.{IsStrictlySortedBy, IsBinarySearchResult, IsSearchInRange}
use Rattle.nm_ident.specs.Order.{text_cmp}
use Rattle.nm_writer.proofs.Namespaces.{place_is}
use Rattle.nm_writer.proofs.prefixes.Namespaces.place_of.Goals as goal

pub returns : goal.returns
returns c =
    let ns = c.args.ns.now in
    let found = c.binary_search_by.result in
    let is = c.deref.ensures.value ∙ c.self.view_is in
    place_is c.args.self.now ns (subst (IsStrictlySortedBy text_cmp) c.self.view_is c.self.invariant) found
    (subst (λ (texts : List (List ℕ)). IsSearchInRange found (length texts)) is c.binary_search_by.ensures.bound)
    (subst (λ (texts : List (List ℕ)). IsBinarySearchResult (λ text. text_cmp text ns) texts found) is
    (c.binary_search_by.ensures.position (λ text. text_cmp text ns) (always_returns_same _ _ _ (λ a r f k. search rules))))
