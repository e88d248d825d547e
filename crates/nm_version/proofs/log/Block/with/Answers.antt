use Rattle.std.proofs.Common.{◌∙◌, ◌++◌, ◌∷◌, [], ap}
use Rattle.std.proofs.lemmas.List.{map-append}
use Rattle.std.specs.Arc.{arc_value}
use Rattle.nm_version.specs.Log.{behind}
use Rattle.nm_version.proofs.log.Block.with.Goals as goal

pub returns : goal.returns
returns c =
    let entries = c.in_ok-entries.entries.items in
    ap behind c.in_ok-push.ensures.items
    ∙ map-append arc_value entries (c.in_ok-new.field-0 ∷ [])
    ∙ ap (λ entry. behind entries ++ entry ∷ []) c.in_ok-new.ensures.ok
    ∙ ap (λ before. before ++ c.args.entry ∷ []) (c.in_ok-entries.ensures ∙ ap behind c.deref.ensures.value ∙ c.self.view_is)
