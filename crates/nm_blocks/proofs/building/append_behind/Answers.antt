use Rattle.std.proofs.Common.{◌∙◌, ◌++◌, ap, sym, append_assoc}
use Rattle.std.proofs.lemmas.Result.{on_ok_weaker}
use Rattle.nm_blocks.specs.Blocks.{items_of}
use Rattle.nm_blocks.proofs.Pushed.{more_items}
use Rattle.nm_blocks.proofs.building.append_behind.Goals as goal

pub returns-clause-items : goal.returns-clause-items
returns-clause-items g c =
    let made = items_of c.args.made.now.items in
    let first = c.in-Some.first.now.value.items in
    let others = items_of c.in-Some.others.now in
    on_ok_weaker c.share_blocks.result
    (λ e. more_items c.append_joined.new.made.items c.share_blocks.new.made.items c.in-Some.others.now e ∙ ap (λ xs. xs ++ others) c.in_ok-append_joined.ensures.items ∙ append_assoc made first others ∙ ap (λ bs. made ++ items_of bs) (sym c.in-Some.ensures.cases.0))
    c.share_blocks.ensures
