use Rattle.std.proofs.Common.{◌≡◌, ◌++◌, ◌∙◌, ap, arith}
use Rattle.std.proofs.lemmas.Grind.{common_steps}
use Rattle.nm_model.specs.Header.{rising_ids}
use Rattle.nm_model.proofs.Ids.{made_of}
use Rattle.nm_model.proofs.header.Header.dependencies.Goals as goal

pub returns : goal.returns
returns c =
    let listed : c.extend_from_slice.new.self.items ≡ c.args.self.now.depends ++ c.args.self.now.supersedes = grind (arith, common_steps) in
    c.of_list.ensures
    ∙ made_of _ _ _ c.sort_unstable.ensures.permutation c.sort_unstable.ensures.sorted c.dedup.ensures.filtered
    ∙ ap rising_ids listed
