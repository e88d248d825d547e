use Rattle.std.proofs.Common.{◌≡◌, ◌∙◌, ◌++◌, ◌∷◌, [], length, length-append, ap, arith}
use Rattle.std.specs.Arc.{arc_value}
use Rattle.std.specs.List.{flat_map}
use Rattle.nm_version.specs.Log.{entries_of}
use Rattle.nm_version.proofs.Logs.{one_more}
use Rattle.nm_version.proofs.log.Log.with.Goals as goal

made : (c : goal.In_ok-full-2) → entries_of c.in_ok-full-2.full.items c.in_ok-full-2.last ≡ entries_of c.self.inside.full.items c.self.inside.last ++ c.args.entry ∷ []
made c =
    c.in_ok-full-2.ensures
    ∙ one_more c.self.inside.full.items c.in_ok-full.full.items c.self.inside.last c.in_ok-last.last c.args.entry
    (c.in_ok-full.ensures ∙ ap (flat_map arc_value) c.deref.ensures.value) c.in_ok-last.ensures

pub invariant_of-result : goal.invariant_of-result
invariant_of-result c =
    omega (arith, ap length (made c), length-append (entries_of c.self.inside.full.items c.self.inside.last) (c.args.entry ∷ []), c.self.invariant)

pub returns : goal.returns
returns c = made c ∙ ap (λ before. before ++ c.args.entry ∷ []) c.self.view_is
