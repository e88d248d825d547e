-- The depth of a few numbers of pairs, by its definition.
use Rattle.std.proofs.Common.{◌≡◌, refl}
use Rattle.nm_tree.specs.Depth.{depth_of}

no_pair : depth_of 0 ≡ 0
unfolding depth_of
no_pair = refl

two_pairs : depth_of 2 ≡ 3
unfolding depth_of
two_pairs = refl

seven_pairs : depth_of 7 ≡ 6
unfolding depth_of
seven_pairs = refl
