-- The 14 rounds, computed.
use Rattle.std.proofs.Common.{refl}
use Rattle.sycon.specs.Permutation.{permuted, rounds, round, pack, packed, bits, bit, column}
use Rattle.sycon.specs.Permutation.{substituted, diffused, added, turned, origin, arranged}
use Rattle.sycon.proofs.published.example_stands.Goals as goal

pub returns : goal.returns
unfolding permuted rounds round pack packed bits bit column substituted diffused added turned origin arranged
returns c = refl
