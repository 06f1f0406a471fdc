-- Each example, computed.
use Rattle.std.proofs.Common.{refl}
use Rattle.sycon.specs.Examples.{alone, written}
use Rattle.sycon.specs.Permutation.{bit, diffused, turned, origin, arranged}
use Rattle.sycon.specs.Steps.{pl2}
use Rattle.sycon.proofs.examples.examples_stand.Goals as goal

pub returns : goal.returns
unfolding alone written bit diffused turned origin arranged pl2
returns c = ((refl, refl, refl, refl), (refl, refl, refl, refl, refl, refl), refl, refl)
