use Rattle.sycon.proofs.Bijections.{permuted_bijection}
use Rattle.sycon.proofs.laws.permutation_is_onto.Goals as goal

pub returns : goal.returns
returns c r = (permuted_bijection r).onto
