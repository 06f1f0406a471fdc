use Rattle.sycon.proofs.Bijections.{permuted_bijection}
use Rattle.sycon.proofs.laws.permutation_is_one_to_one.Goals as goal

pub returns : goal.returns
returns c r = (permuted_bijection r).one_to_one
