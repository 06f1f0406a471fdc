use Rattle.std.proofs.Common.{◌/◌, ◌^◌}
use lib.Bits.{and_mask}
use Rattle.sycon.specs.Permutation.{bit}
use Rattle.columns.proofs.bits.digit.Goals as goal

pub returns-clause-value : goal.returns-clause-value
unfolding bit
returns-clause-value c = and_mask (c.args.x / 2 ^ c.args.k) 1
