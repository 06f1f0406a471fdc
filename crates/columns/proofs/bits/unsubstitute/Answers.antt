use Rattle.std.proofs.Common.{map}
use Rattle.std.specs.List.{range_with_len}
use Rattle.sycon.specs.Permutation.{sbox}
use Rattle.sycon.proofs.Bijections.{place}
use Rattle.columns.proofs.Held.{looked_up_back}
use Rattle.columns.proofs.bits.unsubstitute.Goals as goal

-- the table has the place of each number in the S-box
pub returns : goal.returns
unfolding place
returns c = looked_up_back (map (place sbox) (range_with_len 0 32)) c.args.columns.now c.look_up.result c.look_up.ensures tt
