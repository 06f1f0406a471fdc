use Rattle.std.proofs.Common.{arith}
use Rattle.sycon.proofs.Packing.{pack-set}
use Rattle.sycon.specs.Steps.{holding}
use Rattle.columns.specs.Columns.{column_bits}
use Rattle.columns.proofs.bits.put_byte.Goals as goal

pub returns : goal.returns
unfolding holding
returns c =
    pack-set (column_bits c.args.columns.now) (column_bits c.loop-i.columns) c.args.k c.args.b
    c.requires c.ranges.b.fits (λ i h. c.loop-i.invariant.0 i (omega arith)) c.loop-i.invariant.1
