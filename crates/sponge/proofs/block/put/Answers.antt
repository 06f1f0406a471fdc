use Rattle.sponge.proofs.Parts.{put_part}
use Rattle.sponge.proofs.block.put.Goals as goal

pub returns : goal.returns
returns c = put_part c.args.at c.args.bytes.now c.args.into.now _ c.copy_from_slice.ensures.after
