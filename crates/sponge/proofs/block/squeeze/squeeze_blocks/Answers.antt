use Rattle.sponge.proofs.Squeezing.{squeeze_first}
use Rattle.sponge.proofs.block.squeeze.squeeze_blocks.Goals as goal

pub returns : goal.returns
returns g c =
    squeeze_first c.read-blocks.result (g.E.Engine.state c.args.engine.now) c.squeeze_more.new.more c.read-blocks.ensures
    c.squeeze_more.ensures
