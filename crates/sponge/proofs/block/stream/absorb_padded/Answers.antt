use Rattle.std.proofs.Common.{◌<◌, arith}
use Rattle.sponge.proofs.Blocks.{message_blocks}
use Rattle.sponge.proofs.block.stream.absorb_padded.Goals as goal

pub returns : goal.returns
returns g c =
    let t = g.R.Rate.setting in
    let pos : 0 < t.block = omega (arith, g.R.Rate.sets.low) in
    let e = message_blocks t c.args.domain.0 c.args.last.0 pos c.args.bytes.now (g.E.Engine.state c.args.engine.now) in
    cc
