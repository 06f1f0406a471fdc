use Rattle.std.proofs.Common.{◌<◌, ◌≤◌, arith}
use Rattle.sponge.proofs.Blocks.{message_blocks}
use Rattle.sealing.proofs.SealedBlocks.{sealed_blocks}
use Rattle.sealing.proofs.mode.seal.seal_text.Goals as goal

pub returns : goal.returns
returns g c =
    let t = g.R.Rate.setting in
    let pos : 0 < t.block = omega (arith, g.R.Rate.sets.low) in
    let small : t.block ≤ 40 = omega (arith, g.R.Rate.sets.high) in
    let xs = c.args.bytes.now in
    let s = g.E.Engine.state c.args.engine.now in
    let e = message_blocks t 2 4 pos xs s in
    let f = sealed_blocks t pos small xs s (g.met.E.Engine.whole c.args.engine.now).whole in
    record { sealed = cc; state = cc }
