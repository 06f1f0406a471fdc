use Rattle.std.proofs.Common.{◌<◌, ◌≤◌, arith}
use Rattle.sponge.specs.Stream.{opened_from}
use Rattle.sponge.proofs.Blocks.{message_blocks}
use Rattle.sealing.proofs.OpenedBlocks.{opened_stream}
use Rattle.sealing.proofs.mode.open.open_text.Goals as goal

pub returns : goal.returns
returns g c =
    let t = g.R.Rate.setting in
    let pos : 0 < t.block = omega (arith, g.R.Rate.sets.low) in
    let small : t.block ≤ 40 = omega (arith, g.R.Rate.sets.high) in
    let ys = c.args.bytes.now in
    let s = g.E.Engine.state c.args.engine.now in
    let e = message_blocks t 2 4 pos (opened_from t 0 ys s) s in
    let f = opened_stream t pos small ys s (g.met.E.Engine.whole c.args.engine.now).whole in
    record { opened = cc; state = cc }
