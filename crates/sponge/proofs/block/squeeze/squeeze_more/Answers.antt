use Rattle.std.proofs.Common.{◌<◌, ◌≤◌, ◌∙◌, length, arith}
use Rattle.sponge.proofs.Squeezing.{squeeze_done, squeeze_on}
use Rattle.sponge.proofs.block.squeeze.squeeze_more.Goals as goal

pub loop-block-preserved : goal.loop-block-preserved
loop-block-preserved g c =
    let within : c.loop-block.block-index < length c.loop-block.more = omega arith in
    squeeze_on _ c.loop-block.more _ _ _ within c.turn.ensures c.read.ensures ∙ c.loop-block.invariant

pub returns : goal.returns
returns g c =
    let past : length c.loop-block.more ≤ c.loop-block.block-index = omega arith in
    squeeze_done _ c.loop-block.more _ _ past c.loop-block.invariant
