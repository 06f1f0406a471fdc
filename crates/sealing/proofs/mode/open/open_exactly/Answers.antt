use Rattle.std.proofs.Common.{◌<◌, ◌≤◌, arith}
use Rattle.sealing.proofs.Exactly.{opened_law}
use Rattle.sealing.proofs.mode.open.open_exactly.Goals as goal

pub returns-clause-law : goal.returns-clause-law
returns-clause-law g c =
    let t = g.R.Rate.setting in
    let sets = g.R.Rate.sets in
    let pos : 0 < t.block = omega (arith, sets.low) in
    let small : t.block ≤ 40 = omega (arith, sets.high) in
    let u = c.args.under in
    opened_law t pos small u.key.now u.nonce.now u.label.now c.args.sealed.now c.args.tag.now c.args.text.now
    (g.E.Engine.state c.args.engine.now) _ _ _ c.open_place.ensures
