use Rattle.std.proofs.Common.{◌≡◌, ◌+◌, ◌≤◌, length, get_or, arith, rules}
use Rattle.sycon.proofs.Made.{made}
use Rattle.sponge.proofs.Parts.{part_read}
use Rattle.sponge.proofs.block.read.Goals as goal

pub returns : goal.returns
returns g c =
    let s = g.E.Engine.state c.args.engine.now in
    let at = c.args.at in
    let whole : length s ≡ 40 = (g.met.E.Engine.whole c.args.engine.now).whole in
    let room : at + g.row.N ≤ length s = omega arith in
    part_read g.row.N at s c.from_fn.result room c.from_fn.ensures.items.long
    (made _ _ 0 (λ k y. y ≡ get_or s (at + k) 0) (λ k y f e. search rules) c.from_fn.result g.row.N c.from_fn.ensures.items)
