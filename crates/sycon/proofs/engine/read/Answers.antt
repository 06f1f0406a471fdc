use Rattle.std.proofs.Common.{◌≡◌, get_or, rules}
use Rattle.sycon.proofs.Made.{made}
use Rattle.sycon.proofs.Packing.{same_states}
use Rattle.sycon.proofs.engine.read.Goals as goal

pub returns : goal.returns
returns g c =
    let e = c.args.engine.now in
    let s = g.E.Engine.state e in
    same_states c.from_fn.result s c.from_fn.ensures.items.long (g.met.E.Engine.whole e).whole
    (made _ _ 0 (λ k b. b ≡ get_or s k 0) (λ k b q h. search rules) c.from_fn.result 40 c.from_fn.ensures.items)
