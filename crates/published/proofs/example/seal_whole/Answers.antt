use Rattle.std.proofs.Common.{replicate, refl, ap, ◌∙◌}
use Rattle.published.specs.Examples.{seal_64, sealed_64}
use Rattle.published.proofs.Computed.{sealed_whole}
use Rattle.published.proofs.example.seal_whole.Goals as goal

pub returns : goal.returns
unfolding seal_64 sealed_64
returns g c =
    let e =
    c.seal.ensures.outcome
    ∙ sealed_whole c.args.key.now c.args.nonce.now c.args.label.now c.args.text.now (replicate 39 0)
    (replicate 16 0) (g.E.Engine.state c.args.engine.now) c.told-key c.told-nonce refl c.told-text refl in
    record { bytes = ap (λ o. o.1) e; tag = ap (λ o. o.2) e; clear = ap (λ o. o.3) e }
