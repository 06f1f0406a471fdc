use Rattle.std.proofs.Common.{refl, take, ap, ◌∙◌, arith}
use Rattle.sycon.specs.Permutation.{permuted, rounds}
use Rattle.sycon.proofs.Constants.{begins, constant_in}
use Rattle.sycon.proofs.Steps.{round_more}
use Rattle.sycon.proofs.rounds.run.Goals as goal

pub loop-constant-init : goal.loop-constant-init
unfolding rounds
loop-constant-init g c = refl

pub loop-constant-preserved : goal.loop-constant-preserved
loop-constant-preserved g c =
    let i = c.loop-constant.constant-index in
    round_more i _ _ _ _ (constant_in _ c.args.n i (ap (take c.args.n) c.constants.ensures) c.loop-constant-test.true)
    c.loop-constant.invariant c.round.ensures

pub returns : goal.returns
unfolding permuted
returns g c r h =
    let all = (begins _ c.args.n r (ap (take c.args.n) c.constants.ensures) h).1 in
    c.loop-constant.invariant
    ∙ ap (λ n. rounds n (g.T.Rounds.held c.args.engine.now))
    (omega (arith, all, c.loop-constant-test.false, c.loop-constant.auto.constant-index-end))
