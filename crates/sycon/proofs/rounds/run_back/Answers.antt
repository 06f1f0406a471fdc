use Rattle.std.proofs.Common.{◌≡◌, min, take, sym, ap, ◌∙◌, arith}
use Rattle.sycon.specs.Permutation.{permuted, rounds}
use Rattle.sycon.proofs.Constants.{begins, last}
use Rattle.sycon.proofs.Steps.{round_less}
use Rattle.sycon.proofs.rounds.run_back.Goals as goal

pub loop-constant-init : goal.loop-constant-init
loop-constant-init g c =
    let n = c.args.n in
    let few : n ≡ min n 14 = omega arith in
    let (left, all) =
    begins _ n n
    (ap (λ it. it.iter.rest.now) c.into_iter-constant-iterator.ensures.into_iter_gives
    ∙ ap (λ it. it.rest.now) c.rev-constant-items.ensures.source
    ∙ c.iter.ensures.rest ∙ ap (take n) c.constants.ensures)
    few
    in
    (left, λ s e. ap (λ n. rounds n s) (few ∙ sym all) ∙ e)

pub loop-constant-preserved : goal.loop-constant-preserved
loop-constant-preserved g c =
    let (left, one_more, this) = last _ _ _ c.loop-constant.invariant.0 c.in-Some.ensures.steps in
    (left, λ s e. c.loop-constant.invariant.1 s (ap (λ n. rounds n s) one_more ∙ round_less _ _ s _ _ this e c.round_back.ensures))

pub returns : goal.returns
unfolding permuted rounds
returns g c r h =
    ap (λ n. rounds n (g.T.Rounds.held c.loop-constant.engine)) (sym h)
    ∙ c.loop-constant.invariant.1 (g.T.Rounds.held c.loop-constant.engine)
    (ap (λ n. rounds n (g.T.Rounds.held c.loop-constant.engine)) c.in-None.ensures.steps.0)
