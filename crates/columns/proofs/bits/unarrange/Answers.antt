use Rattle.std.proofs.Common.{◌%◌, sym, ap, ◌∙◌, arith, rules}
use Rattle.sycon.specs.Permutation.{arranged, bit}
use Rattle.sycon.proofs.Steps.{respects-arranged}
use Rattle.columns.specs.Columns.{column_bits}
use Rattle.columns.proofs.Held.{held_step_back}
use Rattle.columns.proofs.Moving.{put_back_more, put_back-all}
use Rattle.columns.proofs.bits.unarrange.Goals as goal

pub loop-n-preserved : goal.loop-n-preserved
loop-n-preserved c =
    let n = c.loop-n.n in
    let next = c.put_bit.new.columns in
    let at = c.origin_of.ensures.at in (
      search rules,
      put_back_more c.args.columns.now c.loop-n.moved next n (omega arith) c.loop-n.invariant.1
          (ap (column_bits next (n % 5)) (sym at) ∙ c.put_bit.ensures.here ∙ c.digit.ensures.value ∙ ap (λ x. bit x (n % 5)) c.from.ensures)
          (λ j d hj o. c.put_bit.ensures.there j d hj (λ e f. o (e ∙ at) f)),
    )

pub returns : goal.returns
unfolding arranged
returns c =
    let old = c.args.columns.now in
    let new = c.loop-n.moved in
    held_step_back arranged respects-arranged old new (put_back-all old new c.loop-n.n (omega arith) c.loop-n.invariant.1)
