use Rattle.std.proofs.Common.{◌+◌, ◌≤◌, ◌<◌, ◌++◌, length, get_or, take, drop, sym, ap, ◌∙◌, arith}
use Rattle.std.proofs.lemmas.List.{drop_all, drop_more}
use Rattle.sponge.proofs.Parts.{written_more, written_whole}
use Rattle.sealing.proofs.mode.copy.Goals as goal

pub loop-i-preserved : goal.loop-i-preserved
loop-i-preserved c =
    let i = c.loop-i.i in
    let to = c.loop-i.to in
    let from = c.args.from.now in
    let within : i < length to = omega arith in
    written_more i to (get_or from i 0) (drop (i + 1) from) within
    ∙ ap (λ ys. take i to ++ ys) (sym (drop_more from i 0 c.loop-i-test.true)) ∙ c.loop-i.invariant

pub returns : goal.returns
returns c =
    let i = c.loop-i.i in
    let h : length c.loop-i.to ≤ i = omega arith in
    written_whole i c.loop-i.to _ _ h (drop_all i c.args.from.now c.loop-i-test.false) c.loop-i.invariant
