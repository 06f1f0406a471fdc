use Rattle.std.proofs.Common.{◌≡◌, fold, ap, ◌∙◌, rules}
use Rattle.sycon.specs.Permutation.{bit}
use Rattle.sliced.proofs.Gathering.{masked, bit-gathered}
use Rattle.sliced.proofs.steps.gather.Goals as goal

pub returns : goal.returns
returns c k h =
    let x = c.args.x in
    let ts = c.args.terms.now in
    let folded : c.fold.result ≡ fold (masked x k c.ranges.x.fits h) 0 ts = search rules in
    ap (λ n. bit n k) folded ∙ bit-gathered x k c.ranges.x.fits h ts
