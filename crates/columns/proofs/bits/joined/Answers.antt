use Rattle.std.proofs.Common.{◌≡◌, length, rules, ap, ◌∙◌, arith}
use Rattle.sycon.specs.Permutation.{bit}
use Rattle.columns.proofs.Folding.{folded, bit-folded}
use Rattle.columns.proofs.bits.joined.Goals as goal

pub returns : goal.returns
returns c j h =
    let ds = c.args.digits in
    let five : length ds ≡ 5 = search rules in
    let whole : c.fold.result ≡ folded 8 (λ d. d) ds = search rules in
    ap (λ n. bit n j) whole ∙ bit-folded 8 (λ d. d) ds (omega arith) (λ j h. c.requires j (omega arith)) j (omega arith)
