use Rattle.std.proofs.Common.{◌≡◌, get_or, rules, ap, ◌∙◌, arith}
use Rattle.sycon.specs.Permutation.{bit}
use Rattle.sycon.proofs.Digits.{bit-digit}
use Rattle.columns.proofs.Folding.{folded, bit-folded}
use Rattle.columns.proofs.bits.row_of.Goals as goal

pub returns : goal.returns
returns c k h =
    let cs = c.args.columns.now in
    let j = c.args.j in
    let row : c.fold.result ≡ folded 64 (λ x. bit x j) cs = search rules in
    ap (λ n. bit n k) row
    ∙ bit-folded 64 (λ x. bit x j) cs (omega (arith, c.told-columns)) (λ i h. bit-digit (get_or cs i 0) j) k (omega (arith, c.told-columns))
