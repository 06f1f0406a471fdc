use Rattle.std.proofs.Common.{ap, ◌∙◌, ap₂}
use lib.Bits.{bit_xor}
use Rattle.sycon.specs.Permutation.{bit}
use Rattle.sycon.proofs.Digits.{bit-xor, bit-rotate}
use Rattle.words.proofs.row.Rotations.spread.Goals as goal

pub returns : goal.returns
returns c k h =
    let x = c.args.x in
    let ab = c.args.self in
    let a = c.rotate_right in
    let b = c.rotate_right-2 in
    bit-xor (bit_xor x a.result) b.result k
    ∙ ap₂ bit_xor
    (bit-xor x a.result k ∙ ap (bit_xor (bit x k)) (ap (λ n. bit n k) a.ensures ∙ bit-rotate x ab.0 k c.ranges.x.fits h))
    (ap (λ n. bit n k) b.ensures ∙ bit-rotate x ab.1 k c.ranges.x.fits h)
