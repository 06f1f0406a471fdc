use Rattle.std.proofs.Common.{◌≡◌, ℕ, ◌*◌, get_or, sym, ap, ◌∙◌, ap₂, one-mul, arith}
use Rattle.sycon.specs.Permutation.{bit}
use Rattle.sycon.specs.Steps.{spread}
use Rattle.sycon.proofs.Digits.{bit-digit}
use Rattle.sycon.proofs.Spreading.{halved}
use Rattle.words.proofs.Halving.{amounts, left, half, next}
use Rattle.words.proofs.row.Rotations.spread_back.Goals as goal

pub loop-m-preserved : goal.loop-m-preserved
loop-m-preserved c k h =
    let a = c.args.self.0 in
    let b = c.args.self.1 in
    let i = c.loop-m.m-index in
    let row = c.loop-m.row in
    ap (λ m. spread (bit c.spread-row.result) (m * a) (m * b) k) (next i c.loop-m-test.true)
    ∙ halved a b (get_or amounts i 0) (bit c.args.x) (bit row) (bit c.spread-row.result) (bit-digit row)
    (λ k h. c.spread-row.ensures k h ∙ ap₂ (λ a b. spread (bit row) a b k) c.times.ensures.first c.times.ensures.second)
    (λ k h. ap (λ m. spread (bit row) (m * a) (m * b) k) (sym (half i c.loop-m-test.true)) ∙ c.loop-m.invariant k h) k h

pub returns : goal.returns
returns c k h =
    let i = c.loop-m.m-index in
    let end : i ≡ 6 = omega (arith, c.loop-m-test.false, c.loop-m.auto.m-index-end) in
    let once : (n : ℕ) → n ≡ left i * n = λ n. sym (ap (λ i. left i * n) end ∙ one-mul n) in
    ap₂ (λ a b. spread (bit c.loop-m.row) a b k) (once c.args.self.0) (once c.args.self.1) ∙ c.loop-m.invariant k h
