use Rattle.std.proofs.Common.{◌≡◌, ℕ, ◌+◌, ◌<◌, ◌≤◌, ◌⊎◌, sym, ap, ◌∙◌, inl, inr, ⊎_elim, add-zero, arith, lit<}
use Rattle.std.proofs.lemmas.Bool.{cases_lt}
use Rattle.sycon.specs.Permutation.{bit}
use Rattle.sycon.proofs.Fields.{replaced_here, replaced_there}
use Rattle.sycon.proofs.Packing.{bit-of_digit}
use Rattle.columns.proofs.bits.with_bit.Goals as goal

apart : (i j : ℕ) → (i ≡ j → ⊥) → (i < j) ⊎ (j + 1 ≤ i)
apart i j o = ⊎_elim (λ below. inl below) (λ past. inr (omega arith)) (cases_lt i j)

pub returns : goal.returns
returns c =
    let x = c.args.x in
    let j = c.args.j in
    let b = c.args.b in
    let small : b < 2 = omega arith in
    let within : j + 1 ≤ 8 = omega arith in
    record {
      here = ap (bit _) (sym (add-zero j)) ∙ replaced_here 8 1 j within x b small 0 (lit< tt) ∙ bit-of_digit b small;
      there = λ i h o. replaced_there 8 1 j within x b small i h (apart i j o);
    }
