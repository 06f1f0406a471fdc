use Rattle.std.proofs.Common.{◌≡◌, ℕ, ◌*◌, ◌/◌, ◌%◌, List, length, take, drop, get_or, rules, sym, ap, ◌∙◌, arith}
use Rattle.std.proofs.lemmas.List.{length-take, length-drop, get_or-take, get_or-drop}
use Rattle.sycon.specs.Permutation.{bit}
use Rattle.sycon.proofs.Digits.{bit-digit}
use Rattle.sycon.proofs.Packing.{pack_at}
use Rattle.sycon.specs.Steps.{holding}
use Rattle.columns.specs.Columns.{column_bits}
use Rattle.columns.proofs.Folding.{folded, bit-folded}
use Rattle.columns.proofs.bits.byte_at.Goals as goal

pub returns : goal.returns
unfolding holding
returns c =
    let cs = c.args.columns.now in
    let k = c.args.k in
    let first = 8 * (k % 8) in
    let eight : List ℕ = take 8 (drop first cs) in
    let all : length eight ≡ 8 = length-take 8 (drop first cs) ∙ omega (arith, length-drop first cs, c.told-columns) in
    let byte : c.fold.result ≡ folded 8 (λ x. bit x (k / 8)) eight = search rules in
    sym (pack_at (column_bits cs) k c.requires c.fold.result (search rules)
    (λ i h.
    sym (ap (λ n. bit n i) byte
    ∙ bit-folded 8 (λ x. bit x (k / 8)) eight (omega arith) (λ i h. bit-digit (get_or eight i 0) (k / 8)) i (omega arith)
    ∙ ap (λ x. bit x (k / 8)) (get_or-take 8 (drop first cs) i 0 h ∙ get_or-drop first cs i 0))))
