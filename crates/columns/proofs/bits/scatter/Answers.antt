use Rattle.std.proofs.Common.{◌≡◌, ℕ, ◌<◌, rules}
use Rattle.sycon.proofs.Made.{made}
use Rattle.sycon.proofs.Packing.{pack_same}
use Rattle.sycon.specs.Permutation.{bit}
use Rattle.sycon.specs.Steps.{holding}
use Rattle.words.specs.Words.{word_bits}
use Rattle.columns.specs.Columns.{column_bits}
use Rattle.columns.proofs.bits.scatter.Goals as goal

pub returns : goal.returns
unfolding holding
returns c =
    let f = column_bits c.args.columns.now in
    pack_same (word_bits c.from_fn.result) f
    (λ j k hj hk. made _ _ 0 (λ j y. (k : ℕ) → k < 64 → bit y k ≡ f j k) (λ j y f e. search rules)
    c.from_fn.result 5 c.from_fn.ensures.items j hj k hk)
