use Rattle.std.proofs.Common.{◌≡◌, ℕ, ◌<◌, rules}
use Rattle.sycon.proofs.Made.{made}
use Rattle.sycon.proofs.Packing.{pack_same}
use Rattle.sycon.specs.Permutation.{bit}
use Rattle.sycon.specs.Steps.{holding}
use Rattle.words.specs.Words.{word_bits}
use Rattle.columns.specs.Columns.{column_bits}
use Rattle.columns.proofs.bits.gather.Goals as goal

pub returns : goal.returns
unfolding holding
returns c =
    let ws = c.args.words.now.rows in
    pack_same (column_bits c.from_fn.result) (word_bits ws)
    (λ j k hj hk. made _ _ 0 (λ k y. (j : ℕ) → j < 5 → bit y j ≡ word_bits ws j k) (λ k y f e. search rules)
    c.from_fn.result 64 c.from_fn.ensures.items k hk j hj)
