use Rattle.std.proofs.Common.{◌≡◌, ℕ, ◌<◌, rules}
use Rattle.sycon.specs.Permutation.{bit, origin, arranged}
use Rattle.sycon.proofs.Made.{made}
use Rattle.sycon.proofs.Steps.{respects-arranged}
use Rattle.columns.specs.Columns.{column_bits}
use Rattle.columns.proofs.Held.{held_step}
use Rattle.columns.proofs.bits.arrange.Goals as goal

pub returns : goal.returns
unfolding arranged
returns c =
    let old = c.args.columns.now in
    held_step arranged respects-arranged old c.from_fn.result
    (λ j k hj hk. made _ _ 0 (λ k y. (j : ℕ) → j < 5 → bit y j ≡ column_bits old j (origin j k)) (λ k y f e. search rules)
    c.from_fn.result 64 c.from_fn.ensures.items k hk j hj)
