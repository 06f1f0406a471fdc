use Rattle.std.proofs.Common.{◌≡◌, ℕ, ◌<◌, rules}
use Rattle.sycon.specs.Permutation.{bit, origin, arranged}
use Rattle.sycon.proofs.Made.{made}
use Rattle.sycon.proofs.Steps.{respects-arranged}
use Rattle.words.specs.Words.{word_bits}
use Rattle.words.proofs.Held.{held_step_back}
use Rattle.sliced.proofs.steps.unarrange.Goals as goal

pub returns : goal.returns
unfolding arranged
returns c =
    let ws = c.args.words.now.rows in
    held_step_back arranged respects-arranged ws c.from_fn.result
    (λ j k hj hk. made _ _ 0 (λ j y. (k : ℕ) → k < 64 → bit y (origin j k) ≡ word_bits ws j k) (λ j y f e. search rules)
    c.from_fn.result 5 c.from_fn.ensures.items j hj k hk)
