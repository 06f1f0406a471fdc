use Rattle.std.proofs.Common.{◌≡◌, ℕ, ◌<◌, rules}
use Rattle.sycon.proofs.Made.{made}
use Rattle.sycon.proofs.Steps.{respects-diffused}
use Rattle.sycon.specs.Permutation.{bit, diffused}
use Rattle.words.specs.Words.{word_bits}
use Rattle.words.proofs.Held.{held_step}
use Rattle.words.proofs.row.words.Words.spread.Goals as goal

pub returns : goal.returns
unfolding diffused
returns c =
    let ws = c.args.self.now.rows in
    held_step diffused respects-diffused ws c.from_fn.result
    (λ j k hj. made _ _ 0 (λ j x. (k : ℕ) → k < 64 → bit x k ≡ diffused (word_bits ws) j k)
    (λ j x f e. search rules) c.from_fn.result 5 c.from_fn.ensures.items j hj k)
