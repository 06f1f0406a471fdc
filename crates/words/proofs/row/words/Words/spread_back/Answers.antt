use Rattle.std.proofs.Common.{◌≡◌, ℕ, ◌<◌, get_or, rules}
use Rattle.sycon.proofs.Made.{made}
use Rattle.sycon.proofs.Steps.{respects-diffused}
use Rattle.sycon.specs.Permutation.{bit, diffused, of_word, first_rotation, second_rotation}
use Rattle.sycon.specs.Steps.{spread}
use Rattle.words.proofs.Held.{held_step_back}
use Rattle.words.proofs.row.words.Words.spread_back.Goals as goal

pub returns : goal.returns
unfolding diffused
returns c =
    let ws = c.args.self.now.rows in
    held_step_back diffused respects-diffused ws c.from_fn.result
    (λ j k hj. made _ _ 0
    (λ j x. (k : ℕ) → k < 64 → spread (bit x) (of_word first_rotation j) (of_word second_rotation j) k ≡ bit (get_or ws j 0) k)
    (λ j x f e. search rules) c.from_fn.result 5 c.from_fn.ensures.items j hj k)
