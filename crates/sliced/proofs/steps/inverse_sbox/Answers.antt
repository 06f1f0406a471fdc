use Rattle.std.proofs.Common.{rules}
use Rattle.sycon.specs.Permutation.{substituted}
use Rattle.sycon.proofs.Steps.{respects-substituted}
use Rattle.words.proofs.Held.{held_step_back}
use Rattle.sliced.proofs.Substitution.{sliced_sbox_back}
use Rattle.sliced.proofs.steps.inverse_sbox.Goals as goal

pub returns : goal.returns
returns c =
    let ws = c.args.words.now.rows in
    held_step_back substituted respects-substituted ws _ (sliced_sbox_back ws (λ j. search rules))
