use Rattle.std.proofs.Common.{rules}
use Rattle.sycon.specs.Permutation.{substituted}
use Rattle.sycon.proofs.Steps.{respects-substituted}
use Rattle.words.proofs.Held.{held_step}
use Rattle.sliced.proofs.Substitution.{sliced_sbox}
use Rattle.sliced.proofs.steps.sbox.Goals as goal

pub returns : goal.returns
returns c =
    let ws = c.args.words.now.rows in
    held_step substituted respects-substituted ws _ (sliced_sbox ws (λ j. search rules))
