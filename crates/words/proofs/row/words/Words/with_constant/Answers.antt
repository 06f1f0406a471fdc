use Rattle.std.proofs.Common.{◌≡◌, ap, ◌∙◌, length, rules}
use Rattle.sycon.specs.Permutation.{added}
use Rattle.sycon.specs.Steps.{on_state}
use Rattle.sycon.proofs.Bijections.{added_twice}
use Rattle.words.proofs.Held.{held_state, held_added}
use Rattle.words.proofs.row.words.Words.with_constant.Goals as goal

pub returns : goal.returns
returns c =
    let ws = c.args.self.now.rows in
    let k = c.args.constant in
    let n : length ws ≡ 5 = search rules in
    record {
      there = held_added ws n k;
      back = ap (on_state (added k)) (held_added ws n k) ∙ added_twice k _ (held_state ws);
    }
