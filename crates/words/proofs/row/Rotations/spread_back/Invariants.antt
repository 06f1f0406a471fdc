use Rattle.std.proofs.Common.{◌≡◌, ℕ, ◌*◌, ◌<◌}
use Rattle.sycon.specs.Permutation.{bit}
use Rattle.sycon.specs.Steps.{spread}
use Rattle.words.proofs.Halving.{left}
use Rattle.words.proofs.row.Rotations.spread_back.Given as goal

-- spread by as much as is left, the row is x
abbrev pub invariant-loop-m : goal.invariant-loop-m
invariant-loop-m l =
    (c : ℕ) → c < 64 → spread (bit l.row) (left l.m-index * l.self.0) (left l.m-index * l.self.1) c ≡ bit l.x c
