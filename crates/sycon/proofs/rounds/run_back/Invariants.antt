use Rattle.std.proofs.Common.{◌≡◌, ℕ, List, length}
use Rattle.sycon.specs.Permutation.{rounds}
use Rattle.sycon.proofs.Constants.{Begins}
use Rattle.sycon.proofs.rounds.run_back.Given as goal

-- what as many rounds as are left take to the present state, all rounds take to the first one
abbrev pub invariant-loop-constant : goal.invariant-loop-constant
invariant-loop-constant g l =
    let left = l.constant-iterator.iter.rest.now in
    Begins left
    × ((s : List ℕ) → rounds (length left) s ≡ g.T.Rounds.held l.engine
    → rounds (l.n) s ≡ g.T.Rounds.held l.initial.engine)
