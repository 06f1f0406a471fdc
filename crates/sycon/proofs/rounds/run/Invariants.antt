use Rattle.std.proofs.Common.{◌≡◌}
use Rattle.sycon.specs.Permutation.{rounds}
use Rattle.sycon.proofs.rounds.run.Given as goal

abbrev pub invariant-loop-constant : goal.invariant-loop-constant
invariant-loop-constant g l = g.T.Rounds.held l.engine ≡ rounds l.constant-index (g.T.Rounds.held l.initial.engine)
