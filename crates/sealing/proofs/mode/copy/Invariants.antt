use Rattle.std.proofs.Common.{◌≡◌, ◌++◌, take, drop}
use Rattle.sealing.proofs.mode.copy.Given as goal

-- what is copied, and what is left of the other
abbrev pub invariant-loop-i : goal.invariant-loop-i
invariant-loop-i l = take l.i l.to ++ drop l.i l.from ≡ l.from
