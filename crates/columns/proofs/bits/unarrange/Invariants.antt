use Rattle.std.proofs.Common.{◌≡◌, length}
use Rattle.columns.proofs.Moving.{PutBack}
use Rattle.columns.proofs.bits.unarrange.Given as goal

abbrev pub invariant-loop-n : goal.invariant-loop-n
invariant-loop-n l = (length l.moved ≡ 64) × PutBack l.columns l.moved l.n
