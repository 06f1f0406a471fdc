-- That 64 columns hold a state: what the trait asks of an engine.
use Rattle.std.specs.Prelude.{ℕ, List, slice_index}
use Rattle.sycon.specs.Permutation.{State}
use Rattle.sycon.proofs.Digits.{bit-digit}
use Rattle.sycon.proofs.Steps.{Digits, holding_state}
use Rattle.columns.specs.Columns.{column_bits, held}

pub digits : (cs : List ℕ) → Digits (column_bits cs)
digits cs j c = bit-digit (slice_index cs c) j

pub held_state : (cs : List ℕ) → State (held cs)
held_state = holding_state column_bits digits
