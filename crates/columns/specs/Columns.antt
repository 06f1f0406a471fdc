-- The state that 64 columns hold: bit j of column c is column c of word j.
use Rattle.std.specs.Prelude.{ℕ, List, slice_index}
use Rattle.sycon.specs.Permutation.{Bits, bit}
use Rattle.sycon.specs.Steps.{holding}

abbrev pub column_bits : List ℕ → Bits
column_bits cs j c = bit (slice_index cs c) j

abbrev pub held : List ℕ → List ℕ
held = holding column_bits
