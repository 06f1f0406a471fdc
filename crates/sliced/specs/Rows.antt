-- A row of 64 columns gives the digit in each column.
use Rattle.std.specs.Prelude.{ℕ, ◌+◌, ◌%◌, List, fold, bit_and, bit_xor}
use Rattle.sycon.specs.Permutation.{bit}

-- left rotations of a row, each cut down to its mask
unfoldable pub gathered : List (ℕ × ℕ) → (ℕ → ℕ) → ℕ → ℕ
gathered terms row c = fold (λ d term. bit_xor d (bit_and (row ((c + term.0) % 64)) (bit term.1 c))) 0 terms
