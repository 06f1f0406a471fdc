use Rattle.std.proofs.Common.{◌≡◌, ℕ, ◌+◌, ◌*◌, ◌/◌, ◌%◌, ◌<◌}
use Rattle.sycon.specs.Permutation.{bit}
use Rattle.columns.specs.Columns.{column_bits}
use Rattle.columns.proofs.bits.put_byte.Given as goal

-- the bits written so far, and all that stand outside the byte
abbrev pub invariant-loop-i : goal.invariant-loop-i
invariant-loop-i l =
    ((m : ℕ) → m < l.i → column_bits l.columns (l.k / 8) (8 * (l.k % 8) + m) ≡ bit l.b m)
    × ((j c : ℕ) → j < 5 → c < 64 → (8 * j + c / 8 ≡ l.k → ⊥) → column_bits l.columns j c ≡ column_bits l.initial.columns j c)
