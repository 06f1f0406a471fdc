-- Worked examples of the definitions. In them a word is written as a number whose highest bit is the first of its row.
use Rattle.std.specs.Prelude.{◌≡◌, ℕ, ◌+◌, ◌-◌, ◌*◌, cond, fold, ◌==◌, slice_index}
use Rattle.std.specs.List.{range_with_len}
use Rattle.sycon.specs.Permutation.{Bits, bit, sbox, diffused, arranged}
use Rattle.sycon.specs.Steps.{pl2}

-- word j is written x, and the others are zero
unfoldable pub alone : ℕ → ℕ → Bits
alone j x i c = cond (i == j) (bit x (63 - c)) 0

-- the number that word j is written as
unfoldable pub written : Bits → ℕ → ℕ
written f j = fold (λ x c. 2 * x + f j c) 0 (range_with_len 0 64)

abbrev pub Worked : Type 0
Worked =
    ((slice_index sbox 0 ≡ 8) × (slice_index sbox 1 ≡ 19) × (slice_index sbox 16 ≡ 11) × (slice_index sbox 31 ≡ 5))
    × ((pl2 0 ≡ 51) × (pl2 1 ≡ 68) × (pl2 2 ≡ 178) × (pl2 3 ≡ 215) × (pl2 4 ≡ 285) × (pl2 319 ≡ 300))
    × (written (diffused (alone 0 1)) 0 ≡ 0x400801)
    × (written (arranged (alone 1 0x8000000000000000)) 1 ≡ 0x0000080000000000)
