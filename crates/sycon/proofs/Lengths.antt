-- The permutation keeps a state's length.
use Rattle.std.proofs.Common.{◌≡◌, ℕ, zero, suc, min, List, length}
use Rattle.sycon.specs.Permutation.{bits, substituted, diffused, round_constant, added, arranged, round, rounds, permuted}
use Rattle.sycon.proofs.Packing.{length-pack}

length-rounds : (n : ℕ) (s : List ℕ) → length s ≡ 40 → length (rounds n s) ≡ 40
unfolding rounds round
length-rounds zero s h = h
length-rounds (suc n) s h = length-pack (arranged (added (round_constant n) (diffused (substituted (bits (rounds n s))))))

pub length-permuted : (r : ℕ) (s : List ℕ) → length s ≡ 40 → length (permuted r s) ≡ 40
unfolding permuted
length-permuted r s h = length-rounds (min r 14) s h

-- whatever went in, the last round gives 40 bytes
pub length-all_rounds : (s : List ℕ) → length (permuted 14 s) ≡ 40
unfolding permuted rounds round
length-all_rounds s = length-pack (arranged (added (round_constant 13) (diffused (substituted (bits (rounds 13 s))))))
