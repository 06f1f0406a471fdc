-- A step of the round as a map of states, for engines that take the steps one by one.
use Rattle.std.specs.Prelude.{◌≡◌, ℕ, ◌+◌, ◌*◌, ◌/◌, ◌%◌, ◌<◌, List, [], bit_xor, slice_index, slice_index_or}
use Rattle.sycon.specs.Permutation.{Bits, bits, pack, of_word, substituted, diffused, added}
use Rattle.sycon.specs.Permutation.{quarter_turn, byte_places, arranged}

-- the same digit in each column of each word
abbrev pub Same : Bits → Bits → Type 0
Same f g = (j c : ℕ) → j < 5 → c < 64 → f j c ≡ g j c

-- a row of 64 columns, XORed with its left rotations by a and by b
abbrev pub spread : (ℕ → ℕ) → ℕ → ℕ → ℕ → ℕ
spread row a b c = bit_xor (bit_xor (row c) (row ((c + a) % 64))) (row ((c + b) % 64))

-- the state that a list of numbers holds, where `view` reads its bits off the list
unfoldable pub holding : (List ℕ → Bits) → List ℕ → List ℕ
holding view xs = pack (view xs)

unfoldable pub on_state : (Bits → Bits) → List ℕ → List ℕ
on_state step s = pack (step (bits s))

-- the four steps of a round whose constant is k, one after the other
abbrev pub four_steps : ℕ → List ℕ → List ℕ
four_steps k s = on_state arranged (on_state (added k) (on_state diffused (on_state substituted s)))

-- step 4 as a list of 320 bits: entry 5c + j is the number of the bit that comes to column c of word j
abbrev pub pl2_rule : ℕ → ℕ
pl2_rule n =
    let j : ℕ = n % 5 in
    let c : ℕ = n / 5 in
    let q : ℕ = 8 * slice_index (slice_index_or byte_places j []) (c / 8) + c % 8 in
    64 * j + (16 * (q / 16) + (q % 16 + of_word quarter_turn j) % 16)

-- the same, shut: a rule that computes is what a table is compared with, and a name is what proofs go by
unfoldable pub pl2 : ℕ → ℕ
pl2 n = pl2_rule n
