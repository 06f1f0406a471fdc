-- Sycon's permutation of 320 bits, written bit by bit.
-- A state is 40 bytes. Its bits s0 to s319 stand in five words of 64: s(64j + c) is column c of word j, and byte k
-- holds s(8k) to s(8k + 7), the first of them as its lowest bit. docs/sycon.md says the same in prose.
use Rattle.std.specs.Prelude.{◌≡◌, ℕ, zero, suc, ◌+◌, ◌*◌, ◌/◌, ◌%◌, ◌^◌, ◌<◌, min, List, [], ◌∷◌, map, length, bit_xor, slice_index, slice_index_or}
use Rattle.std.specs.List.{range_with_len, AllByRecursion}

-- what a state is
pub record State (s : List ℕ) : Type 0 where
  pub whole : length s ≡ 40
  pub bytes : AllByRecursion (λ b. b < 256) s

-- bit k of a number, the lowest being bit 0
unfoldable pub bit : ℕ → ℕ → ℕ
bit x k = x / 2 ^ k % 2

-- the bits of a state: word j and column c give the digit 0 or 1
abbrev pub Bits : Type 0
Bits = ℕ → ℕ → ℕ

unfoldable pub bits : List ℕ → Bits
bits s j c = bit (slice_index s (8 * j + c / 8)) (c % 8)

-- byte k of the state that has the bits f
unfoldable pub packed : Bits → ℕ → ℕ
packed f k =
    let g : ℕ → ℕ = λ i. f (k / 8) (8 * (k % 8) + i) in
    g 0 + 2 * (g 1 + 2 * (g 2 + 2 * (g 3 + 2 * (g 4 + 2 * (g 5 + 2 * (g 6 + 2 * g 7))))))

unfoldable pub pack : Bits → List ℕ
pack f = map (packed f) (range_with_len 0 40)

-- the numbers that the five words have, A_0 first
abbrev pub of_word : List ℕ → ℕ → ℕ
of_word table j = slice_index table j

-- step 1: each column goes through the S-box, A_0 being its units and A_4 its sixteens
abbrev pub sbox : List ℕ
sbox =
    8 ∷ 19 ∷ 30 ∷ 7 ∷ 6 ∷ 25 ∷ 16 ∷ 13 ∷ 22 ∷ 15 ∷ 3 ∷ 24 ∷ 17 ∷ 12 ∷ 4 ∷ 27
    ∷ 11 ∷ 0 ∷ 29 ∷ 20 ∷ 1 ∷ 14 ∷ 23 ∷ 26 ∷ 28 ∷ 21 ∷ 9 ∷ 2 ∷ 31 ∷ 18 ∷ 10 ∷ 5 ∷ []

unfoldable pub column : Bits → ℕ → ℕ
column f c = f 0 c + 2 * (f 1 c + 2 * (f 2 c + 2 * (f 3 c + 2 * f 4 c)))

unfoldable pub substituted : Bits → Bits
substituted f j c = bit (slice_index sbox (column f c)) j

-- step 2: each word is XORed with two left rotations of itself
abbrev pub first_rotation : List ℕ
first_rotation = 11 ∷ 13 ∷ 31 ∷ 56 ∷ 6 ∷ []

abbrev pub second_rotation : List ℕ
second_rotation = 22 ∷ 26 ∷ 62 ∷ 60 ∷ 12 ∷ []

unfoldable pub diffused : Bits → Bits
diffused f j c =
    bit_xor (bit_xor (f j c) (f j ((c + of_word first_rotation j) % 64))) (f j ((c + of_word second_rotation j) % 64))

-- step 3: a constant is XORed into A_2, its lowest bit into s128
unfoldable pub added : ℕ → Bits → Bits
added k f j c = bit_xor (f j c) (bit (of_word (0 ∷ 0 ∷ k ∷ 0 ∷ 0 ∷ []) j) c)

-- the constant of round i
abbrev pub constant_bytes : List ℕ
constant_bytes =
    0x15 ∷ 0x1A ∷ 0x1D ∷ 0x0E ∷ 0x17 ∷ 0x1B ∷ 0x0D ∷ 0x06 ∷ 0x03 ∷ 0x11 ∷ 0x18 ∷ 0x1C ∷ 0x1E ∷ 0x1F ∷ []

abbrev pub round_constant : ℕ → ℕ
round_constant i = 0xAAAAAAAAAAAAAA00 + slice_index constant_bytes i

-- step 4: in each word every quarter of 16 bits turns left, and then new byte k is old byte p(k)
abbrev pub quarter_turn : List ℕ
quarter_turn = 11 ∷ 4 ∷ 10 ∷ 7 ∷ 5 ∷ []

abbrev pub byte_places : List (List ℕ)
byte_places =
    (7 ∷ 0 ∷ 3 ∷ 5 ∷ 4 ∷ 6 ∷ 2 ∷ 1 ∷ []) ∷ (0 ∷ 6 ∷ 1 ∷ 7 ∷ 3 ∷ 4 ∷ 2 ∷ 5 ∷ [])
    ∷ (7 ∷ 2 ∷ 4 ∷ 5 ∷ 1 ∷ 0 ∷ 6 ∷ 3 ∷ []) ∷ (2 ∷ 4 ∷ 5 ∷ 3 ∷ 0 ∷ 7 ∷ 6 ∷ 1 ∷ [])
    ∷ (3 ∷ 6 ∷ 1 ∷ 0 ∷ 5 ∷ 7 ∷ 2 ∷ 4 ∷ []) ∷ []

-- the column that a quarter's turn by u brings to column q, and the column that comes to column c in word j
unfoldable pub turned : ℕ → ℕ → ℕ
turned u q = 16 * (q / 16) + (q % 16 + u) % 16

unfoldable pub origin : ℕ → ℕ → ℕ
origin j c = turned (of_word quarter_turn j) (8 * slice_index (slice_index_or byte_places j []) (c / 8) + c % 8)

unfoldable pub arranged : Bits → Bits
arranged f j c = f j (origin j c)

-- a round, and the rounds 0 to n - 1
unfoldable pub round : ℕ → List ℕ → List ℕ
round i s = pack (arranged (added (round_constant i) (diffused (substituted (bits s)))))

unfoldable pub rounds : ℕ → List ℕ → List ℕ
rounds zero s = s
rounds (suc n) s = round n (rounds n s)

-- the permutation of r rounds; there are 14, and an r above counts as 14
unfoldable pub permuted : ℕ → List ℕ → List ℕ
permuted r s = rounds (min r 14) s
