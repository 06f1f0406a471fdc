-- Sycon's sponge by blocks: padding, the pairs of block and domain that a message gives, and the state as a fold over pairs.
use Rattle.std.specs.Prelude.{ℕ, zero, suc, ◌+◌, ◌-◌, ◌*◌, ◌/◌, ◌%◌, List, [], ◌∷◌, ◌++◌, length, take, drop, replicate, bit_xor, slice_index, slice_set}
use Rattle.sycon.specs.Permutation.{permuted}

-- a byte is XORed into place p
abbrev pub with_byte : ℕ → ℕ → List ℕ → List ℕ
with_byte p x s = slice_set s p (bit_xor (slice_index s p) x)

-- bytes are XORed in from place p on
unfoldable pub with_bytes : ℕ → List ℕ → List ℕ → List ℕ
with_bytes p [] s = s
with_bytes p (x ∷ xs) s = with_bytes (p + 1) xs (with_byte p x s)

-- a domain is a number below 8, XORed into the last three bits of the state, of which the last is its unit
abbrev pub domain_byte_of : ℕ → ℕ
domain_byte_of d = d % 2 * 128 + d / 2 % 2 * 64 + d / 4 % 2 * 32

abbrev pub with_domain : ℕ → List ℕ → List ℕ
with_domain d s = with_byte 39 (domain_byte_of d) s

-- a block is absorbed: its bytes, its domain, r rounds
abbrev pub absorbed : ℕ → List ℕ → ℕ → List ℕ → List ℕ
absorbed r block d s = permuted r (with_domain d (with_bytes 0 block s))

-- one 1 bit and zeros to the end of the block, always
abbrev pub padded : ℕ → List ℕ → List ℕ
padded b xs = xs ++ 1 ∷ replicate (b - 1 - length xs % b) 0

-- the first n blocks of b bytes
unfoldable pub cut : ℕ → ℕ → List ℕ → List (List ℕ)
cut b zero xs = []
cut b (suc n) xs = take b xs ∷ cut b n (drop b xs)

abbrev pub blocks : ℕ → List ℕ → List (List ℕ)
blocks b xs = cut b (length xs / b + 1) (padded b xs)

-- a block and its domain
abbrev pub Pair : Type 0
Pair = List ℕ × ℕ

-- each block under domain d, the last under domain e
unfoldable pub marked : ℕ → ℕ → List (List ℕ) → List Pair
marked d e [] = []
marked d e (x ∷ []) = (x, e) ∷ []
marked d e (x ∷ y ∷ ys) = (x, d) ∷ marked d e (y ∷ ys)

-- the state after pairs were absorbed with r rounds each
unfoldable pub absorbed_all : ℕ → List Pair → List ℕ → List ℕ
absorbed_all r [] s = s
absorbed_all r (x ∷ xs) s = absorbed_all r xs (absorbed r x.0 x.1 s)

-- the first b bytes just before each permutation
unfoldable pub read_off : ℕ → ℕ → List Pair → List ℕ → List ℕ
read_off b r [] s = []
read_off b r (x ∷ xs) s = take b (with_bytes 0 x.0 s) ++ read_off b r xs (absorbed r x.0 x.1 s)
