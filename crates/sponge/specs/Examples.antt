-- Worked examples of padding, of the key's blocks and of domains.
use Rattle.std.specs.Prelude.{◌≡◌, ℕ, List, [], ◌∷◌, ◌++◌, length, take, drop, replicate}
use Rattle.sycon.specs.Examples.{written}
use Rattle.sycon.specs.Permutation.{bits}
use Rattle.sponge.specs.Blocks.{blocks, domain_byte_of, padded}
use Rattle.sponge.specs.Modes.{key_blocks}

pub record Worked : Type 0 where
  -- at 8 bytes an empty text is one block, a 1 bit and 63 zeros: as bytes, and as a word whose first bit is the highest
  pub empty_block : blocks 8 [] ≡ (1 ∷ replicate 7 0) ∷ []
  pub empty_word_number : written (bits (1 ∷ replicate 7 0)) 0 ≡ 0x8000000000000000
  -- a full block is padded too
  pub full_block : (xs : List ℕ) → length xs ≡ 8 → padded 8 xs ≡ xs ++ 1 ∷ replicate 7 0
  pub eight_bytes : (xs : List ℕ) → length xs ≡ 8 → length (padded 8 xs) ≡ 16
  -- the key's blocks: its halves, and its padded form
  pub key_at_8 : (key : List ℕ) → length key ≡ 16 → key_blocks 8 key ≡ take 8 key ∷ drop 8 key ∷ []
  pub key_at_12 : (key : List ℕ) → length key ≡ 16 → key_blocks 12 key ≡ take 12 key ∷ (drop 12 key ++ 1 ∷ replicate 7 0) ∷ []
  -- byte 39
  pub domains : (domain_byte_of 1 ≡ 0x80) × (domain_byte_of 2 ≡ 0x40) × (domain_byte_of 4 ≡ 0x20)
