-- What a rate settles: how many bytes a block has, how many rounds follow one, and the initial vector's eight bytes.
use Rattle.std.specs.Prelude.{◌≡◌, ℕ, ◌≤◌, List, [], ◌∷◌, replicate}
use Rattle.std.proofs.Common.{refl, arith}
use Rattle.std.specs.Int.{to_le_bytes, w64}

pub record Setting : Type 0 where
  pub block : ℕ
  pub rounds : ℕ
  pub vector : List ℕ

-- 64 bits
abbrev pub narrow : Setting
narrow = record { block = 8; rounds = 7; vector = replicate 8 0 }

-- 96 bits
abbrev pub wide : Setting
wide = record { block = 12; rounds = 9; vector = 0x2C ∷ 0x9D ∷ 0x5D ∷ 0xFC ∷ 0x2A ∷ 0xA9 ∷ 0x80 ∷ 0x59 ∷ [] }

-- the constants of a rate make its setting, the vector with its lowest byte first; a block has 8 to 12 bytes
pub record Sets (t : Setting) (b r v : ℕ) : Type 0 where
  pub block : b ≡ t.block
  pub rounds : r ≡ t.rounds
  pub vector : to_le_bytes w64 v ≡ t.vector
  pub low : 8 ≤ t.block
  pub high : t.block ≤ 12

pub narrow_sets : Sets narrow 8 7 0
narrow_sets = record { block = refl; rounds = refl; vector = refl; low = omega arith; high = omega arith }

pub wide_sets : Sets wide 12 9 0x5980A92AFC5D9D2C
wide_sets = record { block = refl; rounds = refl; vector = refl; low = omega arith; high = omega arith }
