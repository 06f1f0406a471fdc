-- The bits of a word made of bytes.
use Rattle.std.proofs.Common.{◌≡◌, ℕ, zero, suc, ◌+◌, ◌-◌, ◌*◌, ◌/◌, ◌%◌, ◌<◌, List, get_or, take, drop, refl, ap, ◌∙◌, ap₂, ⊎_elim, arith}
use Rattle.std.proofs.lemmas.Bool.{cases_lt}
use Rattle.std.proofs.lemmas.List.{drop-drop, get_or-drop, get_or-take}
use Rattle.std.specs.Int.{w64, from_le_bytes}
use Rattle.std.specs.Simd.{first_chunks}
use Rattle.sycon.specs.Permutation.{bit, bits}
use Rattle.sycon.proofs.Digits.{bit-low, bit_high}

-- the number that has n given bytes, the lowest first
number : ℕ → (ℕ → ℕ) → ℕ
number zero g = 0
number (suc n) g = number n (λ i. g (suc i)) * 256 + g 0

bit-number : (n : ℕ) (g : ℕ → ℕ) → ((i : ℕ) → i < n → g i < 256) → (c : ℕ) → c < 8 * n → bit (number n g) c ≡ bit (g (c / 8)) (c % 8)
unfolding number
bit-number zero g l c h = absurd (omega arith)
bit-number (suc n) g l c h =
    let rest : ℕ = number n (λ i. g (suc i)) in
    let low : g 0 < 256 = l 0 (omega arith) in
    ⊎_elim
    (λ (s : c < 8). bit-low 8 (g 0) rest c low s ∙ ap₂ (λ i k. bit (g i) k) (omega arith) (omega arith))
    (λ s.
    let e : c ≡ 8 + (c - 8) = omega arith in
    let i : suc ((c - 8) / 8) ≡ c / 8 = omega arith in
    let k : (c - 8) % 8 ≡ c % 8 = omega arith in
    ap (bit (rest * 256 + g 0)) e ∙ bit_high 8 (g 0) rest (c - 8) low
    ∙ bit-number n (λ i. g (suc i)) (λ i m. l (suc i) (omega arith)) (c - 8) (omega arith)
    ∙ ap₂ (λ i k. bit (g i) k) i k)
    (cases_lt c 8)

-- a word made of eight bytes
pub bit-from_bytes : (bs : List ℕ) → ((i : ℕ) → i < 8 → get_or bs i 0 < 256) → (c : ℕ) → c < 64
    → bit (from_le_bytes w64 bs) c ≡ bit (get_or bs (c / 8) 0) (c % 8)
unfolding number
bit-from_bytes bs l c h = ap (λ x. bit x c) (omega arith) ∙ bit-number 8 (λ i. get_or bs i 0) l c h

-- chunk j of a list
chunk_at : (k j : ℕ) (bs d : List ℕ) → j < k → get_or (first_chunks 8 k bs) j d ≡ take 8 (drop (8 * j) bs)
chunk_at zero j bs d h = absurd (omega arith)
chunk_at (suc k) zero bs d h = refl
chunk_at (suc k) (suc j) bs d h =
    chunk_at k j (drop 8 bs) d (omega arith) ∙ ap (take 8) (drop-drop (8 * j) 8 bs ∙ ap (λ n. drop n bs) (omega arith))

pub bit-loaded : (bs d : List ℕ) (j : ℕ) → j < 5 → ((i : ℕ) → get_or bs i 0 < 256) → (c : ℕ) → c < 64
    → bit (from_le_bytes w64 (get_or (first_chunks 8 5 bs) j d)) c ≡ bits bs j c
unfolding bits
bit-loaded bs d j hj l c h =
    let chunk : List ℕ = take 8 (drop (8 * j) bs) in
    let byte : (i : ℕ) → i < 8 → get_or chunk i 0 ≡ get_or bs (8 * j + i) 0 =
    λ i h. get_or-take 8 (drop (8 * j) bs) i 0 h ∙ get_or-drop (8 * j) bs i 0
    in
    ap (λ bs. bit (from_le_bytes w64 bs) c) (chunk_at 5 j bs d hj)
    ∙ bit-from_bytes chunk (λ i h. let e = byte i h in rw e (l (8 * j + i))) c h
    ∙ ap (λ b. bit b (c % 8)) (byte (c / 8) (omega arith))
