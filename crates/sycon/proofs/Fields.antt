-- A field of a number of n bits: w bits from place p on, cut out and replaced by b.
use Rattle.std.proofs.Common.{◌≡◌, ℕ, ◌+◌, ◌-◌, ◌*◌, ◌%◌, ◌^◌, ◌<◌, ◌≤◌, ◌⊎◌, ap, ◌∙◌, ap₂, ⊎_elim, mod-lt, mod-eq_of_lt, arith, pow_pos}
use lib.Bits.{bit_and, bit_or, and_mask, and_zero_r, or_zero_r}
use Rattle.sycon.specs.Permutation.{bit}
use Rattle.sycon.proofs.Digits.{bit-digit, bit-and, bit-or, bit_not, bit_past, bit-shl, bit_below, bit-mod, bit-zero}

and_digit : (x : ℕ) → x < 2 → bit_and x 1 ≡ x
and_digit x h = and_mask x 1 ∙ mod-eq_of_lt h

all_ones : (w k : ℕ) → k < w → bit (2 ^ w - 1) k ≡ 1
all_ones w k h =
    let e : 2 ^ w - 1 ≡ 2 ^ w - 1 - 0 = omega arith in
    ap (λ x. bit x k) e ∙ bit_not w 0 k (pow_pos w) h ∙ ap (λ d. 1 - d) (bit-zero k)

module _ (n w p : ℕ) (within : p + w ≤ n) where
  -- b moved to the field lies in the field alone
  pub moved_here : (b k : ℕ) → k < w → bit (b * 2 ^ p % 2 ^ n) (p + k) ≡ bit b k
  moved_here b k h = bit-mod (b * 2 ^ p) n (p + k) (omega arith) ∙ bit-shl b p k

  pub moved_there : (b c : ℕ) → b < 2 ^ w → c < n → (c < p) ⊎ (p + w ≤ c) → bit (b * 2 ^ p % 2 ^ n) c ≡ 0
  moved_there b c hb hc o =
      bit-mod (b * 2 ^ p) n c hc
      ∙ ⊎_elim (λ s. bit_below b p c s)
      (λ s.
      let e : c ≡ p + (c - p) = omega arith in
      ap (bit (b * 2 ^ p)) e ∙ bit-shl b p (c - p) ∙ bit_past w b (c - p) hb (omega arith))
      o

  module _ (x b : ℕ) (hb : b < 2 ^ w) where
    abbrev hole : ℕ
    hole = (2 ^ w - 1) * 2 ^ p % 2 ^ n

    abbrev replaced : ℕ
    replaced = bit_or (bit_and x (2 ^ n - 1 - hole)) (b * 2 ^ p % 2 ^ n)

    bit-replaced : (c d e : ℕ) → c < n → bit hole c ≡ d → bit (b * 2 ^ p % 2 ^ n) c ≡ e
        → bit replaced c ≡ bit_or (bit_and (bit x c) (1 - d)) e
    bit-replaced c d e h hd he =
        let small : hole < 2 ^ n = mod-lt ((2 ^ w - 1) * 2 ^ p) (pow_pos n) in
        bit-or (bit_and x (2 ^ n - 1 - hole)) (b * 2 ^ p % 2 ^ n) c
        ∙ ap₂ bit_or
        (bit-and x (2 ^ n - 1 - hole) c ∙ ap (bit_and (bit x c)) (bit_not n hole c small h ∙ ap (λ d. 1 - d) hd))
        he

    pub replaced_here : (k : ℕ) → k < w → bit replaced (p + k) ≡ bit b k
    replaced_here k h =
        bit-replaced (p + k) 1 (bit b k) (omega arith) (moved_here (2 ^ w - 1) k h ∙ all_ones w k h) (moved_here b k h)
        ∙ ap (λ d. bit_or d (bit b k)) (and_zero_r (bit x (p + k)))

    pub replaced_there : (c : ℕ) → c < n → (c < p) ⊎ (p + w ≤ c) → bit replaced c ≡ bit x c
    replaced_there c h o =
        let ones : 2 ^ w - 1 < 2 ^ w = omega (arith, pow_pos w) in
        bit-replaced c 0 0 h (moved_there (2 ^ w - 1) c ones h o) (moved_there b c hb h o)
        ∙ or_zero_r (bit_and (bit x c) 1) ∙ and_digit (bit x c) (bit-digit x c)
