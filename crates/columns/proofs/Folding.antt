-- A number shifted together from digits, the highest first.
use Rattle.std.proofs.Common.{◌≡◌, ℕ, zero, suc, ◌+◌, ◌*◌, ◌%◌, ◌^◌, ◌<◌, ◌≤◌, List, [], ◌∷◌, length, get_or, fold, reverse, sym}
use Rattle.std.proofs.Common.{ap, ◌∙◌, ap₂, one-add, arith, lit<}
use lib.Bits.{bit_or, or_zero_l, or_zero_r}
use Rattle.std.proofs.lemmas.List.{reverse-append}
use Rattle.std.proofs.lemmas.List.Sums.{fold-append}
use Rattle.sycon.specs.Permutation.{bit}
use Rattle.sycon.proofs.Digits.{bit-or, bit-mod, bit-shl, bit_below, bit_past}
use Rattle.sycon.proofs.Packing.{bit-of_digit}

module _ (w : ℕ) (f : ℕ → ℕ) where
  abbrev pub shifted : ℕ → ℕ → ℕ
  shifted n x = bit_or (n * 2 % 2 ^ w) (f x)

  abbrev pub folded : List ℕ → ℕ
  folded xs = fold shifted 0 (reverse xs)

  first : (n x : ℕ) → f x < 2 → 0 < w → bit (shifted n x) 0 ≡ f x
  first n x digit h =
      bit-or (n * 2 % 2 ^ w) (f x) 0
      ∙ ap₂ bit_or (bit-mod (n * 2) w 0 h ∙ bit_below n 1 0 (lit< tt)) (bit-of_digit (f x) digit)
      ∙ or_zero_l (f x)

  next : (n x i : ℕ) → f x < 2 → 1 + i < w → bit (shifted n x) (1 + i) ≡ bit n i
  next n x i digit h =
      bit-or (n * 2 % 2 ^ w) (f x) (1 + i)
      ∙ ap₂ bit_or (bit-mod (n * 2) w (1 + i) h ∙ bit-shl n 1 i) (bit_past 1 (f x) (1 + i) digit (omega arith))
      ∙ or_zero_r (bit n i)

  pub bit-folded : (xs : List ℕ) → length xs ≤ w → ((i : ℕ) → i < length xs → f (get_or xs i 0) < 2)
      → (i : ℕ) → i < length xs → bit (folded xs) i ≡ f (get_or xs i 0)
  bit-folded [] l d i h = absurd (omega arith)
  bit-folded (x ∷ xs) l d i h =
      ap (λ ys. bit (fold shifted 0 ys) i) (reverse-append (x ∷ []) xs)
      ∙ ap (λ n. bit n i) (fold-append shifted 0 (reverse xs) (x ∷ []))
      ∙ elim i as (λ i. i < length (x ∷ xs) → bit (shifted (folded xs) x) i ≡ f (get_or (x ∷ xs) i 0)) [
        | zero ↦ λ h. first (folded xs) x (d 0 (omega arith)) (omega arith)
        | suc i ↦ λ h. ap (bit (shifted (folded xs) x)) (sym (one-add i))
            ∙ next (folded xs) x i (d 0 (omega arith)) (omega arith)
            ∙ bit-folded xs (omega arith) (λ i h. d (suc i) (omega arith)) i (omega arith)
      ] h
