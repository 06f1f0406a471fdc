-- Bits packed into bytes, and back.
use Rattle.std.proofs.Common.{◌≡◌, ℕ, zero, suc, ◌+◌, ◌*◌, ◌/◌, ◌%◌, ◌^◌, ◌<◌, List, length, get_or, set, sym, refl, ap, ◌∙◌, ap₂, ⊎_elim, le_of_suc-le-suc, not-suc-le-zero, mod-eq_of_lt, pow-suc, div-one, add-one, one-add, arith, lit<}
use native.Mathlib.Nat.{mod-one}
use lib.Pow.{mod-pow-add}
use Rattle.std.proofs.lemmas.List.FromFn.{length-map-range_with_len, get_or-map-range_with_len}
use Rattle.std.proofs.ByRecursion.{All-get_or, All-from_get_or}
use Rattle.std.proofs.lemmas.List.{ext_get_or, length-set, get_or-set_same, get_or-set_other}
use Rattle.std.proofs.lemmas.Bool.{cases_eq}
use Rattle.sycon.specs.Permutation.{State, Bits, bit, bits, packed, pack}
use Rattle.sycon.specs.Steps.{Same}
use Rattle.sycon.proofs.Digits.{bit-low, bit_high, bit-shr}

-- the number that has n given digits, the lowest first
unfoldable pub number : ℕ → (ℕ → ℕ) → ℕ
number zero g = 0
number (suc n) g = g 0 + 2 * number n (λ i. g (suc i))

pub number_same : (n : ℕ) (g h : ℕ → ℕ) → ((i : ℕ) → i < n → g i ≡ h i) → number n g ≡ number n h
unfolding number
number_same zero g h e = refl
number_same (suc n) g h e =
    ap₂ (λ x y. x + 2 * y) (e 0 (omega arith))
    (number_same n (λ i. g (suc i)) (λ i. h (suc i)) (λ i l. e (suc i) (omega arith)))

pub bit-of_digit : (x : ℕ) → x < 2 → bit x 0 ≡ x
unfolding bit
bit-of_digit x h = omega arith

-- a lowest digit put before a number
first_bit : (d x : ℕ) → d < 2 → bit (d + 2 * x) 0 ≡ d
first_bit d x h =
    let e : d + 2 * x ≡ x * 2 ^ 1 + d = omega arith in
    ap (λ n. bit n 0) e ∙ bit-low 1 d x 0 h (lit< tt) ∙ bit-of_digit d h

next_bit : (d x i : ℕ) → d < 2 → bit (d + 2 * x) (suc i) ≡ bit x i
next_bit d x i h =
    let e : d + 2 * x ≡ x * 2 ^ 1 + d = omega arith in
    ap₂ bit e (sym (one-add i)) ∙ bit_high 1 d x i h

pub bit-number : (n : ℕ) (g : ℕ → ℕ) → ((i : ℕ) → g i < 2) → (i : ℕ) → i < n → bit (number n g) i ≡ g i
unfolding number
bit-number zero g d i h = absurd (not-suc-le-zero h)
bit-number (suc n) g d zero h = first_bit (g 0) (number n (λ i. g (suc i))) (d 0)
bit-number (suc n) g d (suc i) h =
    next_bit (g 0) (number n (λ i. g (suc i))) i (d 0)
    ∙ bit-number n (λ i. g (suc i)) (λ i. d (suc i)) i (le_of_suc-le-suc h)

pub number-bits : (n x : ℕ) → number n (bit x) ≡ x % 2 ^ n
unfolding number bit
number-bits zero x = sym (mod-one x)
number-bits (suc n) x =
    ap₂ (λ y z. y % 2 + 2 * z) (div-one x)
    (number_same n (λ i. bit x (suc i)) (bit (x / 2)) (λ i l. ap (bit x) (sym (one-add i)) ∙ sym (bit-shr x 1 i)) ∙ number-bits n (x / 2))
    ∙ sym (ap (λ k. x % 2 ^ k) (sym (add-one n)) ∙ mod-pow-add x n 1 ∙ omega arith)

-- byte k holds the digits of a word from column 8 * (k % 8) on
packed_is : (f : Bits) (k : ℕ) → packed f k ≡ number 8 (λ i. f (k / 8) (8 * (k % 8) + i))
unfolding packed number
packed_is f k = omega arith

pub number-below : (n : ℕ) (g : ℕ → ℕ) → ((i : ℕ) → g i < 2) → number n g < 2 ^ n
unfolding number
number-below zero g d = lit< tt
number-below (suc n) g d =
    let e : 2 ^ suc n ≡ 2 ^ n * 2 = pow-suc 2 n in
    let r : number n (λ i. g (suc i)) < 2 ^ n = number-below n (λ i. g (suc i)) (λ i. d (suc i)) in
    omega (arith, d 0)

pub length-pack : (f : Bits) → length (pack f) ≡ 40
unfolding pack
length-pack f = length-map-range_with_len (packed f) 0 40

pub slice_index-pack : (f : Bits) (k : ℕ) → k < 40 → get_or (pack f) k 0 ≡ number 8 (λ i. f (k / 8) (8 * (k % 8) + i))
unfolding pack
slice_index-pack f k h = get_or-map-range_with_len (packed f) 0 40 k k 0 h (omega arith) ∙ packed_is f k

-- two states of 40 bytes are equal where their bytes are
pub same_states : (s t : List ℕ) → length s ≡ 40 → length t ≡ 40 → ((k : ℕ) → k < 40 → get_or s k 0 ≡ get_or t k 0) → s ≡ t
same_states s t m n e = ext_get_or 0 s t (m ∙ sym n) (λ k h. e k (rw m at h))

-- a byte k < 40 stands in word k / 8 < 5, and its digits in columns below 64
module _ (f : Bits) (k : ℕ) (h : k < 40) where
  pub pack_at : (b : ℕ) → b < 256 → ((i : ℕ) → i < 8 → f (k / 8) (8 * (k % 8) + i) ≡ bit b i) → get_or (pack f) k 0 ≡ b
  pack_at b l e =
      slice_index-pack f k h ∙ number_same 8 (λ i. f (k / 8) (8 * (k % 8) + i)) (bit b) e ∙ number-bits 8 b ∙ mod-eq_of_lt l

  same_at : (g : Bits) → ((i : ℕ) → i < 8 → f (k / 8) (8 * (k % 8) + i) ≡ g (k / 8) (8 * (k % 8) + i))
      → get_or (pack f) k 0 ≡ get_or (pack g) k 0
  same_at g e =
      slice_index-pack f k h
      ∙ number_same 8 (λ i. f (k / 8) (8 * (k % 8) + i)) (λ i. g (k / 8) (8 * (k % 8) + i)) e
      ∙ sym (slice_index-pack g k h)

pub pack_same : (f g : Bits) → Same f g → pack f ≡ pack g
pack_same f g e =
    same_states (pack f) (pack g) (length-pack f) (length-pack g)
    (λ k h. same_at f k h g (λ i l. e (k / 8) (8 * (k % 8) + i) (omega arith) (omega arith)))

pub bits-pack : (f : Bits) → ((j c : ℕ) → f j c < 2) → Same (bits (pack f)) f
unfolding bits
bits-pack f d j c hj hc =
    let k : ℕ = 8 * j + c / 8 in
    ap (λ b. bit b (c % 8)) (slice_index-pack f k (omega arith))
    ∙ bit-number 8 (λ i. f (k / 8) (8 * (k % 8) + i)) (λ i. d (k / 8) (8 * (k % 8) + i)) (c % 8) (omega arith)
    ∙ ap₂ f (omega arith) (omega arith)

pub state-pack : (f : Bits) → ((j c : ℕ) → f j c < 2) → State (pack f)
state-pack f d =
    record {
      whole = length-pack f;
      bytes = All-from_get_or (λ b. b < 256) (pack f) 0
          (λ k h. let l : k < 40 = rw length-pack at h in
          rw (slice_index-pack f k l) (number-below 8 (λ i. f (k / 8) (8 * (k % 8) + i)) (λ i. d (k / 8) (8 * (k % 8) + i))));
    }

pub pack-bits : (s : List ℕ) → State s → pack (bits s) ≡ s
unfolding bits
pack-bits s st =
    same_states (pack (bits s)) s (length-pack (bits s)) st.whole
    (λ k h. pack_at (bits s) k h (get_or s k 0) (All-get_or (λ b. b < 256) s k 0 (rw st.whole h) st.bytes)
    (λ i l. ap₂ (λ n m. bit (get_or s n 0) m) (omega arith) (omega arith)))

-- one byte replaced
pub pack-set : (f g : Bits) (k b : ℕ) → k < 40 → b < 256 → ((i : ℕ) → i < 8 → g (k / 8) (8 * (k % 8) + i) ≡ bit b i)
    → ((j c : ℕ) → j < 5 → c < 64 → (8 * j + c / 8 ≡ k → ⊥) → g j c ≡ f j c) → pack g ≡ set (pack f) k b
pack-set f g k b h l here there =
    same_states (pack g) (set (pack f) k b) (length-pack g) (length-set (pack f) k b ∙ length-pack f)
    (λ n m. ⊎_elim
    (λ (e : n ≡ k).
    ap (λ x. get_or (pack g) x 0) e ∙ pack_at g k h b l here
    ∙ sym (ap (λ x. get_or (set (pack f) k b) x 0) e ∙ get_or-set_same (pack f) k b 0 (rw (length-pack f) h)))
    (λ (o : n ≡ k → ⊥).
    same_at g n m f (λ i r. there (n / 8) (8 * (n % 8) + i) (omega arith) (omega arith) (λ e. o (omega arith)))
    ∙ sym (get_or-set_other (pack f) k n b 0 o))
    (cases_eq n k))
