-- The bit-sliced S-box and its inverse: on digits their formulas are the table's, and on words they are the same in each column.
use Rattle.std.proofs.Common.{◌≡◌, ℕ, ◌+◌, ◌-◌, ◌*◌, ◌^◌, ◌<◌, Bool, eqb, List, [], ◌∷◌, get_or, refl, ap, ◌∙◌, ap₂, arith, eqb→eq}
use lib.Bits.{bit_and, bit_or, bit_xor, and_lt, or_lt, xor_lt}
use Rattle.sycon.specs.Permutation.{Bits, bit, sbox, column, substituted}
use Rattle.sycon.specs.Steps.{Same}
use Rattle.sycon.proofs.Digits.{bit-digit, bit-and, bit-or, bit-xor, bit_not}
use Rattle.sycon.proofs.Steps.{column_same}
use Rattle.sycon.proofs.Tests.{at, digitwise, at_digits}
use Rattle.words.specs.Words.{word_bits}
use Rattle.words.proofs.Held.{by_word}

-- the formulas, over the complement, which is another on digits than on words
abbrev formulas : (ℕ → ℕ) → ℕ → ℕ → ℕ → ℕ → ℕ → List ℕ
formulas not a0 a1 a2 a3 a4 =
    let t0 : ℕ = bit_xor a2 a4 in
    let t1 : ℕ = bit_xor t0 a1 in
    let t2 : ℕ = bit_xor a1 a3 in
    let t3 : ℕ = bit_xor a0 a4 in
    bit_xor t3 (bit_and t1 a3) ∷ bit_xor (bit_xor (bit_and (not a1) a3) t1) (bit_and (not t2) a0) ∷ bit_xor (bit_and (not t3) a2) t2
    ∷ bit_xor (bit_xor (bit_and (not t0) a3) a0) (not a2) ∷ bit_xor (bit_and (not a4) a0) t2 ∷ []

abbrev inverse_formulas : (ℕ → ℕ) → ℕ → ℕ → ℕ → ℕ → ℕ → List ℕ
inverse_formulas not b0 b1 b2 b3 b4 =
    let t0 : ℕ = bit_xor b0 b3 in
    let t1 : ℕ = bit_xor t0 b1 in
    let a0 : ℕ = not (bit_xor (bit_xor (bit_or b1 b3) b2) (bit_or (bit_and t1 (not b3)) b4)) in
    let a3 : ℕ = bit_xor (not (bit_or a0 b4)) t1 in
    let a4 : ℕ = bit_xor (bit_xor (bit_and a3 t0) a0) b0 in
    let a1 : ℕ = bit_xor (bit_xor (bit_and (not a4) a0) a3) b4 in
    let a2 : ℕ = bit_xor (bit_xor (not a4) t0) (bit_and (not a1) a3) in
    a0 ∷ a1 ∷ a2 ∷ a3 ∷ a4 ∷ []

-- on digits, by a test of all 32 columns
abbrev flip : ℕ → ℕ
flip x = 1 - x

abbrev entry : ℕ → ℕ → ℕ → ℕ → ℕ → ℕ → ℕ
entry j v w x y z = bit (get_or sbox (v + 2 * (w + 2 * (x + 2 * (y + 2 * z)))) 0) j

agrees : ℕ → ℕ → ℕ → ℕ → ℕ → ℕ → Bool
agrees j v w x y z = eqb (get_or (formulas flip v w x y z) j 0) (entry j v w x y z)

on_digits : (j v w x y z : ℕ) → j < 5 → v < 2 → w < 2 → x < 2 → y < 2 → z < 2
    → get_or (formulas flip v w x y z) j 0 ≡ entry j v w x y z
unfolding agrees bit
on_digits j v w x y z hj hv hw hx hy hz =
    eqb→eq _ _ (at_digits (agrees j) (at 5 (λ j. digitwise (agrees j)) tt j hj) v w x y z hv hw hx hy hz)

-- the column that the S-box takes to these digits
abbrev before : ℕ → ℕ → ℕ → ℕ → ℕ → ℕ
before v w x y z =
    let ds : List ℕ = inverse_formulas flip v w x y z in
    get_or ds 0 0 + 2 * (get_or ds 1 0 + 2 * (get_or ds 2 0 + 2 * (get_or ds 3 0 + 2 * get_or ds 4 0)))

agrees_back : ℕ → ℕ → ℕ → ℕ → ℕ → ℕ → Bool
agrees_back j v w x y z = eqb (bit (get_or sbox (before v w x y z) 0) j) (get_or (v ∷ w ∷ x ∷ y ∷ z ∷ []) j 0)

on_digits_back : (j v w x y z : ℕ) → j < 5 → v < 2 → w < 2 → x < 2 → y < 2 → z < 2
    → bit (get_or sbox (before v w x y z) 0) j ≡ get_or (v ∷ w ∷ x ∷ y ∷ z ∷ []) j 0
unfolding agrees_back bit
on_digits_back j v w x y z hj hv hw hx hy hz =
    eqb→eq _ _ (at_digits (agrees_back j) (at 5 (λ j. digitwise (agrees_back j)) tt j hj) v w x y z hv hw hx hy hz)

-- the word x has the digits `row`
record Slices (x : ℕ) (row : ℕ → ℕ) : Type 0 where
  fits : x < 2 ^ 64
  digits : (c : ℕ) → c < 64 → bit x c ≡ row c

infixl 20 ◌xor◌
infixl 25 ◌or◌
infixl 30 ◌and◌
slices : {x : ℕ} → x < 2 ^ 64 → Slices x (bit x)
slices h = record { fits = h; digits = λ c l. refl }

◌and◌ : {x y : ℕ} {p q : ℕ → ℕ} → Slices x p → Slices y q → Slices (bit_and x y) (λ c. bit_and (p c) (q c))
◌and◌ {x} {y} s t =
    record {
      fits = and_lt 64 x y s.fits t.fits;
      digits = λ c l. bit-and x y c ∙ ap₂ bit_and (s.digits c l) (t.digits c l);
    }

◌or◌ : {x y : ℕ} {p q : ℕ → ℕ} → Slices x p → Slices y q → Slices (bit_or x y) (λ c. bit_or (p c) (q c))
◌or◌ {x} {y} s t =
    record {
      fits = or_lt 64 x y s.fits t.fits;
      digits = λ c l. bit-or x y c ∙ ap₂ bit_or (s.digits c l) (t.digits c l);
    }

◌xor◌ : {x y : ℕ} {p q : ℕ → ℕ} → Slices x p → Slices y q → Slices (bit_xor x y) (λ c. bit_xor (p c) (q c))
◌xor◌ {x} {y} s t =
    record {
      fits = xor_lt 64 x y s.fits t.fits;
      digits = λ c l. bit-xor x y c ∙ ap₂ bit_xor (s.digits c l) (t.digits c l);
    }

abbrev not64 : ℕ → ℕ
not64 x = 18446744073709551615 - x

not : {x : ℕ} {p : ℕ → ℕ} → Slices x p → Slices (not64 x) (λ c. flip (p c))
not {x} s = record { fits = omega arith; digits = λ c l. bit_not 64 x c s.fits l ∙ ap flip (s.digits c l) }

module _ (ws : List ℕ) where
  abbrev on_words : List ℕ
  on_words = formulas not64 (get_or ws 0 0) (get_or ws 1 0) (get_or ws 2 0) (get_or ws 3 0) (get_or ws 4 0)

  abbrev on_words_back : List ℕ
  on_words_back = inverse_formulas not64 (get_or ws 0 0) (get_or ws 1 0) (get_or ws 2 0) (get_or ws 3 0) (get_or ws 4 0)

  abbrev digit : ℕ → ℕ → ℕ
  digit j c = bit (get_or ws j 0) c

  abbrev in_columns : Bits
  in_columns j c = get_or (formulas flip (digit 0 c) (digit 1 c) (digit 2 c) (digit 3 c) (digit 4 c)) j 0

  abbrev in_columns_back : Bits
  in_columns_back j c = get_or (inverse_formulas flip (digit 0 c) (digit 1 c) (digit 2 c) (digit 3 c) (digit 4 c)) j 0

  below : (j c : ℕ) → digit j c < 2
  below j c = bit-digit (get_or ws j 0) c

  module _ (fits : (j : ℕ) → get_or ws j 0 < 2 ^ 64) where
    columnwise : (j : ℕ) → j < 5 → Slices (get_or on_words j 0) (in_columns j)
    columnwise =
        let a0 = slices (fits 0) in
        let a1 = slices (fits 1) in
        let a2 = slices (fits 2) in
        let a3 = slices (fits 3) in
        let a4 = slices (fits 4) in
        let t0 = a2 xor a4 in
        let t1 = t0 xor a1 in
        let t2 = a1 xor a3 in
        let t3 = a0 xor a4 in
        by_word (λ j. Slices (get_or on_words j 0) (in_columns j))
        (t3 xor t1 and a3) (not a1 and a3 xor t1 xor not t2 and a0) (not t3 and a2 xor t2) (not t0 and a3 xor a0 xor not a2)
        (not a4 and a0 xor t2)

    columnwise_back : (j : ℕ) → j < 5 → Slices (get_or on_words_back j 0) (in_columns_back j)
    columnwise_back =
        let b0 = slices (fits 0) in
        let b1 = slices (fits 1) in
        let b2 = slices (fits 2) in
        let b3 = slices (fits 3) in
        let b4 = slices (fits 4) in
        let t0 = b0 xor b3 in
        let t1 = t0 xor b1 in
        let a0 = not ((b1 or b3) xor b2 xor (t1 and not b3 or b4)) in
        let a3 = not (a0 or b4) xor t1 in
        let a4 = a3 and t0 xor a0 xor b0 in
        let a1 = not a4 and a0 xor a3 xor b4 in
        let a2 = not a4 xor t0 xor not a1 and a3 in
        by_word (λ j. Slices (get_or on_words_back j 0) (in_columns_back j)) a0 a1 a2 a3 a4

    pub sliced_sbox : Same (word_bits on_words) (substituted (word_bits ws))
    unfolding substituted column
    sliced_sbox j c hj hc =
        (columnwise j hj).digits c hc
        ∙ on_digits j (digit 0 c) (digit 1 c) (digit 2 c) (digit 3 c) (digit 4 c) hj
        (below 0 c) (below 1 c) (below 2 c) (below 3 c) (below 4 c)

    same_digit : (c j : ℕ) → j < 5 → get_or (digit 0 c ∷ digit 1 c ∷ digit 2 c ∷ digit 3 c ∷ digit 4 c ∷ []) j 0 ≡ digit j c
    same_digit c =
        by_word (λ j. get_or (digit 0 c ∷ digit 1 c ∷ digit 2 c ∷ digit 3 c ∷ digit 4 c ∷ []) j 0 ≡ digit j c) refl refl refl refl refl

    pub sliced_sbox_back : Same (substituted (word_bits on_words_back)) (word_bits ws)
    unfolding substituted column
    sliced_sbox_back j c hj hc =
        ap (λ n. bit (get_or sbox n 0) j)
        (column_same (word_bits on_words_back) in_columns_back (λ j c hj hc. (columnwise_back j hj).digits c hc) c hc)
        ∙ on_digits_back j (digit 0 c) (digit 1 c) (digit 2 c) (digit 3 c) (digit 4 c) hj
        (below 0 c) (below 1 c) (below 2 c) (below 3 c) (below 4 c)
        ∙ same_digit c j hj
