-- Terms of rotations and masks that bring each column from its place.
use Rattle.std.proofs.Common.{◌≡◌, ℕ, zero, suc, ◌+◌, ◌%◌, ◌^◌, ◌<◌, Bool, true, false, ◌&&◌, T, eqb, ltb, List, [], ◌∷◌, get_or, map}
use Rattle.std.proofs.Common.{fold, refl, ap, ap₂, ◌∙◌, mod-eq_of_lt, arith, eqb→eq, ltb→lt}
use denote.Bor.{Bor}
use lib.Bits.{bit_and, bit_xor, and_zero_r, xor_zero_r, and_mask}
use Rattle.sycon.specs.Permutation.{bit}
use Rattle.std.specs.Int.{w64, rotate_right}
use Rattle.sycon.proofs.Digits.{bit-digit, bit-and, bit-rotate, bit-xor, bit-zero}
use Rattle.sycon.proofs.Tests.{every, both, at_cells}
use Rattle.sliced.specs.Rows.{gathered}

-- by a digit: the first answer at 1, the second at 0
abbrev pub picks : ℕ → Bool → Bool → Bool
picks zero x y = y
picks (suc n) x y = x

-- no mask has column c
abbrev pub free : List (ℕ × ℕ) → ℕ → Bool
free [] c = true
free (t ∷ ts) c = picks (bit t.1 c) false (free ts c)

-- one mask has column c, and its term brings column p there
abbrev pub leads : List (ℕ × ℕ) → ℕ → ℕ → Bool
leads [] c p = false
leads (t ∷ ts) c p = picks (bit t.1 c) (eqb ((c + t.0) % 64) p && free ts c) (leads ts c p)

by_pick : (m : ℕ) (x y : Bool) (P : Type 0) → (m ≡ 0 → T y → P) → ((n : ℕ) → m ≡ suc n → T x → P) → T (picks m x y) → P
by_pick zero x y P none some t = none refl t
by_pick (suc n) x y P none some t = some n refl t

and_one : (x m n : ℕ) → x < 2 → m < 2 → m ≡ suc n → bit_and x m ≡ x
and_one x m n hx hm e =
    let one : m ≡ 1 = omega arith in
    ap (bit_and x) one ∙ and_mask x 1 ∙ mod-eq_of_lt hx

module _ (row : ℕ → ℕ) (c : ℕ) where
  abbrev step : ℕ → ℕ × ℕ → ℕ
  step d t = bit_xor d (bit_and (row ((c + t.0) % 64)) (bit t.1 c))

  skipped : (t : ℕ × ℕ) (d : ℕ) → bit t.1 c ≡ 0 → step d t ≡ d
  skipped t d e =
      ap (λ m. bit_xor d (bit_and (row ((c + t.0) % 64)) m)) e
      ∙ ap (bit_xor d) (and_zero_r (row ((c + t.0) % 64)))
      ∙ xor_zero_r d

  nothing_more : (ts : List (ℕ × ℕ)) (d : ℕ) → T (free ts c) → fold step d ts ≡ d
  nothing_more [] d h = refl
  nothing_more (t ∷ ts) d h =
      by_pick (bit t.1 c) false (free ts c) (fold step (step d t) ts ≡ d)
      (λ e k. nothing_more ts (step d t) k ∙ skipped t d e) (λ n e k. absurd k) h

  one_leads : ((c : ℕ) → row c < 2) → (ts : List (ℕ × ℕ)) (p : ℕ) → T (leads ts c p) → fold step 0 ts ≡ row p
  one_leads d [] p h = absurd h
  one_leads d (t ∷ ts) p h =
      by_pick (bit t.1 c) (eqb ((c + t.0) % 64) p && free ts c) (leads ts c p) (fold step (step 0 t) ts ≡ row p)
      (λ e k. ap (λ x. fold step x ts) (skipped t 0 e) ∙ one_leads d ts p k)
      (λ n e k.
      let k2 = both (eqb ((c + t.0) % 64) p) (free ts c) k in
      nothing_more ts (step 0 t) k2.1
      ∙ and_one (row ((c + t.0) % 64)) (bit t.1 c) n (d ((c + t.0) % 64)) (bit-digit t.1 c) e
      ∙ ap row (eqb→eq ((c + t.0) % 64) p k2.0))
      h

  gathered_from : ((c : ℕ) → row c < 2) → (ts : List (ℕ × ℕ)) (p : ℕ) → T (leads ts c p) → gathered ts row c ≡ row p
  unfolding gathered
  gathered_from d ts p h = one_leads d ts p h

-- the word that the terms make of x, bit by bit
module _ (x c : ℕ) (fits : x < 2 ^ 64) (h : c < 64) where
  abbrev pub masked : ℕ → ℕ × ℕ → ℕ
  masked row t = bit_xor row (bit_and (rotate_right w64 x t.0) t.1)

  bit-fold : (ts : List (ℕ × ℕ)) (row d : ℕ) → bit row c ≡ d → bit (fold masked row ts) c ≡ fold (step (bit x) c) d ts
  bit-fold [] row d e = e
  bit-fold (t ∷ ts) row d e =
      bit-fold ts (masked row t) (step (bit x) c d t)
      (bit-xor row (bit_and (rotate_right w64 x t.0) t.1) c
      ∙ ap₂ bit_xor e (bit-and (rotate_right w64 x t.0) t.1 c ∙ ap (λ d. bit_and d (bit t.1 c)) (bit-rotate x t.0 c fits h)))

  pub bit-gathered : (ts : List (ℕ × ℕ)) → bit (fold masked 0 ts) c ≡ gathered ts (bit x) c
  unfolding gathered
  bit-gathered ts = bit-fold ts 0 0 (bit-zero c)

-- the terms that an entry of a table lends
pub lent_at : (table : List (Bor (List (ℕ × ℕ)))) (j : ℕ) (d : Bor (List (ℕ × ℕ)))
    → (get_or table j d).now ≡ get_or (map (λ lent. lent.now) table) j d.now
lent_at [] j d = refl
lent_at (lent ∷ table) zero d = refl
lent_at (lent ∷ table) (suc j) d = lent_at table j d

-- terms for each word that bring column `from j c` to column `to j c`, by one test of all columns
module _ (table : List (List (ℕ × ℕ))) (to from : ℕ → ℕ → ℕ) where
  abbrev led : ℕ → ℕ → Bool
  led j c = ltb (to j c) 64 && leads (get_or table j []) (to j c) (from j c)

  pub gathered_along : T (every 5 (λ j. every 64 (led j)))
      → (x y j : ℕ) → j < 5 → ((c : ℕ) → c < 64 → bit y c ≡ gathered (get_or table j []) (bit x) c)
      → (c : ℕ) → c < 64 → bit y (to j c) ≡ bit x (from j c)
  gathered_along t x y j hj e c hc =
      let (low, here) = both (ltb (to j c) 64) (leads (get_or table j []) (to j c) (from j c)) (at_cells led t j c hj hc) in
      e (to j c) (ltb→lt (to j c) 64 low) ∙ gathered_from (bit x) (to j c) (bit-digit x) (get_or table j []) (from j c) here
