-- The sealed bytes are those that the definition by blocks reads off.
use Rattle.std.proofs.Common.{◌≡◌, ℕ, zero, suc, ◌+◌, ◌-◌, ◌*◌, ◌/◌, ◌%◌, ◌<◌, ◌≤◌, true, false, cond, ltb, ◌≢◌, List, [], ◌∷◌}
use Rattle.std.proofs.Common.{◌++◌, length, get_or, take, drop, replicate, sym, refl, ap, ◌∙◌, ap₂, arith, length-set}
use lib.Bits.{bit_xor}
use Rattle.std.proofs.lemmas.Nat.{div-add-mod', mod_below}
use Rattle.std.proofs.lemmas.List.{get_or-set_same, get_or-set_other, drop_more, take-set-le, take-take, take_all, append-nil}
use Rattle.std.proofs.lemmas.List.{take-append-drop, take-append-le, drop-append-le, length-append, length-drop, length-replicate}
use Rattle.std.proofs.lemmas.List.{length-take-le}
use Rattle.std.proofs.Math.Seq.{take-append-add}
use Rattle.std.proofs.lemmas.Bool.{lt-ltb, le-ltb}
use Rattle.sycon.specs.Permutation.{permuted}
use Rattle.sponge.specs.Blocks.{absorbed, cut, marked, padded, read_off, with_byte, with_bytes, with_domain}
use Rattle.sponge.specs.Rates.{Setting}
use Rattle.sponge.specs.Modes.{sealed_in}
use Rattle.sponge.specs.Stream.{sealed_from}
use Rattle.sponge.proofs.Blocks.{zero-mul-add, suc-mul-add, with_bytes-append}
use Rattle.sponge.proofs.Folds.{length-absorbed, length-with}

-- bytes that go in from place p on leave those before it
before : (k p : ℕ) (xs s : List ℕ) → k < p → get_or (with_bytes p xs s) k 0 ≡ get_or s k 0
unfolding with_bytes
before k p [] s h = refl
before k p (x ∷ xs) s h =
    let ne : k ≢ p = λ e. omega arith in
    before k (p + 1) xs (with_byte p x s) (omega arith) ∙ get_or-set_other s p k (bit_xor (get_or s p 0) x) 0 ne

-- the sealed byte at place p stands there still when the block is full
pub here : (p x : ℕ) (xs s : List ℕ) → p < length s
    → drop p (with_bytes p (x ∷ xs) s) ≡ bit_xor (get_or s p 0) x ∷ drop (p + 1) (with_bytes p (x ∷ xs) s)
unfolding with_bytes
here p x xs s h =
    let w = with_bytes (p + 1) xs (with_byte p x s) in
    let l : p < length w = rw (length-with (p + 1) xs (with_byte p x s), length-set) h in
    drop_more w p 0 l
    ∙ ap (λ b. b ∷ drop (p + 1) w) (before p (p + 1) xs (with_byte p x s) (omega arith) ∙ get_or-set_same s p (bit_xor (get_or s p 0) x) 0 h)

-- bytes that go in from place p on leave the front of the state
front_stays : (k p : ℕ) (xs s : List ℕ) → k ≤ p → take k (with_bytes p xs s) ≡ take k s
unfolding with_bytes
front_stays k p [] s h = refl
front_stays k p (x ∷ xs) s h =
    front_stays k (p + 1) xs (with_byte p x s) (omega arith) ∙ take-set-le k s p (bit_xor (get_or s p 0) x) h

module _ (t : Setting) where
  -- bytes that do not fill the block
  pub sealed_open : (p : ℕ) (xs s : List ℕ) → p + length xs < t.block → p + length xs ≤ length s
      → sealed_from t p xs s ≡ take (length xs) (drop p (with_bytes p xs s))
  unfolding sealed_from with_bytes
  sealed_open p [] s h l = refl
  sealed_open p (x ∷ xs) s h l =
      let lt : ltb (p + 1) t.block ≡ true = lt-ltb (p + 1) t.block (omega arith) in
      let m : (p + 1) + length xs ≤ length (with_byte p x s) = rw (length-set s p (bit_xor (get_or s p 0) x)) (omega arith) in
      ap (λ b. bit_xor (get_or s p 0) x ∷ sealed_from t (cond b (p + 1) 0) xs
      (cond b (with_byte p x s) (permuted t.rounds (with_domain 2 (with_byte p x s))))) lt
      ∙ ap (◌∷◌ (bit_xor (get_or s p 0) x)) (sealed_open (p + 1) xs (with_byte p x s) (omega arith) m)
      ∙ ap (take (suc (length xs))) (sym (here p x xs s (omega arith)))

  -- bytes that fill it, and what comes behind them
  sealed_full : (p x : ℕ) (xs ys s : List ℕ) → p + suc (length xs) ≡ t.block → p + suc (length xs) ≤ length s
      → sealed_from t p ((x ∷ xs) ++ ys) s
      ≡ take (suc (length xs)) (drop p (with_bytes p (x ∷ xs) s))
      ++ sealed_from t 0 ys (permuted t.rounds (with_domain 2 (with_bytes p (x ∷ xs) s)))
  unfolding sealed_from with_bytes
  sealed_full p x [] ys s h l =
      let ge : ltb (p + 1) t.block ≡ false = le-ltb (p + 1) t.block (omega arith) in
      ap (λ b. bit_xor (get_or s p 0) x ∷ sealed_from t (cond b (p + 1) 0) ys
      (cond b (with_byte p x s) (permuted t.rounds (with_domain 2 (with_byte p x s))))) ge
      ∙ ap (λ w. take 1 w ++ sealed_from t 0 ys (permuted t.rounds (with_domain 2 (with_byte p x s))))
      (sym (here p x [] s (omega arith)))
  sealed_full p x (y ∷ xs) ys s h l =
      let lt : ltb (p + 1) t.block ≡ true = lt-ltb (p + 1) t.block (omega arith) in
      let m : (p + 1) + suc (length xs) ≤ length (with_byte p x s) = rw (length-set s p (bit_xor (get_or s p 0) x)) (omega arith) in
      let rest = sealed_from t 0 ys (permuted t.rounds (with_domain 2 (with_bytes p (x ∷ y ∷ xs) s))) in
      ap (λ b. bit_xor (get_or s p 0) x ∷ sealed_from t (cond b (p + 1) 0) ((y ∷ xs) ++ ys)
      (cond b (with_byte p x s) (permuted t.rounds (with_domain 2 (with_byte p x s))))) lt
      ∙ ap (◌∷◌ (bit_xor (get_or s p 0) x)) (sealed_full (p + 1) y xs ys (with_byte p x s) (omega arith) m)
      ∙ ap (λ w. take (suc (suc (length xs))) w ++ rest) (sym (here p x (y ∷ xs) s (omega arith)))

  module _ (pos : 0 < t.block) (small : t.block ≤ 40) where
    pub sealed_more : (xs ys s : List ℕ) → length xs ≡ t.block → length s ≡ 40
        → sealed_from t 0 (xs ++ ys) s ≡ take t.block (with_bytes 0 xs s) ++ sealed_from t 0 ys (absorbed t.rounds xs 2 s)
    sealed_more [] ys s h l = absurd (omega arith)
    sealed_more (x ∷ xs) ys s h l =
        sealed_full 0 x xs ys s (omega arith) (omega arith)
        ∙ ap (λ n. take n (with_bytes 0 (x ∷ xs) s) ++ sealed_from t 0 ys (absorbed t.rounds (x ∷ xs) 2 s)) h

    -- n full blocks and r bytes more: the padding fills the block that these begin
    module _ (r : ℕ) (h : r < t.block) where
      abbrev padding : List ℕ
      padding = 1 ∷ replicate (t.block - 1 - r) 0

      sealed_last : (xs s : List ℕ) → length xs ≡ r → length s ≡ 40
          → sealed_from t 0 xs s ≡ take (length xs) (take t.block (with_bytes 0 (xs ++ padding) s) ++ [])
      sealed_last xs s k l =
          let z : 0 + length xs ≡ length xs = omega arith in
          sealed_open 0 xs s (omega arith) (omega arith)
          ∙ sym (ap (take (length xs)) (append-nil (take t.block (with_bytes 0 (xs ++ padding) s)))
          ∙ take-take (length xs) t.block (with_bytes 0 (xs ++ padding) s) (omega arith)
          ∙ ap (take (length xs)) (with_bytes-append 0 xs padding s)
          ∙ front_stays (length xs) (0 + length xs) padding (with_bytes 0 xs s) (omega arith))

      sealed_cut : (n : ℕ) (xs s : List ℕ) → length xs ≡ n * t.block + r → length s ≡ 40
          → sealed_from t 0 xs s
          ≡ take (length xs) (read_off t.block t.rounds (marked 2 4 (cut t.block (suc n) (xs ++ padding))) s)
      unfolding read_off marked cut
      sealed_cut zero xs s k l =
          let m : length xs ≡ r = k ∙ zero-mul-add t.block r in
          let whole : take t.block (xs ++ padding) ≡ xs ++ padding =
          take_all t.block (xs ++ padding) (simp (length-append, length-replicate) (omega arith)) in
          sealed_last xs s m l ∙ ap (λ y. take (length xs) (take t.block (with_bytes 0 y s) ++ [])) (sym whole)
      sealed_cut (suc n) xs s k l =
          let b = t.block in
          let m : length xs ≡ b + (n * b + r) = k ∙ suc-mul-add n b r in
          let le : b ≤ length xs = omega arith in
          let rest : length (drop b xs) ≡ n * b + r = simp length-drop (omega arith) in
          let w = with_bytes 0 (take b xs) s in
          let s' = absorbed t.rounds (take b xs) 2 s in
          let wide : length (take b w) ≡ b = length-take-le b w (rw (length-with 0 (take b xs) s) (omega arith)) in
          let total : length xs ≡ length (take b w) + length (drop b xs) = omega (arith, wide, rest) in
          let off = read_off b t.rounds (marked 2 4 (cut b (suc n) (drop b xs ++ padding))) s' in
          ap (λ x. sealed_from t 0 x s) (sym (take-append-drop b xs))
          ∙ sealed_more (take b xs) (drop b xs) s (length-take-le b xs le) l
          ∙ ap (λ y. take b w ++ y) (sealed_cut n (drop b xs) s' rest (length-absorbed t.rounds (take b xs) 2 s l))
          ∙ sym (ap (λ x. take x (take b w ++ off)) total ∙ take-append-add (take b w) off (length (drop b xs)))
          ∙ ap₂ (λ x y. take (length xs) (take b (with_bytes 0 x s)
          ++ read_off b t.rounds (marked 2 4 (cut b (suc n) y)) (absorbed t.rounds x 2 s)))
          (sym (take-append-le b xs padding le)) (sym (drop-append-le b xs padding le))

    pub sealed_blocks : (xs s : List ℕ) → length s ≡ 40
        → sealed_from t 0 xs s ≡ sealed_in t xs s
    sealed_blocks xs s l =
        let q : length xs ≡ length xs / t.block * t.block + length xs % t.block = sym (div-add-mod' (length xs) t.block) in
        let n : suc (length xs / t.block) ≡ length xs / t.block + 1 = omega arith in
        sealed_cut (length xs % t.block) (mod_below (length xs) t.block pos) (length xs / t.block) xs s q l
        ∙ ap (λ k. take (length xs) (read_off t.block t.rounds (marked 2 4 (cut t.block k (padded t.block xs))) s)) n
