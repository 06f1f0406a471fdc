-- The stream is the definition by blocks.
use Rattle.std.proofs.Common.{◌≡◌, ℕ, zero, suc, ◌+◌, ◌-◌, ◌*◌, ◌/◌, ◌%◌, ◌<◌, ◌≤◌, true, false, cond, ltb, List, [], ◌∷◌, ◌++◌}
use Rattle.std.proofs.Common.{length, get_or, take, drop, set, replicate, sym, refl, ap, ◌∙◌, ap₂, suc-mul, zero-add, zero-mul}
use Rattle.std.proofs.Common.{arith}
use lib.Bits.{xor_zero_r}
use Rattle.std.proofs.lemmas.Nat.{div-add-mod', mod_below}
use Rattle.std.proofs.lemmas.List.{set-get_or, take_all, take-append-drop, take-append-le, drop-append-le, length-append}
use Rattle.std.proofs.lemmas.List.{length-drop, length-replicate, length-take-le}
use Rattle.std.proofs.lemmas.Bool.{lt-ltb, le-ltb}
use Rattle.sycon.specs.Permutation.{permuted}
use Rattle.sponge.specs.Blocks.{absorbed, absorbed_all, blocks, cut, marked, padded, with_byte, with_bytes, with_domain}
use Rattle.sponge.specs.Rates.{Setting}
use Rattle.sponge.specs.Stream.{place_after, state_after, ended, message}

pub zero-mul-add : (b r : ℕ) → zero * b + r ≡ r
zero-mul-add b r = ap (λ x. x + r) (zero-mul b) ∙ zero-add r

pub suc-mul-add : (n b r : ℕ) → suc n * b + r ≡ b + (n * b + r)
suc-mul-add n b r = ap (λ x. x + r) (suc-mul n b) ∙ omega arith

pub with_bytes-append : (p : ℕ) (xs ys s : List ℕ) → with_bytes p (xs ++ ys) s ≡ with_bytes (p + length xs) ys (with_bytes p xs s)
unfolding with_bytes
with_bytes-append p [] ys s = let e : p ≡ p + 0 = omega arith in ap (λ q. with_bytes q ys s) e
with_bytes-append p (x ∷ xs) ys s =
    let e : (p + 1) + length xs ≡ p + suc (length xs) = omega arith in
    with_bytes-append (p + 1) xs ys (with_byte p x s) ∙ ap (λ q. with_bytes q ys (with_bytes (p + 1) xs (with_byte p x s))) e

pub with_zeros : (p n : ℕ) (s : List ℕ) → with_bytes p (replicate n 0) s ≡ s
unfolding with_bytes
with_zeros p zero s = refl
with_zeros p (suc n) s =
    ap (with_bytes (p + 1) (replicate n 0)) (ap (set s p) (xor_zero_r (get_or s p 0)) ∙ set-get_or s p 0) ∙ with_zeros (p + 1) n s

module _ (t : Setting) (d : ℕ) where
  -- bytes that do not fill the block
  open_place : (p : ℕ) (xs : List ℕ) → p + length xs < t.block → place_after t p xs ≡ p + length xs
  unfolding place_after
  open_place p [] h = omega arith
  open_place p (x ∷ xs) h =
      let lt : ltb (p + 1) t.block ≡ true = lt-ltb (p + 1) t.block (omega arith) in
      ap (λ b. place_after t (cond b (p + 1) 0) xs) lt ∙ open_place (p + 1) xs (omega arith) ∙ omega arith

  open_state : (p : ℕ) (xs s : List ℕ) → p + length xs < t.block → state_after t d p xs s ≡ with_bytes p xs s
  unfolding state_after with_bytes
  open_state p [] s h = refl
  open_state p (x ∷ xs) s h =
      let lt : ltb (p + 1) t.block ≡ true = lt-ltb (p + 1) t.block (omega arith) in
      ap (λ b. state_after t d (cond b (p + 1) 0) xs (cond b (with_byte p x s) (permuted t.rounds (with_domain d (with_byte p x s))))) lt
      ∙ open_state (p + 1) xs (with_byte p x s) (omega arith)

  -- bytes that fill it, and what comes behind them
  full_place : (p x : ℕ) (xs ys : List ℕ) → p + suc (length xs) ≡ t.block → place_after t p ((x ∷ xs) ++ ys) ≡ place_after t 0 ys
  unfolding place_after
  full_place p x [] ys h =
      let ge : ltb (p + 1) t.block ≡ false = le-ltb (p + 1) t.block (omega arith) in
      ap (λ b. place_after t (cond b (p + 1) 0) ys) ge
  full_place p x (y ∷ xs) ys h =
      let lt : ltb (p + 1) t.block ≡ true = lt-ltb (p + 1) t.block (omega arith) in
      ap (λ b. place_after t (cond b (p + 1) 0) ((y ∷ xs) ++ ys)) lt ∙ full_place (p + 1) y xs ys (omega arith)

  full_state : (p x : ℕ) (xs ys s : List ℕ) → p + suc (length xs) ≡ t.block
      → state_after t d p ((x ∷ xs) ++ ys) s ≡ state_after t d 0 ys (permuted t.rounds (with_domain d (with_bytes p (x ∷ xs) s)))
  unfolding state_after with_bytes
  full_state p x [] ys s h =
      let ge : ltb (p + 1) t.block ≡ false = le-ltb (p + 1) t.block (omega arith) in
      ap (λ b. state_after t d (cond b (p + 1) 0) ys (cond b (with_byte p x s) (permuted t.rounds (with_domain d (with_byte p x s))))) ge
  full_state p x (y ∷ xs) ys s h =
      let lt : ltb (p + 1) t.block ≡ true = lt-ltb (p + 1) t.block (omega arith) in
      ap (λ b. state_after t d (cond b (p + 1) 0) ((y ∷ xs) ++ ys)
      (cond b (with_byte p x s) (permuted t.rounds (with_domain d (with_byte p x s))))) lt
      ∙ full_state (p + 1) y xs ys (with_byte p x s) (omega arith)

  module _ (e : ℕ) (pos : 0 < t.block) where
    -- a full block in front is absorbed under the running domain
    message_more : (xs ys s : List ℕ) → length xs ≡ t.block → message t d e (xs ++ ys) s ≡ message t d e ys (absorbed t.rounds xs d s)
    message_more [] ys s h = absurd (omega arith)
    message_more (x ∷ xs) ys s h =
        let k : 0 + suc (length xs) ≡ t.block = omega arith in
        ap₂ (λ p u. ended t e p u) (full_place 0 x xs ys k) (full_state 0 x xs ys s k)

    -- what is less than a block is padded and absorbed under the last domain
    message_last : (xs s : List ℕ) (n : ℕ) → length xs < t.block
        → message t d e xs s ≡ absorbed t.rounds (xs ++ 1 ∷ replicate n 0) e s
    unfolding with_bytes
    message_last xs s n h =
        let p : place_after t 0 xs ≡ length xs = open_place 0 xs (omega arith) ∙ omega arith in
        let z : 0 + length xs ≡ length xs = omega arith in
        ap₂ (λ q u. ended t e q u) p (open_state 0 xs s (omega arith))
        ∙ ap (λ u. permuted t.rounds (with_domain e u))
        (sym (with_bytes-append 0 xs (1 ∷ replicate n 0) s
        ∙ ap (λ q. with_bytes (q + 1) (replicate n 0) (with_byte q 1 (with_bytes 0 xs s))) z
        ∙ with_zeros (length xs + 1) n (with_byte (length xs) 1 (with_bytes 0 xs s))))

    -- n full blocks and r bytes more: the padding fills the block that these begin
    module _ (r : ℕ) (h : r < t.block) where
      abbrev padding : List ℕ
      padding = 1 ∷ replicate (t.block - 1 - r) 0

      message_cut : (n : ℕ) (xs s : List ℕ) → length xs ≡ n * t.block + r
          → message t d e xs s ≡ absorbed_all t.rounds (marked d e (cut t.block (suc n) (xs ++ padding))) s
      unfolding absorbed_all marked cut
      message_cut zero xs s l =
          let k : length xs ≡ r = l ∙ zero-mul-add t.block r in
          let whole : take t.block (xs ++ padding) ≡ xs ++ padding =
          take_all t.block (xs ++ padding) (simp (length-append, length-replicate) (omega arith)) in
          message_last xs s (t.block - 1 - r) (omega arith) ∙ ap (λ x. absorbed t.rounds x e s) (sym whole)
      message_cut (suc n) xs s l =
          let m : length xs ≡ t.block + (n * t.block + r) = l ∙ suc-mul-add n t.block r in
          let k : t.block ≤ length xs = omega arith in
          let rest : length (drop t.block xs) ≡ n * t.block + r = simp length-drop (omega arith) in
          ap (λ x. message t d e x s) (sym (take-append-drop t.block xs))
          ∙ message_more (take t.block xs) (drop t.block xs) s (length-take-le t.block xs k)
          ∙ message_cut n (drop t.block xs) (absorbed t.rounds (take t.block xs) d s) rest
          ∙ ap₂ (λ x y. absorbed_all t.rounds (marked d e (cut t.block (suc n) y)) (absorbed t.rounds x d s))
          (sym (take-append-le t.block xs padding k)) (sym (drop-append-le t.block xs padding k))

    pub message_blocks : (xs s : List ℕ) → message t d e xs s ≡ absorbed_all t.rounds (marked d e (blocks t.block xs)) s
    message_blocks xs s =
        let q : length xs ≡ length xs / t.block * t.block + length xs % t.block = sym (div-add-mod' (length xs) t.block) in
        let n : suc (length xs / t.block) ≡ length xs / t.block + 1 = omega arith in
        message_cut (length xs % t.block) (mod_below (length xs) t.block pos) (length xs / t.block) xs s q
        ∙ ap (λ k. absorbed_all t.rounds (marked d e (cut t.block k (padded t.block xs))) s) n
