-- The text that the stream opens is the one that the definition by blocks has: both seal to the same bytes.
use Rattle.std.proofs.Common.{◌≡◌, ℕ, zero, suc, ◌+◌, ◌*◌, ◌/◌, ◌%◌, ◌<◌, ◌≤◌, List, [], ◌∷◌, ◌++◌, length, get_or, take, drop}
use Rattle.std.proofs.Common.{sym, refl, ap, ◌∙◌, ap₂, arith, length-set}
use lib.Bits.{bit_xor}
use Rattle.std.proofs.lemmas.Nat.{div-add-mod', mod_below}
use Rattle.std.proofs.lemmas.List.{drop-drop, drop-set-lt, get_or-drop, length-drop, length-take-le, take-append-drop}
use Rattle.sponge.specs.Blocks.{absorbed, with_byte, with_bytes}
use Rattle.sponge.specs.Rates.{Setting}
use Rattle.sponge.specs.Modes.{opened_blocks, opened_in}
use Rattle.sponge.specs.Stream.{opened_from, sealed_from}
use Rattle.sponge.proofs.Blocks.{zero-mul-add, suc-mul-add}
use Rattle.sponge.proofs.Folds.{length-absorbed, length-with}
use Rattle.sealing.proofs.Inverse.{xor_again, opened-sealed}
use Rattle.sealing.proofs.SealedBlocks.{here, sealed_more, sealed_open}

-- bytes XORed with the first bytes of a list
abbrev mixed : List ℕ → List ℕ → List ℕ
mixed [] s = []
mixed (x ∷ xs) s = bit_xor (get_or s 0 0) x ∷ mixed xs (drop 1 s)

mixed_twice : (xs s : List ℕ) → mixed (mixed xs s) s ≡ xs
mixed_twice [] s = refl
mixed_twice (x ∷ xs) s = ap₂ ◌∷◌ (xor_again (get_or s 0 0) x) (mixed_twice xs (drop 1 s))

length-mixed : (xs s : List ℕ) → length (mixed xs s) ≡ length xs
length-mixed [] s = refl
length-mixed (x ∷ xs) s = ap suc (length-mixed xs (drop 1 s))

-- what stands in a state where bytes were XORed in
shown : (p : ℕ) (xs s : List ℕ) → p + length xs ≤ length s → take (length xs) (drop p (with_bytes p xs s)) ≡ mixed xs (drop p s)
unfolding with_bytes
shown p [] s h = refl
shown p (x ∷ xs) s h =
    let v = bit_xor (get_or s p 0) x in
    let m : (p + 1) + length xs ≤ length (with_byte p x s) = rw (length-set s p v) (omega arith) in
    let z : p + 0 ≡ p = omega arith in
    ap (take (suc (length xs))) (here p x xs s (omega arith))
    ∙ ap (◌∷◌ v) (shown (p + 1) xs (with_byte p x s) m ∙ ap (mixed xs) (drop-set-lt (p + 1) s p v (omega arith)))
    ∙ sym (ap₂ (λ a l. bit_xor a x ∷ mixed xs l) (get_or-drop p s 0 0 ∙ ap (λ k. get_or s k 0) z) (drop-drop 1 p s))

-- XORed in once more, they are the bytes again
shown_twice : (n : ℕ) (xs s : List ℕ) → length xs ≡ n → n ≤ length s
    → take n (with_bytes 0 (take n (with_bytes 0 xs s)) s) ≡ xs
shown_twice n xs s e h =
    let ys = mixed xs s in
    let l : length ys ≡ n = length-mixed xs s ∙ e in
    let once : take n (with_bytes 0 xs s) ≡ ys = ap (λ k. take k (with_bytes 0 xs s)) (sym e) ∙ shown 0 xs s (omega arith) in
    ap (λ y. take n (with_bytes 0 y s)) once ∙ ap (λ k. take k (with_bytes 0 ys s)) (sym l) ∙ shown 0 ys s (omega arith)
    ∙ mixed_twice xs s

module _ (t : Setting) (pos : 0 < t.block) (small : t.block ≤ 40) where
  -- n full blocks and r bytes more
  module _ (r : ℕ) (h : r < t.block) where
    opened_cut : (n : ℕ) (ys s : List ℕ) → length ys ≡ n * t.block + r → length s ≡ 40
        → sealed_from t 0 (opened_blocks t n ys s) s ≡ ys
    unfolding opened_blocks
    opened_cut zero ys s k l =
        let m : length ys ≡ r = k ∙ zero-mul-add t.block r in
        let o = take (length ys) (with_bytes 0 ys s) in
        let w : length o ≡ length ys = length-take-le (length ys) (with_bytes 0 ys s) (rw (length-with 0 ys s) (omega arith)) in
        sealed_open t 0 o s (omega arith) (omega arith) ∙ ap (λ i. take i (with_bytes 0 o s)) w
        ∙ shown_twice (length ys) ys s refl (omega arith)
    opened_cut (suc n) ys s k l =
        let b = t.block in
        let m : length ys ≡ b + (n * b + r) = k ∙ suc-mul-add n b r in
        let le : b ≤ length ys = omega arith in
        let rest : length (drop b ys) ≡ n * b + r = simp length-drop (omega arith) in
        let x = take b (with_bytes 0 (take b ys) s) in
        let w : length x ≡ b = length-take-le b (with_bytes 0 (take b ys) s) (rw (length-with 0 (take b ys) s) (omega arith)) in
        let s' = absorbed t.rounds x 2 s in
        sealed_more t pos small x (opened_blocks t n (drop b ys) s') s w l
        ∙ ap₂ ◌++◌ (shown_twice b (take b ys) s (length-take-le b ys le) (omega arith))
        (opened_cut n (drop b ys) s' rest (length-absorbed t.rounds x 2 s l))
        ∙ take-append-drop b ys

  pub opened_stream : (ys s : List ℕ) → length s ≡ 40 → opened_from t 0 ys s ≡ opened_in t ys s
  opened_stream ys s l =
      let seals : sealed_from t 0 (opened_in t ys s) s ≡ ys =
      opened_cut (length ys % t.block) (mod_below (length ys) t.block pos) (length ys / t.block) ys s
      (sym (div-add-mod' (length ys) t.block)) l in
      ap (λ zs. opened_from t 0 zs s) (sym seals) ∙ opened-sealed t 0 (opened_in t ys s) s
