-- The key's two blocks, as the code cuts them.
use Rattle.std.proofs.Common.{◌≡◌, ℕ, ◌+◌, ◌-◌, ◌*◌, ◌%◌, ◌<◌, ◌≤◌, List, ◌∷◌, ◌++◌, length, take, drop, replicate, sym, refl, ap}
use Rattle.std.proofs.Common.{◌∙◌, ap₂, ⊎_elim, mod-eq_of_lt, arith, length-append}
use native.Mathlib.Nat.{mod-eq-sub-mod}
use Rattle.std.proofs.lemmas.List.{append_assoc, drop-append-le, length-drop, length-replicate, replicate-append-replicate, take-append-le}
use Rattle.std.proofs.lemmas.Bool.{cases_lt}
use Rattle.sponge.specs.Blocks.{absorbed, absorbed_all, cut, marked, padded}
use Rattle.sponge.specs.Rates.{Setting}
use Rattle.sponge.specs.Modes.{keyed}

-- how many zeros fill the padded key
abbrev spare : ℕ → ℕ
spare b = b - 1 - 16 % b

-- there are at most 7, and with them it has two blocks
spare_fits : (b : ℕ) → 8 ≤ b → b ≤ 12 → (spare b ≤ 7) × (2 * b ≤ 17 + spare b)
spare_fits b low high =
    ⊎_elim
    (λ (h : b < 9). let e : b ≡ 8 = omega arith in rw e (omega arith, omega arith))
    (λ (h : 9 ≤ b).
    let e : 16 % b ≡ 16 - b = mod-eq-sub-mod (omega arith) ∙ mod-eq_of_lt (omega arith) in
    (omega arith, omega arith))
    (cases_lt b 9)

-- two parts of what begins with at least two blocks
module _ (b : ℕ) (xs ys : List ℕ) (h : 2 * b ≤ length xs) where
  first_part : take b (xs ++ ys) ≡ take b xs
  first_part = take-append-le b xs ys (omega arith)

  second_part : take (2 * b - b) (drop b (xs ++ ys)) ≡ take b (drop b xs)
  second_part =
      let n : 2 * b - b ≡ b = omega arith in
      ap (λ k. take k (drop b (xs ++ ys))) n ∙ ap (take b) (drop-append-le b xs ys (omega arith))
      ∙ take-append-le b (drop b xs) ys (simp length-drop (omega arith))

-- the code has seven zeros behind the key's 1 bit, at any block length
module _ (b : ℕ) (key : List ℕ) (l : length key ≡ 16) (low : 8 ≤ b) (high : b ≤ 12) where
  exactly : padded b key ≡ key ++ 1 ∷ replicate (spare b) 0
  exactly = ap (λ k. key ++ 1 ∷ replicate (b - 1 - k % b) 0) l

  longer : key ++ 1 ∷ replicate 7 0 ≡ padded b key ++ replicate (7 - spare b) 0
  longer =
      let n : 7 ≡ spare b + (7 - spare b) = omega (arith, (spare_fits b low high).0) in
      ap (λ k. key ++ 1 ∷ replicate k 0) n
      ∙ ap (λ xs. key ++ 1 ∷ xs) (sym (replicate-append-replicate (spare b) (7 - spare b) 0))
      ∙ sym (append_assoc key (1 ∷ replicate (spare b) 0) (replicate (7 - spare b) 0))
      ∙ ap (λ xs. xs ++ replicate (7 - spare b) 0) (sym exactly)

  room : 2 * b ≤ length (padded b key)
  room = rw exactly (simp (length-append, length-replicate) (omega (arith, (spare_fits b low high).1)))

  -- both blocks as the code cuts them
  key_parts : (take b (key ++ 1 ∷ replicate 7 0) ≡ take b (padded b key))
      × (take (2 * b - b) (drop b (key ++ 1 ∷ replicate 7 0)) ≡ take b (drop b (padded b key)))
  key_parts = (
    ap (take b) longer ∙ first_part b (padded b key) (replicate (7 - spare b) 0) room,
    ap (λ xs. take (2 * b - b) (drop b xs)) longer ∙ second_part b (padded b key) (replicate (7 - spare b) 0) room,
  )

-- absorbed one behind the other
pub keyed_both : (t : Setting) (d e : ℕ) (key s : List ℕ)
    → keyed t d e key s
    ≡ absorbed 14 (take t.block (drop t.block (padded t.block key))) e (absorbed 14 (take t.block (padded t.block key)) d s)
unfolding absorbed_all marked cut
keyed_both t d e key s = refl

-- so a state that both parts were absorbed into is the keyed one
pub keyed_by_parts : (t : Setting) (b d e : ℕ) (key bytes s u v : List ℕ) → b ≡ t.block → 8 ≤ t.block → t.block ≤ 12 → length key ≡ 16
    → bytes ≡ key ++ 1 ∷ replicate 7 0 → u ≡ absorbed 14 (take b bytes) d s
    → v ≡ absorbed 14 (take (2 * b - b) (drop b bytes)) e u → v ≡ keyed t d e key s
keyed_by_parts t b d e key bytes s u v h low high l k f g =
    let parts = key_parts t.block key l low high in
    g ∙ ap (λ w. absorbed 14 (take (2 * b - b) (drop b bytes)) e w) f
    ∙ rw (k, h) (ap₂ (λ x y. absorbed 14 x e (absorbed 14 y d s)) parts.1 parts.0) ∙ sym (keyed_both t d e key s)
