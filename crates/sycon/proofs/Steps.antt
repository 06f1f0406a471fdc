-- The steps of a round as maps of states.
use Rattle.std.proofs.Common.{◌≡◌, ℕ, ◌+◌, ◌*◌, ◌/◌, ◌%◌, ◌<◌, ltb, List, [], ◌∷◌, get_or, sym, ap, ◌∙◌, ap₂, mod-lt, add-one, arith, lit<, ltb→lt}
use lib.Bits.{bit_xor, xor_lt}
use Rattle.sycon.specs.Permutation.{State, Bits, bit, bits, pack, of_word, sbox, column, substituted, diffused, round_constant, added}
use Rattle.sycon.specs.Permutation.{turned, origin, arranged, round, rounds}
use Rattle.sycon.specs.Steps.{Same, holding, on_state, four_steps}
use Rattle.sycon.proofs.Digits.{bit-digit}
use Rattle.sycon.proofs.Packing.{number, pack_same, bits-pack, state-pack}
use Rattle.sycon.proofs.Tests.{at_cells}

-- what a step makes of a state hangs on the state's digits alone
abbrev pub Respects : (Bits → Bits) → Type 0
Respects step = (f g : Bits) → Same f g → Same (step f) (step g)

abbrev pub Digits : Bits → Type 0
Digits f = (j c : ℕ) → f j c < 2

pub on_pack : (step : Bits → Bits) → Respects step → (f : Bits) → Digits f → on_state step (pack f) ≡ pack (step f)
unfolding on_state
on_pack step r f d = pack_same (step (bits (pack f))) (step f) (r (bits (pack f)) f (bits-pack f d))

-- an engine that keeps its state as a list of numbers, of which `view` reads the bits
module _ (view : List ℕ → Bits) (digits : (xs : List ℕ) → Digits (view xs)) where
  pub holding_state : (xs : List ℕ) → State (holding view xs)
  unfolding holding
  holding_state xs = state-pack (view xs) (digits xs)

  -- it took a step where its bits are now what the step makes of those that were
  pub holding_step : (step : Bits → Bits) → Respects step → (xs ys : List ℕ) → Same (view ys) (step (view xs))
      → holding view ys ≡ on_state step (holding view xs)
  unfolding holding
  holding_step step r xs ys e = pack_same (view ys) (step (view xs)) e ∙ sym (on_pack step r (view xs) (digits xs))

  -- and took it back where the step makes those that were of what they are now
  pub holding_step_back : (step : Bits → Bits) → Respects step → (xs ys : List ℕ) → Same (step (view ys)) (view xs)
      → on_state step (holding view ys) ≡ holding view xs
  unfolding holding
  holding_step_back step r xs ys e = on_pack step r (view ys) (digits ys) ∙ pack_same (step (view ys)) (view xs) e

pub digits-bits : (s : List ℕ) → Digits (bits s)
unfolding bits
digits-bits s j c = bit-digit (get_or s (8 * j + c / 8) 0) (c % 8)

pub digits-substituted : (f : Bits) → Digits (substituted f)
unfolding substituted
digits-substituted f j c = bit-digit _ j

pub digits-diffused : (f : Bits) → Digits f → Digits (diffused f)
unfolding diffused
digits-diffused f d j c = xor_lt 1 _ _ (xor_lt 1 _ _ (d _ _) (d _ _)) (d _ _)

pub digits-added : (k : ℕ) (f : Bits) → Digits f → Digits (added k f)
unfolding added
digits-added k f d j c = xor_lt 1 _ _ (d j c) (bit-digit _ _)

-- a column as the number of its digits
pub column_is : (f : Bits) (c : ℕ) → column f c ≡ number 5 (λ j. f j c)
unfolding column number
column_is f c = omega arith

pub column_same : (f g : Bits) → Same f g → (c : ℕ) → c < 64 → column f c ≡ column g c
unfolding column
column_same f g e c h =
    let e0 : f 0 c ≡ g 0 c = e 0 c (lit< tt) h in
    let e1 : f 1 c ≡ g 1 c = e 1 c (lit< tt) h in
    let e2 : f 2 c ≡ g 2 c = e 2 c (lit< tt) h in
    let e3 : f 3 c ≡ g 3 c = e 3 c (lit< tt) h in
    let e4 : f 4 c ≡ g 4 c = e 4 c (lit< tt) h in
    cc

pub respects-substituted : Respects substituted
unfolding substituted
respects-substituted f g e j c hj hc = ap (λ n. bit (get_or sbox n 0) j) (column_same f g e c hc)

pub respects-diffused : Respects diffused
unfolding diffused
respects-diffused f g e j c hj hc =
    ap₂ bit_xor (ap₂ bit_xor (e j c hj hc) (e j _ hj (mod-lt _ (lit< tt)))) (e j _ hj (mod-lt _ (lit< tt)))

pub respects-added : (k : ℕ) → Respects (added k)
unfolding added
respects-added k f g e j c hj hc = ap (λ n. bit_xor n (bit (of_word (0 ∷ 0 ∷ k ∷ 0 ∷ 0 ∷ []) j) c)) (e j c hj hc)

pub origin_below : (j c : ℕ) → j < 5 → c < 64 → origin j c < 64
unfolding origin turned
origin_below j c hj hc = ltb→lt (origin j c) 64 (at_cells (λ j c. ltb (origin j c) 64) tt j c hj hc)

pub respects-arranged : Respects arranged
unfolding arranged
respects-arranged f g e j c hj hc = e j (origin j c) hj (origin_below j c hj hc)

pub round_steps : (i : ℕ) (s : List ℕ) → four_steps (round_constant i) s ≡ round i s
unfolding round on_state
round_steps i s =
    let k : ℕ = round_constant i in
    let f : Bits = substituted (bits s) in
    let d = digits-substituted (bits s) in
    ap (λ t. on_state arranged (on_state (added k) t)) (on_pack diffused respects-diffused f d)
    ∙ ap (on_state arranged) (on_pack (added k) (respects-added k) (diffused f) (digits-diffused f d))
    ∙ on_pack arranged respects-arranged (added k (diffused f)) (digits-added k (diffused f) (digits-diffused f d))

-- t after i rounds, and one round more
pub round_more : (i k : ℕ) (s t u : List ℕ) → k ≡ round_constant i → t ≡ rounds i s → u ≡ four_steps k t → u ≡ rounds (i + 1) s
unfolding rounds
round_more i k s t u ek et eu =
    eu ∙ ap (λ k. four_steps k t) ek ∙ round_steps i t ∙ ap (round i) et ∙ ap (λ n. rounds n s) (sym (add-one i))

-- a state before the round that leads to t
pub round_less : (i k : ℕ) (s t u : List ℕ) → k ≡ round_constant i → rounds i s ≡ u → four_steps k u ≡ t → rounds (i + 1) s ≡ t
unfolding rounds
round_less i k s t u ek es et =
    ap (λ n. rounds n s) (add-one i) ∙ ap (round i) es ∙ sym (round_steps i u) ∙ ap (λ k. four_steps k u) (sym ek) ∙ et
