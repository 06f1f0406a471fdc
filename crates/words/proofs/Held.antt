-- The state that five words hold, row by row.
use Rattle.std.proofs.Common.{◌≡◌, ℕ, zero, suc, ◌+◌, ◌*◌, ◌/◌, ◌%◌, ◌^◌, ◌<◌, ◌≢◌, List, length, get_or, set, sym, ap, ◌∙◌}
use Rattle.std.proofs.Common.{⊎_elim, mod-lt, arith, lit<}
use Rattle.std.proofs.lemmas.List.{get_or-set_same, get_or-set_other}
use Rattle.std.proofs.lemmas.Bool.{cases_eq}
use lib.Bits.{bit_xor, xor_zero_r}
use Rattle.sycon.specs.Permutation.{State, Bits, bit, bits, added}
use Rattle.sycon.specs.Steps.{Same, holding, on_state}
use Rattle.sycon.proofs.Digits.{bit-digit, bit-shr, bit-mod, bit-xor, bit-zero}
use Rattle.sycon.proofs.Packing.{pack_at, pack_same, pack-bits, pack-set}
use Rattle.sycon.proofs.Steps.{Respects, Digits, respects-added, holding_state, holding_step, holding_step_back}
use Rattle.words.specs.declared.row.words.Words.{Words}
use Rattle.words.specs.Words.{rows, word_bits, held, meant, Rows}

pub by_word : (P : ℕ → Type 0) → P 0 → P 1 → P 2 → P 3 → P 4 → (j : ℕ) → j < 5 → P j
by_word P p0 p1 p2 p3 p4 zero h = p0
by_word P p0 p1 p2 p3 p4 (suc zero) h = p1
by_word P p0 p1 p2 p3 p4 (suc (suc zero)) h = p2
by_word P p0 p1 p2 p3 p4 (suc (suc (suc zero))) h = p3
by_word P p0 p1 p2 p3 p4 (suc (suc (suc (suc zero)))) h = p4
by_word P p0 p1 p2 p3 p4 (suc (suc (suc (suc (suc j))))) h = absurd (omega arith)

pub digits : (ws : List ℕ) → Digits (word_bits ws)
digits ws j c = bit-digit (get_or ws j 0) c

pub held_state : (ws : List ℕ) → State (held ws)
held_state = holding_state word_bits digits

pub held-loaded : (x : Words) (s : List ℕ) → State s → Rows x (bits s) → meant x ≡ s
unfolding holding
held-loaded x s st r = pack_same (word_bits (rows x)) (bits s) r ∙ pack-bits s st

-- words whose bits are those of a step, and words of which a step makes the present ones
pub held_step : (step : Bits → Bits) → Respects step → (ws vs : List ℕ) → Same (word_bits vs) (step (word_bits ws))
    → held vs ≡ on_state step (held ws)
held_step = holding_step word_bits digits

pub held_step_back : (step : Bits → Bits) → Respects step → (ws vs : List ℕ) → Same (step (word_bits vs)) (word_bits ws)
    → on_state step (held vs) ≡ held ws
held_step_back = holding_step_back word_bits digits

-- one byte read
pub held_byte : (ws : List ℕ) (k : ℕ) → k < 40 → get_or (held ws) k 0 ≡ get_or ws (k / 8) 0 / 2 ^ (8 * (k % 8)) % 256
unfolding holding
held_byte ws k h =
    let x : ℕ = get_or ws (k / 8) 0 in
    pack_at (word_bits ws) k h (x / 2 ^ (8 * (k % 8)) % 256) (mod-lt (x / 2 ^ (8 * (k % 8))) (lit< tt))
    (λ i l. sym (bit-mod (x / 2 ^ (8 * (k % 8))) 8 i l ∙ bit-shr x (8 * (k % 8)) i))

-- one byte written: y is the word that had it
module _ (ws : List ℕ) (n : length ws ≡ 5) (k b y : ℕ) (hb : b < 256)
    (here : (i : ℕ) → i < 8 → bit y (8 * (k % 8) + i) ≡ bit b i)
    (there : (c : ℕ) → c < 64 → (c / 8 ≡ k % 8 → ⊥) → bit y c ≡ bit (get_or ws (k / 8) 0) c) where
  pub held-set : k < 40 → held (set ws (k / 8) y) ≡ set (held ws) k b
  unfolding holding
  held-set h =
      pack-set (word_bits ws) (word_bits (set ws (k / 8) y)) k b h hb
      (λ i l. ap (λ x. bit x (8 * (k % 8) + i)) (get_or-set_same ws (k / 8) y 0 (omega arith)) ∙ here i l)
      (λ j c hj hc o. ⊎_elim
      (λ (e : j ≡ k / 8).
      ap (λ m. bit (get_or (set ws (k / 8) y) m 0) c) e
      ∙ ap (λ x. bit x c) (get_or-set_same ws (k / 8) y 0 (omega arith))
      ∙ there c hc (λ q. o (omega arith))
      ∙ ap (λ m. bit (get_or ws m 0) c) (sym e))
      (λ e. ap (λ x. bit x c) (get_or-set_other ws (k / 8) j y 0 e))
      (cases_eq j (k / 8)))

-- a constant XORed into A_2
untouched : (x k : ℕ) → bit x k ≡ bit_xor (bit x k) (bit 0 k)
untouched x k = sym (ap (bit_xor (bit x k)) (bit-zero k) ∙ xor_zero_r (bit x k))

module _ (ws : List ℕ) (n : length ws ≡ 5) (k : ℕ) where
  abbrev with_constant : List ℕ
  with_constant = set ws 2 (bit_xor (get_or ws 2 0) k)

  kept : (j : ℕ) → j ≢ 2 → (c : ℕ) → bit (get_or with_constant j 0) c ≡ bit_xor (bit (get_or ws j 0) c) (bit 0 c)
  kept j o c = ap (λ x. bit x c) (get_or-set_other ws 2 j (bit_xor (get_or ws 2 0) k) 0 o) ∙ untouched (get_or ws j 0) c

  changed : (c : ℕ) → bit (get_or with_constant 2 0) c ≡ bit_xor (bit (get_or ws 2 0) c) (bit k c)
  changed c =
      ap (λ x. bit x c) (get_or-set_same ws 2 (bit_xor (get_or ws 2 0) k) 0 (omega arith))
      ∙ bit-xor (get_or ws 2 0) k c

  pub held_added : held with_constant ≡ on_state (added k) (held ws)
  unfolding added
  held_added =
      held_step (added k) (respects-added k) ws with_constant
      (λ j c hj hc. by_word (λ j. (c : ℕ) → word_bits with_constant j c ≡ added k (word_bits ws) j c)
      (kept 0 (omega arith)) (kept 1 (omega arith)) changed (kept 3 (omega arith)) (kept 4 (omega arith)) j hj c)
